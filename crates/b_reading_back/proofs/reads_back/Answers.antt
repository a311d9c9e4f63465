-- Both inductions.
use Rattle.b_reading_back.proofs.Back.{read_back, nothing_else}
use Rattle.b_reading_back.proofs.reads_back.Goals as goal

pub returns-clause-tree : goal.returns-clause-tree
returns-clause-tree c = read_back

pub returns-clause-alone : goal.returns-clause-alone
returns-clause-alone c = nothing_else
