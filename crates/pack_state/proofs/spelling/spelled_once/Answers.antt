use Rattle.pack_state.specs.UnpackLaws.{one_spelling}
use Rattle.pack_state.proofs.spelling.spelled_once.Goals as goal

pub returns : goal.returns
returns c = one_spelling
