use Rattle.names_list.specs.NamingLaws.{named_true}
use Rattle.names_list.proofs.laws.names_stay_true.Goals as goal

pub returns : goal.returns
returns c = named_true
