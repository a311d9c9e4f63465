use Rattle.names_list.specs.NamingLaws.{one_place}
use Rattle.names_list.proofs.names.Names.len.Goals as goal

pub returns-clause-distinct : goal.returns-clause-distinct
returns-clause-distinct c = λ i j s a b. one_place c.self.inside.states.keys c.len.ensures.unique i j s (rw c.self.view_is a) (rw c.self.view_is b)
