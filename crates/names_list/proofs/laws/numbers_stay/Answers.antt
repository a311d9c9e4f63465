use Rattle.names_list.specs.NamingLaws.{names_grow, place_kept}
use Rattle.names_list.proofs.laws.numbers_stay.Goals as goal

pub returns-clause-grow : goal.returns-clause-grow
returns-clause-grow c = names_grow

pub returns-clause-stay : goal.returns-clause-stay
returns-clause-stay c = place_kept
