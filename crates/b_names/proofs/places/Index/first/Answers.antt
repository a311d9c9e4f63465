use Rattle.std.proofs.Common.{rules, ◌∙◌, subst, sym, ◌<◌, length, IfSome}
use Rattle.b_names.specs.Index.{answer_of}
use Rattle.b_names.proofs.Names.{answer_among, place_within}
use Rattle.b_names.proofs.places.Index.first.Goals as goal

-- the map's answer
pub returns-clause-answer : goal.returns-clause-answer
unfolding answer_of
returns-clause-answer c = search rules

-- the map answers as a search through the table
pub returns-clause-place : goal.returns-clause-place
returns-clause-place c = λ ds is. returns-clause-answer c ∙ is c.args.name.now

-- a place that is found lies within the table
pub returns-clause-within : goal.returns-clause-within
returns-clause-within c = λ ds is. subst (λ o. IfSome o (λ i. i < length ds)) (sym (returns-clause-place c ds is)) (place_within ds c.args.name.now)

-- and so among names
pub returns-clause-among : goal.returns-clause-among
returns-clause-among c = λ xs known. returns-clause-answer c ∙ answer_among xs c.args.self.now known c.args.name.now
