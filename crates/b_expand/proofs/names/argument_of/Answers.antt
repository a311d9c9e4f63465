use Rattle.std.proofs.Common.{◌≡◌, ℕ, Option, Some, None, ap, subst}
use Rattle.std.specs.Prelude.{IfSome, MatchOption, slice_get, option_and_then}
use Rattle.b_expand.specs.Filling.{or_none}
use Rattle.b_expand.specs.Standing.{trees_in_scope, argument_steps_in, tree_in, steps_in}
use Rattle.b_expand.proofs.names.argument_of.Goals as goal

-- along what holds of it
along : {X : Type 0} (P Q : X → Type 0) → ((x : X) → P x → Q x) → (o : Option X) → IfSome o P → IfSome o Q
along P Q f None h = tt
along P Q f (Some x) h = f x h

-- the argument at the parameter's place
pub returns-in-Some-clause-tree : goal.returns-in-Some-clause-tree
returns-in-Some-clause-tree c =
    subst (λ (o : Option ℕ). MatchOption c.argument_from.result (None ≡ option_and_then (slice_get (trees_in_scope c.args.text.now)) o) (λ r. Some (tree_in r.1 r.0.now) ≡ option_and_then (slice_get (trees_in_scope c.args.text.now)) o))
    c.in-Some.ensures c.argument_from.ensures.tree

pub returns-in-Some-clause-steps : goal.returns-in-Some-clause-steps
returns-in-Some-clause-steps c =
    along (λ r. Some (steps_in r.1 r.0.now) ≡ slice_get (argument_steps_in c.args.text.now) c.in-Some.place) _
    (λ r h. subst (λ (o : Option ℕ). steps_in r.1 r.0.now ≡ or_none (option_and_then (slice_get (argument_steps_in c.args.text.now)) o)) c.in-Some.ensures (ap or_none h)) c.argument_from.result c.argument_from.ensures.steps

-- a name that is no parameter stands for none
pub returns-in-None-clause-tree : goal.returns-in-None-clause-tree
returns-in-None-clause-tree c = ap (option_and_then (slice_get (trees_in_scope c.args.text.now))) c.in-None.ensures
