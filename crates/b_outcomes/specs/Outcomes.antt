-- What substitutions do: the before-after relation of each form, as a function from a before-state to its outcomes or the
-- first fault.
use Rattle.std.specs.Prelude.{ℕ, ◌-◌, nat_lt, Bool, true, false, List, [], ◌∷◌, ◌++◌, map, length, Option, Some, None, Result, Ok, Err, slice_get, if◌then◌else◌}
use Rattle.b_meaning.specs.Meaning.{Meaning, Valued, Test, BinderMeaning, meaning_of, value_of, values_of, holds_of, binder_of, binder_places, each_value, slot_value}
use Rattle.b_places.specs.Places.{instances}
use Rattle.b_places.specs.Scopes.{Slots}
use Rattle.b_rows.specs.Answers.{Answer, bind, fault, placed}
use Rattle.b_rows.specs.Rows.{binary_row}
use Rattle.b_tree.specs.declared.ExprTree.{ExprTree}
use Rattle.b_tree.specs.declared.Place.{Place}
use Rattle.b_tree.specs.declared.operators.BinaryOperator.TheVariants as operator
use Rattle.b_tree.specs.declared.substitutions.Assignment.{Assignment}
use Rattle.b_tree.specs.declared.substitutions.Branch.{Branch, fold-Branch}
use Rattle.b_tree.specs.declared.substitutions.CaseBranch.{CaseBranch, fold-CaseBranch}
use Rattle.b_tree.specs.declared.substitutions.Guarded.{Guarded, fold-Guarded}
use Rattle.b_tree.specs.declared.substitutions.Joint.{Joint}
use Rattle.b_tree.specs.declared.substitutions.Joint.TheVariants.{Parallel, Sequence}
use Rattle.b_tree.specs.declared.substitutions.Selection.{Selection, fold-Selection}
use Rattle.b_tree.specs.declared.substitutions.Step.{Step, fold-Step}
use Rattle.b_tree.specs.declared.substitutions.SubstTree.{SubstTree, fold-SubstTree}
use Rattle.b_tree.specs.declared.substitutions.SubstTree.TheOpen.{SubstTree-F, Branch-F, CaseBranch-F, Guarded-F, Selection-F, Step-F}
use Rattle.b_values.specs.Values.{elements, same_value}
use Rattle.b_values.specs.declared.values.FaultKind.TheVariants.{TooLarge}
use Rattle.b_values.specs.declared.values.Value.{Value}
use Rattle.set_making.specs.Making.{set_with}
use Rattle.b_outcomes.specs.Frames.{put, written, joins, middle, in_order}
use Rattle.b_outcomes.specs.declared.frames.Frame.{Frame}

-- the frames that a substitution may leave, each at least once, or its first fault: by the frame that it writes on, and
-- the values of the slots that it reads
abbrev pub Effect : Type 0
Effect = Frame → Slots → Answer (List Frame)

-- a guard and what is done where it holds
pub record BranchMeaning : Type 0 where
  pub guard : Test
  pub body : Effect

pub record CaseMeaning : Type 0 where
  pub labels : List Valued
  pub body : Effect

pub record SelectionMeaning : Type 0 where
  pub binder : BinderMeaning
  pub body : Effect

pub record StepMeaning : Type 0 where
  pub joint : Joint
  pub targets : List ℕ
  pub body : Effect

-- ---- several together

-- the frames of all, or the first fault
abbrev pub union_of : List (Answer (List Frame)) → Answer (List Frame)
union_of [] = Ok []
union_of (a ∷ rest) = bind a (λ xs. bind (union_of rest) (λ ys. Ok (xs ++ ys)))

-- what is done, or nothing is: this branch isn't the one
abbrev pub Chosen : Type 0
Chosen = Answer (Option (List Frame))

abbrev pub or_next : Option (List Frame) → Chosen → Chosen
or_next (Some fs) next = Ok (Some fs)
or_next None next = next

-- the first branch that is chosen
abbrev pub first_of : List Chosen → Chosen
first_of [] = Ok None
first_of (a ∷ rest) = bind a (λ o. or_next o (first_of rest))

abbrev pub both_of : Option (List Frame) → Option (List Frame) → Option (List Frame)
both_of None more = more
both_of (Some xs) None = Some xs
both_of (Some xs) (Some ys) = Some (xs ++ ys)

-- the union over the branches that are chosen, if there is one
abbrev pub all_of : List Chosen → Chosen
all_of [] = Ok None
all_of (a ∷ rest) = bind a (λ o. bind (all_of rest) (λ more. Ok (both_of o more)))

abbrev pub or_else : Option (List Frame) → Answer (List Frame) → Answer (List Frame)
or_else (Some fs) other = Ok fs
or_else None other = other

-- what is chosen, else this
abbrev pub otherwise : Chosen → Answer (List Frame) → Answer (List Frame)
otherwise chosen other = bind chosen (λ o. or_else o other)

-- this where a test passes
abbrev pub where_true : Bool → Answer (List Frame) → Chosen
where_true b a = if b then bind a (λ fs. Ok (Some fs)) else Ok None

-- ---- single forms

-- a slot's value with F at E: each value that is built has the place of the `(`
abbrev pub overwritten : Place → Answer Value → Valued → Valued → Valued
overwritten p f e g env =
    bind f (λ r. bind (e env) (λ x. bind (g env) (λ y.
    bind (placed p (binary_row operator.Couple x y)) (λ c. bind (placed p (set_with (c ∷ []))) (λ s. placed p (binary_row operator.Overriding r s))))))

-- one of the labels, evaluated in order, has this value
abbrev pub has_label : List Valued → Value → Test
has_label [] v env = Ok false
has_label (l ∷ ls) v env = bind (l env) (λ w. if same_value w v then Ok true else has_label ls v env)

-- a branch whose guard holds
abbrev pub held : BranchMeaning → Frame → Slots → Chosen
held b f env = bind (b.guard env) (λ c. where_true c (b.body f env))

-- a branch of CASE with a label of this value
abbrev pub labelled : Value → CaseMeaning → Frame → Slots → Chosen
labelled v c f env = bind (has_label c.labels v env) (λ b. where_true b (c.body f env))

-- what is done for a tuple, if the predicate of its binder holds for it
abbrev pub at_tuple : Test → (List Value → Answer (List Frame)) → Slots → List Value → Answer (List Frame)
at_tuple test go env t = bind (test (env ++ t)) (λ b. if b then go t else Ok [])

-- `IF`, `SELECT`, `CASE`
abbrev pub first_held : List BranchMeaning → Effect → Effect
first_held bs other f env = otherwise (first_of (map (λ b. held b f env) bs)) (other f env)

abbrev pub all_held : List BranchMeaning → Effect → Effect
all_held bs other f env = otherwise (all_of (map (λ b. held b f env) bs)) (other f env)

abbrev pub first_labelled : Valued → List CaseMeaning → Effect → Effect
first_labelled e cs other f env = bind (e env) (λ v. otherwise (first_of (map (λ c. labelled v c f env) cs)) (other f env))

-- without ELSE nothing is done
abbrev pub or_nothing : Option Effect → Effect
or_nothing None f env = Ok []
or_nothing (Some s) f env = s f env

-- ---- the forms, layer by layer: the slots of so many constants come first

module _ (limit first : ℕ) where
  -- `x,y := E,F`: all values come first
  abbrev pub assigned : List Assignment → Effect
  assigned parts f env = bind (values_of limit (map (λ a. a.value) parts) env) (λ vs. Ok (written first (map (λ a. a.target) parts) vs f ∷ []))

  -- `f(E) := F`
  abbrev pub updated : Place → ℕ → ExprTree → ExprTree → Effect
  updated p t e g f env = bind (overwritten p (slot_value (slice_get env t)) (value_of limit e) (value_of limit g) env) (λ v. Ok (put (t - first) (Some v) f ∷ []))

  -- `x :: E`: each member of E's value
  abbrev pub member_of_each : ℕ → ExprTree → Effect
  member_of_each t e f env = bind (value_of limit e env) (λ v. Ok (map (λ x. put (t - first) (Some x) f) (elements v)))

  -- the union over the tuples of a binder for which its predicate holds
  abbrev pub for_tuples : BinderMeaning → (List Value → Answer (List Frame)) → Slots → Answer (List Frame)
  for_tuples b go env = union_of (instances (at_tuple b.test go env) (binder_places limit b.variables env))

  -- `x,y : (P)`: the tuple is what the targets get
  abbrev pub such_that : List ℕ → BinderMeaning → Effect
  such_that ts b f env = for_tuples b (λ t. Ok (written first ts t f ∷ [])) env

  -- `ANY x,y WHERE P THEN S END`
  abbrev pub any_of : SelectionMeaning → Effect
  any_of s f env = for_tuples s.binder (λ t. s.body f (env ++ t)) env

  -- the right side of `||` and `;`, after the outcomes of the left one: both from one before-state, or from each outcome
  -- of the left, ascending
  abbrev pub after_by : Joint → StepMeaning → List Frame → Effect
  after_by Parallel s xs f env = bind (s.body f env) (λ ys. Ok (joins first s.targets xs (in_order ys)))
  after_by Sequence s xs f env = union_of (map (λ x. s.body x (middle first x env)) xs)

  abbrev pub after : StepMeaning → List Frame → Effect
  after s xs f env = after_by s.joint s xs f env

  -- several steps, each after the outcomes of those before, in order
  abbrev pub after_all : List StepMeaning → List Frame → Effect
  after_all [] xs f env = Ok xs
  after_all (s ∷ []) xs f env = after s xs f env
  after_all (s ∷ t ∷ ss) xs f env = bind (after s xs f env) (λ ys. after_all (t ∷ ss) (in_order ys) f env)

  abbrev pub effect_step : SubstTree-F Effect BranchMeaning CaseMeaning BranchMeaning SelectionMeaning StepMeaning → Effect
  effect_step SubstTree-F.Skip f env = Ok (f ∷ [])
  effect_step (SubstTree-F.Assign parts) f env = assigned parts f env
  effect_step (SubstTree-F.Update p t e g) f env = updated p t e g f env
  effect_step (SubstTree-F.From t e) f env = member_of_each t e f env
  effect_step (SubstTree-F.Such ts b) f env = such_that ts (binder_of limit b) f env
  effect_step (SubstTree-F.Guarded g) f env = bind (g.guard env) (λ b. if b then g.body f env else Ok [])
  effect_step (SubstTree-F.If bs other) f env = first_held bs other f env
  effect_step (SubstTree-F.Select bs other) f env = all_held bs (or_nothing other) f env
  effect_step (SubstTree-F.Choice ss) f env = union_of (map (λ s. s f env) ss)
  effect_step (SubstTree-F.Case e cs other) f env = first_labelled (value_of limit e) cs other f env
  effect_step (SubstTree-F.Any s) f env = any_of s f env
  effect_step (SubstTree-F.Let es s) f env = bind (values_of limit es env) (λ vs. s f (env ++ vs))
  effect_step (SubstTree-F.Chain s ss) f env = bind (s f env) (λ xs. after_all ss (in_order xs) f env)

  abbrev pub branch_step : Branch-F Effect BranchMeaning CaseMeaning BranchMeaning SelectionMeaning StepMeaning → BranchMeaning
  branch_step b = record { guard = holds_of limit b.guard; body = b.body }

  abbrev pub case_step : CaseBranch-F Effect BranchMeaning CaseMeaning BranchMeaning SelectionMeaning StepMeaning → CaseMeaning
  case_step c = record { labels = map (value_of limit) c.labels; body = c.body }

  abbrev pub guarded_step : Guarded-F Effect BranchMeaning CaseMeaning BranchMeaning SelectionMeaning StepMeaning → BranchMeaning
  guarded_step g = record { guard = holds_of limit g.guard; body = g.body }

  abbrev pub selection_step : Selection-F Effect BranchMeaning CaseMeaning BranchMeaning SelectionMeaning StepMeaning → SelectionMeaning
  selection_step s = record { binder = binder_of limit s.binder; body = s.body }

  abbrev pub step_step : Step-F Effect BranchMeaning CaseMeaning BranchMeaning SelectionMeaning StepMeaning → StepMeaning
  step_step s = record { joint = s.joint; targets = s.targets; body = s.body }

  abbrev pub effect_of : SubstTree → Effect
  effect_of = fold-SubstTree Effect BranchMeaning CaseMeaning BranchMeaning SelectionMeaning StepMeaning effect_step branch_step case_step guarded_step selection_step step_step

  abbrev pub branch_of : Branch → BranchMeaning
  branch_of = fold-Branch Effect BranchMeaning CaseMeaning BranchMeaning SelectionMeaning StepMeaning effect_step branch_step case_step guarded_step selection_step step_step

  abbrev pub case_of : CaseBranch → CaseMeaning
  case_of = fold-CaseBranch Effect BranchMeaning CaseMeaning BranchMeaning SelectionMeaning StepMeaning effect_step branch_step case_step guarded_step selection_step step_step

  abbrev pub guarded_of : Guarded → BranchMeaning
  guarded_of = fold-Guarded Effect BranchMeaning CaseMeaning BranchMeaning SelectionMeaning StepMeaning effect_step branch_step case_step guarded_step selection_step step_step

  abbrev pub selection_of : Selection → SelectionMeaning
  selection_of = fold-Selection Effect BranchMeaning CaseMeaning BranchMeaning SelectionMeaning StepMeaning effect_step branch_step case_step guarded_step selection_step step_step

  abbrev pub step_of : Step → StepMeaning
  step_of = fold-Step Effect BranchMeaning CaseMeaning BranchMeaning SelectionMeaning StepMeaning effect_step branch_step case_step guarded_step selection_step step_step

-- ---- a whole substitution

-- a whole substitution has at most so many outcomes
unfoldable pub outcome_limit : ℕ
outcome_limit = 100000

-- the outcomes in order, each once, unless they are too many
abbrev pub within : ℕ → Place → List Frame → Answer (List Frame)
within most p fs = if nat_lt most (length (in_order fs)) then fault TooLarge p else Ok (in_order fs)

-- the outcomes of a whole substitution whose name stands at a place
abbrev pub outcomes : ℕ → ℕ → SubstTree → Place → Effect
outcomes limit first s p f env = bind (effect_of limit first s f env) (within outcome_limit p)
