-- What formulas mean: a value or the first fault, operands left to right.
use Rattle.std.specs.Prelude.{◌≡◌, ℕ, Bool, true, false, not, List, [], ◌∷◌, ◌++◌, map, Option, Some, None, Result, Ok, Err, slice_get, if◌then◌else◌}
use Rattle.b_funsets.specs.Arrows.{first, second}
use Rattle.b_funsets.specs.Families.{pow_row}
use Rattle.b_places.specs.Places.{RangeOf, Candidate, places, cut, instances, decided, those, totalled, couple_of}
use Rattle.b_places.specs.Ranges.{numbers_between}
use Rattle.b_places.specs.Scopes.{Slots}
use Rattle.b_rows.specs.Answers.{Answer, bind, fault, fault_at, placed, all_at}
use Rattle.b_rows.specs.Rows.{unary_row, binary_row, power_row, family_row, set_row, word_row, given_row, sequence_row, collector_row, partial_result, first_result}
use Rattle.b_rows.specs.Tests.{compare, belongs, is_between, domain_of, range_of, total, onto, has_shape, may_begin, may_end, part, whole}
use Rattle.b_tree.specs.declared.Binder.{Binder, fold-Binder}
use Rattle.b_tree.specs.declared.Clause.{Clause, fold-Clause}
use Rattle.b_tree.specs.declared.Collection.{Collection, fold-Collection}
use Rattle.b_tree.specs.declared.ExprTree.{ExprTree, fold-ExprTree}
use Rattle.b_tree.specs.declared.ExprTree.TheOpen.{ExprTree-F, Link-F, Plan-F, PredTree-F, Binder-F, Clause-F, Collection-F, Power-F, Sides-F, Universal-F, Variable-F}
use Rattle.b_tree.specs.declared.Link.{Link, fold-Link}
use Rattle.b_tree.specs.declared.Place.{Place}
use Rattle.b_tree.specs.declared.Plan.{Plan, fold-Plan}
use Rattle.b_tree.specs.declared.Power.{Power, fold-Power}
use Rattle.b_tree.specs.declared.PredTree.{PredTree, fold-PredTree}
use Rattle.b_tree.specs.declared.Sides.{Sides, fold-Sides}
use Rattle.b_tree.specs.declared.Universal.{Universal, fold-Universal}
use Rattle.b_tree.specs.declared.Variable.{Variable, fold-Variable}
use Rattle.b_tree.specs.declared.operators.Collector.{Collector}
use Rattle.b_tree.specs.declared.operators.Collector.TheVariants as collector
use Rattle.b_tree.specs.declared.operators.Connective.{Connective}
use Rattle.b_tree.specs.declared.operators.Connective.TheVariants as connective
use Rattle.b_tree.specs.declared.operators.Family.{Family}
use Rattle.b_tree.specs.declared.operators.Membership.{Membership}
use Rattle.b_tree.specs.declared.operators.Membership.TheVariants as membership
use Rattle.b_tree.specs.declared.operators.SetOperator.{SetOperator}
use Rattle.b_tree.specs.declared.operators.SetOperator.TheVariants as sets
use Rattle.b_values.specs.Values.{elements, same_value}
use Rattle.b_values.specs.declared.values.EvalFault.{EvalFault}
use Rattle.b_values.specs.declared.values.FaultKind.TheVariants.{IllDefined, TooLarge}
use Rattle.b_values.specs.declared.values.Text.TheVariants as text
use Rattle.b_values.specs.declared.values.Value.{Value}
use Rattle.b_values.specs.declared.values.Value.TheVariants.{Int, Truth, Text, Elem, Pair}
use Rattle.set_making.specs.Making.{set_with, is_among}

-- a binder has at most so many tuples
unfoldable pub tuple_limit : ℕ
tuple_limit = 1000000

-- ---- what the parts of a formula mean, by the values of the slots in scope

abbrev pub Valued : Type 0
Valued = Slots → Answer Value

abbrev pub Test : Type 0
Test = Slots → Answer Bool

-- an expression: its value, and the membership in it, which may need no value of it
pub record Meaning : Type 0 where
  pub value : Valued
  pub member : Value → Test

-- an operator and its right operand: what they make of the left one
abbrev pub LinkMeaning : Type 0
LinkMeaning = Value → Valued

-- a connective and its right side: what they make of the left side
abbrev pub ClauseMeaning : Type 0
ClauseMeaning = Bool → Test

-- a plan: the range of a variable whose name stands at a place
abbrev pub PlanMeaning : Type 0
PlanMeaning = Place → RangeOf

pub record PowerMeaning : Type 0 where
  pub base : Valued
  pub place : Place

pub record SidesMeaning : Type 0 where
  pub left : Meaning
  pub right : Meaning

pub record VariableMeaning : Type 0 where
  pub place : Place
  pub range : RangeOf

pub record BinderMeaning : Type 0 where
  pub variables : List VariableMeaning
  pub test : Test

pub record UniversalMeaning : Type 0 where
  pub binder : BinderMeaning
  pub consequent : Test

pub record CollectionMeaning : Type 0 where
  pub binder : BinderMeaning
  pub value : Valued

-- ---- operands

-- the values of several expressions, left to right
abbrev pub each_value : List Meaning → Slots → Answer (List Value)
each_value [] env = Ok []
each_value (e ∷ es) env = bind (e.value env) (λ v. bind (each_value es env) (λ vs. Ok (v ∷ vs)))

-- operators from left to right
abbrev pub chained : List LinkMeaning → Slots → Value → Answer Value
chained [] env x = Ok x
chained (l ∷ ls) env x = bind (l x env) (chained ls env)

abbrev pub each_base : List PowerMeaning → Slots → Answer (List Value)
each_base [] env = Ok []
each_base (p ∷ ps) env = bind (p.base env) (λ v. bind (each_base ps env) (λ vs. Ok (v ∷ vs)))

-- `**` at these places from right to left, once all operands have values
abbrev pub raised : List Place → List Value → Value → Answer Value
raised (p ∷ ps) (v ∷ vs) z = bind (raised ps vs z) (λ y. placed p (power_row v y))
raised ps vs z = Ok z

abbrev pub places_in : List PowerMeaning → List Place
places_in ps = map (λ p. p.place) ps

-- where a fault stands that has no place: none comes where a tree fits its slots
abbrev pub nowhere : Place
nowhere = record { text = text.Machine; at = 0 }

abbrev pub slot_value : Option Value → Answer Value
slot_value None = fault IllDefined nowhere
slot_value (Some v) = Ok v

-- ---- truth

-- the second where the first is true; else the first
abbrev pub both : Answer Bool → Answer Bool → Answer Bool
both a b = bind a (λ c. if c then b else Ok false)

abbrev pub negated : Answer Bool → Answer Bool
negated a = bind a (λ b. Ok (not b))

-- connectives from left to right
abbrev pub joined : List ClauseMeaning → Slots → Bool → Answer Bool
joined [] env b = Ok b
joined (c ∷ cs) env b = bind (c b env) (joined cs env)

-- what a connective makes of its left side: `<=>` alone always looks at the right one
abbrev pub connected : Connective → Test → ClauseMeaning
connected connective.And q b env = if b then q env else Ok false
connected connective.Or q b env = if b then Ok true else q env
connected connective.Implies q b env = if b then q env else Ok true
connected connective.Equivalent q b env = bind (q env) (λ c. Ok (if b then c else not c))

-- ---- membership by form

-- each of these passes, in this order
abbrev pub each : (Value → Answer Bool) → List Value → Answer Bool
each test vs = decided true (map test vs)

-- the parts of a member of a family are members of its set
abbrev pub has_parts : Family → Meaning → Value → Test
has_parts f s v env = each (λ x. s.member (part f x) env) (elements v)

-- one-to-one, and the set's value equal to the range, as the family asks
abbrev pub has_ends : Family → Meaning → Value → Test
has_ends f s v env =
    if may_end f v
    then (if whole f then bind (s.value env) (λ w. Ok (same_value w (range_of v))) else Ok true)
    else Ok false

-- `POW(S)`, `seq(S)` and their kin
abbrev pub is_over : Family → Meaning → Value → Test
is_over f s v env = if may_begin f v then both (has_parts f s v env) (has_ends f s v env) else Ok false

-- `S * T`: the first part in S, then the second in T
abbrev pub is_couple : SidesMeaning → Value → Test
is_couple s v env = both (s.left.member (first v) env) (s.right.member (second v) env)

-- the left side's value is the domain, where the arrow asks for it
abbrev pub is_total : SetOperator → Meaning → Value → Test
is_total op s v env = if total op then bind (s.value env) (λ w. Ok (same_value w (domain_of v))) else Ok true

-- the right side's value is the range, where the arrow asks for it
abbrev pub is_onto : SetOperator → Meaning → Value → Test
is_onto op s v env = if onto op then bind (s.value env) (λ w. Ok (same_value w (range_of v))) else Ok true

-- functional, one-to-one, total and onto, as the arrow asks, in this order
abbrev pub is_arrow : SetOperator → SidesMeaning → Value → Test
is_arrow op s v env = if has_shape op v then both (is_total op s.left v env) (is_onto op s.right v env) else Ok false

-- `a .. b`, `S * T`, `S <-> T` and the arrows
abbrev pub is_set_between : SetOperator → SidesMeaning → Value → Test
is_set_between sets.Interval s v env = bind (s.left.value env) (λ x. bind (s.right.value env) (λ y. Ok (is_between x y v)))
is_set_between sets.Product s v env = is_couple s v env
is_set_between op s v env = both (each (λ x. is_couple s x env) (elements v)) (is_arrow op s v env)

-- `:`, `/:`, `<:` and `/<:`, by the membership in the right side
abbrev pub tested : Membership → Meaning → Value → Test
tested membership.Member s v env = s.member v env
tested membership.NotMember s v env = negated (s.member v env)
tested membership.Subset s v env = each (λ x. s.member x env) (elements v)
tested membership.NotSubset s v env = negated (each (λ x. s.member x env) (elements v))

-- ---- binders

-- the place of the first bound name
abbrev pub first_place : List VariableMeaning → Place
first_place [] = nowhere
first_place (v ∷ vs) = v.place

abbrev pub ranges_in : List VariableMeaning → List RangeOf
ranges_in vs = map (λ v. v.range) vs

-- the place after the last tuple of the limit is faulty at the first bound name
abbrev pub limit_fault : List VariableMeaning → EvalFault
limit_fault vs = fault_at TooLarge (first_place vs)

-- the places of a binder
abbrev pub binder_places : ℕ → List VariableMeaning → Slots → List Candidate
binder_places limit vs env = cut (limit_fault vs) (places (ranges_in vs) env []) limit

-- the predicate at a tuple
abbrev pub at_tuple : Test → Slots → List Value → Answer Bool
at_tuple test env t = test (env ++ t)

-- an implication, by the slots of a tuple
abbrev pub implied : UniversalMeaning → Test
implied u env = bind (u.binder.test env) (λ b. if b then u.consequent env else Ok true)

-- the couple of the tuple where the predicate holds
abbrev pub passing : Test → Slots → List Value → Answer (Option Value)
passing test env t = bind (test (env ++ t)) (λ b. Ok (if b then Some (couple_of t) else None))

-- what is gathered of a tuple t and the value at it: of `%` the couple of both
abbrev pub gathered : Collector → List Value → Value → Value
gathered collector.Lambda t v = Pair (couple_of t) v
gathered c t v = v

-- what is gathered at a tuple where the predicate holds, by the slots of that tuple
abbrev pub gathered_at : Collector → CollectionMeaning → List Value → Slots → Answer (Option Value)
gathered_at c k t env = bind (k.binder.test env) (λ b. if b then bind (k.value env) (λ v. Ok (Some (gathered c t v))) else Ok None)

abbrev pub gathering : Collector → CollectionMeaning → Slots → List Value → Answer (Option Value)
gathering c k env t = gathered_at c k t (env ++ t)

-- all values are gathered, then the set is made of them
abbrev pub gathered_set : ℕ → Collector → Place → CollectionMeaning → Valued
gathered_set limit c p k env = bind (those (instances (gathering c k env) (binder_places limit k.binder.variables env))) (λ vs. placed p (collector_row c vs))

-- the partial results, one after another
abbrev pub running_total : ℕ → Collector → Place → CollectionMeaning → Valued
running_total limit c p k env = totalled (λ x y. placed p (partial_result c x y)) (first_result c) (instances (gathering c k env) (binder_places limit k.binder.variables env))

-- SIGMA and PI by partial results, the others by a set
abbrev pub collected : ℕ → Collector → Place → CollectionMeaning → Valued
collected limit collector.Sum p k env = running_total limit collector.Sum p k env
collected limit collector.Product p k env = running_total limit collector.Product p k env
collected limit c p k env = gathered_set limit c p k env

-- ---- the meaning, layer by layer

module _ (limit : ℕ) where
  abbrev pub value_step : ExprTree-F Meaning LinkMeaning PlanMeaning Test BinderMeaning ClauseMeaning CollectionMeaning PowerMeaning SidesMeaning UniversalMeaning VariableMeaning → Valued
  value_step (ExprTree-F.Number n) env = Ok (Int n)
  value_step (ExprTree-F.Truth b) env = Ok (Truth b)
  value_step (ExprTree-F.Text s) env = Ok (Text s)
  value_step (ExprTree-F.Element set i) env = Ok (Elem set i)
  value_step (ExprTree-F.Slot i) env = slot_value (slice_get env i)
  value_step (ExprTree-F.Given p set size) env = placed p (given_row set size)
  value_step (ExprTree-F.Word p w) env = placed p (word_row w)
  value_step (ExprTree-F.Unary op p a) env = bind (a.value env) (λ x. placed p (unary_row op x))
  value_step (ExprTree-F.ExprTree::Chain a links) env = bind (a.value env) (chained links env)
  value_step (ExprTree-F.Powers ps a) env = bind (each_base ps env) (λ vs. bind (a.value env) (raised (places_in ps) vs))
  value_step (ExprTree-F.Over f p a) env = bind (a.value env) (λ x. placed p (family_row f x))
  value_step (ExprTree-F.Between op p s) env = bind (s.left.value env) (λ x. bind (s.right.value env) (λ y. placed p (set_row op x y)))
  value_step (ExprTree-F.Set p es) env = bind (each_value es env) (λ vs. placed p (set_with vs))
  value_step (ExprTree-F.Sequence p es) env = bind (each_value es env) (λ vs. placed p (sequence_row vs))
  value_step (ExprTree-F.Bool p) env = bind (p env) (λ b. Ok (Truth b))
  value_step (ExprTree-F.If p a b) env = bind (p env) (λ c. if c then a.value env else b.value env)
  value_step (ExprTree-F.Comprehension p b) env = bind (those (instances (passing b.test env) (binder_places limit b.variables env))) (λ vs. placed p (set_with vs))
  value_step (ExprTree-F.Collected c p k) env = collected limit c p k env

  -- membership by form, and otherwise in the value
  abbrev pub member_step : ExprTree-F Meaning LinkMeaning PlanMeaning Test BinderMeaning ClauseMeaning CollectionMeaning PowerMeaning SidesMeaning UniversalMeaning VariableMeaning → Value → Test
  member_step (ExprTree-F.Word p w) v env = Ok (belongs w v)
  member_step (ExprTree-F.Over f p s) v env = is_over f s v env
  member_step (ExprTree-F.Between op p s) v env = is_set_between op s v env
  member_step e v env = bind (value_step e env) (λ w. Ok (is_among (elements w) v))

  abbrev pub expr_step : ExprTree-F Meaning LinkMeaning PlanMeaning Test BinderMeaning ClauseMeaning CollectionMeaning PowerMeaning SidesMeaning UniversalMeaning VariableMeaning → Meaning
  expr_step e = record { value = value_step e; member = member_step e }

  abbrev pub link_step : Link-F Meaning LinkMeaning PlanMeaning Test BinderMeaning ClauseMeaning CollectionMeaning PowerMeaning SidesMeaning UniversalMeaning VariableMeaning → LinkMeaning
  link_step (Link-F.After op p) x env = placed p (unary_row op x)
  link_step (Link-F.With op p e) x env = bind (e.value env) (λ y. placed p (binary_row op x y))

  -- the range of a variable, the faults of a cut set and of too many subsets at its name
  abbrev pub plan_step : Plan-F Meaning LinkMeaning PlanMeaning Test BinderMeaning ClauseMeaning CollectionMeaning PowerMeaning SidesMeaning UniversalMeaning VariableMeaning → PlanMeaning
  plan_step (Plan-F.Only e) p env = bind (e.value env) (λ v. Ok (v ∷ []))
  plan_step (Plan-F.Members e) p env = bind (e.value env) (λ v. Ok (elements v))
  plan_step (Plan-F.Numbers b e f) p env =
      if b.upper_first
      then bind (f.value env) (λ y. bind (e.value env) (λ x. placed p (numbers_between b x y)))
      else bind (e.value env) (λ x. bind (f.value env) (λ y. placed p (numbers_between b x y)))
  plan_step (Plan-F.Subsets e) p env = bind (e.value env) (λ v. bind (placed p (pow_row v)) (λ w. Ok (elements w)))
  plan_step (Plan-F.Cut e) p env = bind (all_at p (e.value env)) (λ v. Ok (elements v))

  abbrev pub pred_step : PredTree-F Meaning LinkMeaning PlanMeaning Test BinderMeaning ClauseMeaning CollectionMeaning PowerMeaning SidesMeaning UniversalMeaning VariableMeaning → Test
  pred_step PredTree-F.True env = Ok true
  pred_step (PredTree-F.Compare op a b) env = bind (a.value env) (λ x. bind (b.value env) (λ y. Ok (compare op x y)))
  pred_step (PredTree-F.Member op a s) env = bind (a.value env) (λ v. tested op s v env)
  pred_step (PredTree-F.PredTree::Chain p cs) env = bind (p env) (joined cs env)
  pred_step (PredTree-F.Not p) env = negated (p env)
  pred_step (PredTree-F.Exists b) env = decided false (instances (at_tuple b.test env) (binder_places limit b.variables env))
  pred_step (PredTree-F.ForAll u) env = decided true (instances (at_tuple (implied u) env) (binder_places limit u.binder.variables env))

  abbrev pub binder_step : Binder-F Meaning LinkMeaning PlanMeaning Test BinderMeaning ClauseMeaning CollectionMeaning PowerMeaning SidesMeaning UniversalMeaning VariableMeaning → BinderMeaning
  binder_step b = record { variables = b.variables; test = b.predicate }

  abbrev pub clause_step : Clause-F Meaning LinkMeaning PlanMeaning Test BinderMeaning ClauseMeaning CollectionMeaning PowerMeaning SidesMeaning UniversalMeaning VariableMeaning → ClauseMeaning
  clause_step c = connected c.connective c.predicate

  abbrev pub collection_step : Collection-F Meaning LinkMeaning PlanMeaning Test BinderMeaning ClauseMeaning CollectionMeaning PowerMeaning SidesMeaning UniversalMeaning VariableMeaning → CollectionMeaning
  collection_step k = record { binder = k.binder; value = k.value.value }

  abbrev pub power_step : Power-F Meaning LinkMeaning PlanMeaning Test BinderMeaning ClauseMeaning CollectionMeaning PowerMeaning SidesMeaning UniversalMeaning VariableMeaning → PowerMeaning
  power_step p = record { base = p.base.value; place = p.at }

  abbrev pub sides_step : Sides-F Meaning LinkMeaning PlanMeaning Test BinderMeaning ClauseMeaning CollectionMeaning PowerMeaning SidesMeaning UniversalMeaning VariableMeaning → SidesMeaning
  sides_step s = record { left = s.left; right = s.right }

  abbrev pub universal_step : Universal-F Meaning LinkMeaning PlanMeaning Test BinderMeaning ClauseMeaning CollectionMeaning PowerMeaning SidesMeaning UniversalMeaning VariableMeaning → UniversalMeaning
  universal_step u = record { binder = u.binder; consequent = u.consequent }

  abbrev pub variable_step : Variable-F Meaning LinkMeaning PlanMeaning Test BinderMeaning ClauseMeaning CollectionMeaning PowerMeaning SidesMeaning UniversalMeaning VariableMeaning → VariableMeaning
  variable_step v = record { place = v.at; range = v.plan v.at }

  abbrev pub meaning_of : ExprTree → Meaning
  meaning_of = fold-ExprTree Meaning LinkMeaning PlanMeaning Test BinderMeaning ClauseMeaning CollectionMeaning PowerMeaning SidesMeaning UniversalMeaning VariableMeaning expr_step link_step plan_step pred_step binder_step clause_step collection_step power_step sides_step universal_step variable_step

  abbrev pub link_of : Link → LinkMeaning
  link_of = fold-Link Meaning LinkMeaning PlanMeaning Test BinderMeaning ClauseMeaning CollectionMeaning PowerMeaning SidesMeaning UniversalMeaning VariableMeaning expr_step link_step plan_step pred_step binder_step clause_step collection_step power_step sides_step universal_step variable_step

  abbrev pub plan_of : Plan → PlanMeaning
  plan_of = fold-Plan Meaning LinkMeaning PlanMeaning Test BinderMeaning ClauseMeaning CollectionMeaning PowerMeaning SidesMeaning UniversalMeaning VariableMeaning expr_step link_step plan_step pred_step binder_step clause_step collection_step power_step sides_step universal_step variable_step

  abbrev pub holds_of : PredTree → Test
  holds_of = fold-PredTree Meaning LinkMeaning PlanMeaning Test BinderMeaning ClauseMeaning CollectionMeaning PowerMeaning SidesMeaning UniversalMeaning VariableMeaning expr_step link_step plan_step pred_step binder_step clause_step collection_step power_step sides_step universal_step variable_step

  abbrev pub binder_of : Binder → BinderMeaning
  binder_of = fold-Binder Meaning LinkMeaning PlanMeaning Test BinderMeaning ClauseMeaning CollectionMeaning PowerMeaning SidesMeaning UniversalMeaning VariableMeaning expr_step link_step plan_step pred_step binder_step clause_step collection_step power_step sides_step universal_step variable_step

  abbrev pub clause_of : Clause → ClauseMeaning
  clause_of = fold-Clause Meaning LinkMeaning PlanMeaning Test BinderMeaning ClauseMeaning CollectionMeaning PowerMeaning SidesMeaning UniversalMeaning VariableMeaning expr_step link_step plan_step pred_step binder_step clause_step collection_step power_step sides_step universal_step variable_step

  abbrev pub collection_of : Collection → CollectionMeaning
  collection_of = fold-Collection Meaning LinkMeaning PlanMeaning Test BinderMeaning ClauseMeaning CollectionMeaning PowerMeaning SidesMeaning UniversalMeaning VariableMeaning expr_step link_step plan_step pred_step binder_step clause_step collection_step power_step sides_step universal_step variable_step

  abbrev pub power_of : Power → PowerMeaning
  power_of = fold-Power Meaning LinkMeaning PlanMeaning Test BinderMeaning ClauseMeaning CollectionMeaning PowerMeaning SidesMeaning UniversalMeaning VariableMeaning expr_step link_step plan_step pred_step binder_step clause_step collection_step power_step sides_step universal_step variable_step

  abbrev pub sides_of : Sides → SidesMeaning
  sides_of = fold-Sides Meaning LinkMeaning PlanMeaning Test BinderMeaning ClauseMeaning CollectionMeaning PowerMeaning SidesMeaning UniversalMeaning VariableMeaning expr_step link_step plan_step pred_step binder_step clause_step collection_step power_step sides_step universal_step variable_step

  abbrev pub universal_of : Universal → UniversalMeaning
  universal_of = fold-Universal Meaning LinkMeaning PlanMeaning Test BinderMeaning ClauseMeaning CollectionMeaning PowerMeaning SidesMeaning UniversalMeaning VariableMeaning expr_step link_step plan_step pred_step binder_step clause_step collection_step power_step sides_step universal_step variable_step

  abbrev pub variable_of : Variable → VariableMeaning
  variable_of = fold-Variable Meaning LinkMeaning PlanMeaning Test BinderMeaning ClauseMeaning CollectionMeaning PowerMeaning SidesMeaning UniversalMeaning VariableMeaning expr_step link_step plan_step pred_step binder_step clause_step collection_step power_step sides_step universal_step variable_step

  -- an expression's value or first fault
  abbrev pub value_of : ExprTree → Valued
  value_of e = (meaning_of e).value

  -- membership in an expression, by its form
  abbrev pub member_of : ExprTree → Value → Test
  member_of e = (meaning_of e).member

  abbrev pub values_of : List ExprTree → Slots → Answer (List Value)
  values_of es env = each_value (map meaning_of es) env
