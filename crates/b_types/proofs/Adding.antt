-- What a substitution adds names parts that are there.
use Rattle.std.proofs.Common.{◌≡◌, ◌≤◌, ◌<◌, ◌+◌, ℕ, Bool, true, false, cond, List, [], ◌∷◌, map, Option, Some, None, arith, refl, sym, ap, subst, bytes_eq}
use Rattle.std.specs.Prelude.{option_map}
use Rattle.std.specs.List.{AllByRecursion}
use Rattle.b_ast.specs.declared.Bound.{Bound}
use Rattle.b_ast.specs.declared.Formula.{Formula}
use Rattle.b_ast.specs.declared.machine.Subst.{Subst, roll-Subst, map-Subst, fold-roll-Subst}
use Rattle.b_ast.specs.declared.machine.Subst.TheOpen.{Subst-F, Branch-F, CaseBranch-F, Step-F}
use Rattle.b_ast.specs.declared.machine.Branch.{Branch, roll-Branch, map-Branch, fold-roll-Branch}
use Rattle.b_ast.specs.declared.machine.CaseBranch.{CaseBranch, roll-CaseBranch, map-CaseBranch, fold-roll-CaseBranch}
use Rattle.b_ast.specs.declared.machine.Step.{Step, roll-Step, map-Step, fold-roll-Step}
use Rattle.type_schemes.specs.declared.rules.Rule.TheVariants as rule
use Rattle.type_demands.specs.declared.demands.Meaning.{Meaning}
use Rattle.type_demands.specs.declared.demands.Demand.TheVariants.{Unknown}
use Rattle.type_demands.specs.Scopes.{Scope, names_of, all_differ}
use Rattle.type_demands.specs.Demands.{said, obeying, named, twice, true_or_false}
use Rattle.type_formulas.proofs.Ranges.{Within, within_both, Bounded, names_bounded, kept_by, named_within, twice_within, predicate_within, said_within}
use Rattle.type_substs.specs.Told.{Told, Tells, with_demand, with_formula, whole_after, with_predicate, with_alike, with_all_alike, with_values, with_target, with_targets, with_names, inside, written, with_old}
use Rattle.type_substs.specs.Substitutions.{Cases, with_all, with_cases, with_perhaps, assigned, updated, chosen_from, chosen_such, compared, picked, fixed, branch_step, case_step, joined_step, subst_step, subst_told, branch_told, case_told, step_told}
use Rattle.b_types.proofs.Layers.{Below, BelowBranch, BelowCase, BelowStep, by_layers}

-- there are no fewer parts, and each form names one of them
pub record Adds (f : Tells) : Type 0 where
  pub grows : (scope : Scope) (z : Told) → z.next ≤ (f scope z).next
  pub within : (c : ℕ) (scope : Scope) (z : Told) → Bounded c scope → (f scope z).next ≤ c → Within c z.demands → Within c (f scope z).demands

-- the same of a branch of CASE, beside the part of the value that is compared
pub record AddsCase (f : Cases) : Type 0 where
  pub grows : (t : ℕ) (scope : Scope) (z : Told) → z.next ≤ (f t scope z).next
  pub within : (t c : ℕ) (scope : Scope) (z : Told) → t < c → Bounded c scope → (f t scope z).next ≤ c → Within c z.demands → Within c (f t scope z).demands

-- ---- formulas

pub formula_adds : (e : Formula) → Adds (with_formula e)
formula_adds e = record {
  grows = λ scope z. omega arith;
  within = λ c scope z b k h. within_both c z.demands ((said e).demands scope z.next) h ((said_within e).within c scope z.next b k);
}

pub predicate_adds : (p : Formula) → Adds (with_predicate p)
predicate_adds p = record {
  grows = λ scope z. omega arith;
  within = λ c scope z b k h. within_both c z.demands (true_or_false (said p) scope z.next) h (predicate_within c (said p) scope z.next (said_within p) b k);
}

whole_inside : (e : Formula) (scope : Scope) (z : Told) → whole_after e z < (with_formula e scope z).next
whole_inside e scope z = (said_within e).whole z.next

alike_within : (t c : ℕ) (e : Formula) (scope : Scope) (z : Told) → t < c → Bounded c scope → (with_alike t e scope z).next ≤ c → Within c z.demands → Within c (with_alike t e scope z).demands
alike_within t c e scope z ht b k h =
    let w = whole_inside e scope z in
    within_both c (with_formula e scope z).demands (obeying rule.Alike (whole_after e z) (whole_after e z) t ∷ []) ((formula_adds e).within c scope z b k h)
    (kept_by c rule.Alike (whole_after e z) (whole_after e z) t (omega arith) (omega arith) ht)

all_alike_grow : (t : ℕ) (es : List Formula) (scope : Scope) (z : Told) → z.next ≤ (with_all_alike t es scope z).next
all_alike_grow t [] scope z = omega arith
all_alike_grow t (e ∷ es) scope z = let r = all_alike_grow t es scope (with_alike t e scope z) in omega arith

all_alike_within : (t c : ℕ) (es : List Formula) (scope : Scope) (z : Told) → t < c → Bounded c scope → (with_all_alike t es scope z).next ≤ c → Within c z.demands → Within c (with_all_alike t es scope z).demands
all_alike_within t c [] scope z ht b k h = h
all_alike_within t c (e ∷ es) scope z ht b k h =
    let r = all_alike_grow t es scope (with_alike t e scope z) in
    all_alike_within t c es scope (with_alike t e scope z) ht b k (alike_within t c e scope z ht b (omega arith) h)

values_grow : (t : ℕ) (es : List Formula) (scope : Scope) (z : Told) → z.next ≤ (with_values t es scope z).next
values_grow t [] scope z = omega arith
values_grow t (e ∷ es) scope z = let r = values_grow (t + 1) es scope (with_alike t e scope z) in omega arith

-- more values than targets count too: each value has a part
values_within : (t c : ℕ) (es : List Formula) (scope : Scope) (z : Told) → t ≤ z.next → Bounded c scope → (with_values t es scope z).next ≤ c → Within c z.demands → Within c (with_values t es scope z).demands
values_within t c [] scope z ht b k h = h
values_within t c (e ∷ es) scope z ht b k h =
    let s = (said_within e).some in
    let r = values_grow (t + 1) es scope (with_alike t e scope z) in
    values_within (t + 1) c es scope (with_alike t e scope z) (omega arith) b k (alike_within t c e scope z (omega arith) b (omega arith) h)

-- ---- names

target_adds : (x : Bound) → Adds (with_target x)
target_adds x = record {
  grows = λ scope z. omega arith;
  within = λ c scope z b k h. within_both c z.demands (named (scope x.name) z.next ∷ []) h (named_within c (scope x.name) z.next (b.bounded x.name) (omega arith));
}

targets_add : (xs : List Bound) → Adds (with_targets xs)
targets_add [] = record { grows = λ scope z. omega arith; within = λ c scope z b k h. h }
targets_add (x ∷ xs) = record {
  grows = λ scope z. let r = (targets_add xs).grows scope (with_target x scope z) in omega arith;
  within = λ c scope z b k h.
      let r = (targets_add xs).grows scope (with_target x scope z) in
      (targets_add xs).within c scope (with_target x scope z) b k ((target_adds x).within c scope z b (omega arith) h);
}

names_within : (c : ℕ) (xs : List Bound) (z : Told) → Within c z.demands → Within c (with_names xs z).demands
names_within c xs z h = within_both c z.demands (twice xs) h (twice_within c (all_differ (names_of xs)))

inside_bounded : (c : ℕ) (xs : List Bound) (scope : Scope) (z : Told) → Bounded c scope → (with_names xs z).next ≤ c → Bounded c (inside xs scope z)
inside_bounded c xs scope z b k = names_bounded c xs z.next scope b k

written_bounded : (c : ℕ) (o : Option Meaning) → ((m : Meaning) → o ≡ Some m → m.part < c) → (m : Meaning) → option_map written o ≡ Some m → m.part < c
written_bounded c None h m e = absurd cc
written_bounded c (Some k) h m e = let f : written k ≡ m = cc in let g = ap (λ (x : Meaning). x.part) f in let i = h k refl in omega arith

old_or_later : (c : ℕ) (o later : Option Meaning) (m : Meaning) → ((m : Meaning) → o ≡ Some m → m.part < c) → ((m : Meaning) → later ≡ Some m → m.part < c) → (t : Bool) → cond t (option_map written o) later ≡ Some m → m.part < c
old_or_later c o later m h k true e = written_bounded c o h m e
old_or_later c o later m h k false e = k m e

old_bounded : (c : ℕ) (bs : List (List ℕ)) (scope : Scope) → Bounded c scope → Bounded c (with_old bs scope)
old_bounded c [] scope b = record { bounded = λ x m e. b.bounded x m e }
old_bounded c (y ∷ bs) scope b = record { bounded = λ x m e. old_or_later c (scope x) (with_old bs scope x) m (b.bounded x) ((old_bounded c bs scope b).bounded x) (bytes_eq x y) e }

-- ---- one after another

pub then_adds : (f g : Tells) → Adds f → Adds g → Adds (λ scope z. g scope (f scope z))
then_adds f g h k = record {
  grows = λ scope z. let a = h.grows scope z in let b = k.grows scope (f scope z) in omega arith;
  within = λ c scope z b l i. let a = k.grows scope (f scope z) in k.within c scope (f scope z) b l (h.within c scope z b (omega arith) i);
}

nothing_adds : Adds (λ scope z. z)
nothing_adds = record { grows = λ scope z. omega arith; within = λ c scope z b k h. h }

all_add : {X : Type 0} (m : X → Tells) (xs : List X) → AllByRecursion (λ x. Adds (m x)) xs → Adds (with_all (map m xs))
all_add m [] h = nothing_adds
all_add m (x ∷ xs) h = then_adds (m x) (with_all (map m xs)) h.0 (all_add m xs h.1)

cases_add : {X : Type 0} (m : X → Cases) (xs : List X) → AllByRecursion (λ x. AddsCase (m x)) xs → AddsCase (λ t. with_cases t (map m xs))
cases_add m [] h = record { grows = λ t scope z. omega arith; within = λ t c scope z ht b k i. i }
cases_add m (x ∷ xs) h = record {
  grows = λ t scope z. let a = h.0.grows t scope z in let b = (cases_add m xs h.1).grows t scope (m x t scope z) in omega arith;
  within = λ t c scope z ht b k i.
      let a = (cases_add m xs h.1).grows t scope (m x t scope z) in
      (cases_add m xs h.1).within t c scope (m x t scope z) ht b k (h.0.within t c scope z ht b (omega arith) i);
}

-- ---- form by form

assigned_adds : (xs : List Bound) (es : List Formula) → Adds (assigned xs es)
assigned_adds xs es = record {
  grows = λ scope z. let a = (targets_add xs).grows scope z in let b = values_grow z.next es scope (with_targets xs scope z) in omega arith;
  within = λ c scope z b k h.
      let a = (targets_add xs).grows scope z in
      let r = values_grow z.next es scope (with_targets xs scope z) in
      values_within z.next c es scope (with_targets xs scope z) a b k ((targets_add xs).within c scope z b (omega arith) h);
}

updated_adds : (f : Bound) (e v : Formula) → Adds (updated f e v)
updated_adds f e v = record {
  grows = λ scope z. omega arith;
  within = λ c scope z b k h.
      let y = with_target f scope z in
      let x = with_formula e scope y in
      let one = whole_inside e scope y in
      let two = whole_inside v scope x in
      within_both c (with_formula v scope x).demands (obeying rule.Application z.next (whole_after e y) (whole_after v x) ∷ [])
      ((formula_adds v).within c scope x b k ((formula_adds e).within c scope y b (omega arith) ((target_adds f).within c scope z b (omega arith) h)))
      (kept_by c rule.Application z.next (whole_after e y) (whole_after v x) (omega arith) (omega arith) (omega arith));
}

chosen_from_adds : (x : Bound) (e : Formula) → Adds (chosen_from x e)
chosen_from_adds x e = record {
  grows = λ scope z. omega arith;
  within = λ c scope z b k h.
      let y = with_target x scope z in
      let one = whole_inside e scope y in
      within_both c (with_formula e scope y).demands (obeying rule.Singleton z.next z.next (whole_after e y) ∷ [])
      ((formula_adds e).within c scope y b k ((target_adds x).within c scope z b (omega arith) h))
      (kept_by c rule.Singleton z.next z.next (whole_after e y) (omega arith) (omega arith) (omega arith));
}

chosen_such_adds : (xs : List Bound) (p : Formula) → Adds (chosen_such xs p)
chosen_such_adds xs p = record {
  grows = λ scope z. let a = (targets_add xs).grows scope z in omega arith;
  within = λ c scope z b k h.
      (predicate_adds p).within c (with_old (names_of xs) scope) (with_targets xs scope z) (old_bounded c (names_of xs) scope b) k ((targets_add xs).within c scope z b (omega arith) h);
}

compared_adds : {X : Type 0} (e : Formula) (m : X → Cases) (bs : List X) (o : Option Tells) → AllByRecursion (λ x. AddsCase (m x)) bs → Adds (with_perhaps o) → Adds (compared e (map m bs) o)
compared_adds e m bs o h p = record {
  grows = λ scope z.
      let y = with_formula e scope z in
      let a = (cases_add m bs h).grows (whole_after e z) scope y in
      let b = p.grows scope (with_cases (whole_after e z) (map m bs) scope y) in
      omega arith;
  within = λ c scope z b k i.
      let y = with_formula e scope z in
      let w = whole_inside e scope z in
      let a = (cases_add m bs h).grows (whole_after e z) scope y in
      let r = p.grows scope (with_cases (whole_after e z) (map m bs) scope y) in
      p.within c scope (with_cases (whole_after e z) (map m bs) scope y) b k
      ((cases_add m bs h).within (whole_after e z) c scope y (omega arith) b (omega arith) ((formula_adds e).within c scope z b (omega arith) i));
}

picked_adds : (xs : List Bound) (p : Formula) (s : Tells) → Adds s → Adds (picked xs p s)
picked_adds xs p s h = record {
  grows = λ scope z. let a = h.grows (inside xs scope z) (with_predicate p (inside xs scope z) (with_names xs z)) in omega arith;
  within = λ c scope z b k i.
      let y = with_predicate p (inside xs scope z) (with_names xs z) in
      let a = h.grows (inside xs scope z) y in
      let d = inside_bounded c xs scope z b (omega arith) in
      h.within c (inside xs scope z) y d k ((predicate_adds p).within c (inside xs scope z) (with_names xs z) d (omega arith) (names_within c xs z i));
}

fixed_adds : (xs : List Bound) (es : List Formula) (s : Tells) → Adds s → Adds (fixed xs es s)
fixed_adds xs es s h = record {
  grows = λ scope z. let r = values_grow z.next es scope (with_names xs z) in let a = h.grows (inside xs scope z) (with_values z.next es scope (with_names xs z)) in omega arith;
  within = λ c scope z b k i.
      let y = with_values z.next es scope (with_names xs z) in
      let r = values_grow z.next es scope (with_names xs z) in
      let a = h.grows (inside xs scope z) y in
      h.within c (inside xs scope z) y (inside_bounded c xs scope z b (omega arith)) k (values_within z.next c es scope (with_names xs z) (omega arith) b (omega arith) (names_within c xs z i));
}

use_adds : Adds (λ scope z. with_demand Unknown z)
use_adds = record { grows = λ scope z. omega arith; within = λ c scope z b k h. within_both c z.demands (Unknown ∷ []) h tt }

-- ---- layer by layer

abbrev PB : Branch → Type 0
PB b = Adds (branch_told b)

abbrev PC : CaseBranch → Type 0
PC b = AddsCase (case_told b)

abbrev PK : Step → Type 0
PK k = Adds (step_told k)

abbrev PS : Subst → Type 0
PS u = Adds (subst_told u)

abbrev read : Subst-F Subst Branch CaseBranch Step → Subst-F Tells Tells Cases Tells
read = map-Subst Subst Branch CaseBranch Step Tells Tells Cases Tells subst_told branch_told case_told step_told

abbrev read_branch : Branch-F Subst Branch CaseBranch Step → Branch-F Tells Tells Cases Tells
read_branch = map-Branch Subst Branch CaseBranch Step Tells Tells Cases Tells subst_told branch_told case_told step_told

abbrev read_case : CaseBranch-F Subst Branch CaseBranch Step → CaseBranch-F Tells Tells Cases Tells
read_case = map-CaseBranch Subst Branch CaseBranch Step Tells Tells Cases Tells subst_told branch_told case_told step_told

abbrev read_step : Step-F Subst Branch CaseBranch Step → Step-F Tells Tells Cases Tells
read_step = map-Step Subst Branch CaseBranch Step Tells Tells Cases Tells subst_told branch_told case_told step_told

layer_adds : (x : Subst-F Subst Branch CaseBranch Step) → Below PB PC PK PS x → Adds (subst_step (read x))
layer_adds (Subst-F.Skip at) h = nothing_adds
layer_adds (Subst-F.Block at r) h = h
layer_adds (Subst-F.Assign at xs es) h = assigned_adds xs es
layer_adds (Subst-F.Update at x e v) h = updated_adds x e v
layer_adds (Subst-F.ChooseFrom at x e) h = chosen_from_adds x e
layer_adds (Subst-F.ChooseSuch at xs p) h = chosen_such_adds xs p
layer_adds (Subst-F.Guarded at g p r) h = then_adds (with_predicate p) (subst_told r) (predicate_adds p) h
layer_adds (Subst-F.If at bs None) h = all_add branch_told bs h.0
layer_adds (Subst-F.If at bs (Some r)) h = then_adds (with_all (map branch_told bs)) (subst_told r) (all_add branch_told bs h.0) h.1
layer_adds (Subst-F.Select at bs None) h = all_add branch_told bs h.0
layer_adds (Subst-F.Select at bs (Some r)) h = then_adds (with_all (map branch_told bs)) (subst_told r) (all_add branch_told bs h.0) h.1
layer_adds (Subst-F.Choice at rs) h = all_add subst_told rs h
layer_adds (Subst-F.Case at e bs None) h = compared_adds e case_told bs None h.0 nothing_adds
layer_adds (Subst-F.Case at e bs (Some r)) h = compared_adds e case_told bs (Some (subst_told r)) h.0 h.1
layer_adds (Subst-F.Any at xs p r) h = picked_adds xs p (subst_told r) h
layer_adds (Subst-F.Let at xs es r) h = fixed_adds xs es (subst_told r) h
layer_adds (Subst-F.Chain r ks) h = then_adds (subst_told r) (with_all (map step_told ks)) h.0 (all_add step_told ks h.1)
layer_adds (Subst-F.Use at x es) h = use_adds

branch_adds : (x : Branch-F Subst Branch CaseBranch Step) → BelowBranch PB PC PK PS x → Adds (branch_step (read_branch x))
branch_adds b h = then_adds (with_predicate b.guard) (subst_told b.body) (predicate_adds b.guard) h

case_adds : (x : CaseBranch-F Subst Branch CaseBranch Step) → BelowCase PB PC PK PS x → AddsCase (case_step (read_case x))
case_adds b h = record {
  grows = λ t scope z. let a = all_alike_grow t b.labels scope z in let r = h.grows scope (with_all_alike t b.labels scope z) in omega arith;
  within = λ t c scope z ht d k i.
      let r = h.grows scope (with_all_alike t b.labels scope z) in
      h.within c scope (with_all_alike t b.labels scope z) d k (all_alike_within t c b.labels scope z ht d (omega arith) i);
}

on_subst : (x : Subst-F Subst Branch CaseBranch Step) → Below PB PC PK PS x → PS (roll-Subst x)
on_subst x h = subst Adds (sym (fold-roll-Subst Tells Tells Cases Tells subst_step branch_step case_step joined_step x)) (layer_adds x h)

on_branch : (x : Branch-F Subst Branch CaseBranch Step) → BelowBranch PB PC PK PS x → PB (roll-Branch x)
on_branch x h = subst Adds (sym (fold-roll-Branch Tells Tells Cases Tells subst_step branch_step case_step joined_step x)) (branch_adds x h)

on_case : (x : CaseBranch-F Subst Branch CaseBranch Step) → BelowCase PB PC PK PS x → PC (roll-CaseBranch x)
on_case x h = subst AddsCase (sym (fold-roll-CaseBranch Tells Tells Cases Tells subst_step branch_step case_step joined_step x)) (case_adds x h)

on_step : (x : Step-F Subst Branch CaseBranch Step) → BelowStep PB PC PK PS x → PK (roll-Step x)
on_step x h = subst Adds (sym (fold-roll-Step Tells Tells Cases Tells subst_step branch_step case_step joined_step x)) h

pub subst_adds : (u : Subst) → Adds (subst_told u)
subst_adds u = by_layers PB PC PK PS on_branch on_case on_step on_subst u
