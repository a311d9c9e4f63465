-- In a table whose definitions stand in the order of use, what names mean in that order is what they mean after enough
-- rounds; and that depends on the first definitions of names alone.
use Rattle.std.proofs.Common.{◌≡◌, ℕ, zero, suc, ◌+◌, ◌<◌, ◌≤◌, Bool, true, false, ◌==◌, ◌&&◌, not, cond, List, [], ◌∷◌, map, take, length, Option, Some, None, refl, sym, ap, subst, ◌∙◌, arith}
use Rattle.std.specs.Prelude.{IfSome, slice_get, option_map, option_and_then, is_some, bytes_eq, position, nat_lt}
use Rattle.std.specs.List.{AllByRecursion, list_all}
use borrow.Author.Tests.{ltb-true, eqb-true}
use Rattle.b_ast.specs.declared.Bound.{Bound}
use Rattle.b_ast.specs.declared.machine.Def.{Def}
use Rattle.b_ast.specs.declared.machine.DefBody.{DefBody}
use Rattle.b_ast.specs.declared.machine.DefBody.TheVariants as body
use Rattle.b_ast.specs.declared.Sort.TheVariants as sort
use Rattle.b_ast.specs.declared.Formula.{Formula, fold-Formula}
use Rattle.b_ast.specs.declared.Formula.TheVariants as formula
use Rattle.b_ast.specs.declared.After.TheOpen.{Formula-F}
use Rattle.b_names.specs.Index.{place_of}
use Rattle.b_expand.specs.Places.{deeper_place, deeper_bound}
use Rattle.b_expand.specs.Expansion.{Scope, Meaning, Meanings, Reading, Form, Side, both, all_three, may_bind, bound, plain, after_step, link_step, formula_step, expanded, meaning_of, meanings, alone, expansion}
use Rattle.b_definitions.specs.Uses.{listed, used_in, used_in_body, used_by}
use Rattle.b_definitions.specs.Tables.{first_named, SameFirst}
use Rattle.b_definitions.specs.Arranging.{ordered_from, is_ordered, IsArranged}
use Rattle.b_definitions.specs.Meaning.{round, rounds, expansion_after, expansion_of, IsSettled}
use Rattle.b_definitions.proofs.Fitting.{fitted, fitting, expanded_fitted}
use Rattle.b_definitions.proofs.Agreeing.{stands_same}
use Rattle.b_definitions.proofs.Firsts.{first_place, places, named_there, both_there, place_within, standing, meaning_from, means_first, means_before}

-- ---- the order of use

pub and_left : (a b : Bool) → (a && b) ≡ true → a ≡ true
and_left true b h = refl
and_left false b h = absurd (cc)

pub and_right : (a b : Bool) → (a && b) ≡ true → b ≡ true
and_right true b h = h
and_right false b h = absurd (cc)

all_below : (i : ℕ) (js : List ℕ) → list_all (λ j. nat_lt j i) js ≡ true → AllByRecursion (λ j. j < i) js
all_below i [] h = tt
all_below i (j ∷ js) h = (ltb-true j i (and_left (nat_lt j i) (list_all (λ j. nat_lt j i) js) h), all_below i js (and_right (nat_lt j i) (list_all (λ j. nat_lt j i) js) h))

ordered_at : (table : List Def) (k : ℕ) (ds : List Def) (i : ℕ) (d : Def) → ordered_from k (map (used_by table) ds) ≡ true → slice_get ds i ≡ Some d → (n : ℕ) → n ≡ k + i → AllByRecursion (λ j. j < n) (used_by table d)
ordered_at table k [] i d h e n f = absurd (cc)
ordered_at table k (c ∷ ds) zero d h e n f =
    let same : c ≡ d = cc in
    let here : n ≡ k = omega arith in
    subst (λ (n : ℕ). AllByRecursion (λ j. j < n) (used_by table d)) (sym here)
    (subst (λ (d : Def). AllByRecursion (λ j. j < k) (used_by table d)) same (all_below k (used_by table c) (and_left (list_all (λ j. nat_lt j k) (used_by table c)) (ordered_from (k + 1) (map (used_by table) ds)) h)))
ordered_at table k (c ∷ ds) (suc i) d h e n f =
    ordered_at table (k + 1) ds i d (and_right (list_all (λ j. nat_lt j k) (used_by table c)) (ordered_from (k + 1) (map (used_by table) ds)) h) e n (omega arith)

-- in a table in the order of use each definition uses those before it
pub uses_before : (table : List Def) → is_ordered table ≡ true → (i : ℕ) (d : Def) → slice_get table i ≡ Some d → AllByRecursion (λ j. j < i) (used_by table d)
uses_before table h i d e = ordered_at table 0 table i d h e i (omega arith)

-- ---- a body under meanings that agree

-- equal where a test passes
where_true : {X : Type 0} (b : Bool) (o p : Option X) → (b ≡ true → o ≡ p) → cond b o None ≡ cond b p None
where_true true o p h = h refl
where_true false o p h = refl

same_count : (m n : ℕ) → (m == n) ≡ true → m ≡ n
same_count m n h = eqb-true m n h

module _ (table : List Def) (means others : Meanings) (P : ℕ → Type 0) (agree : (x : List ℕ) → AllByRecursion P (listed (place_of table x)) → fitting means x ≡ fitting others x) where
  tree_same : (n : ℕ) (ps : List (List ℕ)) (ts : List Formula) (t : Formula) → AllByRecursion P (used_in table ps t) → length ts ≡ length ps
      → expanded table means (record { round = n; params = ps; trees = ts }) t ≡ expanded table others (record { round = n; params = ps; trees = ts }) t
  tree_same n ps ts t h many =
      sym (expanded_fitted table means (record { round = n; params = ps; trees = ts }) t)
      ∙ (stands_same table (fitting means) (fitting others) P agree n ps ts many t h ∙ expanded_fitted table others (record { round = n; params = ps; trees = ts }) t)

  formula_same : (ps : List (List ℕ)) (t : Formula) → AllByRecursion P (used_in table ps t) → (s : Scope)
      → cond (length s.trees == length ps) (expanded table means (record { round = s.round; params = ps; trees = s.trees }) t) None
      ≡ cond (length s.trees == length ps) (expanded table others (record { round = s.round; params = ps; trees = s.trees }) t) None
  formula_same ps t h s = where_true (length s.trees == length ps) _ _ (λ e. tree_same s.round ps s.trees t h (same_count (length s.trees) (length ps) e))

  pub body_same : (ps : List (List ℕ)) (b : DefBody) → AllByRecursion P (used_in_body table ps b) → fitted (meaning_of table means ps b) ≡ fitted (meaning_of table others ps b)
  body_same ps (body.Expr e) h = λ i. record { params = ps; sort = sort.Expression; body = λ s. formula_same ps e.formula h s i }
  body_same ps (body.Pred p) h = λ i. record { params = ps; sort = sort.Predicate; body = λ s. formula_same ps p.formula h s i }
  body_same ps (body.Subst u) h = refl

-- ---- rounds settle

-- what holds of every number
pub all_true : (xs : List ℕ) → AllByRecursion (λ k. Unit {0}) xs
all_true [] = tt
all_true (x ∷ xs) = (tt, all_true xs)

module _ (table : List Def) (ordered : is_ordered table ≡ true) where
  -- a name that isn't defined means nothing
  unnamed : (n : ℕ) (x : List ℕ) → first_place table x ≡ None → rounds table n x ≡ None
  unnamed zero x e = refl
  unnamed (suc n) x e = ap (option_map (λ (d : Def). meaning_of table (rounds table n) d.params d.body)) (named_there table x ∙ ap (option_and_then (slice_get table)) e)

  unmeant : (x : List ℕ) → first_place table x ≡ None → meanings table table x ≡ None
  unmeant x e = means_first table (λ y. None) table x refl ∙ ap (option_and_then (meaning_from table (λ y. None) table)) e

  meant_at : (x : List ℕ) (j : ℕ) (d : Def) → first_place table x ≡ Some j → slice_get table j ≡ Some d → meanings table table x ≡ Some (meaning_of table (meanings table (take j table)) d.params d.body)
  meant_at x j d e g =
      means_first table (λ y. None) table x refl
      ∙ (ap (option_and_then (meaning_from table (λ y. None) table)) e ∙ ap (option_map (λ (d : Def). meaning_of table (meanings table (take j table)) d.params d.body)) g)

  round_at : (n : ℕ) (x : List ℕ) (j : ℕ) (d : Def) → first_place table x ≡ Some j → slice_get table j ≡ Some d → rounds table (suc n) x ≡ Some (meaning_of table (rounds table n) d.params d.body)
  round_at n x j d e g = ap (option_map (λ (d : Def). meaning_of table (rounds table n) d.params d.body)) (named_there table x ∙ (ap (option_and_then (slice_get table)) e ∙ g))

  -- a body that uses definitions before a place alone
  step : (j : ℕ) (d : Def) → slice_get table j ≡ Some d → (means : Meanings) → ((x : List ℕ) → AllByRecursion (λ k. k < j) (listed (first_place table x)) → fitting means x ≡ fitting (meanings table table) x)
      → fitted (meaning_of table means d.params d.body) ≡ fitted (meaning_of table (meanings table (take j table)) d.params d.body)
  step j d g means agree =
      body_same table means (meanings table (take j table)) (λ k. k < j) (λ x h.
      let k : AllByRecursion (λ k. k < j) (listed (first_place table x)) = subst (λ (o : Option ℕ). AllByRecursion (λ k. k < j) (listed o)) (places table x) h in
      agree x k ∙ sym (ap (option_map fitted) (means_before table (λ y. None) table j x refl k)))
      d.params d.body (uses_before table ordered j d g)

  -- a name of those before a place
  earlier : (n j : ℕ) → j ≤ n → ((y : List ℕ) (i : ℕ) → first_place table y ≡ Some i → i < n → fitting (rounds table n) y ≡ fitting (meanings table table) y)
      → (y : List ℕ) (o : Option ℕ) → first_place table y ≡ o → AllByRecursion (λ k. k < j) (listed o) → fitting (rounds table n) y ≡ fitting (meanings table table) y
  earlier n j h again y None f k = ap (option_map fitted) (unnamed n y f ∙ sym (unmeant y f))
  earlier n j h again y (Some i) f k = let l : i < j = k.0 in again y i f (omega arith)

  one_round : (n : ℕ) → ((y : List ℕ) (i : ℕ) → first_place table y ≡ Some i → i < n → fitting (rounds table n) y ≡ fitting (meanings table table) y)
      → (x : List ℕ) (j : ℕ) → first_place table x ≡ Some j → j < suc n → fitting (rounds table (suc n)) x ≡ fitting (meanings table table) x
  one_round n again x j e h = go (standing table j (subst (λ (o : Option ℕ). IfSome o (λ i. i < length table)) e (place_within table x)))
    where
      go : (d : Def) × (slice_get table j ≡ Some d) → fitting (rounds table (suc n)) x ≡ fitting (meanings table table) x
      go d =
          ap (option_map fitted) (round_at n x j d.0 e d.1)
          ∙ (ap (λ (m : Meaning). Some m) (step j d.0 d.1 (rounds table n) (λ y k. earlier n j (omega arith) again y (first_place table y) refl k)) ∙ sym (ap (option_map fitted) (meant_at x j d.0 e d.1)))

  -- after as many rounds as its place asks, a name means what it means in the order of use
  settled : (n : ℕ) (x : List ℕ) (j : ℕ) → first_place table x ≡ Some j → j < n → fitting (rounds table n) x ≡ fitting (meanings table table) x
  settled zero x j e h = absurd (omega arith)
  settled (suc n) x j e h = one_round n (settled n) x j e h

  all_settled : (n : ℕ) → length table ≤ n → (x : List ℕ) (o : Option ℕ) → first_place table x ≡ o → fitting (rounds table n) x ≡ fitting (meanings table table) x
  all_settled n h x None e = ap (option_map fitted) (unnamed n x e ∙ sym (unmeant x e))
  all_settled n h x (Some j) e = let k : j < length table = subst (λ (o : Option ℕ). IfSome o (λ i. i < length table)) e (place_within table x) in settled n x j e (omega arith)

  -- so does a formula
  pub formula_settled : (n : ℕ) → length table ≤ n → (t : Formula) → expansion_after n table t ≡ expansion table t
  formula_settled n h t =
      tree_same table (rounds table n) (meanings table table) (λ k. Unit {0}) (λ x k. all_settled n h x (first_place table x) refl) 0 [] [] t (all_true (used_in table [] t)) refl

-- ---- tables with the same first definitions

module _ (old new : List Def) (same : (x : List ℕ) → first_named x new ≡ first_named x old) where
  -- they have definitions of the same names
  pub defined_same : (x : List ℕ) → is_some (place_of old x) ≡ is_some (place_of new x)
  defined_same x = ap is_some (places old x) ∙ (both_there old x ∙ (sym (ap is_some (same x)) ∙ (sym (both_there new x) ∙ sym (ap is_some (places new x)))))

  may_bind_same : (s : Scope) (x : Bound) → may_bind old s x ≡ may_bind new s x
  may_bind_same s x = ap (λ (b : Bool). not b && not (is_some (position (bytes_eq x.name) s.params))) (defined_same x.name)

  bound_same : (s : Scope) (xs : List Bound) → bound old s xs ≡ bound new s xs
  bound_same s xs = λ i. cond (list_all (λ x. may_bind_same s x i) xs) (Some (map (deeper_bound s.round) xs)) None

  step_same : (means : Meanings) (y : Formula-F Form Reading Side) → formula_step old means y ≡ formula_step new means y
  step_same means (Formula-F.Comprehension at xs r) = λ i. plain (λ s. both (formula.Comprehension (deeper_place s.round at)) (bound_same s xs i) (r.tree s))
  step_same means (Formula-F.Quantified at q xs r) = λ i. plain (λ s. both (formula.Quantified (deeper_place s.round at) q) (bound_same s xs i) (r.tree s))
  step_same means (Formula-F.Collected at c xs q r) = λ i. plain (λ s. all_three (formula.Collected (deeper_place s.round at) c) (bound_same s xs i) (q.tree s) (r.tree s))
  step_same means y = refl

  expanded_same : (means : Meanings) (s : Scope) (t : Formula) → expanded old means s t ≡ expanded new means s t
  expanded_same means s t = λ i. (fold-Formula Form Reading Side after_step (λ y. step_same means y i) link_step t).tree s

  meaning_same : (means : Meanings) (ps : List (List ℕ)) (b : DefBody) → meaning_of old means ps b ≡ meaning_of new means ps b
  meaning_same means ps (body.Expr e) = λ i. record { params = ps; sort = sort.Expression; body = λ s. expanded_same means s e.formula i }
  meaning_same means ps (body.Pred p) = λ i. record { params = ps; sort = sort.Predicate; body = λ s. expanded_same means s p.formula i }
  meaning_same means ps (body.Subst u) = refl

  round_same : (means : Meanings) (x : List ℕ) → round old means x ≡ round new means x
  round_same means x =
      ap (λ (f : Def → Meaning). option_map f (first_named x old)) (λ i d. meaning_same means d.params d.body i)
      ∙ ap (option_map (λ (d : Def). meaning_of new means d.params d.body)) (sym (same x))

  pub rounds_same : (n : ℕ) → rounds old n ≡ rounds new n
  rounds_same zero = refl
  rounds_same (suc n) = (λ i x. round_same (rounds old n) x i) ∙ ap (round new) (rounds_same n)

  pub after_same : (n : ℕ) (t : Formula) → expansion_after n old t ≡ expansion_after n new t
  after_same n t = ap (λ (m : Meanings). expanded old m alone t) (rounds_same n) ∙ expanded_same (rounds new n) alone t

-- ---- tables that can be arranged

-- the tree that a formula stands for in the order of use is the one that it stands for
pub order_is_none : (old new : List Def) → IsArranged old new → (t : Formula) → expansion new t ≡ expansion_of old t
unfolding SameFirst
order_is_none old new h t =
    let many : length new ≤ length old = let e = h.many in omega arith in
    sym (formula_settled new h.ordered (length old) many t) ∙ sym (after_same old new h.first (length old) t)

-- no further round changes anything
pub arranged_settles : (old new : List Def) → IsArranged old new → IsSettled old
unfolding SameFirst
arranged_settles old new h n l t =
    let many : length new ≤ n = let e = h.many in omega arith in
    after_same old new h.first n t ∙ (formula_settled new h.ordered n many t ∙ order_is_none old new h t)
