-- Parts that are built from behind, and parts within the limits.
use Rattle.std.proofs.Common.{◌≡◌, ◌≤◌, ℕ, ◌+◌, min, max, List, [], ◌∷◌, ◌++◌, map, fold, reverse, Option, Some, None, refl, sym, ap, subst, ◌∙◌, append_assoc, arith}
use Rattle.std.specs.Prelude.{option_map}
use Rattle.std.specs.List.{AllByRecursion}
use Rattle.std.proofs.lemmas.List.{append-nil, reverse-append}
use Rattle.b_ast.specs.declared.Place.{Place}
use Rattle.b_ast.specs.declared.Formula.{Formula}
use Rattle.b_ast.specs.declared.machine.Def.{Def}
use Rattle.b_ast.specs.declared.machine.Operation.{Operation}
use Rattle.b_ast.specs.declared.machine.Subst.{Subst}
use Rattle.b_machine_grammar.specs.declared.trees.Clause.{Clause}
use Rattle.b_machine_grammar.specs.declared.trees.Clause.TheVariants as clause
use Rattle.b_expand.specs.Expansion.{both, all_of}
use Rattle.b_summaries.specs.declared.summary.Size.{Size}
use Rattle.b_summaries.specs.Sizes.{plus, deeper_of, size_of}
use Rattle.b_summaries.specs.Summaries.{node}
use Rattle.b_substitutions.specs.Expansion.{subst_expansion}
use Rattle.b_substitutions.specs.Sizes.{size_of_subst}
use Rattle.b_substitutions.specs.Limits.{IsShallow, IsSmall, IsWithin, IsWithinLimits}
use Rattle.b_machine_text.specs.Machines.{expanded_predicate, expanded_predicates, expanded_operation, expanded_operations, expanded_clause, expanded_clauses, with_formula, with_body, with_operation, with_size_of, size_of_clauses}
use Rattle.b_machine_text.specs.Limits.{IsFormulaWithin, IsPredicateWithin, ArePredicatesWithin, IsOperationWithin, AreOperationsWithin, ArePartsWithin, IsClauseWithin, AreClausesWithin}

-- ---- from behind

-- what is there before some others
abbrev pub before : {Y : Type 0} → Option (List Y) → List Y → Option (List Y)
before o ys = option_map (λ xs. xs ++ ys) o

module _ {X Y : Type 0} (g : X → Option Y) where
  all_last : (xs : List X) (x : X) → all_of (map g (xs ++ x ∷ [])) ≡ both (λ ys y. ys ++ y ∷ []) (all_of (map g xs)) (g x)
  all_last [] x = go (g x)
    where
      go : (o : Option Y) → both (λ y ys. y ∷ ys) o (Some []) ≡ both (λ ys y. ys ++ y ∷ []) (Some []) o
      go None = refl
      go (Some y) = refl
  all_last (w ∷ xs) x = ap (both (λ y ys. y ∷ ys) (g w)) (all_last xs x) ∙ go (g w) (all_of (map g xs)) (g x)
    where
      go : (a : Option Y) (b : Option (List Y)) (c : Option Y) → both (λ y ys. y ∷ ys) a (both (λ ys y. ys ++ y ∷ []) b c) ≡ both (λ ys y. ys ++ y ∷ []) (both (λ y ys. y ∷ ys) a b) c
      go None b c = refl
      go (Some a) None c = refl
      go (Some a) (Some b) None = refl
      go (Some a) (Some b) (Some c) = refl

  -- one more from behind
  pub built_on : (left rest : List X) (x : X) (y : Y) (found more : List Y) (all : Option (List Y)) → before (all_of (map g left)) (reverse found) ≡ all → left ≡ rest ++ x ∷ [] → g x ≡ Some y → more ≡ found ++ y ∷ [] → before (all_of (map g rest)) (reverse more) ≡ all
  built_on left rest x y found more all h e k f =
      ap (λ (m : List Y). before (all_of (map g rest)) (reverse m)) f
      ∙ (ap (before (all_of (map g rest))) (reverse-append found (y ∷ []))
      ∙ (go (all_of (map g rest))
      ∙ (ap (λ (o : Option Y). before (both (λ ys y. ys ++ y ∷ []) (all_of (map g rest)) o) (reverse found)) (sym k)
      ∙ (ap (λ (o : Option (List Y)). before o (reverse found)) (sym (all_last rest x))
      ∙ (ap (λ (m : List X). before (all_of (map g m)) (reverse found)) (sym e) ∙ h)))))
    where
      go : (o : Option (List Y)) → before o (y ∷ reverse found) ≡ before (both (λ ys y. ys ++ y ∷ []) o (Some y)) (reverse found)
      go None = refl
      go (Some ys) = ap Some (sym (append_assoc ys (y ∷ []) (reverse found)))

  -- nothing is built yet
  pub built_none : (xs : List X) (found : List Y) → found ≡ [] → before (all_of (map g xs)) (reverse found) ≡ all_of (map g xs)
  built_none xs found e = ap (λ (ys : List Y). before (all_of (map g xs)) (reverse ys)) e ∙ go (all_of (map g xs))
    where
      go : (o : Option (List Y)) → before o [] ≡ o
      go None = refl
      go (Some ys) = ap Some (append-nil ys)

  pub built_all : (xs : List X) (left : List X) (found : List Y) → before (all_of (map g left)) (reverse found) ≡ all_of (map g xs) → left ≡ [] → all_of (map g xs) ≡ Some (reverse found)
  built_all xs left found h e = sym h ∙ ap (λ (m : List X). before (all_of (map g m)) (reverse found)) e

-- what holds of all holds of the last and of those before it
all_but : {X : Type 0} (P : X → Type 0) (left rest : List X) (x : X) → left ≡ rest ++ x ∷ [] → AllByRecursion P left → AllByRecursion P rest × P x
all_but {X} P left rest x e h = go rest (subst (AllByRecursion P) e h)
  where
    go : (rest : List X) → AllByRecursion P (rest ++ x ∷ []) → AllByRecursion P rest × P x
    go [] h = (tt, h.0)
    go (y ∷ rest) h = let k = go rest h.1 in ((h.0, k.0), k.1)

pub predicates_on : (table : List Def) (left rest : List Formula) (x y : Formula) (found more : List Formula) (all : Option (List Formula)) → before (all_of (map (expanded_predicate table) left)) (reverse found) ≡ all → left ≡ rest ++ x ∷ [] → expanded_predicate table x ≡ Some y → more ≡ found ++ y ∷ []
    → before (all_of (map (expanded_predicate table) rest)) (reverse more) ≡ all
predicates_on table = built_on (expanded_predicate table)

pub predicates_built : (table : List Def) (xs left : List Formula) (found : List Formula) → before (all_of (map (expanded_predicate table) left)) (reverse found) ≡ all_of (map (expanded_predicate table) xs) → left ≡ [] → all_of (map (expanded_predicate table) xs) ≡ Some (reverse found)
predicates_built table = built_all (expanded_predicate table)

pub predicates_rest : (table : List Def) (left rest : List Formula) (x : Formula) → left ≡ rest ++ x ∷ [] → ArePredicatesWithin table left → ArePredicatesWithin table rest
predicates_rest table left rest x e h = record { all = (all_but (IsPredicateWithin table) left rest x e h.all).0 }

pub predicate_last : (table : List Def) (left rest : List Formula) (x : Formula) → left ≡ rest ++ x ∷ [] → ArePredicatesWithin table left → IsPredicateWithin table x
predicate_last table left rest x e h = (all_but (IsPredicateWithin table) left rest x e h.all).1

pub operations_on : (table : List Def) (left rest : List Operation) (x y : Operation) (found more : List Operation) (all : Option (List Operation)) → before (all_of (map (expanded_operation table) left)) (reverse found) ≡ all → left ≡ rest ++ x ∷ [] → expanded_operation table x ≡ Some y → more ≡ found ++ y ∷ []
    → before (all_of (map (expanded_operation table) rest)) (reverse more) ≡ all
operations_on table = built_on (expanded_operation table)

pub operations_built : (table : List Def) (xs left : List Operation) (found : List Operation) → before (all_of (map (expanded_operation table) left)) (reverse found) ≡ all_of (map (expanded_operation table) xs) → left ≡ [] → all_of (map (expanded_operation table) xs) ≡ Some (reverse found)
operations_built table = built_all (expanded_operation table)

pub operations_rest : (table : List Def) (left rest : List Operation) (x : Operation) → left ≡ rest ++ x ∷ [] → AreOperationsWithin table left → AreOperationsWithin table rest
operations_rest table left rest x e h = record { all = (all_but (IsOperationWithin table) left rest x e h.all).0 }

pub operation_last : (table : List Def) (left rest : List Operation) (x : Operation) → left ≡ rest ++ x ∷ [] → AreOperationsWithin table left → IsOperationWithin table x
operation_last table left rest x e h = (all_but (IsOperationWithin table) left rest x e h.all).1

pub clauses_on : (table : List Def) (left rest : List Clause) (x y : Clause) (found more : List Clause) (all : Option (List Clause)) → before (all_of (map (expanded_clause table) left)) (reverse found) ≡ all → left ≡ rest ++ x ∷ [] → expanded_clause table x ≡ Some y → more ≡ found ++ y ∷ []
    → before (all_of (map (expanded_clause table) rest)) (reverse more) ≡ all
clauses_on table = built_on (expanded_clause table)

pub clauses_built : (table : List Def) (xs left : List Clause) (found : List Clause) → before (all_of (map (expanded_clause table) left)) (reverse found) ≡ all_of (map (expanded_clause table) xs) → left ≡ [] → all_of (map (expanded_clause table) xs) ≡ Some (reverse found)
clauses_built table = built_all (expanded_clause table)

pub clauses_rest : (table : List Def) (left rest : List Clause) (x : Clause) → left ≡ rest ++ x ∷ [] → AreClausesWithin table left → AreClausesWithin table rest
clauses_rest table left rest x e h = record { all = (all_but (IsClauseWithin table) left rest x e h.all).0 }

pub clause_last : (table : List Def) (left rest : List Clause) (x : Clause) → left ≡ rest ++ x ∷ [] → AreClausesWithin table left → IsClauseWithin table x
clause_last table left rest x e h = (all_but (IsClauseWithin table) left rest x e h.all).1

-- ---- within the limits

shallow_parts : (a b : Option ℕ) → IsShallow (deeper_of a b) → IsShallow a × IsShallow b
shallow_parts None None h = (tt, tt)
shallow_parts None (Some n) h = (tt, h)
shallow_parts (Some m) None h = (h, tt)
shallow_parts (Some m) (Some n) h = (omega arith, omega arith)

-- parts of what is small are small
small_parts : (a b : Size) → IsSmall (plus a b) → IsSmall a × IsSmall b
small_parts a b h =
    let k = shallow_parts a.depth b.depth h.1 in
    ((omega (arith, h.0), k.0), (omega (arith, h.0), k.1))

module _ {X Y : Type 0} (f : Size → Y → Size) (g : X → Option Y) (P : X → Type 0)
    (part : (z : Size) (x : X) (y : Y) → g x ≡ Some y → IsSmall (f z y) → IsSmall z × P x) where
  all_small : (xs : List X) (ys : List Y) (z : Size) → all_of (map g xs) ≡ Some ys → IsSmall (fold f z ys) → IsSmall z × AllByRecursion P xs
  all_small [] [] z e h = (h, tt)
  all_small [] (y ∷ ys) z e h = absurd (cc)
  all_small (x ∷ xs) ys z e h = go (all_small xs) (g x) refl (all_of (map g xs)) refl e
    where
      go : ((ys : List Y) (z : Size) → all_of (map g xs) ≡ Some ys → IsSmall (fold f z ys) → IsSmall z × AllByRecursion P xs)
          → (o : Option Y) → g x ≡ o → (os : Option (List Y)) → all_of (map g xs) ≡ os → both (λ y ys. y ∷ ys) o os ≡ Some ys → IsSmall z × AllByRecursion P (x ∷ xs)
      go more None i os j e = absurd (cc)
      go more (Some y) i None j e = absurd (cc)
      go more (Some y) i (Some vs) j e =
          let same : y ∷ vs ≡ ys = cc in
          let k = more vs (f z y) j (subst (λ (us : List Y). IsSmall (fold f z us)) (sym same) h) in
          let m = part z x y i k.0 in
          (m.0, (m.1, k.1))

predicate_small : (table : List Def) (z : Size) (x y : Formula) → expanded_predicate table x ≡ Some y → IsSmall (with_formula z y) → IsSmall z × IsPredicateWithin table x
predicate_small table z x y e h = let k = small_parts z (size_of y) h in (k.0, record { within = subst IsFormulaWithin (sym e) k.1 })

body_small : (table : List Def) (z : Size) (x y : Subst) → subst_expansion table x ≡ Some y → IsSmall (with_body z y) → IsSmall z × IsWithinLimits table x
body_small table z x y e h = let k = small_parts z (size_of_subst y) h in (k.0, record { within = subst IsWithin (sym e) k.1 })

operation_small : (table : List Def) (z : Size) (x y : Operation) → expanded_operation table x ≡ Some y → IsSmall (with_operation z y) → IsSmall z × IsOperationWithin table x
operation_small table z x y e h = go (subst_expansion table x.body) refl e
  where
    go : (o : Option Subst) → subst_expansion table x.body ≡ o → option_map (λ u. record x { body = u }) o ≡ Some y → IsSmall z × IsOperationWithin table x
    go None i e = absurd (cc)
    go (Some u) i e =
        let same : record x { body = u } ≡ y = cc in
        let k = body_small table z x.body u i (subst (λ (o : Operation). IsSmall (with_operation z o)) (sym same) h) in
        (k.0, record { within = k.1 })

-- the part of a clause, from the clause
module _ {X : Type 0} (c : X → Clause) (z : Size) where
  of_part : (o : Option X) (y : Clause) → option_map c o ≡ Some y → (Q : Type 0) → ((x : X) → o ≡ Some x → c x ≡ y → Q) → Q
  of_part None y e Q k = absurd (cc)
  of_part (Some x) y e Q k = k x refl (cc)

-- with a clause that is there
abbrev WithSize : Size → Option Clause → Type 0
WithSize z None = Unit {0}
WithSize z (Some c) = IsSmall (with_size_of z c)

parts_small : (table : List Def) (z : Size) (x y : Clause) → expanded_clause table x ≡ Some y → IsSmall (with_size_of z y) → IsSmall z × ArePartsWithin table x
parts_small table z (clause.Properties at e) y i h =
    of_part (clause.Properties at) z (expanded_predicate table e) y i (IsSmall z × IsPredicateWithin table e) (λ x j s. predicate_small table z e x j (subst (λ (c : Clause). IsSmall (with_size_of z c)) (sym s) h))
parts_small table z (clause.Invariant at e) y i h =
    of_part (clause.Invariant at) z (expanded_predicate table e) y i (IsSmall z × IsPredicateWithin table e) (λ x j s. predicate_small table z e x j (subst (λ (c : Clause). IsSmall (with_size_of z c)) (sym s) h))
parts_small table z (clause.Assertions at es) y i h =
    of_part (clause.Assertions at) z (expanded_predicates table es) y i (IsSmall z × ArePredicatesWithin table es)
    (λ xs j s. let k = all_small with_formula (expanded_predicate table) (IsPredicateWithin table) (predicate_small table) es xs z j (subst (λ (c : Clause). IsSmall (with_size_of z c)) (sym s) h) in (k.0, record { all = k.1 }))
parts_small table z (clause.Initialisation at u) y i h =
    of_part (clause.Initialisation at) z (subst_expansion table u) y i (IsSmall z × IsWithinLimits table u) (λ x j s. body_small table z u x j (subst (λ (c : Clause). IsSmall (with_size_of z c)) (sym s) h))
parts_small table z (clause.Operations at os) y i h =
    of_part (clause.Operations at) z (expanded_operations table os) y i (IsSmall z × AreOperationsWithin table os)
    (λ xs j s. let k = all_small with_operation (expanded_operation table) (IsOperationWithin table) (operation_small table) os xs z j (subst (λ (c : Clause). IsSmall (with_size_of z c)) (sym s) h) in (k.0, record { all = k.1 }))
parts_small table z (clause.Sets at ss) y i h = (subst (λ (o : Option Clause). WithSize z o) (sym i) h, tt)
parts_small table z (clause.Constants at xs) y i h = (subst (λ (o : Option Clause). WithSize z o) (sym i) h, tt)
parts_small table z (clause.AbstractConstants at xs) y i h = (subst (λ (o : Option Clause). WithSize z o) (sym i) h, tt)
parts_small table z (clause.Variables at xs) y i h = (subst (λ (o : Option Clause). WithSize z o) (sym i) h, tt)
parts_small table z (clause.ConcreteVariables at xs) y i h = (subst (λ (o : Option Clause). WithSize z o) (sym i) h, tt)
parts_small table z (clause.Definitions at ds) y i h = (subst (λ (o : Option Clause). WithSize z o) (sym i) h, tt)

clause_small : (table : List Def) (z : Size) (x y : Clause) → expanded_clause table x ≡ Some y → IsSmall (with_size_of z y) → IsSmall z × IsClauseWithin table x
clause_small table z x y i h = let k = parts_small table z x y i h in (k.0, record { parts = k.1 })

-- the clauses of a machine within the limits are within them
pub clauses_small : (table : List Def) (cs ds : List Clause) → expanded_clauses table cs ≡ Some ds → IsSmall (size_of_clauses ds) → AreClausesWithin table cs
clauses_small table cs ds e h = record { all = (all_small with_size_of (expanded_clause table) (IsClauseWithin table) (clause_small table) cs ds node e h).1 }
