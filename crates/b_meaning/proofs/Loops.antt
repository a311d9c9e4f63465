-- Loops over operands, operators and connectives.
use Rattle.std.proofs.Common.{◌≡◌, ◌<◌, ◌+◌, ℕ, suc, Bool, List, [], ◌∷◌, ◌++◌, length, map, drop, get_or, drop-cons, add-one, Result, Ok, Err, refl, sym, ap, ◌∙◌, subst, append_assoc}
use Rattle.std.specs.List.{AllByRecursion}
use Rattle.ascending.specs.Members.{all_append}
use Rattle.b_meaning.specs.Meaning.{value_of, values_of, link_of, clause_of, power_of, chained, joined, each_base}
use Rattle.b_places.specs.Places.{with_some}
use Rattle.b_places.specs.Scopes.{Slots}
use Rattle.b_rows.specs.Answers.{Answer, bind, Means, MeansBy}
use Rattle.b_rows.specs.declared.EvalStop.{EvalStop}
use Rattle.b_rows.specs.declared.EvalStop.TheVariants.{Fault, Memory}
use Rattle.b_tree.specs.declared.Clause.{Clause}
use Rattle.b_tree.specs.declared.ExprTree.{ExprTree}
use Rattle.b_tree.specs.declared.Link.{Link}
use Rattle.b_tree.specs.declared.Power.{Power}
use Rattle.std.specs.Prelude.{Option, Some, None, IfSome}
use Rattle.b_values.specs.Values.{IsValue}
use Rattle.b_values.specs.declared.values.Value.{Value}

put_after : (found : List Value) (v : Value) (m : Answer (List Value)) → bind (bind m (λ vs. Ok (v ∷ vs))) (λ vs. Ok (found ++ vs)) ≡ bind m (λ vs. Ok ((found ++ v ∷ []) ++ vs))
put_after found v (Ok vs) = ap Ok (sym (append_assoc found (v ∷ []) vs))
put_after found v (Err f) = refl

-- ---- the values of several expressions

module _ (n : ℕ) (env : Slots) (whole : Answer (List Value)) (all : List ExprTree) (found : List Value) (i : ℕ) (e : ExprTree) (below : i < length all) (at : e ≡ get_or all i e)
    (state : whole ≡ bind (values_of n (drop i all) env) (λ vs. Ok (found ++ vs))) where
  first_expr : whole ≡ bind (values_of n (e ∷ drop (i + 1) all) env) (λ vs. Ok (found ++ vs))
  first_expr =
      let rest : drop i all ≡ e ∷ drop (i + 1) all = rw (add-one, drop-cons all i e) (ap (λ x. x ∷ drop (suc i) all) (sym at)) in
      state ∙ ap (λ (l : List ExprTree). bind (values_of n l env) (λ vs. Ok (found ++ vs))) rest

  pub listed : (v : Value) (more : List Value) → value_of n e env ≡ Ok v → more ≡ found ++ v ∷ [] → whole ≡ bind (values_of n (drop (i + 1) all) env) (λ vs. Ok (more ++ vs))
  listed v more h g =
      first_expr ∙ ap (λ a. bind (bind a (λ v. bind (values_of n (drop (i + 1) all) env) (λ vs. Ok (v ∷ vs)))) (λ vs. Ok (found ++ vs))) h
      ∙ put_after found v (values_of n (drop (i + 1) all) env)
      ∙ ap (λ (l : List Value). bind (values_of n (drop (i + 1) all) env) (λ vs. Ok (l ++ vs))) (sym g)

  pub unlisted : {X : Type 0} (view : X → List Value) (stop : EvalStop) → Means (value_of n e env) (Err stop) → MeansBy view whole (Err stop)
  unlisted view (Fault f) h = first_expr ∙ ap (λ a. bind (bind a (λ v. bind (values_of n (drop (i + 1) all) env) (λ vs. Ok (v ∷ vs)))) (λ vs. Ok (found ++ vs))) h
  unlisted view Memory h = tt

-- ---- the operands of `**`

module _ (n : ℕ) (env : Slots) (whole : Answer (List Value)) (all : List Power) (found : List Value) (i : ℕ) (p : Power) (below : i < length all) (at : p ≡ get_or all i p)
    (state : whole ≡ bind (each_base (map (power_of n) (drop i all)) env) (λ vs. Ok (found ++ vs))) where
  first_base : whole ≡ bind (each_base (map (power_of n) (p ∷ drop (i + 1) all)) env) (λ vs. Ok (found ++ vs))
  first_base =
      let rest : drop i all ≡ p ∷ drop (i + 1) all = rw (add-one, drop-cons all i p) (ap (λ x. x ∷ drop (suc i) all) (sym at)) in
      state ∙ ap (λ (l : List Power). bind (each_base (map (power_of n) l) env) (λ vs. Ok (found ++ vs))) rest

  pub listed_base : (v : Value) (more : List Value) → (power_of n p).base env ≡ Ok v → more ≡ found ++ v ∷ [] → whole ≡ bind (each_base (map (power_of n) (drop (i + 1) all)) env) (λ vs. Ok (more ++ vs))
  listed_base v more h g =
      first_base ∙ ap (λ a. bind (bind a (λ v. bind (each_base (map (power_of n) (drop (i + 1) all)) env) (λ vs. Ok (v ∷ vs)))) (λ vs. Ok (found ++ vs))) h
      ∙ put_after found v (each_base (map (power_of n) (drop (i + 1) all)) env)
      ∙ ap (λ (l : List Value). bind (each_base (map (power_of n) (drop (i + 1) all)) env) (λ vs. Ok (l ++ vs))) (sym g)

  pub unlisted_base : {X : Type 0} (view : X → List Value) (stop : EvalStop) → Means ((power_of n p).base env) (Err stop) → MeansBy view whole (Err stop)
  unlisted_base view (Fault f) h = first_base ∙ ap (λ a. bind (bind a (λ v. bind (each_base (map (power_of n) (drop (i + 1) all)) env) (λ vs. Ok (v ∷ vs)))) (λ vs. Ok (found ++ vs))) h
  unlisted_base view Memory h = tt

-- ---- operators from left to right

module _ (n : ℕ) (env : Slots) (whole : Answer Value) (all : List Link) (x : Value) (i : ℕ) (l : Link) (below : i < length all) (at : l ≡ get_or all i l)
    (state : whole ≡ chained (map (link_of n) (drop i all)) env x) where
  first_link : whole ≡ bind (link_of n l x env) (chained (map (link_of n) (drop (i + 1) all)) env)
  first_link =
      let rest : drop i all ≡ l ∷ drop (i + 1) all = rw (add-one, drop-cons all i l) (ap (λ x. x ∷ drop (suc i) all) (sym at)) in
      state ∙ ap (λ (ls : List Link). chained (map (link_of n) ls) env x) rest

  pub followed : (y z : Value) → link_of n l x env ≡ Ok y → z ≡ y → whole ≡ chained (map (link_of n) (drop (i + 1) all)) env z
  followed y z h g = first_link ∙ ap (λ (a : Answer Value). bind a (chained (map (link_of n) (drop (i + 1) all)) env)) h ∙ ap (chained (map (link_of n) (drop (i + 1) all)) env) (sym g)

  pub unfollowed : (stop : EvalStop) → Means (link_of n l x env) (Err stop) → Means whole (Err stop)
  unfollowed (Fault f) h = first_link ∙ ap (λ (a : Answer Value). bind a (chained (map (link_of n) (drop (i + 1) all)) env)) h
  unfollowed Memory h = tt

-- ---- connectives from left to right

module _ (n : ℕ) (env : Slots) (whole : Answer Bool) (all : List Clause) (x : Bool) (i : ℕ) (c : Clause) (below : i < length all) (at : c ≡ get_or all i c)
    (state : whole ≡ joined (map (clause_of n) (drop i all)) env x) where
  first_clause : whole ≡ bind (clause_of n c x env) (joined (map (clause_of n) (drop (i + 1) all)) env)
  first_clause =
      let rest : drop i all ≡ c ∷ drop (i + 1) all = rw (add-one, drop-cons all i c) (ap (λ x. x ∷ drop (suc i) all) (sym at)) in
      state ∙ ap (λ (cs : List Clause). joined (map (clause_of n) cs) env x) rest

  pub joins : (y : Bool) → clause_of n c x env ≡ Ok y → whole ≡ joined (map (clause_of n) (drop (i + 1) all)) env y
  joins y h = first_clause ∙ ap (λ (a : Answer Bool). bind a (joined (map (clause_of n) (drop (i + 1) all)) env)) h

  pub unjoined : (stop : EvalStop) → Means (clause_of n c x env) (Err stop) → Means whole (Err stop)
  unjoined (Fault f) h = first_clause ∙ ap (λ (a : Answer Bool). bind a (joined (map (clause_of n) (drop (i + 1) all)) env)) h
  unjoined Memory h = tt

-- ---- one more value that was found

pub one_more_value : (found more : List Value) (v : Value) → more ≡ found ++ v ∷ [] → AllByRecursion IsValue found → IsValue v → AllByRecursion IsValue more
one_more_value found more v e k h = subst (λ (l : List Value). AllByRecursion IsValue l) (sym e) (all_append IsValue found (v ∷ []) k (h, tt))

pub some_more_value : (found more : List Value) (o : Option Value) → more ≡ found ++ with_some o [] → AllByRecursion IsValue found → IfSome o (λ v. IsValue v) → AllByRecursion IsValue more
some_more_value found more None e k h = subst (λ (l : List Value). AllByRecursion IsValue l) (sym e) (all_append IsValue found [] k tt)
some_more_value found more (Some v) e k h = subst (λ (l : List Value). AllByRecursion IsValue l) (sym e) (all_append IsValue found (v ∷ []) k (h, tt))
