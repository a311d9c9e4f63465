-- `**` from right to left.
use Rattle.std.proofs.Common.{◌≡◌, ◌<◌, ◌≤◌, ◌+◌, ℕ, zero, suc, List, [], ◌∷◌, length, map, drop, get_or, arith, refl, sym, ap, ◌∙◌, subst, Result, Ok, Err}
use Rattle.b_meaning.specs.Meaning.{value_of, each_base, raised, places_in, power_of, power_step, expr_step, link_step, plan_step, pred_step, binder_step, clause_step, collection_step, sides_step, universal_step, variable_step, Meaning, LinkMeaning, PlanMeaning, Test, BinderMeaning, ClauseMeaning, CollectionMeaning, PowerMeaning, SidesMeaning, UniversalMeaning, VariableMeaning}
use Rattle.b_places.specs.Scopes.{Slots}
use Rattle.b_rows.specs.Answers.{Answer, bind, placed, Means}
use Rattle.b_rows.specs.Rows.{power_row}
use Rattle.b_rows.specs.declared.EvalStop.{EvalStop}
use Rattle.b_rows.specs.declared.EvalStop.TheVariants.{Fault, Memory}
use Rattle.b_tree.specs.declared.Place.{Place}
use Rattle.b_tree.specs.declared.Power.{Power, out-Power, fold_out-Power}
use Rattle.b_values.specs.declared.values.EvalFault.{EvalFault}
use Rattle.b_values.specs.declared.values.Value.{Value}

power_place : (n : ℕ) (p : Power) → (power_of n p).place ≡ (out-Power p).at
power_place n p = ap (λ (m : PowerMeaning). m.place) (fold_out-Power Meaning LinkMeaning PlanMeaning Test BinderMeaning ClauseMeaning CollectionMeaning PowerMeaning SidesMeaning UniversalMeaning VariableMeaning (expr_step n) (link_step n) (plan_step n) (pred_step n) (binder_step n) (clause_step n) (collection_step n) (power_step n) (sides_step n) (universal_step n) (variable_step n) p)

pub power_base : (n : ℕ) (p : Power) (env : Slots) → (power_of n p).base env ≡ value_of n (out-Power p).base env
power_base n p env = ap (λ (m : PowerMeaning). m.base env) (fold_out-Power Meaning LinkMeaning PlanMeaning Test BinderMeaning ClauseMeaning CollectionMeaning PowerMeaning SidesMeaning UniversalMeaning VariableMeaning (expr_step n) (link_step n) (plan_step n) (pred_step n) (binder_step n) (clause_step n) (collection_step n) (power_step n) (sides_step n) (universal_step n) (variable_step n) p)

pub power_stop : (n : ℕ) (p : Power) (env : Slots) (s : EvalStop) → Means (value_of n (out-Power p).base env) (Err s) → Means ((power_of n p).base env) (Err s)
power_stop n p env s h = subst (λ (a : Answer Value). Means a (Err s)) (sym (power_base n p env)) h

-- one sign more to the left
raise_at : (n : ℕ) (ps : List Power) (vs : List Value) (z y : Value) (i : ℕ) (p : Power) (v : Value) → length vs ≡ length ps → i < length ps → p ≡ get_or ps i p → v ≡ get_or vs i v
    → raised (drop (suc i) (places_in (map (power_of n) ps))) (drop (suc i) vs) z ≡ Ok y → raised (drop i (places_in (map (power_of n) ps))) (drop i vs) z ≡ placed (out-Power p).at (power_row v y)
raise_at n [] vs z y i p v e h a b s = absurd (omega arith)
raise_at n (q ∷ ps) [] z y i p v e h a b s = absurd (omega arith)
raise_at n (q ∷ ps) (w ∷ vs) z y zero p v e h a b s =
    ap (λ (m : Answer Value). bind m (λ x. placed (power_of n q).place (power_row w x))) s
    ∙ ap (λ (k : Place). placed k (power_row w y)) (power_place n q)
    ∙ ap (λ (x : Power). placed (out-Power x).at (power_row w y)) (sym a)
    ∙ ap (λ (x : Value). placed (out-Power p).at (power_row x y)) (sym b)
raise_at n (q ∷ ps) (w ∷ vs) z y (suc i) p v e h a b s = raise_at n ps vs z y i p v (omega arith) (omega arith) a b s

-- a fault further right is the fault of the whole
raise_fault : (n : ℕ) (ps : List Power) (vs : List Value) (z : Value) (i : ℕ) (f : EvalFault) → length vs ≡ length ps → i ≤ length ps
    → raised (drop i (places_in (map (power_of n) ps))) (drop i vs) z ≡ Err f → raised (places_in (map (power_of n) ps)) vs z ≡ Err f
raise_fault n ps vs z zero f e h s = s
raise_fault n [] vs z (suc i) f e h s = absurd (omega arith)
raise_fault n (q ∷ ps) [] z (suc i) f e h s = absurd (omega arith)
raise_fault n (q ∷ ps) (w ∷ vs) z (suc i) f e h s = ap (λ (m : Answer Value). bind m (λ x. placed (power_of n q).place (power_row w x))) (raise_fault n ps vs z i f (omega arith) (omega arith) s)

module _ (n : ℕ) (ps : List Power) (vs : List Value) (z y : Value) (left i : ℕ) (p : Power) (v : Value) (even : length vs ≡ length ps) (step : left ≡ suc i) (h : i < length ps) (a : p ≡ get_or ps i p) (b : v ≡ get_or vs i v)
    (state : raised (drop left (places_in (map (power_of n) ps))) (drop left vs) z ≡ Ok y) where
  here : raised (drop i (places_in (map (power_of n) ps))) (drop i vs) z ≡ placed (out-Power p).at (power_row v y)
  here = raise_at n ps vs z y i p v even h a b (subst (λ (k : ℕ). raised (drop k (places_in (map (power_of n) ps))) (drop k vs) z ≡ Ok y) step state)

  pub raises : (x w : Value) → placed (out-Power p).at (power_row v y) ≡ Ok x → w ≡ x → raised (drop i (places_in (map (power_of n) ps))) (drop i vs) z ≡ Ok w
  raises x w e g = here ∙ e ∙ ap Ok (sym g)

  pub unraised : (stop : EvalStop) → Means (placed (out-Power p).at (power_row v y)) (Err stop) → Means (raised (places_in (map (power_of n) ps)) vs z) (Err stop)
  unraised (Fault f) e = raise_fault n ps vs z i f even (omega arith) (here ∙ e)
  unraised Memory e = tt

-- before the first sign all signs are to the right
pub none_raised : (n : ℕ) (ps : List Power) (vs : List Value) (z : Value) → length vs ≡ length ps → raised (drop (length ps) (places_in (map (power_of n) ps))) (drop (length ps) vs) z ≡ Ok z
none_raised n [] vs z e = refl
none_raised n (q ∷ ps) [] z e = absurd (omega arith)
none_raised n (q ∷ ps) (w ∷ vs) z e = none_raised n ps vs z (omega arith)
