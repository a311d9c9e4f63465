-- The place past the limit of tuples is the last.
use Rattle.std.proofs.Common.{◌≡◌, ◌≤◌, ◌-◌, ℕ, Bool, true, false, List, [], ◌∷◌, Result, Ok, Err, arith, sym, ap, ◌∙◌, subst}
use Rattle.b_places.specs.Places.{RangeOf, Candidate, cut}
use Rattle.b_places.specs.Scopes.{Slots}
use Rattle.b_places.specs.Walks.{rest, to_come, ahead, lefts_in, Finds}
use Rattle.b_places.specs.declared.walk.Range.{Range}
use Rattle.b_places.specs.declared.walk.Walk.{Walk}
use Rattle.b_rows.specs.declared.EvalStop.{EvalStop}
use Rattle.b_rows.specs.declared.EvalStop.TheVariants.{Fault, Memory}
use Rattle.b_values.specs.declared.values.EvalFault.{EvalFault}
use Rattle.b_values.specs.declared.values.Value.{Value}
use Rattle.b_places.proofs.Standing.{nothing}
use Rattle.b_places.proofs.Turning.{old_walk}

abbrev place_then : Candidate → List Candidate → List Candidate
place_then p ps = p ∷ ps

pub limit_reached : (f : EvalFault) (limit number : ℕ) (rs : List RangeOf) (env : Slots) (u : Walk) (before ps : List Candidate) (p : Candidate) → before ≡ p ∷ ps → limit ≤ number → u.values ≡ [] → u.ranges ≡ [] → u.fresh ≡ false
    → cut f before (limit - number) ≡ Err f ∷ ahead f limit rs env u
limit_reached f limit number rs env u before ps p e h v r g =
    ap (λ (qs : List Candidate). cut f qs (limit - number)) e
    ∙ ap (λ (k : ℕ). cut f (p ∷ ps) k) none
    ∙ ap (place_then (Err f)) (sym (ap (λ (qs : List Candidate). cut f qs (limit - u.number)) over))
  where
    none : limit - number ≡ 0
    none = omega arith

    over : to_come rs env u ≡ []
    over = old_walk rs env u g ∙ ap (λ (k : List Range). rest rs env [] u.values (lefts_in k)) r ∙ nothing rs env [] u.values

module _ (f : EvalFault) (limit number : ℕ) (rs : List RangeOf) (env : Slots) (u : Walk) (before after : List Candidate) (vs : List Value) (found : Result Bool EvalStop) (result : EvalStop)
    (h : Finds before vs after found) (is : result ≡ Fault f) (past : limit ≤ number) (v : u.values ≡ []) (r : u.ranges ≡ []) (g : u.fresh ≡ false) where
  answered : cut f before (limit - number) ≡ Err f ∷ ahead f limit rs env u → Finds (cut f before (limit - number)) u.values (ahead f limit rs env u) (Err result)
  answered e = subst (λ (s : EvalStop). Finds (cut f before (limit - number)) u.values (ahead f limit rs env u) (Err s)) (sym is) e

  pub past_tuple : (b : Bool) → found ≡ Ok b → b ≡ true → Finds (cut f before (limit - number)) u.values (ahead f limit rs env u) (Err result)
  past_tuple b e t =
      answered (limit_reached f limit number rs env u before after (Ok vs)
      (subst (λ (c : Bool). Finds before vs after (Ok c)) t (subst (λ (x : Result Bool EvalStop). Finds before vs after x) e h)) past v r g)

  pub past_fault : (s : EvalStop) (k : EvalFault) → found ≡ Err s → s ≡ Fault k → Finds (cut f before (limit - number)) u.values (ahead f limit rs env u) (Err result)
  past_fault s k e t =
      answered (limit_reached f limit number rs env u before after (Err k)
      (subst (λ (x : EvalStop). Finds before vs after (Err x)) t (subst (λ (x : Result Bool EvalStop). Finds before vs after x) e h)) past v r g)
