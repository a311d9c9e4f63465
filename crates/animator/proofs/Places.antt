-- States keep their numbers while the list grows.
use Rattle.std.proofs.Common.{◌≡◌, ◌∙◌, sym, ap, refl, ℕ, suc, ◌<◌, ◌≤◌, Bool, true, false, cond, List, [], ◌∷◌, ◌++◌, length, arith, append_assoc, length-append}
use Rattle.std.proofs.lemmas.List.{append-nil}
use Rattle.std.specs.Fmt.{decimal}
use Rattle.b_values.specs.declared.values.State.{State}
use Rattle.b_values.specs.Values.{same_state}
use Rattle.b_values.specs.SameLaws.{state_decides}
use Rattle.animator.specs.declared.model.Part.{Part}
use Rattle.animator.specs.declared.model.Part.TheVariants.{Said, Shown}
use Rattle.animator.specs.Names.{place, IsNamed, Extends, Covers, text_of}

pub same_state-refl : (s : State) → same_state s s ≡ true
same_state-refl s = (state_decides s s).1 refl

pub place-le : (names : List State) (s : State) → place names s ≤ length names
place-le [] s = omega arith
place-le (n ∷ names) s = elim (same_state n s) as (λ b. cond b 0 (suc (place names s)) ≤ suc (length names)) [ true ↦ omega arith | false ↦ omega (arith, place-le names s) ]

append_step : (names more : List State) (s : State) (b : Bool) → cond b 0 (suc (place names s)) < suc (length names) → (IsNamed names s → place (names ++ more) s ≡ place names s)
    → cond b 0 (suc (place (names ++ more) s)) ≡ cond b 0 (suc (place names s))
append_step names more s true named on = refl
append_step names more s false named on = ap suc (on (omega arith))

pub place-append : (names more : List State) (s : State) → IsNamed names s → place (names ++ more) s ≡ place names s
place-append [] more s named = absurd (omega arith)
place-append (n ∷ names) more s named = append_step names more s (same_state n s) named (λ here. place-append names more s here)

push_step : (names : List State) (s : State) (b : Bool) → suc (length names) ≤ cond b 0 (suc (place names s)) → (length names ≤ place names s → place (names ++ s ∷ []) s ≡ length names)
    → cond b 0 (suc (place (names ++ s ∷ []) s)) ≡ suc (length names)
push_step names s true absent on = absurd (omega arith)
push_step names s false absent on = ap suc (on (omega arith))

pub place-push : (names : List State) (s : State) → length names ≤ place names s → place (names ++ s ∷ []) s ≡ length names
place-push [] s absent = rw (same_state-refl s) refl
place-push (n ∷ names) s absent = push_step names s (same_state n s) absent (λ here. place-push names s here)

pub covers_more : (names more : List State) (parts : List Part) → Covers names parts → Covers (names ++ more) parts
covers_more names more [] covers = tt
covers_more names more (Said bytes ∷ parts) covers = covers_more names more parts covers
covers_more names more (Shown s ∷ parts) covers =
    (named, covers_more names more parts covers.1)
  where
    named : IsNamed (names ++ more) s
    named = rw (place-append names more s covers.0) (omega (arith, length-append names more, covers.0))

pub text_more : (names more : List State) (parts : List Part) → Covers names parts → text_of (names ++ more) parts ≡ text_of names parts
text_more names more [] covers = refl
text_more names more (Said bytes ∷ parts) covers = ap (λ (t : List ℕ). bytes ++ t) (text_more names more parts covers)
text_more names more (Shown s ∷ parts) covers =
    rw (place-append names more s covers.0) (ap (λ (t : List ℕ). decimal (place names s) ++ t) (text_more names more parts covers.1))

pub covers_append : (names : List State) (ps qs : List Part) → Covers names ps → Covers names qs → Covers names (ps ++ qs)
covers_append names [] qs a b = b
covers_append names (Said bytes ∷ ps) qs a b = covers_append names ps qs a b
covers_append names (Shown s ∷ ps) qs a b = (a.0, covers_append names ps qs a.1 b)

pub text-append : (names : List State) (ps qs : List Part) → text_of names (ps ++ qs) ≡ text_of names ps ++ text_of names qs
text-append names [] qs = refl
text-append names (Said bytes ∷ ps) qs = ap (λ (t : List ℕ). bytes ++ t) (text-append names ps qs) ∙ sym (append_assoc bytes (text_of names ps) (text_of names qs))
text-append names (Shown s ∷ ps) qs = ap (λ (t : List ℕ). decimal (place names s) ++ t) (text-append names ps qs) ∙ sym (append_assoc (decimal (place names s)) (text_of names ps) (text_of names qs))

pub extends_same : (names : List State) → Extends names names
extends_same names = ([], sym (append-nil names))

pub extends_on : (a b c : List State) → Extends a b → Extends b c → Extends a c
extends_on a b c ab bc = (ab.0 ++ bc.0, bc.1 ∙ ap (λ (l : List State). l ++ bc.0) ab.1 ∙ append_assoc a ab.0 bc.0)
