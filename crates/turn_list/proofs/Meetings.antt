-- What the passes that are joined, the last first, show of one another.
use Rattle.std.proofs.Common.{◌≡◌, ◌≢◌, ℕ, zero, suc, ◌+◌, ◌<◌, ◌≤◌, List, [], ◌∷◌, ◌++◌, length, map, set, refl, sym, ap, ◌∙◌, subst, arith, Some, length-append}
use Rattle.std.specs.Prelude.{slice_get}
use Rattle.std.proofs.lemmas.List.{length-map, map-append, map-set, get_or-map}
use Rattle.std.proofs.Common.{get_or}
use native.Mathlib.Decide.{ℕ_discrete}
use mathlib.Core.Logic.{dite}
use Rattle.turn_lock.specs.Histories.{Begins}
use Rattle.turn_lock.specs.Passes.{Known, joined_known, all_shares}
use Rattle.turn_lock.specs.declared.kept.Kept.{Ghosts}
use Rattle.turn_lock.specs.declared.turn.Pass.{Pass}
use Rattle.turn_lock.specs.Turns.{known}
use Rattle.turn_list.specs.Lists.{AreOfOneTurn, AreOfOneTurnEach, all_known}
use Rattle.turn_list.proofs.AtPlaces.{mapped_at}

set_elsewhere : {A : Type 0} (xs : List A) (i place : ℕ) (x : A) → place < i → slice_get (set xs i x) place ≡ slice_get xs place
set_elsewhere [] i place x h = refl
set_elsewhere (y ∷ xs) zero place x h = absurd (omega arith)
set_elsewhere (y ∷ xs) (suc i) zero x h = refl
set_elsewhere (y ∷ xs) (suc i) (suc place) x h = set_elsewhere xs i place x (omega arith)

in_front : {A : Type 0} (xs : List A) (x : A) (place : ℕ) → place < length xs → slice_get (xs ++ x ∷ []) place ≡ slice_get xs place
in_front [] x place h = absurd (omega arith)
in_front (y ∷ xs) x zero h = refl
in_front (y ∷ xs) x (suc place) h = in_front xs x place (omega arith)

at_last : {A : Type 0} (xs : List A) (x : A) → slice_get (xs ++ x ∷ []) (length xs) ≡ Some x
at_last [] x = refl
at_last (y ∷ xs) x = at_last xs x

-- the passes in front are as before, and those behind were joined
pub record HaveMet {E : Type 0} (into_first others_first into others : List (Known E)) : Type 0 where
  pub front : (place : ℕ) → place < length others → slice_get into place ≡ slice_get into_first place
  pub same : (place : ℕ) → place < length others → slice_get others place ≡ slice_get others_first place
  pub met : (place : ℕ) (known other : Known E) → length others ≤ place → slice_get into_first place ≡ Some known → slice_get others_first place ≡ Some other → AreOfOneTurn known other

pub none_met : {E : Type 0} (into others : List (Known E)) → HaveMet into others into others
none_met into others = record { front = λ place h. refl; same = λ place h. refl; met = λ place known other h e f. absurd (past others place h other f) }
  where
    past : {A : Type 0} (xs : List A) (place : ℕ) → length xs ≤ place → (x : A) → slice_get xs place ≡ Some x → ⊥
    past [] place h x e = none place e
      where
        none : (place : ℕ) → slice_get [] place ≡ Some x → ⊥
        none place e = cc
    past (y ∷ xs) zero h x e = omega arith
    past (y ∷ xs) (suc place) h x e = past xs place (omega arith) x e

-- the last of the others meets the one at its place
pub met_more : {E : Type 0} (into_first others_first into others others' : List (Known E)) (a b c : Known E) → others ≡ others' ++ b ∷ [] → slice_get into (length others') ≡ Some a → AreOfOneTurn a b
    → HaveMet into_first others_first into others → HaveMet into_first others_first (set into (length others') c) others'
met_more {E} into_first others_first into others others' a b c is at meet so_far =
    let long : length others ≡ length others' + 1 = omega (arith, ap length is, length-append others' (b ∷ [])) in record {
      front = λ place h. set_elsewhere into (length others') place c h ∙ so_far.front place (omega arith);
      same = λ place h. sym (in_front others' b place h) ∙ (sym (ap (λ (l : List (Known E)). slice_get l place) is) ∙ so_far.same place (omega arith));
      met = λ place known other h e f. dite (ℕ_discrete place (length others'))
          (λ here.
          let first : Some known ≡ Some a = sym e ∙ (ap (slice_get into_first) here ∙ (sym (so_far.front (length others') (omega arith)) ∙ at)) in
          let second : Some other ≡ Some b = sym f ∙ (ap (slice_get others_first) here ∙ (sym (so_far.same (length others') (omega arith)) ∙ (ap (λ (l : List (Known E)). slice_get l (length others')) is ∙ at_last others' b))) in
          let same_known : known ≡ a = cc in
          let same_other : other ≡ b = cc in
          subst (λ (k : Known E). AreOfOneTurn k other) (sym same_known) (subst (AreOfOneTurn a) (sym same_other) meet))
          (λ behind. so_far.met place known other (omega (arith, behind)) e f);
    }

pub all_met : {E : Type 0} (into_first others_first into others : List (Known E)) → length others ≡ 0 → HaveMet into_first others_first into others → AreOfOneTurnEach into_first others_first
all_met into_first others_first into others none so_far = λ place known other e f. so_far.met place known other (omega arith) e f

-- what a join tells, of what was known before
pub two_met : {E : Type 0} (a b c : Known E) → c ≡ joined_known a b → Begins a.seen c.seen × Begins b.seen c.seen → c.shares ≤ all_shares → AreOfOneTurn a b
two_met {E} a b c is begins within =
    let seen = ap (λ (k : Known E). k.seen) is in
    let shares = ap (λ (k : Known E). k.shares) is in record {
      begins = subst (Begins a.seen) seen begins.0;
      other_begins = subst (Begins b.seen) seen begins.1;
      within_all = subst (λ (n : ℕ). n ≤ all_shares) shares within;
    }

module _ {Value Tag Entry : Type 0} {g : Ghosts Value Tag Entry} where
  pub passes_met : (into_first others_first into before others : List (Pass Value Tag Entry g)) (other pass d : Pass Value Tag Entry g) (i : ℕ) → before ≡ others ++ other ∷ [] → i ≡ length others → i < length into
      → known pass ≡ joined_known (known (get_or into i d)) (known other) → Begins (known (get_or into i d)).seen (known pass).seen × Begins (known other).seen (known pass).seen → (known pass).shares ≤ all_shares
      → HaveMet (all_known into_first) (all_known others_first) (all_known into) (all_known before) → HaveMet (all_known into_first) (all_known others_first) (all_known (set into i pass)) (all_known others)
  passes_met into_first others_first into before others other pass d i is at fits told begins within so_far =
      let long : i ≡ length (all_known others) = at ∙ sym (length-map others known) in
      let read : slice_get (all_known into) (length (all_known others)) ≡ Some (known (get_or into i d)) = subst (λ (n : ℕ). slice_get (all_known into) n ≡ Some (known (get_or into i d))) long (mapped_at known into i d fits) in
      let more : HaveMet (all_known into_first) (all_known others_first) (set (all_known into) (length (all_known others)) (known pass)) (all_known others) =
      met_more (all_known into_first) (all_known others_first) (all_known into) (all_known before) (all_known others) (known (get_or into i d)) (known other) (known pass)
      (ap all_known is ∙ map-append known others (other ∷ [])) read (two_met (known (get_or into i d)) (known other) (known pass) told begins within) so_far in
      subst (λ (l : List (Known Entry)). HaveMet (all_known into_first) (all_known others_first) l (all_known others))
      (sym (map-set known into i pass ∙ ap (λ (n : ℕ). set (all_known into) n (known pass)) long)) more
