-- The outcomes of a whole substitution, and their limit.
use Rattle.std.proofs.Common.{◌≡◌, ℕ, Bool, true, false, nat_lt, List, [], ◌∷◌, length, Option, Some, None, Result, Ok, Err, arith, refl, sym, ap, ◌∙◌, subst}
use Rattle.std.specs.Prelude.{if◌then◌else◌}
use Rattle.b_rows.specs.Answers.{Answer, bind, fault, fault_at}
use Rattle.b_tree.specs.declared.Place.{Place}
use Rattle.b_values.specs.declared.values.FaultKind.TheVariants.{TooLarge}
use Rattle.b_outcomes.specs.Frames.{in_order}
use Rattle.b_outcomes.specs.Gathered.{Gathered, up_to, adds, gathers}
use Rattle.b_outcomes.specs.OutcomeLaws.{got, these}
use Rattle.b_outcomes.specs.Outcomes.{within}
use Rattle.b_outcomes.specs.declared.frames.Frame.{Frame}
use Rattle.b_outcomes.proofs.Gathers.{adds_all}

none_many : (n : ℕ) → nat_lt n 0 ≡ false
none_many n = grind arith

module _ (n : ℕ) (p : Place) where
  told : (xs : List Frame) → (adds (Some n, Some []) xs).1 ≡ up_to (Some n) (in_order xs)
  told xs =
      ap (λ (b : Bool). (adds (Some n, if b then None else Some []) xs).1) (sym (none_many n))
      ∙ ap (λ (g : Gathered). g.1) (adds_all (Some n) [] xs)

  one_way : (b : Bool) (xs fs : List Frame) → (if b then None else Some xs) ≡ Some fs → (if b then fault TooLarge p else Ok xs) ≡ Ok fs
  one_way true xs fs e = absurd (cc)
  one_way false xs fs e = ap Ok (ap these e)

  other_way : (b : Bool) (xs : List Frame) → (if b then None else Some xs) ≡ None → (if b then fault TooLarge p else Ok xs) ≡ Err (fault_at TooLarge p)
  other_way true xs e = refl
  other_way false xs e = absurd (cc)

  pub all_told : (a : Answer (List Frame)) (g : Gathered) (fs : List Frame) → gathers (Some n, Some []) a ≡ Ok g → g.1 ≡ Some fs → bind a (within n p) ≡ Ok fs
  all_told (Err f) g fs e h = absurd (cc)
  all_told (Ok xs) g fs e h = one_way (nat_lt n (length (in_order xs))) (in_order xs) fs (sym (told xs) ∙ ap (λ (k : Gathered). k.1) (ap (got (adds (Some n, Some []) xs)) e) ∙ h)

  pub too_many : (a : Answer (List Frame)) (g : Gathered) → gathers (Some n, Some []) a ≡ Ok g → g.1 ≡ None → bind a (within n p) ≡ Err (fault_at TooLarge p)
  too_many (Err f) g e h = absurd (cc)
  too_many (Ok xs) g e h = other_way (nat_lt n (length (in_order xs))) (in_order xs) (sym (told xs) ∙ ap (λ (k : Gathered). k.1) (ap (got (adds (Some n, Some []) xs)) e) ∙ h)
