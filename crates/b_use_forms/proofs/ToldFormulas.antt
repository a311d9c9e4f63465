-- What is told of the definition at a place as a formula.
use Rattle.std.proofs.Common.{◌≡◌, ℕ, zero, suc, ◌≤◌, List, [], ◌∷◌, length, take, Option, Some, None, refl, sym, ap, arith}
use Rattle.std.specs.Prelude.{slice_get, option_map, option_and_then}
use Rattle.b_ast.specs.declared.machine.Def.{Def}
use Rattle.b_expand.proofs.Indexing.{past_end}
use Rattle.b_summaries.specs.declared.summary.Told.{Told}
use Rattle.b_summaries.specs.Summaries.{Meaning, meaning_of, meanings}
use Rattle.b_summaries.specs.Standing.{AreTold, meaning_in}

-- where nothing stands the list has ended
pub ended : {X : Type 0} (xs : List X) (i : ℕ) → slice_get xs i ≡ None → length xs ≤ i
ended [] i e = omega arith
ended (x ∷ xs) zero e = absurd (cc)
ended (x ∷ xs) (suc i) e = let h = ended xs i e in omega arith

-- nothing is told past the end
pub none_told : (table : List Def) (i : ℕ) → length table ≤ i → ◌≡◌ {A = Option Told} None (option_and_then (λ m. m.told) (meaning_in table i))
none_told table i h = sym (ap (λ (o : Option Def). option_and_then (λ (m : Meaning). m.told) (option_map (λ d. meaning_of table (meanings table (take i table)) d.params d.body) o)) (past_end table i h))

told_of : (m : Option Meaning) (t : Option Told) → option_map (λ m. m.told) m ≡ Some t → t ≡ option_and_then (λ m. m.told) m
told_of None t e = absurd (cc)
told_of (Some m) t e = cc

-- what is told of a formula is what its meaning tells
pub told_known : (table : List Def) (known : List (Option Told)) → AreTold table known → length known ≡ length table → (i : ℕ) → option_and_then (λ t. t) (slice_get known i) ≡ option_and_then (λ m. m.told) (meaning_in table i)
unfolding AreTold
told_known table known h n i = go (slice_get known i) refl
  where
    go : (o : Option (Option Told)) → slice_get known i ≡ o → option_and_then (λ t. t) o ≡ option_and_then (λ m. m.told) (meaning_in table i)
    go None e = let k = ended known i e in none_told table i (omega arith)
    go (Some t) e = told_of (meaning_in table i) t (h i t e)
