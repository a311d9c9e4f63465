-- What is told of the definition at a place as a substitution.
use Rattle.std.proofs.Common.{◌≡◌, ℕ, ◌≤◌, List, length, take, Option, Some, None, refl, sym, ap, arith}
use Rattle.std.specs.Prelude.{slice_get, option_map, option_and_then}
use Rattle.b_ast.specs.declared.machine.Def.{Def}
use Rattle.b_expand.proofs.Indexing.{past_end}
use Rattle.b_summaries.specs.declared.summary.Told.{Told}
use Rattle.b_substitutions.specs.Summaries.{told_body, known}
use Rattle.b_substitutions.specs.Standing.{AreTold, use_in}
use Rattle.b_use_forms.proofs.ToldFormulas.{ended}

none_told : (table : List Def) (i : ℕ) → length table ≤ i → ◌≡◌ {A = Option Told} None (option_and_then (λ t. t) (use_in table i))
none_told table i h = sym (ap (λ (o : Option Def). option_and_then (λ (t : Option Told). t) (option_map (λ d. told_body table (known table (take i table)) d.params d.body) o)) (past_end table i h))

-- what is told of a substitution is what the table says
pub told_known : (table : List Def) (uses : List (Option Told)) → AreTold table uses → length uses ≡ length table → (i : ℕ) → option_and_then (λ t. t) (slice_get uses i) ≡ option_and_then (λ t. t) (use_in table i)
unfolding AreTold
told_known table uses h n i = go (slice_get uses i) refl
  where
    go : (o : Option (Option Told)) → slice_get uses i ≡ o → option_and_then (λ t. t) o ≡ option_and_then (λ t. t) (use_in table i)
    go None e = let k = ended uses i e in none_told table i (omega arith)
    go (Some t) e = ap (option_and_then (λ (t : Option Told). t)) (sym (h i t e))
