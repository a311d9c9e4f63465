-- The worked readings, by computation.
use Rattle.std.proofs.Common.{◌≡◌, List, [], ◌∷◌, Option, Some, None, refl, sym, ap, ◌∙◌}
use Rattle.b_ast.specs.declared.Formula.{Formula}
use Rattle.b_grammar.specs.declared.Lexeme.{Lexeme}
use Rattle.b_grammar.specs.Grammar.{IsFormula, plain}
use Rattle.b_grammar.specs.Descent.{Found, grouped, reads_formula}
use Rattle.b_grammar.specs.Readings.{AreReadings}
use Rattle.b_grammar.proofs.Descent.{all_read, is_read}

-- what descent doesn't read stands for nothing
abbrev pub is_whole : Found Formula → Option Formula
is_whole None = None
is_whole (Some p) = of p.1
  where
    of : List Lexeme → Option Formula
    of [] = Some p.0
    of (s ∷ ts) = None

nothing : (ts : List Lexeme) → is_whole (reads_formula 100 plain ts) ≡ None → (t : Formula) → IsFormula 100 plain ts t → ⊥
nothing ts e t c =
    let f : is_whole (reads_formula 100 plain ts) ≡ Some t = ap is_whole (is_read 100 ts t c) in
    let g : ◌≡◌ {A = Option Formula} None (Some t) = sym e ∙ f in
    cc

pub readings : AreReadings
unfolding reads_formula grouped
readings = record {
  minus_is_a_chain = all_read 100 _ _ refl;
  brackets_make_a_chain_of_chains = all_read 100 _ _ refl;
  minus_binds_tighter_than_power = all_read 100 _ _ refl;
  minus_after_a_minus = all_read 100 _ _ refl;
  power_is_a_chain = all_read 100 _ _ refl;
  or_and_and_have_one_priority = all_read 100 _ _ refl;
  applications_are_a_row = all_read 100 _ _ refl;
  brackets_are_no_nodes = all_read 100 _ _ refl;
  bare_application = all_read 100 _ _ refl;
  arguments_keep_their_comma = all_read 100 _ _ refl;
  converse_and_image_are_a_row = all_read 100 _ _ refl;
  the_old_value = all_read 100 _ _ refl;
  for_all = all_read 100 _ _ refl;
  comprehension = all_read 100 _ _ refl;
  listed_set = all_read 100 _ _ refl;
  empty_set = all_read 100 _ _ refl;
  empty_sequence = all_read 100 _ _ refl;
  empty_sequence_sign = all_read 100 _ _ refl;
  lambda = all_read 100 _ _ refl;
  maplets_are_a_chain = all_read 100 _ _ refl;
  couples_are_maplets = all_read 100 _ _ refl;
  composition_in_brackets = all_read 100 _ _ refl;
  minus_after_end = all_read 100 _ _ refl;
  no_two_minuses = nothing _ refl;
  no_two_comparisons = nothing _ refl;
  no_composition_without_brackets = nothing _ refl;
  no_composition_in_if = nothing _ refl;
  one_argument_of_an_image = nothing _ refl;
  one_argument_of_card = nothing _ refl;
  bare_names_of_a_comprehension = nothing _ refl;
}
