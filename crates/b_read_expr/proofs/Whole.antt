-- All lexemes are read exactly where they are a formula.
use Rattle.std.proofs.Common.{arith, Err, ◌==◌, Bool, true, false, ◌≡◌, ◌≢◌, ℕ, zero, suc, List, [], ◌∷◌, length, Some, None, refl, sym, ap, ◌∙◌}
use Rattle.std.proofs.lemmas.Bool.{eqb-true}
use Rattle.b_ast.specs.declared.Formula.{Formula}
use Rattle.b_grammar.specs.declared.Lexeme.{Lexeme}
use Rattle.b_grammar.specs.Grammar.{plain, IsFormulaText}
use Rattle.b_grammar.specs.Descent.{reads_formula}
use Rattle.b_grammar.proofs.Ways.{same_found}
use Rattle.b_grammar.proofs.Descent.{all_read, is_read}
use Rattle.b_read_expr.proofs.Enough.{few_open}
use Rattle.b_read_expr.specs.declared.Unread.{Unread}
use Rattle.b_read_expr.specs.declared.Unread.TheVariants as unread
use Rattle.b_read_expr.specs.Reading.{Stops, inside, piece}
use Rattle.b_read_expr.specs.Answers.{IsTreeOf}

piece_is : (depth : ℕ) (ts : List Lexeme) → piece depth plain ts ≡ reads_formula depth plain ts
unfolding piece inside reads_formula
piece_is zero ts = refl
piece_is (suc depth) ts = refl

pub tree_found : (ts : List Lexeme) (t : Formula) (rest : List Lexeme) → rest ≡ [] → piece (length ts) plain ts ≡ Some (t, rest) → IsFormulaText ts t
tree_found ts t rest e f = (length ts, all_read (length ts) ts t (sym (piece_is (length ts) ts) ∙ f ∙ ap (λ l. Some (t, l)) e))

whole : (ts : List Lexeme) (t : Formula) → IsFormulaText ts t → piece (length ts) plain ts ≡ Some (t, [])
whole ts t c = piece_is (length ts) ts ∙ is_read (length ts) ts t (few_open ts t c)

pub tree_none : (ts : List Lexeme) → piece (length ts) plain ts ≡ None → (t : Formula) → IsFormulaText ts t → ⊥
tree_none ts e t c = let f = sym e ∙ whole ts t c in absurd (cc)

pub tree_more : (ts : List Lexeme) (u : Formula) (rest : List Lexeme) → rest ≢ [] → piece (length ts) plain ts ≡ Some (u, rest) → (t : Formula) → IsFormulaText ts t → ⊥
tree_more ts u rest n e t c = n (same_found u t rest [] (sym e ∙ whole ts t c)).1

pub tree_stops : (ts : List Lexeme) (e : Unread) → Stops e (piece (length ts) plain ts) → IsTreeOf ts (Err e)
tree_stops ts (unread.NoTree left) h = tree_none ts h
tree_stops ts unread.Memory h = tt

-- no lexeme is left
pub tree_whole : (ts : List Lexeme) (t : Formula) (rest : List Lexeme) → (length rest == 0) ≡ true → piece (length ts) plain ts ≡ Some (t, rest) → IsFormulaText ts t
tree_whole ts t [] e f = tree_found ts t [] refl f
tree_whole ts t (s ∷ rest) e f = let g : suc (length rest) ≡ 0 = eqb-true (suc (length rest)) 0 e in absurd (omega arith)

some_left : (rest : List Lexeme) → (length rest == 0) ≡ false → rest ≢ []
some_left rest e f = let g : ◌≡◌ {A = Bool} false true = sym e ∙ ap (λ (r : List Lexeme). length r == 0) f in cc

pub tree_left : (ts : List Lexeme) (u : Formula) (rest : List Lexeme) (e : Unread) → (length rest == 0) ≡ false → piece (length ts) plain ts ≡ Some (u, rest) → IsTreeOf ts (Err e)
tree_left ts u rest (unread.NoTree left) n f = tree_more ts u rest (some_left rest n) f
tree_left ts u rest unread.Memory n f = tt
