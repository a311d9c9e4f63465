-- What holds of the grammar.
use Rattle.std.specs.Prelude.{◌≡◌, ℕ, true, List, [], ◌∷◌, ◌++◌}
use Rattle.b_ast.specs.declared.Formula.{Formula}
use Rattle.b_grammar.specs.declared.Lexeme.{Lexeme}
use Rattle.b_grammar.specs.Grammar.{IsFormula, IsFormulaText, ends_operand}

-- a list of lexemes stands for at most one tree
abbrev pub StandsForAtMostOne : Type 0
StandsForAtMostOne = (ts : List Lexeme) (t u : Formula) → IsFormulaText ts t → IsFormulaText ts u → t ≡ u

-- the list ends with a lexeme that ends an operand
abbrev pub IsEnding : List Lexeme → Type 0
IsEnding ts = (front : List Lexeme) × (s : Lexeme) × (ts ≡ front ++ s ∷ []) × (ends_operand s.symbol ≡ true)

-- each formula does, and so does each piece of one
abbrev pub EndsAnOperand : Type 0
EndsAnOperand = (depth : ℕ) (levels : List ℕ) (ts : List Lexeme) (t : Formula) → IsFormula depth levels ts t → IsEnding ts
