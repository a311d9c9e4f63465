-- What reading answers.
use Rattle.std.specs.Prelude.{List, Result, Ok, Err}
use Rattle.b_ast.specs.declared.Formula.{Formula}
use Rattle.b_grammar.specs.declared.Lexeme.{Lexeme}
use Rattle.b_grammar.specs.Grammar.{IsFormulaText}
use Rattle.b_read_expr.specs.declared.Unread.{Unread}
use Rattle.b_read_expr.specs.declared.Unread.TheVariants as unread

-- the tree that the grammar has for a list of lexemes, or that it has none, unless memory ran out
abbrev pub IsTreeOf : List Lexeme → Result Formula Unread → Type 0
IsTreeOf ts (Ok t) = IsFormulaText ts t
IsTreeOf ts (Err (unread.NoTree left)) = (t : Formula) → IsFormulaText ts t → ⊥
IsTreeOf ts (Err unread.Memory) = Unit {0}
