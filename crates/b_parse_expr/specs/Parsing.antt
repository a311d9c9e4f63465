-- The tree of a text, before its definitions are expanded.
use Rattle.std.specs.Prelude.{◌≡◌, ◌≤◌, ℕ, nat_lt, Bool, true, false, ◌||◌, List, [], ◌∷◌, Option, Some, None, Result, Ok, Err}
use denote.Ref.{Bor}
use Rattle.b_ast.specs.declared.Formula.{Formula}
use Rattle.b_grammar.specs.declared.Lexeme.{Lexeme}
use Rattle.b_grammar.specs.Grammar.{IsFormulaText}
use Rattle.b_expand.specs.declared.faults.ParseKind.TheVariants as kind
use Rattle.b_expand.specs.declared.faults.ParseFault.{ParseFault}
use Rattle.b_expand.specs.declared.faults.ParseFault.TheVariants as fault
use Rattle.b_read_expr.specs.declared.Unread.{Unread}
use Rattle.b_read_expr.specs.declared.Unread.TheVariants as unread

-- more than 100 brackets are open behind some lexeme
abbrev pub is_deep : List Lexeme → Bool
is_deep [] = false
is_deep (l ∷ ls) = nat_lt 100 l.at.depth || is_deep ls

-- The tree of lexemes with no more than 100 open brackets; too many are refused first, then lexemes without a tree. A
-- refusal stands before the end of the text.
abbrev pub IsCheckedTree : List Lexeme → ℕ → Result Formula ParseFault → Type 0
IsCheckedTree ls end (Ok t) = (is_deep ls ≡ false) × IsFormulaText ls t
IsCheckedTree ls end (Err (fault.Refused kind.TooDeep at)) = (is_deep ls ≡ true) × (at ≤ end)
IsCheckedTree ls end (Err (fault.Refused kind.NotASentence at)) = (is_deep ls ≡ false) × ((t : Formula) → IsFormulaText ls t → ⊥) × (at ≤ end)
IsCheckedTree ls end (Err (fault.Refused k at)) = ⊥
IsCheckedTree ls end (Err fault.Memory) = Unit {0}

-- the fault for lexemes that have no tree, or for want of memory
abbrev pub FaultFits : Unread → ℕ → ParseFault → Type 0
FaultFits (unread.NoTree left) end (fault.Refused kind.NotASentence at) = at ≤ end
FaultFits unread.Memory end fault.Memory = Unit {0}
FaultFits u end f = ⊥

-- the first lexeme and the others
abbrev pub IsSplit : List Lexeme → Option (Bor Lexeme × Bor (List Lexeme)) → Type 0
IsSplit ts None = ts ≡ []
IsSplit ts (Some p) = ts ≡ p.0.now ∷ p.1.now
