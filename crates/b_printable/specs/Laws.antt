-- Every formula that the parser gives has a canonical text that is read back.
use Rattle.std.specs.Prelude.{◌≡◌, ℕ, ◌++◌, Bool, false, List, [], Some, Result, Ok, Err}
use Rattle.b_ast.specs.declared.Formula.{Formula}
use Rattle.b_ast.specs.declared.FormulaText.{FormulaText}
use Rattle.b_ast.specs.declared.FormulaText.TheVariants as kind
use Rattle.b_ast.specs.declared.machine.Def.{Def}
use Rattle.b_lex.specs.declared.tokens.Token.{Token}
use Rattle.b_lex.specs.Reading.{AreTokens}
use Rattle.b_grammar.specs.declared.Lexeme.{Lexeme}
use Rattle.b_grammar.specs.Symbols.{lexemes}
use Rattle.b_grammar.specs.Grammar.{IsFormulaText}
use Rattle.b_expand.specs.Expansion.{expansion}
use Rattle.b_expand.specs.declared.faults.ParseFault.{ParseFault}
use Rattle.b_expand.specs.declared.faults.ParseFault.TheVariants.{Refused, Memory}
use Rattle.b_parse_expr.specs.Parsing.{is_deep}
use Rattle.b_parse_expr.specs.Verdicts.{Parses}
use Rattle.b_print.specs.Texts.{text_of}
use Rattle.b_reading_back.specs.Places.{IsSameApartFromPlaces}
use Rattle.b_reading_back.specs.Printable.{IsPrintable}
use Rattle.b_printable.specs.Written.{IsWritten, AreWritten}

-- what the grammar has for a part of a text's lexemes is a written tree
abbrev pub IsReadAsWritten : Type 0
IsReadAsWritten =
    (machine : Bool) (text : List ℕ) (tokens : List Token) → AreTokens text tokens → (before part after : List Lexeme) → before ++ part ++ after ≡ lexemes machine text tokens
    → (t : Formula) → IsFormulaText part t → IsWritten t

-- a written tree with written definitions expands to a printable one
abbrev pub IsExpandedPrintable : Type 0
IsExpandedPrintable = (ds : List Def) (t e : Formula) → AreWritten ds → IsWritten t → expansion ds t ≡ Some e → IsPrintable e

abbrev pub tree_in : FormulaText → Formula
tree_in (kind.Expr e) = e.formula
tree_in (kind.Pred p) = p.formula

-- what the parser gives is printable
abbrev pub IsParsedPrintable : Type 0
IsParsedPrintable = (text : List ℕ) (tokens : List Token) (ds : List Def) (f : FormulaText) → AreTokens text tokens → AreWritten ds → Parses text tokens ds (Ok f) → IsPrintable (tree_in f)

abbrev pub IsSameFormula : FormulaText → FormulaText → Type 0
IsSameFormula (kind.Expr e) (kind.Expr d) = IsSameApartFromPlaces e.formula d.formula
IsSameFormula (kind.Pred p) (kind.Pred q) = IsSameApartFromPlaces p.formula q.formula
IsSameFormula f g = ⊥

-- the answer is this formula apart from places, unless memory ran out
abbrev pub IsAgain : FormulaText → Result FormulaText ParseFault → Type 0
IsAgain f (Ok g) = IsSameFormula g f
IsAgain f (Err (Refused k at)) = ⊥
IsAgain f (Err Memory) = Unit {0}

-- The canonical text of what the parser gives has tokens. Where no more than 100 brackets are open in it, the parser's
-- answer to them, without definitions, is the same formula apart from places.
abbrev pub IsReadBackWhole : Type 0
IsReadBackWhole =
    (text : List ℕ) (tokens : List Token) (ds : List Def) (f : FormulaText) → AreTokens text tokens → AreWritten ds → Parses text tokens ds (Ok f)
    → ((again : List Token) × AreTokens (text_of (tree_in f)) again)
    × ((again : List Token) → AreTokens (text_of (tree_in f)) again → is_deep (lexemes false (text_of (tree_in f)) again) ≡ false → (result : Result FormulaText ParseFault) → Parses (text_of (tree_in f)) again [] result → IsAgain f result)
