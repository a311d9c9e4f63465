-- A formula is what its canonical text is read as.
use Rattle.std.specs.Prelude.{◌≡◌, ◌≤◌, ◌↔◌, Bool, false, List, [], Some, Result, Ok, Err, map}
use Rattle.b_ast.specs.declared.Operator.{Operator}
use Rattle.b_ast.specs.declared.Formula.{Formula}
use Rattle.b_ast.specs.declared.FormulaText.{FormulaText}
use Rattle.b_ast.specs.declared.Sort.{Sort}
use Rattle.b_ast.specs.Sorts.{sort_of}
use Rattle.b_lex.specs.declared.tokens.Token.{Token}
use Rattle.b_lex.specs.Reading.{AreTokens}
use Rattle.b_grammar.specs.declared.Symbol.{Symbol}
use Rattle.b_grammar.specs.declared.Lexeme.{Lexeme}
use Rattle.b_grammar.specs.Symbols.{lexemes}
use Rattle.b_grammar.specs.Grammar.{priority, IsFormulaText}
use Rattle.b_expand.specs.Places.{node_total}
use Rattle.b_expand.specs.Answers as answers
use Rattle.b_expand.specs.declared.faults.ParseFault.{ParseFault}
use Rattle.b_expand.specs.declared.faults.ParseFault.TheVariants.{Refused, Memory}
use Rattle.b_parse_expr.specs.Parsing.{is_deep}
use Rattle.b_parse_expr.specs.Verdicts.{Parses}
use Rattle.b_print.specs.Spellings as printed
use Rattle.b_print.specs.Texts.{text_of}
use Rattle.b_reading_back.specs.Symbols.{symbols_of}
use Rattle.b_reading_back.specs.Places.{IsSameApartFromPlaces}
use Rattle.b_reading_back.specs.Printable.{IsPrintable}

-- the printers and the grammar order the operators alike
abbrev pub SamePriorities : Type 0
SamePriorities = (o : Operator) → printed.priority o ≡ priority o

abbrev pub symbols : List Lexeme → List Symbol
symbols ts = map (λ (s : Lexeme). s.symbol) ts

-- lexemes with the symbols of a tree's canonical text stand for that tree, apart from places
abbrev pub StandsForItself : Type 0
StandsForItself =
    (t : Formula) → IsPrintable t → (ts : List Lexeme) → symbols ts ≡ symbols_of t → (u : Formula) × IsFormulaText ts u × IsSameApartFromPlaces u t

-- a canonical text has tokens, and their symbols are those of the tree
abbrev pub HasItsSymbols : Type 0
HasItsSymbols = (t : Formula) → IsPrintable t → (tokens : List Token) × AreTokens (text_of t) tokens × ((machine : Bool) → symbols (lexemes machine (text_of t) tokens) ≡ symbols_of t)

-- the tokens of a canonical text stand for the tree that it was written from, apart from places
abbrev pub IsReadBack : Type 0
IsReadBack =
    (t : Formula) → IsPrintable t → (machine : Bool) (tokens : List Token) → AreTokens (text_of t) tokens → (u : Formula) × IsFormulaText (lexemes machine (text_of t) tokens) u × IsSameApartFromPlaces u t

-- and for no other tree
abbrev pub IsReadAsNothingElse : Type 0
IsReadAsNothingElse =
    (t : Formula) → IsPrintable t → (machine : Bool) (tokens : List Token) → AreTokens (text_of t) tokens → (u : Formula) → IsFormulaText (lexemes machine (text_of t) tokens) u → IsSameApartFromPlaces u t

-- trees have one canonical text exactly if they are the same apart from places
abbrev pub HaveOneText : Type 0
HaveOneText = (t u : Formula) → IsPrintable t → IsPrintable u → (text_of t ≡ text_of u) ↔ IsSameApartFromPlaces t u

-- and then they have one sort
abbrev pub HaveOneSort : Type 0
HaveOneSort = (t u : Formula) → IsSameApartFromPlaces t u → sort_of t ≡ sort_of u

-- the answer is the formula of this sort that was printed, apart from places, unless memory ran out
abbrev pub IsPrintedAgain : Formula → Sort → Result FormulaText ParseFault → Type 0
IsPrintedAgain t s (Ok f) = (u : Formula) × (f ≡ answers.text_of s u) × IsSameApartFromPlaces u t
IsPrintedAgain t s (Err (Refused k at)) = ⊥
IsPrintedAgain t s (Err Memory) = Unit {0}

-- where a canonical text has at most 100 brackets open at one place and its tree at most a million nodes, the parser's
-- answer to the text's tokens is the formula that was printed
abbrev pub IsParsedAgain : Type 0
IsParsedAgain =
    (t : Formula) (s : Sort) → IsPrintable t → sort_of t ≡ Some s → node_total t ≤ 1000000 → (tokens : List Token) → AreTokens (text_of t) tokens → is_deep (lexemes false (text_of t) tokens) ≡ false
    → (result : Result FormulaText ParseFault) → Parses (text_of t) tokens [] result → IsPrintedAgain t s result
