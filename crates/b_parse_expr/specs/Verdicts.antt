-- What becomes of a formula's text.
use Rattle.std.specs.Prelude.{◌≡◌, ◌≤◌, ◌⊎◌, ℕ, List, Option, Result, Ok, Err, false, length, min, MatchBool}
use Rattle.b_ast.specs.declared.Formula.{Formula}
use Rattle.b_ast.specs.declared.FormulaText.{FormulaText}
use Rattle.b_ast.specs.declared.machine.Def.{Def}
use Rattle.b_lex.specs.declared.tokens.Token.{Token}
use Rattle.b_grammar.specs.declared.Lexeme.{Lexeme}
use Rattle.b_grammar.specs.Grammar.{IsFormulaText}
use Rattle.b_grammar.specs.Symbols.{lexemes}
use Rattle.b_expand.specs.declared.faults.Unfit.{Unfit}
use Rattle.b_expand.specs.declared.faults.Unfit.TheVariants as unfit
use Rattle.b_expand.specs.declared.faults.Unexpanded.{Unexpanded}
use Rattle.b_expand.specs.declared.faults.Unexpanded.TheVariants as unexpanded
use Rattle.b_expand.specs.declared.faults.ParseKind.{ParseKind}
use Rattle.b_expand.specs.declared.faults.ParseKind.TheVariants as kind
use Rattle.b_expand.specs.declared.faults.ParseFault.{ParseFault}
use Rattle.b_expand.specs.declared.faults.ParseFault.TheVariants as fault
use Rattle.b_expand.specs.Expansion.{expansion}
use Rattle.b_expand.specs.Answers.{judged}
use Rattle.b_definitions.specs.Meaning.{expansion_of}
use Rattle.b_parse_expr.specs.Parsing.{is_deep}

-- the tree of the lexemes, and what the tree is judged to be that it stands for
abbrev pub IsJudgedBy : (Formula → Option Formula) → List Lexeme → Result FormulaText Unfit → Type 0
IsJudgedBy stands ls v = (t : Formula) × IsFormulaText ls t × (judged (stands t) ≡ v)

-- no tree stands for the lexemes
abbrev pub IsNoSentence : List Lexeme → Type 0
IsNoSentence ls = (t : Formula) → IsFormulaText ls t → ⊥

-- the verdict on lexemes: too many open brackets come first, then what has no tree, then what its tree is judged to be
abbrev pub IsVerdictBy : (Formula → Option Formula) → List Lexeme → Result FormulaText Unfit → Type 0
IsVerdictBy stands ls v = MatchBool (is_deep ls) (v ≡ Err unfit.TooDeep) (IsJudgedBy stands ls v ⊎ (IsNoSentence ls × (v ≡ Err unfit.NotASentence)))

abbrev pub kind_of : Unfit → ParseKind
kind_of unfit.NotASentence = kind.NotASentence
kind_of unfit.TooDeep = kind.TooDeep
kind_of unfit.TooWide = kind.TooWide

-- a refusal of an expansion, at its place or at the end of the text
abbrev pub fault_of : Unexpanded → ℕ → ParseFault
fault_of (unexpanded.Refused why at) end = fault.Refused (kind_of why) (min at end)
fault_of unexpanded.Memory end = fault.Memory

abbrev pub passed_on : Result FormulaText Unexpanded → ℕ → Result FormulaText ParseFault
passed_on (Ok f) end = Ok f
passed_on (Err e) end = Err (fault_of e end)

-- the verdict; a refusal stands before the end of the text, and want of memory is free
abbrev pub GivesBy : (Formula → Option Formula) → List Lexeme → ℕ → Result FormulaText ParseFault → Type 0
GivesBy stands ls end (Ok f) = IsVerdictBy stands ls (Ok f)
GivesBy stands ls end (Err (fault.Refused k at)) = (why : Unfit) × (kind_of why ≡ k) × IsVerdictBy stands ls (Err why) × (at ≤ end)
GivesBy stands ls end (Err fault.Memory) = Unit {0}

-- the answer to a formula's text and its tokens, by what trees stand for
abbrev pub ParsesBy : (Formula → Option Formula) → List ℕ → List Token → Result FormulaText ParseFault → Type 0
ParsesBy stands text tokens result = GivesBy stands (lexemes false text tokens) (length text) result

-- the answer under a table without a circle, in whatever order its definitions stand
abbrev pub ParsesUnder : List ℕ → List Token → List Def → Result FormulaText ParseFault → Type 0
ParsesUnder text tokens ds result = ParsesBy (expansion_of ds) text tokens result

-- the answer under a table with a circle
abbrev pub TellsCircle : Result FormulaText ParseFault → Type 0
TellsCircle (Err (fault.Refused kind.RecursiveDefinition at)) = at ≡ 0
TellsCircle (Err fault.Memory) = Unit {0}
TellsCircle result = ⊥

-- ---- under a table that is read in its order: a body knows the definitions before it

abbrev pub IsJudged : List Lexeme → List Def → Result FormulaText Unfit → Type 0
IsJudged ls ds = IsJudgedBy (expansion ds) ls

abbrev pub IsVerdict : List Lexeme → List Def → Result FormulaText Unfit → Type 0
IsVerdict ls ds = IsVerdictBy (expansion ds) ls

abbrev pub Parses : List ℕ → List Token → List Def → Result FormulaText ParseFault → Type 0
Parses text tokens ds result = ParsesBy (expansion ds) text tokens result
