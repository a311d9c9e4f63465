-- What tokens are to the grammar of machines: signs and words by a table of spellings.
use Rattle.std.specs.Prelude.{ℕ, Bool, true, false, List, [], ◌∷◌, map, codes, if◌then◌else◌}
use Rattle.std.specs.Str.{bytes_eq}
use denote.Enum.Bare.{sameb}
use Rattle.b_lex.specs.declared.tokens.Token.{Token}
use Rattle.b_lex.specs.declared.tokens.TokenKind.{TokenKind}
use Rattle.b_lex.specs.declared.tokens.TokenKind.TheVariants as kind
use Rattle.b_lex.specs.Reading.{spelling}
use Rattle.b_machine_grammar.specs.contracts.words.Word as word_type
use Rattle.b_machine_grammar.specs.declared.words.Word.{Word}
use Rattle.b_machine_grammar.specs.declared.words.Word.TheVariants as word
use Rattle.b_machine_grammar.specs.declared.words.Separator.{Separator}
use Rattle.b_machine_grammar.specs.declared.words.Separator.TheVariants as at

-- the signs and words of machines; each other one is of formulas alone
unfoldable pub spellings : List (List ℕ × Word)
spellings =
    (codes ",", word.Comma)
    ∷ (codes ";", word.Semicolon)
    ∷ (codes "||", word.Parallel)
    ∷ (codes ":=", word.Becomes)
    ∷ (codes "::", word.ChosenFrom)
    ∷ (codes "==", word.Defined)
    ∷ (codes "<--", word.Results)
    ∷ (codes "=", word.Equal)
    ∷ (codes ":", word.Member)
    ∷ (codes "&", word.And)
    ∷ (codes "(", word.RoundOpen)
    ∷ (codes ")", word.RoundClose)
    ∷ (codes "{", word.CurlyOpen)
    ∷ (codes "}", word.CurlyClose)
    ∷ (codes "[", word.SquareOpen)
    ∷ (codes "]", word.SquareClose)
    ∷ (codes "skip", word.Skip)
    ∷ (codes "BEGIN", word.Begin)
    ∷ (codes "PRE", word.Pre)
    ∷ (codes "ASSERT", word.Assert)
    ∷ (codes "CHOICE", word.Choice)
    ∷ (codes "OR", word.Or)
    ∷ (codes "IF", word.If)
    ∷ (codes "THEN", word.Then)
    ∷ (codes "ELSIF", word.Elsif)
    ∷ (codes "ELSE", word.Else)
    ∷ (codes "SELECT", word.Select)
    ∷ (codes "WHEN", word.When)
    ∷ (codes "CASE", word.Case)
    ∷ (codes "OF", word.Of)
    ∷ (codes "EITHER", word.Either)
    ∷ (codes "ANY", word.Any)
    ∷ (codes "WHERE", word.Where)
    ∷ (codes "LET", word.Let)
    ∷ (codes "BE", word.Be)
    ∷ (codes "IN", word.In)
    ∷ (codes "END", word.End)
    ∷ (codes "MACHINE", word.Machine)
    ∷ (codes "SETS", word.Sets)
    ∷ (codes "CONSTANTS", word.Constants)
    ∷ (codes "CONCRETE_CONSTANTS", word.Constants)
    ∷ (codes "ABSTRACT_CONSTANTS", word.AbstractConstants)
    ∷ (codes "PROPERTIES", word.Properties)
    ∷ (codes "VARIABLES", word.Variables)
    ∷ (codes "ABSTRACT_VARIABLES", word.Variables)
    ∷ (codes "CONCRETE_VARIABLES", word.ConcreteVariables)
    ∷ (codes "INVARIANT", word.Invariant)
    ∷ (codes "ASSERTIONS", word.Assertions)
    ∷ (codes "DEFINITIONS", word.Definitions)
    ∷ (codes "INITIALISATION", word.Initialisation)
    ∷ (codes "OPERATIONS", word.Operations)
    ∷ (codes "REFINEMENT", word.LeftOut)
    ∷ (codes "IMPLEMENTATION", word.LeftOut)
    ∷ (codes "REFINES", word.LeftOut)
    ∷ (codes "INCLUDES", word.LeftOut)
    ∷ (codes "SEES", word.LeftOut)
    ∷ (codes "USES", word.LeftOut)
    ∷ (codes "EXTENDS", word.LeftOut)
    ∷ (codes "PROMOTES", word.LeftOut)
    ∷ (codes "IMPORTS", word.LeftOut)
    ∷ (codes "CONSTRAINTS", word.LeftOut)
    ∷ (codes "VALUES", word.LeftOut)
    ∷ (codes "LOCAL_OPERATIONS", word.LeftOut)
    ∷ (codes "VAR", word.LeftOut)
    ∷ (codes "WHILE", word.LeftOut)
    ∷ (codes "DO", word.LeftOut)
    ∷ (codes "VARIANT", word.LeftOut)
    ∷ (codes "rec", word.LeftOut)
    ∷ (codes "struct", word.LeftOut)
    ∷ []

abbrev pub lookup : List (List ℕ × Word) → List ℕ → Word
lookup [] spelled = word.Other
lookup (e ∷ es) spelled = if bytes_eq e.0 spelled then e.1 else lookup es spelled

unfoldable pub word_spelled : List ℕ → Word
word_spelled = lookup spellings

abbrev pub word_of : TokenKind → List ℕ → Word
word_of kind.Name spelled = word.Name
word_of kind.Number spelled = word.Other
word_of kind.Text spelled = word.Text
word_of kind.Word spelled = word_spelled spelled
word_of kind.Sign spelled = word_spelled spelled

abbrev pub words : List ℕ → List Token → List Word
words text tokens = map (λ (token : Token). word_of token.kind (spelling text token)) tokens

-- ---- brackets

abbrev pub opens : Word → Bool
opens word.RoundOpen = true
opens word.CurlyOpen = true
opens word.SquareOpen = true
opens word.Begin = true
opens word.Pre = true
opens word.Assert = true
opens word.Choice = true
opens word.If = true
opens word.Select = true
opens word.Case = true
opens word.Either = true
opens word.Any = true
opens word.Let = true
opens word.Machine = true
opens w = false

abbrev pub closes : Word → Bool
closes word.RoundClose = true
closes word.CurlyClose = true
closes word.SquareClose = true
closes word.End = true
closes w = false

-- ---- separators

-- the words that begin clauses
abbrev pub begins_clause : Word → Bool
begins_clause word.Sets = true
begins_clause word.Constants = true
begins_clause word.AbstractConstants = true
begins_clause word.Properties = true
begins_clause word.Variables = true
begins_clause word.ConcreteVariables = true
begins_clause word.Invariant = true
begins_clause word.Assertions = true
begins_clause word.Definitions = true
begins_clause word.Initialisation = true
begins_clause word.Operations = true
begins_clause w = false

abbrev pub is_word : Word → Word → Bool
is_word v w = sameb word_type.the_type v w

-- `||` and `;`
abbrev pub is_joint : Word → Bool
is_joint word.Parallel = true
is_joint word.Semicolon = true
is_joint w = false

-- `:=` and `::`
abbrev pub is_becoming : Word → Bool
is_becoming word.Becomes = true
is_becoming word.ChosenFrom = true
is_becoming w = false

-- whether parts stand round this word
abbrev pub separates : Separator → Word → Bool
separates (at.At v) w = is_word v w
separates at.Joint w = is_joint w
separates at.Becoming w = is_becoming w
separates at.Clause w = begins_clause w
