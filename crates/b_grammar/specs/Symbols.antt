-- What tokens are to the grammar: signs and words by a table of spellings, names, numbers and strings by their values.
use Rattle.std.specs.Prelude.{ℕ, Bool, false, ◌+◌, ◌-◌, ◌^◌, nat_le, nat_lt, List, [], ◌∷◌, length, map, codes, if◌then◌else◌}
use denote.Ref.{Bor}
use Rattle.std.specs.Str.{bytes_eq}
use Rattle.std.specs.List.{slice_range}
use Rattle.b_ast.specs.declared.Constant.TheVariants as constant
use Rattle.b_ast.specs.declared.Operator.TheVariants as operator
use Rattle.b_ast.specs.declared.Function.TheVariants as function
use Rattle.b_ast.specs.declared.Quantifier.TheVariants as quantifier
use Rattle.b_ast.specs.declared.Collector.TheVariants as collector
use Rattle.b_lex.specs.declared.tokens.Token.{Token}
use Rattle.b_lex.specs.declared.tokens.TokenKind.{TokenKind}
use Rattle.b_lex.specs.declared.tokens.TokenKind.TheVariants as kind
use Rattle.b_lex.specs.Bytes.{decimal}
use Rattle.b_lex.specs.Tables.{has_entry}
use Rattle.b_lex.specs.Reading.{spelling}
use Rattle.b_lex.specs.Spelling.{unescape}
use Rattle.b_grammar.specs.declared.Mark.TheVariants as sign
use Rattle.b_grammar.specs.declared.Symbol.{Symbol}
use Rattle.b_grammar.specs.declared.Symbol.TheVariants as symbol
use Rattle.b_grammar.specs.declared.Lexeme.{Lexeme}
use Rattle.b_grammar.specs.declared.symbols.Fixed.{Fixed}
use Rattle.b_grammar.specs.declared.symbols.Fixed.TheVariants as fixed

-- the signs and words of formulas; each other one is no symbol of a formula
unfoldable pub spellings : List (List ℕ × Fixed)
spellings =
    (codes "**", fixed.Operator operator.Power)
    ∷ (codes "*", fixed.Operator operator.Times)
    ∷ (codes "/", fixed.Operator operator.Divide)
    ∷ (codes "mod", fixed.Operator operator.Modulo)
    ∷ (codes "+", fixed.Operator operator.Plus)
    ∷ (codes "-", fixed.Operator operator.Minus)
    ∷ (codes "..", fixed.Operator operator.Interval)
    ∷ (codes "|->", fixed.Operator operator.Maplet)
    ∷ (codes "\\/", fixed.Operator operator.Union)
    ∷ (codes "/\\", fixed.Operator operator.Intersection)
    ∷ (codes "^", fixed.Operator operator.Concatenation)
    ∷ (codes "->", fixed.Operator operator.Prepend)
    ∷ (codes "<-", fixed.Operator operator.Append)
    ∷ (codes "/|\\", fixed.Operator operator.Take)
    ∷ (codes "\\|/", fixed.Operator operator.Drop)
    ∷ (codes "<|", fixed.Operator operator.DomainRestriction)
    ∷ (codes "|>", fixed.Operator operator.RangeRestriction)
    ∷ (codes "<<|", fixed.Operator operator.DomainSubtraction)
    ∷ (codes "|>>", fixed.Operator operator.RangeSubtraction)
    ∷ (codes "<+", fixed.Operator operator.Overriding)
    ∷ (codes "><", fixed.Operator operator.DirectProduct)
    ∷ (codes "<->", fixed.Operator operator.Relations)
    ∷ (codes "+->", fixed.Operator operator.PartialFunctions)
    ∷ (codes "-->", fixed.Operator operator.TotalFunctions)
    ∷ (codes ">+>", fixed.Operator operator.PartialInjections)
    ∷ (codes ">->", fixed.Operator operator.TotalInjections)
    ∷ (codes "+->>", fixed.Operator operator.PartialSurjections)
    ∷ (codes "-->>", fixed.Operator operator.TotalSurjections)
    ∷ (codes ">->>", fixed.Operator operator.TotalBijections)
    ∷ (codes ":", fixed.Operator operator.Member)
    ∷ (codes "/:", fixed.Operator operator.NotMember)
    ∷ (codes "<:", fixed.Operator operator.Subset)
    ∷ (codes "/<:", fixed.Operator operator.NotSubset)
    ∷ (codes "<<:", fixed.Operator operator.StrictSubset)
    ∷ (codes "/<<:", fixed.Operator operator.NotStrictSubset)
    ∷ (codes "=", fixed.Operator operator.Equal)
    ∷ (codes "/=", fixed.Operator operator.NotEqual)
    ∷ (codes "<", fixed.Operator operator.Less)
    ∷ (codes ">", fixed.Operator operator.Greater)
    ∷ (codes "<=", fixed.Operator operator.LessOrEqual)
    ∷ (codes ">=", fixed.Operator operator.GreaterOrEqual)
    ∷ (codes "<=>", fixed.Operator operator.Equivalence)
    ∷ (codes "&", fixed.Operator operator.And)
    ∷ (codes "or", fixed.Operator operator.Or)
    ∷ (codes "=>", fixed.Operator operator.Implication)
    ∷ (codes ";", fixed.Operator operator.Composition)
    ∷ (codes "||", fixed.Operator operator.ParallelProduct)
    ∷ (codes "POW", fixed.Function function.Pow)
    ∷ (codes "POW1", fixed.Function function.Pow1)
    ∷ (codes "FIN", fixed.Function function.Fin)
    ∷ (codes "FIN1", fixed.Function function.Fin1)
    ∷ (codes "union", fixed.Function function.Union)
    ∷ (codes "inter", fixed.Function function.Inter)
    ∷ (codes "dom", fixed.Function function.Dom)
    ∷ (codes "ran", fixed.Function function.Ran)
    ∷ (codes "id", fixed.Function function.Id)
    ∷ (codes "closure", fixed.Function function.Closure)
    ∷ (codes "closure1", fixed.Function function.Closure1)
    ∷ (codes "card", fixed.Function function.Card)
    ∷ (codes "min", fixed.Function function.Min)
    ∷ (codes "max", fixed.Function function.Max)
    ∷ (codes "succ", fixed.Function function.Succ)
    ∷ (codes "pred", fixed.Function function.Pred)
    ∷ (codes "seq", fixed.Function function.Seq)
    ∷ (codes "seq1", fixed.Function function.Seq1)
    ∷ (codes "iseq", fixed.Function function.Iseq)
    ∷ (codes "perm", fixed.Function function.Perm)
    ∷ (codes "size", fixed.Function function.Size)
    ∷ (codes "first", fixed.Function function.First)
    ∷ (codes "last", fixed.Function function.Last)
    ∷ (codes "front", fixed.Function function.Front)
    ∷ (codes "tail", fixed.Function function.Tail)
    ∷ (codes "rev", fixed.Function function.Rev)
    ∷ (codes "conc", fixed.Function function.Conc)
    ∷ (codes "bool", fixed.Function function.Bool)
    ∷ (codes "not", fixed.Function function.Not)
    ∷ (codes "prj1", fixed.Function function.Prj1)
    ∷ (codes "prj2", fixed.Function function.Prj2)
    ∷ (codes "iterate", fixed.Function function.Iterate)
    ∷ (codes "INTEGER", fixed.Constant constant.Integer)
    ∷ (codes "NATURAL", fixed.Constant constant.Natural)
    ∷ (codes "NATURAL1", fixed.Constant constant.Natural1)
    ∷ (codes "INT", fixed.Constant constant.Int)
    ∷ (codes "NAT", fixed.Constant constant.Nat)
    ∷ (codes "NAT1", fixed.Constant constant.Nat1)
    ∷ (codes "STRING", fixed.Constant constant.String)
    ∷ (codes "BOOL", fixed.Constant constant.Bool)
    ∷ (codes "TRUE", fixed.Constant constant.True)
    ∷ (codes "FALSE", fixed.Constant constant.False)
    ∷ (codes "MININT", fixed.Constant constant.MinInt)
    ∷ (codes "MAXINT", fixed.Constant constant.MaxInt)
    ∷ (codes "#", fixed.Quantifier quantifier.Exists)
    ∷ (codes "!", fixed.Quantifier quantifier.ForAll)
    ∷ (codes "%", fixed.Collector collector.Lambda)
    ∷ (codes "SIGMA", fixed.Collector collector.Sum)
    ∷ (codes "PI", fixed.Collector collector.Product)
    ∷ (codes "UNION", fixed.Collector collector.Union)
    ∷ (codes "INTER", fixed.Collector collector.Inter)
    ∷ (codes "(", fixed.Mark sign.RoundOpen)
    ∷ (codes ")", fixed.Mark sign.RoundClose)
    ∷ (codes "{", fixed.Mark sign.CurlyOpen)
    ∷ (codes "}", fixed.Mark sign.CurlyClose)
    ∷ (codes "[", fixed.Mark sign.SquareOpen)
    ∷ (codes "]", fixed.Mark sign.SquareClose)
    ∷ (codes ",", fixed.Mark sign.Comma)
    ∷ (codes ".", fixed.Mark sign.Dot)
    ∷ (codes "|", fixed.Mark sign.Bar)
    ∷ (codes "~", fixed.Mark sign.Converse)
    ∷ (codes "<>", fixed.Mark sign.Empty)
    ∷ (codes "$0", fixed.Mark sign.Old)
    ∷ (codes "IF", fixed.Mark sign.If)
    ∷ (codes "THEN", fixed.Mark sign.Then)
    ∷ (codes "ELSE", fixed.Mark sign.Else)
    ∷ (codes "END", fixed.Mark sign.End)
    ∷ []

-- entries of a table in code
abbrev pub entries : List (Bor (List ℕ) × Fixed) → List (List ℕ × Fixed)
entries table = map (λ e. (e.0.now, e.1)) table

abbrev pub lookup : List (List ℕ × Fixed) → List ℕ → Fixed
lookup [] word = fixed.Other
lookup (e ∷ es) word = if bytes_eq e.0 word then e.1 else lookup es word

unfoldable pub fixed_of : List ℕ → Fixed
fixed_of = lookup spellings

abbrev pub symbol_of_fixed : Fixed → Symbol
symbol_of_fixed (fixed.Constant c) = symbol.Constant c
symbol_of_fixed (fixed.Operator o) = symbol.Operator o
symbol_of_fixed (fixed.Function f) = symbol.Function f
symbol_of_fixed (fixed.Quantifier q) = symbol.Quantifier q
symbol_of_fixed (fixed.Collector c) = symbol.Collector c
symbol_of_fixed (fixed.Mark m) = symbol.Mark m
symbol_of_fixed fixed.Other = symbol.Other

-- the bytes between a string's quotes by their values
abbrev pub string_value : List ℕ → List ℕ
string_value body = unescape false body

-- without the quotes
abbrev pub between : List ℕ → List ℕ
between word = if nat_lt (length word) 2 then [] else slice_range word 1 (length word - 1)

abbrev pub number_symbol : ℕ → Symbol
number_symbol n = if nat_le n (2 ^ 127 - 1) then symbol.Number n else symbol.Other

abbrev pub symbol_of : TokenKind → List ℕ → Symbol
symbol_of kind.Name word = symbol.Name word
symbol_of kind.Number word = number_symbol (decimal word)
symbol_of kind.Text word = symbol.Text (string_value (between word))
symbol_of kind.Word word = symbol_of_fixed (fixed_of word)
symbol_of kind.Sign word = symbol_of_fixed (fixed_of word)

-- ---- brackets

-- the signs and words that open a bracket
unfoldable pub openers : List (List ℕ)
openers =
    codes "(" ∷ codes "{" ∷ codes "[" ∷ codes "BEGIN" ∷ codes "PRE" ∷ codes "ASSERT" ∷ codes "CHOICE" ∷ codes "IF" ∷ codes "SELECT" ∷ codes "CASE" ∷ codes "EITHER" ∷ codes "ANY"
    ∷ codes "LET" ∷ codes "MACHINE" ∷ []

-- the signs and the word that close one
unfoldable pub closers : List (List ℕ)
closers = codes ")" ∷ codes "}" ∷ codes "]" ∷ codes "END" ∷ []

-- how many brackets are open behind a token, where so many are open before it; never fewer than none
abbrev pub depth_after : List ℕ → ℕ → ℕ
depth_after word depth = if has_entry openers word then depth + 1 else if has_entry closers word then depth - 1 else depth

-- ---- lexemes

-- a token with its place, where so many brackets are open behind it
abbrev pub lexeme_of : Bool → List ℕ → ℕ → Token → Lexeme
lexeme_of machine text depth token = record { symbol = symbol_of token.kind (spelling text token); at = record { machine = machine; at = token.from; depth = depth } }

-- the tokens of a text with their places, where so many brackets are open before them
abbrev pub lexemes_from : Bool → List ℕ → ℕ → List Token → List Lexeme
lexemes_from machine text depth [] = []
lexemes_from machine text depth (token ∷ tokens) = lexeme_of machine text (depth_after (spelling text token) depth) token ∷ lexemes_from machine text (depth_after (spelling text token) depth) tokens

-- the tokens of a text, each with what it is to the grammar and its place
abbrev pub lexemes : Bool → List ℕ → List Token → List Lexeme
lexemes machine text tokens = lexemes_from machine text 0 tokens
