-- Parts of substitutions. Only private functions' clauses cite this.
use Rattle.std.specs.Prelude.{◌≡◌, ℕ, Bool, true, List, Option, Some, None, map}
use Rattle.std.specs.Str.{bytes_eq}
use denote.Ref.{Bor}
use Rattle.b_ast.specs.declared.Bound.{Bound}
use Rattle.b_ast.specs.declared.Formula.{Formula}
use Rattle.b_ast.specs.declared.machine.Subst.{Subst}
use Rattle.b_grammar.specs.declared.Symbol.{Symbol}
use Rattle.b_grammar.specs.declared.Symbol.TheVariants as symbol
use Rattle.b_grammar.specs.declared.Lexeme.{Lexeme}
use Rattle.b_machine_grammar.specs.declared.words.Word.TheVariants as word
use Rattle.b_machine_grammar.specs.Cuts.{Piece, Stands, cut_at, IsList}
use Rattle.b_machine_grammar.specs.Grammar.{name_at, IsNames, IsLeftSide, IsRightSide, IsEquations, IsWithoutBecoming, same_names}
use Rattle.b_ast.specs.declared.Place.{Place}

-- the name of a symbol that is one
abbrev pub spelled : Symbol → Option (List ℕ)
spelled (symbol.Name n) = Some n
spelled x = None

abbrev pub now_of : Option (Bor (List ℕ)) → Option (List ℕ)
now_of None = None
now_of (Some n) = Some n.now

abbrev pub lexemes_in : List Piece → List Lexeme
lexemes_in ts = map (λ (s : Piece). s.1) ts

-- a name stands there
abbrev pub IsNameAt : Lexeme → Bound → Type 0
IsNameAt s b = name_at s.symbol s.at ≡ Some b

-- what has no `:=` and no `::`
abbrev pub IsUseOrChoice : Stands Subst
IsUseOrChoice ts t = IsWithoutBecoming ts (cut_at word.Member ts).0 (cut_at word.Member ts).1 t

-- the names of equations with `&` between them
abbrev pub AreLeftSides : Stands (List Bound)
AreLeftSides = IsList (cut_at word.And) IsLeftSide

-- the formulas of equations with `&` between them
abbrev pub AreRightSides : Stands (List Formula)
AreRightSides = IsList (cut_at word.And) IsRightSide

abbrev pub is_same_name : Bound → Bound → Bool
is_same_name b c = bytes_eq b.name c.name

-- names, and what the equations of the same names in order say that they are
abbrev pub AreFixed : List Piece → List Piece → List Bound × List Formula → Type 0
AreFixed front back x = (bs : List Bound) × IsNames front x.0 × IsEquations back (bs, x.1) × (same_names x.0 bs ≡ true)
