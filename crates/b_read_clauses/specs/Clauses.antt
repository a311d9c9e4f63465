-- Parts of clauses. Only private functions' clauses cite this.
use Rattle.std.specs.Prelude.{ℕ, List, Option}
use Rattle.b_ast.specs.declared.Bound.{Bound}
use Rattle.b_ast.specs.declared.Formula.{Formula}
use Rattle.b_ast.specs.declared.machine.Subst.{Subst}
use Rattle.b_ast.specs.declared.machine.SetDecl.{SetDecl}
use Rattle.b_ast.specs.declared.machine.Operation.{Operation}
use Rattle.b_machine_grammar.specs.declared.words.Word.{Word}
use Rattle.b_machine_grammar.specs.declared.words.Word.TheVariants as word
use Rattle.b_machine_grammar.specs.Cuts.{Stands, Next, cut_at, IsEnclosed, IsBehindIf, IsParted, IsList}
use Rattle.b_machine_grammar.specs.Grammar.{IsNames, IsWritten, IsHeader, IsSetDecl, IsSubst, IsOperation}

-- names in brackets
abbrev pub AreEnclosedNames : Word → Word → Stands (List Bound)
AreEnclosedNames opening closing = IsEnclosed opening (cut_at closing) IsNames

-- `{a,b}` behind an equals sign
abbrev pub MayHaveElements : Next → Option (List Bound) → Type 0
MayHaveElements = IsBehindIf (λ s. AreEnclosedNames word.CurlyOpen word.CurlyClose)

abbrev pub AreSets : Stands (List SetDecl)
AreSets = IsList (cut_at word.Semicolon) IsSetDecl

abbrev pub AreAssertions : Stands (List Formula)
AreAssertions = IsList (cut_at word.Semicolon) IsWritten

-- `name(p,q) = S`
abbrev pub IsNamed : ℕ → Stands ((Bound × List Bound) × Subst)
IsNamed depth = IsParted (cut_at word.Equal) IsHeader (λ s. IsSubst depth)

abbrev pub AreOperations : ℕ → Stands (List Operation)
AreOperations depth = IsList (cut_at word.Semicolon) (IsOperation depth)
