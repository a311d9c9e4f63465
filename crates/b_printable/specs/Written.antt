-- The trees that the grammar has for texts, with the uses of definitions in them.
use Rattle.std.specs.Prelude.{◌≡◌, true, List, [], ◌∷◌}
use Rattle.std.specs.List.{AllByRecursion}
use Rattle.b_ast.specs.declared.Operator.{Operator}
use Rattle.b_ast.specs.declared.machine.Def.{Def}
use Rattle.b_ast.specs.declared.machine.DefBody.{DefBody}
use Rattle.b_ast.specs.declared.machine.DefBody.TheVariants as body
use Rattle.b_ast.specs.declared.Formula.{Formula, every-Formula}
use Rattle.b_ast.specs.declared.Link.{Link, every-Link}
use Rattle.b_ast.specs.declared.After.{After, every-After}
use Rattle.b_ast.specs.declared.After.TheOpen.{Formula-F}
use Rattle.b_grammar.specs.Grammar.{priority, may_chain}
use Rattle.b_reading_back.specs.Printable.{Anything, operators, LayerIsPrintable}

-- operators of one priority, commas among them; a comparison stands alone
abbrev pub MayStand : List Operator → Type 0
MayStand [] = ⊥
MayStand (o ∷ os) = AllByRecursion (λ q. priority q ≡ priority o) os × (may_chain (priority o) (o ∷ os) ≡ true)

-- a written chain may have commas; else a layer is as that of a printable tree
abbrev pub LayerIsWritten : Formula-F After Formula Link → Type 0
LayerIsWritten (Formula-F.Chain e ls) = MayStand (operators ls)
LayerIsWritten x = LayerIsPrintable x

-- a tree as the grammar has it for a text
abbrev pub IsWritten : Formula → Type 0
IsWritten = every-Formula Anything LayerIsWritten Anything

abbrev pub IsWrittenLink : Link → Type 0
IsWrittenLink = every-Link Anything LayerIsWritten Anything

abbrev pub IsWrittenAfter : After → Type 0
IsWrittenAfter = every-After Anything LayerIsWritten Anything

-- the formula of a definition, if it is one, is such a tree
abbrev pub BodyIsWritten : DefBody → Type 0
BodyIsWritten (body.Expr e) = IsWritten e.formula
BodyIsWritten (body.Pred p) = IsWritten p.formula
BodyIsWritten (body.Subst u) = Unit {0}

abbrev pub AreWritten : List Def → Type 0
AreWritten ds = AllByRecursion (λ d. BodyIsWritten d.body) ds
