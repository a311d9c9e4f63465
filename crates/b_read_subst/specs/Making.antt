-- What is made of answers. Only private functions' clauses cite this.
use Rattle.std.specs.Prelude.{◌≡◌, List, Option, Some, Result, Ok, Err}
use Rattle.b_ast.specs.declared.Place.{Place}
use Rattle.b_ast.specs.declared.Bound.{Bound}
use Rattle.b_ast.specs.declared.Formula.{Formula}
use Rattle.b_ast.specs.declared.machine.Guard.{Guard}
use Rattle.b_ast.specs.declared.machine.Subst.{Subst}
use Rattle.b_ast.specs.declared.machine.Subst.TheVariants as subst
use Rattle.b_ast.specs.declared.machine.Branch.{Branch}
use Rattle.b_ast.specs.declared.machine.CaseBranch.{CaseBranch}
use Rattle.b_stretches.specs.declared.Unread.{Unread}
use Rattle.b_stretches.specs.declared.Unread.TheVariants as unread

abbrev pub guarded : Place → Guard → Formula × Subst → Subst
guarded p g x = subst.Guarded p g x.0 x.1

abbrev pub conditional : Place → List Branch × Option Subst → Subst
conditional p x = subst.If p x.0 x.1

abbrev pub select : Place → List Branch × Option Subst → Subst
select p x = subst.Select p x.0 x.1

abbrev pub casing : Place → Formula × (List CaseBranch × Option Subst) → Subst
casing p x = subst.Case p x.0 x.1.0 x.1.1

abbrev pub any : Place → List Bound × (Formula × Subst) → Subst
any p x = subst.Any p x.0 x.1.0 x.1.1

abbrev pub fixing : Place → (List Bound × List Formula) × Subst → Subst
fixing p x = subst.Let p x.0.0 x.0.1 x.1

abbrev pub block : Place → Subst → Subst
block p t = subst.Block p t

abbrev pub choice : Place → List Subst → Subst
choice p ts = subst.Choice p ts

abbrev pub some : Subst → Option Subst
some t = Some t

-- the tree, unless memory runs out
abbrev pub IsBoxed : Subst → Result Subst Unread → Type 0
IsBoxed t (Ok b) = b ≡ t
IsBoxed t (Err e) = e ≡ unread.Memory
