-- What follows where a table was arranged.
use Rattle.std.proofs.Common.{List, Result, Ok, Err}
use Rattle.std.specs.Prelude.{IfOk, OnOk}
use Rattle.b_ast.specs.declared.machine.Def.{Def}
use Rattle.b_ast.specs.declared.machine.DefTable.{DefTable}
use Rattle.b_definitions.specs.declared.arranging.Disorder.{Disorder}
use Rattle.b_definitions.specs.Arranging.{Arranges, HasNoCircle}
use Rattle.b_definitions.specs.Meaning.{MeansInOrder, IsSettled}
use Rattle.b_definitions.proofs.AnyOrder.{order_is_none, arranged_settles}
use Rattle.b_definitions.proofs.NoCircle.{no_circle}

pub means_by : (table : List Def) (r : Result DefTable Disorder) → Arranges table r → IfOk r (λ t. MeansInOrder table t.defs)
means_by table (Ok t) h = order_is_none table t.defs h
means_by table (Err e) h = tt

pub settles_by : (table : List Def) (r : Result DefTable Disorder) → Arranges table r → OnOk r (IsSettled table)
settles_by table (Ok t) h = arranged_settles table t.defs h
settles_by table (Err e) h = tt

pub exact_by : (table : List Def) (r : Result DefTable Disorder) → Arranges table r → OnOk r (HasNoCircle table)
exact_by table (Ok t) h = no_circle table t.defs h
exact_by table (Err e) h = tt
