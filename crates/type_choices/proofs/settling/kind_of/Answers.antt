use Rattle.std.proofs.Common.{subst, sym}
use Rattle.type_choices.specs.Settling.{Lookups}
use Rattle.type_choices.proofs.Looking.{looked_kind, looked_set, looked_pair}
use Rattle.type_choices.proofs.settling.kind_of.Goals as goal

pub returns-in-Basic : goal.returns-in-Basic
returns-in-Basic c =
    subst (Lookups c.args.rows.now c.args.i) (sym c.kind_of_basic.ensures) (looked_kind c.args.rows.now c.args.i c.root-end.result c.root-end.ensures c.in-Basic.basic c.in-Basic.is)

pub returns-in-Set : goal.returns-in-Set
returns-in-Set c = looked_set c.args.rows.now c.args.i c.root-end.result c.root-end.ensures c.in-Set.field-0 c.in-Set.is

pub returns-in-Pair : goal.returns-in-Pair
returns-in-Pair c = looked_pair c.args.rows.now c.args.i c.root-end.result c.root-end.ensures c.in-Pair.field-0 c.in-Pair.field-1 c.in-Pair.is
