use Rattle.std.proofs.Common.{◌≡◌, subst}
use Rattle.std.specs.Prelude.{OnOk}
use Rattle.type_demands.specs.Scopes.{scope_of}
use Rattle.type_substs.specs.Told.{Told, told}
use Rattle.b_types.proofs.MachineParts.{operation_is}
use Rattle.b_types.proofs.clauses.tell_operation.Goals as goal

pub returns-clause-tells : goal.returns-clause-tells
returns-clause-tells c =
    subst (λ (w : Told). OnOk c.tell_body.result (told c.tell_body.new.out.items c.tell_body.new.next ≡ w))
    (operation_is c.args.declared.now.names c.args.operation.now c.args.at (scope_of c.args.frames.now.items) (scope_of c.know_own.new.frames.items) c.args.out.now.items c.tell_twice.new.out.items c.args.next.now c.in_ok-differ.differ c.in_ok-know_own.ensures.scope c.in_ok-tell_twice.ensures c.in_ok-differ.ensures)
    c.tell_body.ensures.tells

pub returns-clause-demands : goal.returns-clause-demands
returns-clause-demands c =
    subst (λ (w : Told). OnOk c.tell_body.result (c.tell_body.new.out.items ≡ w.demands))
    (operation_is c.args.declared.now.names c.args.operation.now c.args.at (scope_of c.args.frames.now.items) (scope_of c.know_own.new.frames.items) c.args.out.now.items c.tell_twice.new.out.items c.args.next.now c.in_ok-differ.differ c.in_ok-know_own.ensures.scope c.in_ok-tell_twice.ensures c.in_ok-differ.ensures)
    c.tell_body.ensures.demands

pub returns-clause-parts : goal.returns-clause-parts
returns-clause-parts c =
    subst (λ (w : Told). OnOk c.tell_body.result (c.tell_body.new.next ≡ w.next))
    (operation_is c.args.declared.now.names c.args.operation.now c.args.at (scope_of c.args.frames.now.items) (scope_of c.know_own.new.frames.items) c.args.out.now.items c.tell_twice.new.out.items c.args.next.now c.in_ok-differ.differ c.in_ok-know_own.ensures.scope c.in_ok-tell_twice.ensures c.in_ok-differ.ensures)
    c.tell_body.ensures.parts
