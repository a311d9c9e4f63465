use Rattle.std.proofs.Common.{ap, ◌∙◌}
use Rattle.type_demands.specs.Scopes.{scope_of}
use Rattle.type_substs.specs.Told.{Told, told}
use Rattle.b_types.proofs.MachineParts.{machine_is}
use Rattle.b_types.proofs.machines.tell_machine.Goals as goal

pub returns-clause-demands : goal.returns-clause-demands
returns-clause-demands c =
    c.in_ok-tell_states.ensures.demands
    ∙ ap (λ (z : Told). z.demands)
    (machine_is c.args.m.now c.args.default (scope_of c.tell_properties.new.frames.items) (scope_of c.know_names.new.frames.items) c.as_slice.result.now c.in_ok-variable.variable (told c.tell_properties.new.out.items c.tell_properties.new.next) c.args.out.now.items c.tell_twice.new.out.items c.args.declared.now.differ
    c.in_ok-own.ensures.scope c.as_slice.ensures c.in_ok-variable.ensures.variable c.in_ok-variable.ensures.scope c.in_ok-variable.ensures.told c.in_ok-tell_twice.ensures c.requires.first c.requires.differ)

pub returns-clause-parts : goal.returns-clause-parts
returns-clause-parts c =
    c.in_ok-tell_states.ensures.parts
    ∙ ap (λ (z : Told). z.next)
    (machine_is c.args.m.now c.args.default (scope_of c.tell_properties.new.frames.items) (scope_of c.know_names.new.frames.items) c.as_slice.result.now c.in_ok-variable.variable (told c.tell_properties.new.out.items c.tell_properties.new.next) c.args.out.now.items c.tell_twice.new.out.items c.args.declared.now.differ
    c.in_ok-own.ensures.scope c.as_slice.ensures c.in_ok-variable.ensures.variable c.in_ok-variable.ensures.scope c.in_ok-variable.ensures.told c.in_ok-tell_twice.ensures c.requires.first c.requires.differ)
