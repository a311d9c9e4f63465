use Rattle.std.proofs.Common.{ap, ◌∙◌}
use Rattle.type_formulas.specs.Typings.{all_known}
use Rattle.b_types.specs.Known.{known_sets}
use Rattle.b_types.specs.Machines.{machine_known, machine_told}
use Rattle.b_types.proofs.Judging.{judged_alike}
use Rattle.b_types.proofs.machines.machine_answer.Goals as goal

pub returns : goal.returns
returns c =
    judged_alike (all_known c.only-known.result) (machine_known c.args.m.now) c.as_slice.result.now (machine_told c.args.m.now c.args.default).demands c.in_ok-parts.parts (machine_told c.args.m.now c.args.default).next c.judged.result
    (c.only-known.ensures ∙ c.deref.ensures.value ∙ c.in_ok-sets.ensures ∙ ap known_sets c.len.ensures) (c.as_slice.ensures.value ∙ c.in_ok-parts.ensures.demands) c.in_ok-parts.ensures.parts c.judged.ensures
