use Rattle.std.proofs.Common.{rules, refl}
use Rattle.animator.proofs.Places.{extends_same}
use Rattle.host_top.proofs.Sessions.{numbered_grown}
use Rattle.host_top.proofs.answers.take_step.Goals as goal

pub returns-in_err-number-clause-numbered : goal.returns-in_err-number-clause-numbered
returns-in_err-number-clause-numbered c = numbered_grown c.args.names.now c.write_step.new.names c.args.running.now c.args.running.now c.write_step.ensures.extends c.requires.numbered refl refl

pub returns-in_err-add-clause-numbered : goal.returns-in_err-add-clause-numbered
returns-in_err-add-clause-numbered c = numbered_grown c.args.names.now c.write_step.new.names c.args.running.now c.args.running.now c.write_step.ensures.extends c.requires.numbered refl refl

pub returns-in_err-step-clause-numbered : goal.returns-in_err-step-clause-numbered
returns-in_err-step-clause-numbered c = numbered_grown c.args.names.now c.write_step.new.names c.args.running.now c.args.running.now c.write_step.ensures.extends c.requires.numbered refl refl

pub returns-in_err-reserve-clause-numbered : goal.returns-in_err-reserve-clause-numbered
returns-in_err-reserve-clause-numbered c =
    numbered_grown c.args.names.now c.write_step.new.names c.args.running.now c.reserve.new.self c.write_step.ensures.extends c.requires.numbered c.reserve.ensures.items c.reserve.ensures.position

pub returns-clause-numbered : goal.returns-clause-numbered
returns-clause-numbered c =
    c.add-2.ensures.numbered c.write_step.new.names
    (numbered_grown c.args.names.now c.write_step.new.names c.args.running.now c.reserve.new.self c.write_step.ensures.extends c.requires.numbered c.reserve.ensures.items c.reserve.ensures.position)
    (record { named = search rules; number = search rules })
