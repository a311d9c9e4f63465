use Rattle.std.proofs.Common.{rules, ◌≡◌, ◌∙◌, sym, ap, refl, ◌∷◌, ◌++◌, ◌+◌, [], drop, arith, append_assoc}
use Rattle.std.specs.Prelude.{codes}
use Rattle.std.specs.Fmt.{decimal}
use Rattle.animator.proofs.Places.{extends_same, extends_on}
use Rattle.animator.specs.Replies.{numbered, step_parts}
use Rattle.animator.specs.declared.model.Part.TheVariants.{Said}
use Rattle.host_top.proofs.Writing.{front_start, step_written, steps_written}
use Rattle.host_top.proofs.answers.write_steps.Goals as goal
use Rattle.std.proofs.lemmas.List.{drop_more}

pub loop-step-init : goal.loop-step-init
loop-step-init c = record {
  extends = extends_same c.args.names.now;
  written = front_start c.args.names.now c.args.out.now (numbered c.args.first c.args.steps.now);
  next = omega arith;
}

pub loop-step-preserved : goal.loop-step-preserved
loop-step-preserved c = record {
  extends = extends_on c.args.names.now c.loop-step.names c.write_step.new.names c.loop-step.invariant.extends c.in_ok-write_step.ensures.extends;
  written = step_written c.args.names.now c.loop-step.names c.write_step.new.names c.args.out.now c.loop-step.out c.write_step.new.out c.loop-step.k c.in_ok-k.k (numbered c.args.first c.args.steps.now)
      c.args.steps.now c.loop-step.step-index c.step-item.result (omega arith) c.step-item.is c.loop-step.invariant.written c.in_ok-write_step.ensures.extends c.in_ok-write_step.ensures.covers (search rules) (search rules);
  next = search rules;
}

pub returns-clause-written : goal.returns-clause-written
returns-clause-written c =
    steps_written c.args.names.now c.loop-step.names c.args.out.now c.loop-step.out c.loop-step.k (numbered c.args.first c.args.steps.now) c.args.steps.now c.loop-step.step-index (omega arith) c.loop-step.invariant.written
