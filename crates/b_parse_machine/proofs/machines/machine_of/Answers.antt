use Rattle.std.proofs.Common.{Option, subst}
use Rattle.b_expand.specs.declared.faults.ParseKind.{ParseKind}
use Rattle.b_machine_text.specs.Verdicts.{GivesText, Gives, circle_verdict}
use Rattle.b_parse_machine.proofs.machines.machine_of.Goals as goal

-- the fault of clauses is that of the tree
pub returns : goal.returns
returns c = record {
  text = λ n. subst (λ (f : Option ParseKind). GivesText c.args.tree f c.args.end c.machine_text.result) c.clause_fault-fault.ensures (c.machine_text.ensures.text n);
  circle = λ h. subst (λ (f : Option ParseKind). Gives (circle_verdict f) c.args.end c.machine_text.result) c.clause_fault-fault.ensures (c.machine_text.ensures.circle h);
}
