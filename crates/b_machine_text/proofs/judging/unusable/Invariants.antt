use Rattle.std.proofs.Common.{◌≡◌, drop}
use Rattle.b_machine_text.specs.Verdicts.{usable_from}
use Rattle.b_machine_text.proofs.judging.unusable.Given as goal

-- what is left decides
abbrev pub invariant-loop-i : goal.invariant-loop-i
invariant-loop-i l = usable_from l.defs.formulas.table.now.defs l.i (drop l.i l.table) ≡ usable_from l.defs.formulas.table.now.defs 0 l.table
