use Rattle.std.proofs.Common.{◌≡◌, drop}
use Rattle.b_summaries.specs.Summaries as spec
use Rattle.b_summaries.proofs.texts.may_bind_all.Given as goal

-- what is left decides
abbrev pub invariant-loop-name : goal.invariant-loop-name
invariant-loop-name l = spec.may_bind_all l.text.table.now l.text.params.now (drop l.name-index l.names) ≡ spec.may_bind_all l.text.table.now l.text.params.now l.names
