use Rattle.std.proofs.Common.{◌≡◌, map, length}
use Rattle.host_top.specs.MachineTexts.{all_differ}
use Rattle.host_top.proofs.load.names_differ.Given as goal

abbrev pub invariant-loop-rest : goal.invariant-loop-rest
invariant-loop-rest l = all_differ (map (λ op. op.name) l.rest) ≡ all_differ (map (λ op. op.name) l.ops)

abbrev pub decreases-loop-rest : goal.decreases-loop-rest
decreases-loop-rest l = length l.rest
