use Rattle.std.proofs.Common.{◌≡◌, map, take}
use Rattle.b_machine_defs.proofs.declaring.names_of.Given as goal

-- those so far
abbrev pub invariant-loop-param : goal.invariant-loop-param
invariant-loop-param l = l.names ≡ map (λ x. x.name) (take l.param-index l.params)
