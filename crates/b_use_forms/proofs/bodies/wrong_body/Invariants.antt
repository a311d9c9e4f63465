use Rattle.std.proofs.Common.{◌≡◌, drop}
use Rattle.b_use_forms.specs.Forms.{bodies_fit}
use Rattle.b_use_forms.proofs.bodies.wrong_body.Given as goal

-- what is left decides
abbrev pub invariant-loop-place : goal.invariant-loop-place
invariant-loop-place l = bodies_fit l.defs.formulas.table.now.defs l.front (drop l.place l.table) ≡ bodies_fit l.defs.formulas.table.now.defs l.front l.table
