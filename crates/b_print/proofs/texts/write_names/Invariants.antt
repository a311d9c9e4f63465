use Rattle.std.proofs.Common.{◌≡◌, ◌++◌, drop, Bool, cond}
use Rattle.b_print.specs.Texts.{names, comma_names}
use Rattle.b_print.proofs.texts.write_names.Given as goal

-- what is written, and what is left
abbrev pub invariant-loop-bound : goal.invariant-loop-bound
invariant-loop-bound l = l.out.items ++ cond l.is_first (names (drop l.bound-index l.names)) (comma_names (drop l.bound-index l.names)) ≡ l.fn.out.items ++ names l.names
