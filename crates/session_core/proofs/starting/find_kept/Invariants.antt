use Rattle.std.proofs.Common.{◌≡◌, drop}
use Rattle.std.specs.List.{find}
use Rattle.std.specs.Str.{bytes_eq}
use Rattle.session_core.proofs.starting.find_kept.Given as goal

abbrev pub invariant-loop-one : goal.invariant-loop-one
invariant-loop-one l = find (λ one. bytes_eq l.name one.name) (drop l.one-index l.kept) ≡ find (λ one. bytes_eq l.name one.name) l.kept
