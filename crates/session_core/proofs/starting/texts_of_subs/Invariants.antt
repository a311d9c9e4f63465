use Rattle.std.proofs.Common.{◌≡◌, ◌++◌, map, drop}
use Rattle.animator.specs.Commands.{sub_text}
use Rattle.session_core.proofs.starting.texts_of_subs.Given as goal

abbrev pub invariant-loop-sub : goal.invariant-loop-sub
invariant-loop-sub g l = l.texts ++ map (sub_text (g.E.Engine.meaning l.engine)) (drop l.sub-index l.subs) ≡ map (sub_text (g.E.Engine.meaning l.engine)) l.subs
