use Rattle.std.proofs.Common.{◌≡◌, ◌+◌, ◌≤◌, List, ℕ, Some}
use Rattle.std.specs.Prelude.{vec_capacity, vec_len}
use Rattle.animator.specs.Names.{Extends}
use Rattle.host_top.specs.Machines.{meaning_of}
use Rattle.host_top.specs.Sessions.{session_of, IsNumbered}
use Rattle.host_top.proofs.Running.{SoFar}
use Rattle.host_top.proofs.solo.run_lines.Given as goal

abbrev pub invariant-loop-running : goal.invariant-loop-running
invariant-loop-running g l = record {
  extends : Extends l.fn.names l.names;
  told : (bytes before : List ℕ) → g.S.Source.left l.fn.source ≡ Some bytes → g.K.Sink.held l.fn.sink ≡ Some before
      → SoFar (meaning_of l.machine) l.names bytes before l.room (g.S.Source.left l.source) (g.K.Sink.held l.sink) (session_of l.running) l.marks.items;
  numbered : IsNumbered l.names l.running;
  room : l.room + vec_len l.marks ≤ 65536;
  line_room : 65536 ≤ vec_capacity l.line;
  marks_room : 65536 ≤ vec_capacity l.marks;
  source_later : g.S.Source.faults l.fn.source ≤ g.S.Source.faults l.source;
  sink_later : g.K.Sink.faults l.fn.sink ≤ g.K.Sink.faults l.sink;
}

abbrev pub decreases-loop-running : goal.decreases-loop-running
decreases-loop-running g l = l.room
