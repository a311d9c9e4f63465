use Rattle.std.proofs.Common.{rules, ◌≡◌, ◌∙◌, ap, subst, ℕ, List, [], ◌∷◌, ◌++◌, length}
use Rattle.animator.specs.Private.{Shown}
use Rattle.host_top.specs.declared.finish.SessionEnd.{SessionEnd}
use Rattle.host_top.specs.Summary.{session_line, states_line, summary}
use Rattle.host_top.specs.Stops.{HasSummed}
use Rattle.host_top.specs.Runs.{ends_of}
use Rattle.host_top.proofs.top.run_desk.Goals as goal

pub returns : goal.returns
returns g c =
    let e = c.solo_session-ended.result.0 in
    let shown : Shown = record { end = e.end; lines = e.lines; marks = e.marks; held = g.O.Sink.Sink.held e.desk.sink; source_faults = g.O.Source.Source.faults e.desk.source; sink_faults = g.O.Sink.Sink.faults e.desk.sink } in
    let items : c.push_reserved.new.self.items ≡ e ∷ [] = c.push_reserved.ensures.items ∙ ap (λ (l : _). l ++ e ∷ []) c.requires.none in
    let one : ends_of g.O.Source.Source.faults g.O.Sink.Sink.held g.O.Sink.Sink.faults c.push_reserved.new.self.items ≡ shown ∷ [] = ap (ends_of g.O.Source.Source.faults g.O.Sink.Sink.held g.O.Sink.Sink.faults) items in
    let text : session_line c.args.session.now e.end e.lines c.as_slice.result.now ++ states_line c.len.result ≡ session_line c.args.session.now e.end e.lines e.marks ++ states_line (length c.solo_session-ended.result.1) = search rules in
    record {
      shown = shown;
      summed = c.give_summary-summed.result;
      one = one;
      animated = c.solo_session-ended.ensures.animated;
      distinct = c.solo_session-ended.ensures.distinct;
      root = c.solo_session-ended.ensures.names;
      cause = record {
        source = λ is. rw c.requires.source_count at (c.solo_session-ended.ensures.source_fault is);
        sink = λ is. rw c.requires.sink_count at (c.solo_session-ended.ensures.sink_fault is);
        memory = c.solo_session-ended.ensures.no_memory;
        no_quit = c.solo_session-ended.ensures.no_quit;
      };
      status = c.solo_status-status.ensures;
      text = rw (one, ← text) c.give_summary-summed.ensures;
    }
