use Rattle.std.proofs.Common.{rules, ◌≡◌, ◌<◌, sym, subst, refl, List, ℕ, length, arith}
use Rattle.animator.proofs.Places.{extends_on}
use Rattle.host_top.specs.Machines.{meaning_of}
use Rattle.host_top.specs.Sessions.{session_of}
use Rattle.host_top.proofs.Sessions.{numbered_grown}
use Rattle.animator.specs.declared.model.End.TheVariants as End
use Rattle.host_top.specs.Taking.{EndsLine, EndsInput}
use Rattle.host_top.proofs.Running.{took_line, took_last, nothing_left, too_much, goes_on, ends_here, sink_failed, ended_between, cut_between, where_all_told, given_ok, given_err}
use Rattle.host_top.proofs.solo.run_lines.Goals as goal

pub loop-running-preserved : goal.loop-running-preserved
loop-running-preserved g c = record {
  extends = extends_on _ _ _ c.loop-running.invariant.extends c.answer_line-answered.ensures.extends;
  told = λ bytes before bytes_is before_is.
      let so_far = c.loop-running.invariant.told bytes before bytes_is before_is in
      let ends = subst (λ (l : List ℕ). EndsLine (g.S.Source.left c.loop-running.source) c.loop-running.room l (g.S.Source.left c.take_line-taken.new.source) c.take_line-taken.new.room) (sym c.deref.ensures.value) (c.in-Line.ensures.line refl) in
      let line = took_line so_far.rest c.deref.result.now c.loop-running.room (g.S.Source.left c.loop-running.source) (g.S.Source.left c.take_line-taken.new.source) c.take_line-taken.new.room so_far.left_is ends in
      rw c.push_reserved.ensures.items
      (goes_on (meaning_of c.args.machine.now) c.loop-running.names c.answer_line-answered.new.names bytes before c.loop-running.room (g.S.Source.left c.loop-running.source) (g.K.Sink.held c.loop-running.sink)
      (session_of c.loop-running.running) c.loop-running.marks.items c.answer_line-answered.result.marked c.deref.result.now so_far (g.S.Source.left c.take_line-taken.new.source) c.take_line-taken.new.room line.took
      c.answer_line-answered.ensures.extends c.answer_line-answered.ensures.named c.answer_line-answered.ensures.spared line.one
      (g.K.Sink.held c.answer_line-answered.new.sink) (session_of c.answer_line-answered.new.running)
      (given_ok c.answer_line-answered.result.given _ c.is_err.result c.is_err.ensures.value c.if-is_err.false c.answer_line-answered.ensures.text)
      c.answer_line-answered.ensures.session);
  numbered = c.answer_line-answered.ensures.numbered;
  room = omega arith;
  line_room = omega arith;
  marks_room = omega arith;
  source_later = omega arith;
  sink_later = omega arith;
}

pub returns-in-Fault-clause-animated : goal.returns-in-Fault-clause-animated
returns-in-Fault-clause-animated g c = where_all_told _ _ _ _ (λ bytes before bytes_is before_is documents.
    let so_far = c.loop-running.invariant.told bytes before bytes_is before_is in
    cut_between documents _ _ (meaning_of c.args.machine.now) c.loop-running.names bytes before c.loop-running.room (g.S.Source.left c.loop-running.source) (g.K.Sink.held c.loop-running.sink) (session_of c.loop-running.running)
    c.loop-running.marks.items End.SourceFault so_far (λ same. cc) (λ same. cc) (λ same. cc))

pub returns-in-Limit-clause-animated : goal.returns-in-Limit-clause-animated
returns-in-Limit-clause-animated g c = where_all_told _ _ _ _ (λ bytes before bytes_is before_is documents.
    let so_far = c.loop-running.invariant.told bytes before bytes_is before_is in
    cut_between documents _ _ (meaning_of c.args.machine.now) c.loop-running.names bytes before c.loop-running.room (g.S.Source.left c.loop-running.source) (g.K.Sink.held c.loop-running.sink) (session_of c.loop-running.running)
    c.loop-running.marks.items End.LineLimit so_far (λ same. cc) (λ same. cc)
    (λ _. too_much so_far.rest c.loop-running.room (g.S.Source.left c.loop-running.source) (g.S.Source.left c.take_line-taken.new.source) so_far.left_is (c.in-Limit.ensures.limit refl)))

pub returns-then-is_err-clause-animated : goal.returns-then-is_err-clause-animated
returns-then-is_err-clause-animated g c = where_all_told _ _ _ _ (λ bytes before bytes_is before_is documents.
    let so_far = c.loop-running.invariant.told bytes before bytes_is before_is in
    let ends = subst (λ (l : List ℕ). EndsLine (g.S.Source.left c.loop-running.source) c.loop-running.room l (g.S.Source.left c.take_line-taken.new.source) c.take_line-taken.new.room) (sym c.deref.ensures.value) (c.in-Line.ensures.line refl) in
    let line = took_line so_far.rest c.deref.result.now c.loop-running.room (g.S.Source.left c.loop-running.source) (g.S.Source.left c.take_line-taken.new.source) c.take_line-taken.new.room so_far.left_is ends in
    rw c.push_reserved.ensures.items
    (sink_failed (meaning_of c.args.machine.now) c.loop-running.names c.answer_line-answered.new.names bytes before c.loop-running.room (g.S.Source.left c.loop-running.source) (g.K.Sink.held c.loop-running.sink)
    (session_of c.loop-running.running) c.loop-running.marks.items c.answer_line-answered.result.marked c.deref.result.now so_far (g.S.Source.left c.take_line-taken.new.source) c.take_line-taken.new.room line.took
    c.answer_line-answered.ensures.extends c.answer_line-answered.ensures.named c.answer_line-answered.ensures.spared documents _ _
    (g.K.Sink.held c.answer_line-answered.new.sink)
    (given_err c.answer_line-answered.result.given _ c.is_err.result c.is_err.ensures.value c.if-is_err.true c.answer_line-answered.ensures.front)))

pub returns-then-is_empty-clause-animated : goal.returns-then-is_empty-clause-animated
returns-then-is_empty-clause-animated g c = where_all_told _ _ _ _ (λ bytes before bytes_is before_is documents.
    let so_far = c.loop-running.invariant.told bytes before bytes_is before_is in
    ended_between documents _ _ (meaning_of c.args.machine.now) c.loop-running.names bytes before c.loop-running.room (g.S.Source.left c.loop-running.source) (g.K.Sink.held c.loop-running.sink) (session_of c.loop-running.running) c.loop-running.marks.items
    so_far (nothing_left so_far.rest c.take_line-taken.new.line.items c.loop-running.room (g.S.Source.left c.loop-running.source) (g.S.Source.left c.take_line-taken.new.source) so_far.left_is (c.in-End.ensures.end refl) (search rules)))

pub returns-then-is_err-2-clause-animated : goal.returns-then-is_err-2-clause-animated
returns-then-is_err-2-clause-animated g c = where_all_told _ _ _ _ (λ bytes before bytes_is before_is documents.
    let so_far = c.loop-running.invariant.told bytes before bytes_is before_is in
    let ends = subst (λ (l : List ℕ). EndsInput (g.S.Source.left c.loop-running.source) c.loop-running.room l (g.S.Source.left c.take_line-taken.new.source)) (sym c.deref-in-End.ensures.value) (c.in-End.ensures.end refl) in
    let some : 0 < length c.deref-in-End.result.now = search rules in
    let last = took_last so_far.rest c.deref-in-End.result.now c.loop-running.room (g.S.Source.left c.loop-running.source) (g.S.Source.left c.take_line-taken.new.source) so_far.left_is ends some in
    rw c.push_reserved-in-End.ensures.items
    (sink_failed (meaning_of c.args.machine.now) c.loop-running.names c.answer_line-answered-in-End.new.names bytes before c.loop-running.room (g.S.Source.left c.loop-running.source) (g.K.Sink.held c.loop-running.sink)
    (session_of c.loop-running.running) c.loop-running.marks.items c.answer_line-answered-in-End.result.marked c.deref-in-End.result.now so_far (g.S.Source.left c.take_line-taken.new.source) last.room_now last.took
    c.answer_line-answered-in-End.ensures.extends c.answer_line-answered-in-End.ensures.named c.answer_line-answered-in-End.ensures.spared documents _ _
    (g.K.Sink.held c.answer_line-answered-in-End.new.sink)
    (given_err c.answer_line-answered-in-End.result.given _ c.is_err-in-End.result c.is_err-in-End.ensures.value c.if-is_err-2.true c.answer_line-answered-in-End.ensures.front)))

pub returns-in-End-clause-animated : goal.returns-in-End-clause-animated
returns-in-End-clause-animated g c = where_all_told _ _ _ _ (λ bytes before bytes_is before_is documents.
    let so_far = c.loop-running.invariant.told bytes before bytes_is before_is in
    let ends = subst (λ (l : List ℕ). EndsInput (g.S.Source.left c.loop-running.source) c.loop-running.room l (g.S.Source.left c.take_line-taken.new.source)) (sym c.deref-in-End.ensures.value) (c.in-End.ensures.end refl) in
    let some : 0 < length c.deref-in-End.result.now = search rules in
    let last = took_last so_far.rest c.deref-in-End.result.now c.loop-running.room (g.S.Source.left c.loop-running.source) (g.S.Source.left c.take_line-taken.new.source) so_far.left_is ends some in
    rw c.push_reserved-in-End.ensures.items
    (ends_here (meaning_of c.args.machine.now) c.loop-running.names c.answer_line-answered-in-End.new.names bytes before c.loop-running.room (g.S.Source.left c.loop-running.source) (g.K.Sink.held c.loop-running.sink)
    (session_of c.loop-running.running) c.loop-running.marks.items c.answer_line-answered-in-End.result.marked c.deref-in-End.result.now so_far (g.S.Source.left c.take_line-taken.new.source) last.room_now last.took
    c.answer_line-answered-in-End.ensures.extends c.answer_line-answered-in-End.ensures.named c.answer_line-answered-in-End.ensures.spared documents _ _ last.none last.within
    (g.K.Sink.held c.answer_line-answered-in-End.new.sink)
    (given_ok c.answer_line-answered-in-End.result.given _ c.is_err-in-End.result c.is_err-in-End.ensures.value c.if-is_err-2.false c.answer_line-answered-in-End.ensures.text)))

pub returns-then-is_err-clause-extends : goal.returns-then-is_err-clause-extends
returns-then-is_err-clause-extends g c = extends_on _ _ _ c.loop-running.invariant.extends c.answer_line-answered.ensures.extends

pub returns-then-is_err-2-clause-extends : goal.returns-then-is_err-2-clause-extends
returns-then-is_err-2-clause-extends g c = extends_on _ _ _ c.loop-running.invariant.extends c.answer_line-answered-in-End.ensures.extends

pub returns-in-End-clause-extends : goal.returns-in-End-clause-extends
returns-in-End-clause-extends g c = extends_on _ _ _ c.loop-running.invariant.extends c.answer_line-answered-in-End.ensures.extends
