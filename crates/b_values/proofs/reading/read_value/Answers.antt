use Rattle.std.proofs.Common.{◌≡◌, ◌≤◌, ◌<◌, ◌∙◌, true, Ok, ap, drop, rules, arith}
use Rattle.b_values.proofs.ReadingWhole.{parsed, unread, not_whole, too_large, typed, kept}
use Rattle.b_values.proofs.ReadingLinks.{answer_at, none_left, some_left}
use Rattle.b_values.proofs.reading.read_value.Goals as goal

pub returns-in-Ok-None-clause-value : goal.returns-in-Ok-None-clause-value
returns-in-Ok-None-clause-value c =
    unread c.args.face.now.sets c.args.ty.now c.args.text.now
    (answer_at c.args.ty.now c.args.text.now c.as_slice.result.now c.args.face.now.sets c.as_slice.ensures c.read_front.result _ (c.in-Ok-None.is ∙ ap Ok c.in-Ok-None.field-0-is) c.read_front.ensures)

pub returns-then-blanks_end-text-clause-value : goal.returns-then-blanks_end-text-clause-value
returns-then-blanks_end-text-clause-value c =
    let e = answer_at c.args.ty.now c.args.text.now c.as_slice.result.now c.args.face.now.sets c.as_slice.ensures c.read_front.result _ (c.in-Ok-Some.is ∙ ap Ok c.in-Ok-Some.field-0-is) c.read_front.ensures in
    not_whole c.args.face.now.sets c.args.ty.now c.args.text.now c.in-Ok-Some.value (drop c.in-Ok-Some.end c.args.text.now) e.0
    (some_left c.args.text.now c.in-Ok-Some.end c.blanks_end.result c.blanks_end.ensures.skipped c.if-blanks_end-text.true)

pub returns-then-fits-clause-value : goal.returns-then-fits-clause-value
returns-then-fits-clause-value c =
    let e = answer_at c.args.ty.now c.args.text.now c.as_slice.result.now c.args.face.now.sets c.as_slice.ensures c.read_front.result _ (c.in-Ok-Some.is ∙ ap Ok c.in-Ok-Some.field-0-is) c.read_front.ensures in
    parsed c.args.face.now.sets c.args.ty.now c.args.text.now c.in-Ok-Some.value (drop c.in-Ok-Some.end c.args.text.now) e.0
    (none_left c.args.text.now c.in-Ok-Some.end c.blanks_end.result c.blanks_end.ensures.skipped c.if-blanks_end-text.false) (c.fits.ensures.0 c.if-fits.true)

pub returns-then-fits-clause-typed : goal.returns-then-fits-clause-typed
returns-then-fits-clause-typed c = typed c.args.face.now.sets c.args.ty.now c.args.text.now c.in-Ok-Some.value (returns-then-fits-clause-value c)

pub returns-then-fits-clause-kept : goal.returns-then-fits-clause-kept
returns-then-fits-clause-kept c = kept c.args.face.now.sets c.args.ty.now c.args.text.now c.in-Ok-Some.value (returns-then-fits-clause-value c)

pub returns-else-fits-clause-value : goal.returns-else-fits-clause-value
returns-else-fits-clause-value c =
    let e = answer_at c.args.ty.now c.args.text.now c.as_slice.result.now c.args.face.now.sets c.as_slice.ensures c.read_front.result _ (c.in-Ok-Some.is ∙ ap Ok c.in-Ok-Some.field-0-is) c.read_front.ensures in
    too_large c.args.face.now.sets c.args.ty.now c.args.text.now c.in-Ok-Some.value (drop c.in-Ok-Some.end c.args.text.now) e.0
    (λ h. let k : c.fits.result ≡ true = c.fits.ensures.1 h in cc (c.if-fits.false, k))
