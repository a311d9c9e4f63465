use Rattle.std.proofs.Common.{subst, arith, length, drop, ◌+◌, ◌≡◌}
use Rattle.std.proofs.lemmas.List.{length-drop}
use Rattle.b_lex.specs.Strings.{IsStringEnd, IsPart}
use Rattle.b_lex.specs.declared.fronts.Part.TheVariants.{More}
use Rattle.b_lex.proofs.Bodies.{further, none_yet, done}
use Rattle.b_lex.proofs.strings.string_front.Goals as goal

pub parts-init : goal.parts-init
parts-init c = (none_yet c.args.text.now, omega arith, omega arith)

pub parts-preserved : goal.parts-preserved
parts-preserved c =
    let next = subst (λ t. IsPart c.parts.at c.parts.value t (More c.in-More.n c.in-More.m)) c.split_at.ensures.back c.in-More.ensures in
    let so_far = c.parts.invariant in
    let long : length (drop c.parts.at c.args.text.now) + c.parts.at ≡ length c.args.text.now = omega (arith, length-drop c.parts.at c.args.text.now, so_far.1) in
    (further c.args.text.now c.parts.at c.in-More.n c.parts.value c.in-More.m so_far.0 next.0, omega (arith, so_far.1, next.2, long), omega (arith, so_far.2, next.3))

pub returns-in-End : goal.returns-in-End
returns-in-End c = done c.args.text.now c.parts.at c.parts.value c.in-End.front c.parts.invariant.0 c.parts.invariant.1 (subst (λ t. IsStringEnd c.parts.at c.parts.value t c.in-End.front) c.split_at.ensures.back c.in-End.ensures)
