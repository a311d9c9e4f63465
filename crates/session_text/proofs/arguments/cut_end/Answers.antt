use Rattle.std.proofs.Common.{◌≡◌, ◌≤◌, ◌-◌, ◌∙◌, length, get_or, true, false, arith}
use Rattle.b_lex.specs.Bytes.{is_blank}
use Rattle.session_text.proofs.Trims.{cut_last, kept_last}
use Rattle.session_text.proofs.arguments.cut_end.Goals as goal

pub returns-else-is_blank : goal.returns-else-is_blank
returns-else-is_blank c =
    let some : 1 ≤ length c.loop-rest.rest.now = omega arith in
    let plain : is_blank (get_or c.loop-rest.rest.now (length c.loop-rest.rest.now - 1) 0) ≡ false = cc in
    kept_last c.loop-rest.rest.now some plain ∙ c.loop-rest.invariant

pub loop-rest-preserved : goal.loop-rest-preserved
loop-rest-preserved c =
    let some : 1 ≤ length c.loop-rest.rest.now = omega arith in
    let blank : is_blank (get_or c.loop-rest.rest.now (length c.loop-rest.rest.now - 1) 0) ≡ true = cc in
    cut_last c.loop-rest.rest.now some blank ∙ c.loop-rest.invariant
