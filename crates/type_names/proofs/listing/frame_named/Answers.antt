use Rattle.std.proofs.Common.{◌≡◌, ◌<◌, ◌+◌, ◌-◌, length, arith, subst}
use Rattle.type_names.proofs.Framing.{IsFraming, framing_more}
use Rattle.type_names.proofs.listing.frame_named.Goals as goal

pub loop-i-preserved : goal.loop-i-preserved
loop-i-preserved c =
    let inside : c.loop-i.i - 1 < length c.args.names.now = let w = c.loop-i.invariant.within in let t = c.loop-i-test.true in omega arith in
    let before : c.loop-i.i ≡ c.loop-i.i - 1 + 1 = let t = c.loop-i-test.true in omega arith in
    framing_more c.args.names.now (c.loop-i.i - 1) c.index-names-i.result c.loop-i.meanings c.put_name.new.meanings inside c.index-names-i.is
    (subst (λ k. IsFraming c.args.names.now k c.loop-i.meanings) before c.loop-i.invariant)
    (λ x. let s = c.as_slice.ensures in let i = c.index-names-i.is in let p = c.in_ok-put_name.ensures.put x in cc)
