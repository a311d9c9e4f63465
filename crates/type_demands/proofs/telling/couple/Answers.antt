use Rattle.std.proofs.Common.{◌≡◌, ◌++◌, ◌+◌, drop, length, arith, sym, ap, ◌∙◌}
use Rattle.type_demands.specs.Demands.{couple_whole, couple_demands}
use Rattle.type_demands.proofs.Couples.{couple_more, whole_more, parts_more}
use Rattle.type_demands.proofs.telling.couple.Goals as goal

pub loop-i-preserved : goal.loop-i-preserved
loop-i-preserved c =
    let names = c.args.names.now in
    let i = c.loop-i.i in
    let first = c.args.first in
    let n = c.in_ok-couple.couple in
    let rest = drop (c.loop-i.i + 1) c.args.names.now in
    let next_part : c.take.new.next ≡ c.in_ok-couple.couple + 1 = c.in_ok-couple.ensures.parts ∙ sym (ap (λ k. k + 1) c.in_ok-couple.ensures.whole) in
    let name_part : c.args.first + (c.loop-i.i + 1) ≡ c.args.first + c.loop-i.i + 1 = omega arith in
    record {
      told =
          ap (λ k. c.keep_one.new.out.items ++ couple_demands n k c.take.new.next rest) name_part
          ∙ ap (λ k. c.keep_one.new.out.items ++ couple_demands n (first + i + 1) k rest) next_part
          ∙ couple_more names i c.loop-i-test.true c.loop-i.out.items c.keep_one.new.out.items c.loop-i.whole (first + i) n c.in_ok-keep_one.ensures
          ∙ ap (λ k. c.loop-i.out.items ++ couple_demands c.loop-i.whole (first + i) k (drop i names)) c.in_ok-couple.ensures.whole
          ∙ c.loop-i.invariant.told;
      whole =
          ap (λ k. couple_whole n k rest) next_part
          ∙ whole_more names i c.loop-i-test.true c.loop-i.whole n
          ∙ ap (λ k. couple_whole c.loop-i.whole k (drop i names)) c.in_ok-couple.ensures.whole
          ∙ c.loop-i.invariant.whole;
      parts = ap (λ k. k + length rest) c.in_ok-couple.ensures.parts ∙ parts_more names i c.loop-i-test.true c.loop-i.next ∙ c.loop-i.invariant.parts;
    }
