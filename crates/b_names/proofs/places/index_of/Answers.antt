use Rattle.std.proofs.Common.{◌≡◌, ap, ◌∙◌, drop, arith}
use Rattle.b_names.specs.Index.{answer_of}
use Rattle.b_names.proofs.Names.{place_after, place_from_start}
use Rattle.b_names.proofs.places.index_of.Goals as goal

-- the map has the names of the whole table
pub returns : goal.returns
unfolding answer_of
returns c = λ x.
    let at_start : c.loop-i.i ≡ 0 = omega arith in
    c.loop-i.invariant.places x ∙ (ap (λ n. place_after n (drop n c.args.defs.now) x) at_start ∙ place_from_start c.args.defs.now x)
