use Rattle.std.proofs.Common.{◌≡◌, ap, ◌∙◌, drop, arith}
use Rattle.b_names.specs.Index.{answer_of, IsIndexOfNames}
use Rattle.b_names.proofs.Names.{place_among_after, place_among_start}
use Rattle.b_names.proofs.places.index_of_names.Goals as goal

-- the map has all names
pub returns : goal.returns
unfolding answer_of IsIndexOfNames
returns c = λ x.
    let at_start : c.loop-left.left ≡ 0 = omega arith in
    c.loop-left.invariant.places x ∙ (ap (λ n. place_among_after n (drop n c.args.names.now) x) at_start ∙ place_among_start c.args.names.now x)
