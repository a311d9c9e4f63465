use Rattle.std.proofs.Common.{◌≡◌, ◌<◌, ◌+◌, ◌-◌, ℕ, List, length, cond, bytes_eq, Some, map, arith, sym, ap, ◌∙◌, subst}
use Rattle.std.specs.Prelude.{not, is_some}
use Rattle.type_demands.specs.Scopes.{all_differ, bind, bound_at, meaning_in, nothing_known}
use Rattle.type_demands.proofs.Frames.{IsOpening, opening_more, opening_all}
use Rattle.type_names.proofs.Framing.{map_id}
use Rattle.type_names.proofs.looking.frame_of.Goals as goal

pub loop-i-preserved : goal.loop-i-preserved
loop-i-preserved c =
    let inside : c.loop-i.i - 1 < length c.args.names.now = let w = c.loop-i.invariant.within in let t = c.loop-i-test.true in omega arith in
    let before : c.loop-i.i ≡ c.loop-i.i - 1 + 1 = let t = c.loop-i-test.true in omega arith in
    let place : c.loop-i.i - 1 ≡ 0 + (c.loop-i.i - 1) = omega arith in
    let same : c.as_slice.result.now ≡ c.index-names-i.result = c.as_slice.ensures in
    opening_more (λ (x : List ℕ). x) c.args.names.now 0 (c.loop-i.i - 1) c.index-names-i.result c.loop-i.meanings c.put_name.new.meanings c.loop-i.differ c.in_ok-fresh.fresh c.both-differ.result inside c.index-names-i.is
    (subst (λ k. IsOpening (λ (x : List ℕ). x) c.args.names.now 0 k c.loop-i.meanings c.loop-i.differ) before c.loop-i.invariant)
    (λ x.
    subst (λ p. meaning_in c.put_name.new.meanings x ≡ cond (bytes_eq x c.index-names-i.result) (Some (bound_at p)) (meaning_in c.loop-i.meanings x)) place
    (subst (λ n. meaning_in c.put_name.new.meanings x ≡ cond (bytes_eq x n) (Some (bound_at (c.loop-i.i - 1))) (meaning_in c.loop-i.meanings x)) same (c.in_ok-fresh.ensures.put x)))
    (subst (λ n. c.in_ok-fresh.fresh ≡ not (is_some (meaning_in c.loop-i.meanings n))) same c.in_ok-fresh.ensures.fresh)
    c.both-differ.ensures

pub returns-clause-frame : goal.returns-clause-frame
returns-clause-frame c =
    λ x.
    (opening_all (λ (y : List ℕ). y) c.args.names.now 0 c.loop-i.i c.loop-i.meanings c.loop-i.differ (let f = c.loop-i-test.false in omega arith) c.loop-i.invariant).0 x
    ∙ ap (λ l. bind l 0 nothing_known x) (map_id c.args.names.now)

pub returns-clause-differ : goal.returns-clause-differ
returns-clause-differ c =
    (opening_all (λ (y : List ℕ). y) c.args.names.now 0 c.loop-i.i c.loop-i.meanings c.loop-i.differ (let f = c.loop-i-test.false in omega arith) c.loop-i.invariant).1
    ∙ ap all_differ (map_id c.args.names.now)
