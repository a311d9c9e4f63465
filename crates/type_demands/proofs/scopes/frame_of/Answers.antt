use Rattle.std.proofs.Common.{◌≡◌, ◌<◌, ◌+◌, ◌-◌, length, cond, bytes_eq, Some, arith, sym, ap, ◌∙◌, subst}
use Rattle.std.specs.Prelude.{not, is_some}
use Rattle.b_ast.specs.declared.Bound.{Bound}
use Rattle.type_demands.specs.Scopes.{bound_at, meaning_in}
use Rattle.type_demands.proofs.Frames.{IsOpening, opening_more}
use Rattle.type_demands.proofs.scopes.frame_of.Goals as goal

pub loop-i-preserved : goal.loop-i-preserved
loop-i-preserved c =
    let inside : c.loop-i.i - 1 < length c.args.names.now = let w = c.loop-i.invariant.within in let t = c.loop-i-test.true in omega arith in
    let before : c.loop-i.i ≡ c.loop-i.i - 1 + 1 = let t = c.loop-i-test.true in omega arith in
    let same : c.as_slice.result.now ≡ c.index-names-i.result.name = c.as_slice.ensures ∙ ap (λ (b : Bound). b.name) (sym c.index-names-i.is) in
    opening_more (λ (b : Bound). b.name) c.args.names.now c.args.start (c.loop-i.i - 1) c.index-names-i.result c.loop-i.meanings c.put_name.new.meanings c.loop-i.differ c.in_ok-fresh.fresh c.both-differ.result inside c.index-names-i.is
    (subst (λ k. IsOpening (λ (b : Bound). b.name) c.args.names.now c.args.start k c.loop-i.meanings c.loop-i.differ) before c.loop-i.invariant)
    (λ x. subst (λ n. meaning_in c.put_name.new.meanings x ≡ cond (bytes_eq x n) (Some (bound_at (c.args.start + (c.loop-i.i - 1)))) (meaning_in c.loop-i.meanings x)) same (c.in_ok-fresh.ensures.put x))
    (subst (λ n. c.in_ok-fresh.fresh ≡ not (is_some (meaning_in c.loop-i.meanings n))) same c.in_ok-fresh.ensures.fresh)
    c.both-differ.ensures
