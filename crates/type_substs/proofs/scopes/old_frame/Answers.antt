use Rattle.std.proofs.Common.{◌≡◌, ◌<◌, ◌+◌, ◌-◌, length, arith, sym, ap, ◌∙◌, subst}
use Rattle.b_ast.specs.declared.Bound.{Bound}
use Rattle.type_demands.specs.Scopes.{meaning_in, scope_of}
use Rattle.type_substs.specs.Told.{put_written}
use Rattle.type_substs.proofs.Olds.{IsOld, old_more}
use Rattle.type_substs.proofs.scopes.old_frame.Goals as goal

pub loop-i-preserved : goal.loop-i-preserved
loop-i-preserved c =
    let inside : c.loop-i.i - 1 < length c.args.names.now = let w = c.loop-i.invariant.within in let t = c.loop-i-test.true in omega arith in
    let before : c.loop-i.i ≡ c.loop-i.i - 1 + 1 = let t = c.loop-i-test.true in omega arith in
    let same : c.as_slice.result.now ≡ c.index-names-i.result.name = c.as_slice.ensures ∙ ap (λ (b : Bound). b.name) (sym c.index-names-i.is) in
    old_more c.args.names.now (scope_of c.args.frames.now) (c.loop-i.i - 1) c.index-names-i.result c.loop-i.meanings c.put_old.new.meanings inside c.index-names-i.is
    (subst (λ k. IsOld c.args.names.now (scope_of c.args.frames.now) k c.loop-i.meanings) before c.loop-i.invariant)
    (λ x. subst (λ n. meaning_in c.put_old.new.meanings x ≡ put_written (scope_of c.args.frames.now n) n x (meaning_in c.loop-i.meanings x)) same (c.in_ok-put_old.ensures x))
