use Rattle.std.proofs.Common.{◌≡◌, ◌<◌, ◌+◌, ◌-◌, length, true, cond, bytes_eq, Some, arith, refl, sym, ap, ◌∙◌, subst, rules}
use Rattle.std.specs.Prelude.{not, is_some, ◌&&◌}
use Rattle.b_values.specs.declared.types.NameFace.{NameFace}
use Rattle.type_demands.specs.Scopes.{bound_at, meaning_in}
use Rattle.type_demands.proofs.Frames.{IsOpening, opening_none, opening_more, opening_all}
use Rattle.type_formulas.proofs.known.frame_of.Goals as goal

pub loop-i-init : goal.loop-i-init
loop-i-init c = (true, opening_none (λ (k : NameFace). k.name) c.args.known.now 0 c.in_ok-meanings.meanings (λ x. search rules))

pub loop-i-preserved : goal.loop-i-preserved
loop-i-preserved c =
    let opening = c.loop-i.invariant.1 in
    let inside : c.loop-i.i - 1 < length c.args.known.now = let w = opening.within in let t = c.loop-i-test.true in omega arith in
    let before : c.loop-i.i ≡ c.loop-i.i - 1 + 1 = let t = c.loop-i-test.true in omega arith in
    let place : c.loop-i.i - 1 ≡ 0 + (c.loop-i.i - 1) = omega arith in
    let same : c.as_slice.result.now ≡ c.index-known-i.result.name = c.as_slice.ensures ∙ ap (λ (b : NameFace). b.name) (sym c.index-known-i.is) in (
      c.in_ok-put_name.field-0 && c.loop-i.invariant.0,
      opening_more (λ (k : NameFace). k.name) c.args.known.now 0 (c.loop-i.i - 1) c.index-known-i.result c.loop-i.meanings c.put_name.new.meanings c.loop-i.invariant.0 c.in_ok-put_name.field-0 (c.in_ok-put_name.field-0 && c.loop-i.invariant.0) inside c.index-known-i.is
          (subst (λ k. IsOpening (λ (b : NameFace). b.name) c.args.known.now 0 k c.loop-i.meanings c.loop-i.invariant.0) before opening)
          (λ x.
          subst (λ p. meaning_in c.put_name.new.meanings x ≡ cond (bytes_eq x c.index-known-i.result.name) (Some (bound_at p)) (meaning_in c.loop-i.meanings x)) place
          (subst (λ n. meaning_in c.put_name.new.meanings x ≡ cond (bytes_eq x n) (Some (bound_at (c.loop-i.i - 1))) (meaning_in c.loop-i.meanings x)) same (c.in_ok-put_name.ensures.put x)))
          (subst (λ n. c.in_ok-put_name.field-0 ≡ not (is_some (meaning_in c.loop-i.meanings n))) same c.in_ok-put_name.ensures.fresh) refl,
    )

pub returns : goal.returns
returns c = (opening_all (λ (k : NameFace). k.name) c.args.known.now 0 c.loop-i.i c.loop-i.meanings c.loop-i.invariant.0 (let f = c.loop-i-test.false in omega arith) c.loop-i.invariant.1).0
