use Rattle.std.proofs.Common.{[], ◌∷◌, List, Option, length, take, sym, ap, subst, ◌∙◌, arith, length-append}
use Rattle.std.specs.Prelude.{slice_get}
use Rattle.b_summaries.specs.declared.summary.Told.{Told}
use Rattle.b_substitutions.specs.Standing.{AreTold}
use Rattle.b_substitutions.specs.Summaries.{told_body, known}
use Rattle.b_substitutions.proofs.Uses.{told_more, none_told}
use Rattle.b_substitutions.proofs.Naming.{get_there}
use Rattle.b_substitutions.proofs.tables.told_all.Goals as goal

pub loop-def-init : goal.loop-def-init
loop-def-init c = record {
  told = subst (λ (us : List (Option Told)). AreTold c.args.table.now us) (sym c.new-uses.ensures) (none_told c.args.table.now);
  many = ap length c.new-uses.ensures;
}

pub loop-def-preserved : goal.loop-def-preserved
loop-def-preserved c =
    let m = ap length c.in_ok-push.ensures.ok in
    let l = length-append c.loop-def.uses (c.in_ok-told.told ∷ []) in
    record {
      told = subst (λ (us : List (Option Told)). AreTold c.args.table.now us) (sym c.in_ok-push.ensures.ok)
          (told_more c.args.table.now c.loop-def.uses c.loop-def.invariant.told c.def-item.result
          (ap (slice_get c.args.table.now) c.loop-def.invariant.many ∙ get_there c.args.table.now c.loop-def.def-index c.def-item.result c.loop-def-test.true c.def-item.is) c.in_ok-told.told
          (c.in_ok-told.ensures
          ∙ ap (λ (us : List (Option Told)). told_body c.args.table.now (known c.args.table.now (take (length us) c.args.table.now)) c.def-item.result.params c.def-item.result.body) c.as_slice-so_far.ensures));
      many = omega arith;
    }

-- what is told so far
pub told_next-requires-clause-told : goal.told_next-requires-clause-told
told_next-requires-clause-told c = subst (λ (us : List (Option Told)). AreTold c.args.table.now us) (sym c.as_slice-so_far.ensures) c.loop-def.invariant.told

-- the next definition
pub told_next-requires-clause-there : goal.told_next-requires-clause-there
told_next-requires-clause-there c =
    ap (λ (us : List (Option Told)). slice_get c.args.table.now (length us)) c.as_slice-so_far.ensures
    ∙ (ap (slice_get c.args.table.now) c.loop-def.invariant.many ∙ get_there c.args.table.now c.loop-def.def-index c.def-item.result c.loop-def-test.true c.def-item.is)
