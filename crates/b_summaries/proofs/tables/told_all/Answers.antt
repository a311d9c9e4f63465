use Rattle.std.proofs.Common.{[], ◌∷◌, List, Option, length, take, sym, ap, subst, ◌∙◌, arith, length-append}
use Rattle.std.specs.Prelude.{slice_get}
use Rattle.std.specs.Option.{option_copied}
use Rattle.b_summaries.specs.declared.summary.Told.{Told}
use Rattle.b_summaries.specs.Summaries.{told_body, meanings}
use Rattle.b_summaries.specs.Standing.{AreTold}
use Rattle.b_summaries.proofs.Naming.{get_there, told_more, none_told, parameters_known}
use Rattle.b_summaries.proofs.tables.told_all.Goals as goal

pub loop-def-init : goal.loop-def-init
loop-def-init c = record {
  told = subst (λ (ks : List (Option Told)). AreTold c.args.table.now ks) (sym c.new-known.ensures) (none_told c.args.table.now);
  many = ap length c.new-known.ensures;
}

pub loop-def-preserved : goal.loop-def-preserved
loop-def-preserved c =
    let m = ap length c.in_ok-push.ensures.ok in
    let l = length-append c.loop-def.known (c.in_ok-told.told ∷ []) in
    record {
      told = subst (λ (ks : List (Option Told)). AreTold c.args.table.now ks) (sym c.in_ok-push.ensures.ok)
          (told_more c.args.table.now c.loop-def.known c.loop-def.invariant.told c.def-item.result
          (ap (slice_get c.args.table.now) c.loop-def.invariant.many ∙ get_there c.args.table.now c.loop-def.def-index c.def-item.result c.loop-def-test.true c.def-item.is) c.in_ok-told.told
          (c.in_ok-told.ensures
          ∙ ap (λ (ks : List (Option Told)). told_body c.args.table.now c.def-item.result.params (meanings c.args.table.now (take (length ks) c.args.table.now)) c.def-item.result.body) c.as_slice-in-loop-def.ensures));
      many = omega arith;
    }

-- each text has the index of its parameters
pub told_next-requires-clause-places : goal.told_next-requires-clause-places
told_next-requires-clause-places c =
    parameters_known c.args.table.now c.args.index.now c.requires (length c.loop-def.known) c.def-item.result
    (ap (slice_get c.args.table.now) c.loop-def.invariant.many ∙ get_there c.args.table.now c.loop-def.def-index c.def-item.result c.loop-def-test.true c.def-item.is) c.as_slice.result.now c.as_slice.ensures (option_copied c.at-places.result) (c.at-places.ensures ∙ ap (slice_get c.as_slice.result.now) c.len.ensures)
