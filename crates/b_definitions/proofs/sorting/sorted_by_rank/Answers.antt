use Rattle.std.proofs.Common.{length, ap, ◌∙◌}
use Rattle.std.proofs.lemmas.List.{length-map}
use Rattle.std.proofs.lemmas.List.Sorted.{length_permutation}
use Rattle.b_definitions.specs.declared.sorting.Ranked.{Ranked}
use Rattle.b_definitions.specs.Ranks.{ranked}
use Rattle.b_definitions.proofs.Stability.{same_first}
use Rattle.b_definitions.proofs.Kept.{sorted_kept}
use Rattle.b_definitions.proofs.sorting.sorted_by_rank.Goals as goal

-- the ranks are those of the names
pub returns-clause-first : goal.returns-clause-first
returns-clause-first c =
    same_first c.args.index.now c.args.ranks.now c.args.table.defs c.in_ok-ranked.ranked.items c.in_ok-ranked-2.ranked.items c.in_ok-defs.defs c.in_ok-ranked.ensures c.in_ok-ranked-2.ensures.same c.in_ok-ranked-2.ensures.all
    (length_permutation c.in_ok-ranked.ranked.items c.in_ok-ranked-2.ranked.items c.in_ok-ranked-2.ensures.all) c.in_ok-defs.ensures

pub returns-clause-same : goal.returns-clause-same
returns-clause-same c =
    sorted_kept c.args.index.now c.args.ranks.now c.args.table.defs c.in_ok-ranked.ranked.items c.in_ok-ranked-2.ranked.items c.in_ok-defs.defs c.in_ok-ranked.ensures c.in_ok-ranked-2.ensures.all c.in_ok-defs.ensures

pub returns-clause-many : goal.returns-clause-many
returns-clause-many c =
    ap length c.in_ok-defs.ensures
    ∙ (length-map c.in_ok-ranked-2.ranked.items (λ (r : Ranked). r.def)
    ∙ (length_permutation c.in_ok-ranked.ranked.items c.in_ok-ranked-2.ranked.items c.in_ok-ranked-2.ensures.all
    ∙ (ap length c.in_ok-ranked.ensures ∙ length-map c.args.table.defs (ranked c.args.index.now c.args.ranks.now))))
