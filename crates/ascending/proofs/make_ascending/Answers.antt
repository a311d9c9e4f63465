use Rattle.std.proofs.Common.{◌≡◌, ◌∙◌, sym, subst}
use Rattle.std.proofs.lemmas.List.Filters.{dedup_is}
use Rattle.ascending.specs.Ascending.{IsAscending, set_of}
use Rattle.ascending.specs.AscendingLaws.{set_of_ascends}
use Rattle.ascending.specs.SortLaws.{set_of_sorted}
use Rattle.ascending.proofs.make_ascending.Goals as goal

pub returns : goal.returns
returns g c =
    let o = g.met.T.Ord.total in
    let is : c.dedup.new.self.items ≡ set_of g.T.Ord.cmp c.args.items.now.items =
    dedup_is _ _ _ c.dedup.ensures.filtered
    ∙ set_of_sorted g.T.Ord.cmp o c.requires _ g.met.T.Ord.matches_eq _ _ c.sort_unstable.ensures.permutation c.sort_unstable.ensures.sorted in
    record {
      set = is;
      ascends = subst (IsAscending g.T.Ord.cmp) (sym is) (set_of_ascends g.T.Ord.cmp o c.requires c.args.items.now.items);
    }
