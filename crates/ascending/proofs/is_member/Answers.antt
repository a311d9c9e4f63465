use Rattle.std.proofs.Common.{◌↔◌, IsTrue, sym, subst}
use Rattle.ascending.specs.Ascending.{In}
use Rattle.ascending.specs.SortLaws.{search_finds}
use Rattle.ascending.proofs.is_member.Goals as goal

pub returns : goal.returns
returns g c =
    subst (λ b. IsTrue b ↔ In c.args.x.now c.args.items.now) (sym c.is_ok.ensures.value)
    (search_finds g.T.Ord.cmp g.met.T.Ord.total c.requires.one _ _ _ c.requires.ascends c.binary_search.ensures.bound c.binary_search.ensures.position)
