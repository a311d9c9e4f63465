use Rattle.std.proofs.Common.{sym, ap, ◌∙◌, subst}
use Rattle.set_making.specs.Making.{Answers, set_with}
use Rattle.set_making.specs.MakingLaws.{set_with_set_of}
use Rattle.set_making.proofs.gathering.Gathering.finish.Goals as goal

pub returns : goal.returns
returns c = subst (λ row. Answers row c.set_with.result) (sym (set_with_set_of c.self.inside.items.items) ∙ ap set_with c.self.view_is) c.set_with.ensures
