use Rattle.std.proofs.Common.{sym, ap, ◌∙◌}
use Rattle.ascending.specs.Ascending.{insert, set_of}
use Rattle.b_values.specs.Values.{value_cmp}
use Rattle.set_making.specs.MakingLaws.{one_more}
use Rattle.set_making.proofs.gathering.Gathering.push.Goals as goal

pub returns-then-has_pushed-clause-gathered : goal.returns-then-has_pushed-clause-gathered
returns-then-has_pushed-clause-gathered c =
    ap (set_of value_cmp) c.if-has_pushed.ensures ∙ sym (one_more c.self.inside.items.items c.args.v) ∙ ap (insert value_cmp c.args.v) c.self.view_is
