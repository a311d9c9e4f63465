use Rattle.set_making.specs.MakingLaws.{is_among_is}
use Rattle.set_making.proofs.is_among.Goals as goal

pub returns : goal.returns
returns c = is_among_is _ _ _ c.is_member.ensures
