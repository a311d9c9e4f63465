use Rattle.std.proofs.Common.{sym, ap, ◌∙◌}
use Rattle.b_values.specs.ValueLaws.{elements-Set}
use Rattle.b_values.specs.Values.{elements}
use Rattle.b_places.proofs.Kept.{kept_members}
use Rattle.b_places.proofs.ranges.members_of.Goals as goal

pub returns-in-Set-clause-kept : goal.returns-in-Set-clause-kept
returns-in-Set-clause-kept c = kept_members c.args.v c.in-Set.items (sym (ap elements c.in-Set.is ∙ elements-Set c.in-Set.items)) c.requires
