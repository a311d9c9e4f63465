use Rattle.b_funsets.proofs.ArrowRows.{arrows_found, arrows_refused, arrows_kept, arrows_members}
use Rattle.b_funsets.proofs.arrows.functions_of.Goals as goal

pub returns-in-Ok-sets_of-clause-value : goal.returns-in-Ok-sets_of-clause-value
returns-in-Ok-sets_of-clause-value c = arrows_found c.args.a c.args.s.now c.args.t.now c.requires.left c.requires.right _ _ _ _ _
    c.members.ensures c.members-2.ensures c.in-Ok.ensures c.in-Ok-sets_of.ensures c.set_with.ensures

pub returns-in-Ok-sets_of-clause-kept : goal.returns-in-Ok-sets_of-clause-kept
returns-in-Ok-sets_of-clause-kept c = arrows_kept c.args.a c.args.s.now c.args.t.now c.requires.left c.requires.right _
    (arrows_found c.args.a c.args.s.now c.args.t.now c.requires.left c.requires.right _ _ _ _ _
    c.members.ensures c.members-2.ensures c.in-Ok.ensures c.in-Ok-sets_of.ensures c.set_with.ensures)

pub returns-in-Ok-sets_of-clause-members : goal.returns-in-Ok-sets_of-clause-members
returns-in-Ok-sets_of-clause-members c = arrows_members c.args.a c.args.s.now c.args.t.now c.requires.left c.requires.right _
    (arrows_found c.args.a c.args.s.now c.args.t.now c.requires.left c.requires.right _ _ _ _ _
    c.members.ensures c.members-2.ensures c.in-Ok.ensures c.in-Ok-sets_of.ensures c.set_with.ensures)

pub returns-in-Err-clause-value : goal.returns-in-Err-clause-value
returns-in-Err-clause-value c = arrows_refused c.args.a c.args.s.now c.args.t.now c.requires.left c.requires.right c.members.result.now c.members-2.result.now c.in-Err.fault
    c.members.ensures c.members-2.ensures c.in-Err.ensures
