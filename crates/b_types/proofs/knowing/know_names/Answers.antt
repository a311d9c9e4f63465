use Rattle.std.proofs.Common.{ap, ◌∙◌}
use Rattle.type_demands.specs.Scopes.{names_of, scope_of}
use Rattle.type_demands.proofs.Frames.{framed}
use Rattle.b_types.proofs.knowing.know_names.Goals as goal

pub returns-clause-scope : goal.returns-clause-scope
returns-clause-scope c =
    ap scope_of c.in_ok-push.ensures.items
    ∙ framed c.args.frames.now.items c.in_ok-opened.opened.frame (names_of c.args.names.now) c.args.start c.in_ok-opened.ensures.frame
