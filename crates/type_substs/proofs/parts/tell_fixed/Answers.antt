use Rattle.std.proofs.Common.{◌≡◌, ◌++◌, ◌∷◌, [], ap, ◌∙◌}
use Rattle.type_demands.specs.Scopes.{bind, names_of, scope_of}
use Rattle.type_demands.proofs.Frames.{framed}
use Rattle.type_substs.proofs.parts.tell_fixed.Goals as goal

pub returns-clause-scope : goal.returns-clause-scope
returns-clause-scope c =
    ap scope_of (c.in_ok-push.ensures.items ∙ ap (λ l. l ++ c.in_ok-opened.opened.frame ∷ []) c.in_ok-tell_values.ensures.frames)
    ∙ framed c.args.frames.now.items c.in_ok-opened.opened.frame (names_of c.args.names.now) c.in_ok-first.first c.in_ok-opened.ensures.frame
    ∙ ap (λ k. bind (names_of c.args.names.now) k (scope_of c.args.frames.now.items)) c.in_ok-first.ensures.whole
