use Rattle.std.proofs.Common.{◌≡◌, ◌∷◌, [], ◌++◌, ap, ◌∙◌}
use Rattle.type_demands.specs.Scopes.{scope_of}
use Rattle.type_formulas.proofs.Answering.{outer_is}
use Rattle.type_formulas.proofs.known.outer.Goals as goal

pub returns : goal.returns
returns c =
    ap scope_of (c.in_ok-push.ensures.items ∙ ap (λ l. l ++ c.in_ok-frame_of.field-0 ∷ []) c.new-frames.ensures.items)
    ∙ outer_is c.args.known.now c.in_ok-frame_of.field-0 c.in_ok-frame_of.ensures
