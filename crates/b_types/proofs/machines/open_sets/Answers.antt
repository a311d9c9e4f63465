use Rattle.std.proofs.Common.{◌∷◌, [], ◌++◌, ap, ◌∙◌}
use Rattle.type_demands.specs.Scopes.{scope_of}
use Rattle.type_names.specs.Machines.{sets_scope}
use Rattle.b_types.proofs.Scopes.{one_frame}
use Rattle.b_types.proofs.machines.open_sets.Goals as goal

pub returns : goal.returns
returns c =
    ap scope_of (c.in_ok-push.ensures.items ∙ ap (λ l. l ++ c.in_ok-frame_of_sets.field-0 ∷ []) c.new-frames.ensures.items)
    ∙ one_frame c.in_ok-frame_of_sets.field-0 (sets_scope c.args.m.now c.args.default) c.in_ok-frame_of_sets.ensures
