use Rattle.std.proofs.Common.{◌∷◌, [], ◌++◌, ap, ◌∙◌}
use Rattle.type_demands.specs.Scopes.{scope_of}
use Rattle.type_names.specs.Faces.{scope_beside}
use Rattle.b_types.proofs.Scopes.{one_frame}
use Rattle.b_types.proofs.FormulaParts.{beside_is}
use Rattle.b_types.proofs.formulas.open_face.Goals as goal

pub returns : goal.returns
returns c =
    ap scope_of (c.in_ok-push.ensures.items ∙ ap (λ l. l ++ c.in_ok-frame_beside.field-0 ∷ []) c.new-frames.ensures.items)
    ∙ one_frame c.in_ok-frame_beside.field-0 (scope_beside c.args.face.now c.as_slice.result.now c.variables_known-variables.result.now c.params_known-params.result.now) c.in_ok-frame_beside.ensures
    ∙ beside_is c.args.face.now c.args.scope c.as_slice.result.now c.variables_known-variables.result.now c.params_known-params.result.now c.as_slice.ensures c.variables_known-variables.ensures c.params_known-params.ensures
