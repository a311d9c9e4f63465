use Rattle.std.proofs.Common.{◌≡◌, ap, ◌∙◌, subst}
use Rattle.std.proofs.Math.Path.{fun_ext}
use Rattle.type_demands.specs.Scopes.{meaning_in, names_of, nothing_known, or_else, scope_of}
use Rattle.type_demands.proofs.Frames.{last_frame}
use Rattle.type_substs.specs.Told.{with_old}
use Rattle.type_substs.proofs.scopes.open_old.Goals as goal

pub returns-clause-scope : goal.returns-clause-scope
returns-clause-scope c =
    ap scope_of c.in_ok-push.ensures.items
    ∙ fun_ext (λ x.
    last_frame nothing_known c.args.frames.now.items c.in_ok-frame.frame x
    ∙ subst (λ l. or_else (meaning_in c.in_ok-frame.frame.meanings x) (scope_of l x) ≡ with_old (names_of c.args.names.now) (scope_of l) x) c.as_slice.ensures.value (c.in_ok-frame.ensures x))
