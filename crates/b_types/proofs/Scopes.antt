-- The scope of one frame.
use Rattle.std.proofs.Common.{◌≡◌, List, [], ◌∷◌, ℕ, Option, Some, None, refl, ◌∙◌}
use Rattle.std.proofs.Math.Path.{fun_ext}
use Rattle.type_demands.specs.declared.demands.Meaning.{Meaning}
use Rattle.type_demands.specs.declared.scopes.Frame.{Frame}
use Rattle.type_demands.specs.Scopes.{Scope, meaning_in, or_else, scope_of}

or_nothing : (o : Option Meaning) → or_else o None ≡ o
or_nothing None = refl
or_nothing (Some m) = refl

pub one_frame : (f : Frame) (scope : Scope) → ((x : List ℕ) → meaning_in f.meanings x ≡ scope x) → scope_of (f ∷ []) ≡ scope
one_frame f scope e = fun_ext (λ x. or_nothing (meaning_in f.meanings x) ∙ e x)
