-- A reply whose text is written part by part while its states get their numbers.
use Rattle.std.specs.Prelude.{◌≡◌, ℕ, List, ◌++◌}
use Rattle.b_values.specs.declared.values.State.{State}
use Rattle.animator.specs.declared.model.Part.{Part}
use Rattle.animator.specs.Names.{Extends, Covers, text_of}

-- The text grew by that of these parts, whose states have numbers now.
pub record Writes (old new : List State) (before now : List ℕ) (parts : List Part) : Type 0 where
  pub extends : Extends old new
  pub covers : Covers new parts
  pub text : now ≡ before ++ text_of new parts
