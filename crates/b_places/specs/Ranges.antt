-- The values that a range has, by the values of its expressions.
use Rattle.std.specs.Prelude.{ℤ, pos, ◌+ℤ◌, ◌-ℤ◌, List, [], ◌∷◌, map, Result, Ok, if◌then◌else◌}
use Rattle.b_rows.specs.Answers.{bind}
use Rattle.b_rows.specs.Rows.{number_of}
use Rattle.b_sets.specs.Rows.{integers}
use Rattle.b_tree.specs.declared.Bounds.{Bounds}
use Rattle.b_values.specs.declared.values.FaultKind.{FaultKind}
use Rattle.b_values.specs.declared.values.Value.{Value}
use Rattle.b_values.specs.declared.values.Value.TheVariants.{Int}

-- the integers from m to n, each left out where the bounds say so
abbrev pub between : Bounds → ℤ → ℤ → List ℤ
between b m n = integers (if b.above then m +ℤ pos 1 else m) (if b.below then n -ℤ pos 1 else n)

-- the same of two values
abbrev pub numbers_between : Bounds → Value → Value → Result (List Value) FaultKind
numbers_between b x y = bind (number_of x) (λ m. bind (number_of y) (λ n. Ok (map Int (between b m n))))
