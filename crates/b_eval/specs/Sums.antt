-- The value of a sum in a machine's text.
use Rattle.std.specs.Prelude.{ℕ, ℤ, Result, Ok, Err}
use Rattle.b_values.specs.declared.values.FaultKind.{FaultKind}
use Rattle.b_values.specs.declared.values.Text.TheVariants.{Machine}
use Rattle.b_values.specs.declared.values.EvalFault.{EvalFault}
use Rattle.b_arith.specs.Rows.{sum_of}

-- the number, or the fault at a place of the machine's text
abbrev pub at_place : ℕ → Result ℤ FaultKind → Result ℤ EvalFault
at_place at (Ok n) = Ok n
at_place at (Err kind) = Err (record { kind = kind; text = Machine; at = at })

-- a + b, where the + stands at a place of the machine's text
abbrev pub sum_at : ℤ → ℤ → ℕ → Result ℤ EvalFault
sum_at a b at = at_place at (sum_of a b)
