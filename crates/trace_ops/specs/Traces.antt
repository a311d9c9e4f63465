-- Moves in a trace, and new steps.
use Rattle.std.specs.Prelude.{◌≡◌, ℕ, zero, suc, ◌+◌, ◌-◌, Bool, true, false, nat_le, List, [], ◌∷◌, ◌++◌, length, take, Option, Some, None, Result, Ok, Err, slice_get, if◌then◌else◌, ◌==◌}
use Rattle.trace_ops.specs.Histories.{History}
use Rattle.trace_ops.specs.declared.faults.MoveFault.{MoveFault}
use Rattle.trace_ops.specs.declared.faults.MoveFault.TheVariants.{AtStart, AtEnd, NoPosition}
use Rattle.trace_ops.specs.declared.faults.AddFault.{AddFault}
use Rattle.trace_ops.specs.declared.faults.AddFault.TheVariants.{TraceFull, Memory}

module _ {S : Type 0} where
  -- no steps
  abbrev pub untouched : History S
  untouched = record { steps = []; position = 0 }

  -- the same steps at another position
  abbrev pub placed : ℕ → History S → History S
  placed n trace = record { steps = trace.steps; position = n }

  -- the last of so many steps
  abbrev pub step_before : List S → ℕ → Option S
  step_before steps zero = None
  step_before steps (suc n) = slice_get steps n

  -- the last step that was taken
  abbrev pub current : History S → Option S
  current trace = step_before trace.steps trace.position

  -- one step back, one forward, and to a position
  abbrev pub back : History S → Result (History S) MoveFault
  back trace = if trace.position == 0 then Err AtStart else Ok (placed (trace.position - 1) trace)

  abbrev pub forward : History S → Result (History S) MoveFault
  forward trace = if trace.position == length trace.steps then Err AtEnd else Ok (placed (trace.position + 1) trace)

  abbrev pub jump : ℕ → History S → Result (History S) MoveFault
  jump n trace = if nat_le n (length trace.steps) then Ok (placed n trace) else Err NoPosition

  -- the steps up to the position, and then one more
  abbrev pub added : S → History S → History S
  added step trace = record { steps = take trace.position trace.steps ++ step ∷ []; position = trace.position + 1 }

  -- a trace has at most 10,000 steps
  abbrev pub is_full : History S → Bool
  is_full trace = nat_le 10000 trace.position

  -- a move was made, or the trace is as it was
  abbrev pub Moves : History S → Result (History S) MoveFault → History S → Result (Unit {0}) MoveFault → Type 0
  Moves old (Ok moved) new result = (new ≡ moved) × (result ≡ Ok tt)
  Moves old (Err fault) new result = (new ≡ old) × (result ≡ Err fault)

  -- a step was added, or the trace is as it was and the step is given back
  abbrev pub Adds : History S → S → History S → Result (Unit {0}) (AddFault S) → Type 0
  Adds old step new (Ok done) = (is_full old ≡ false) × (new ≡ added step old)
  Adds old step new (Err (TraceFull given)) = (is_full old ≡ true) × (new ≡ old) × (given ≡ step)
  Adds old step new (Err (Memory given)) = (is_full old ≡ false) × (new ≡ old) × (given ≡ step)
