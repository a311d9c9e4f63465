-- Lines whose reply takes no memory settle at once.
use Rattle.std.proofs.Common.{◌≡◌, ◌≤◌, ◌<◌, sym, ap, subst, refl, ℕ, ◌+◌, ◌-◌, ◌==◌, nat_le, Bool, true, false, List, [], ◌∷◌, length, Option, Some, None, Result, Ok, Err, if◌then◌else◌, arith}
use Rattle.std.proofs.lemmas.Bool.{eqb-false, leb-true}
use Rattle.session_words.specs.Commands.{command_of}
use Rattle.session_words.specs.declared.commands.Command.{Command}
use Rattle.session_words.specs.declared.commands.Command.TheVariants as command
use Rattle.session_words.specs.declared.replies.Numbered.{Numbered}
use Rattle.engine_face.specs.Meaning.{Meaning}
use Rattle.engine_face.specs.Packing.{Unpacking}
use Rattle.engine_face.specs.declared.answers.Step.{Step}
use Rattle.formulas.specs.declared.subs.Sub.{Sub}
use Rattle.session_text.specs.Brief.{HasWords}
use Rattle.trace_ops.specs.Histories.{History}
use Rattle.trace_ops.specs.Traces.{placed, back, forward, jump}
use Rattle.trace_ops.specs.declared.faults.MoveFault.{MoveFault}
use Rattle.trace_ops.specs.declared.faults.MoveFault.TheVariants as move
use Rattle.animator.specs.Commands.{move_refusal}
use Rattle.session_core.specs.declared.held.Held.{Held}
use Rattle.session_words.specs.declared.refusals.Refusal.TheVariants as refusal
use Rattle.session_core.specs.declared.stages.Next.TheVariants.{Refuses}
use Rattle.session_core.specs.Moving.{going, moving, has_no_sub, takes_no_memory, started_by, spared_by, is_too_long, line_next, line_spared}
use Rattle.session_core.specs.Settling.{IsShort}

short_fault : (fault : MoveFault) → HasWords (move_refusal fault)
short_fault move.AtStart = tt
short_fault move.AtEnd = tt
short_fault move.NoPosition = tt

module _ (m : Meaning) (unpack : Unpacking) (root : Numbered) (held : Held) (within : held.trace.position ≤ length held.trace.steps) where
  abbrev Trace : Type 0
  Trace = History (Step Numbered)

  going_short : (subs : List Sub) (n : ℕ) (at : Numbered) → has_no_sub subs ≡ true → n ≤ length held.trace.steps → IsShort held (going subs n at)
  going_short [] n at none few = few
  going_short (sub ∷ subs) n at none few = cc

  moving_short : (r : Result Trace MoveFault) → has_no_sub held.subs.list ≡ true → ((t : Trace) → r ≡ Ok t → t.position ≤ length held.trace.steps) → IsShort held (moving root held r)
  moving_short (Err fault) none few = short_fault fault
  moving_short (Ok t) none few = going_short held.subs.list t.position _ none (few t refl)

  back_by : (b : Bool) (t : Trace) → (if b then Err move.AtStart else Ok (placed (held.trace.position - 1) held.trace)) ≡ Ok t → t.position ≤ length held.trace.steps
  back_by true t is = cc
  back_by false t is = let same : placed (held.trace.position - 1) held.trace ≡ t = cc in subst (λ (x : Trace). x.position ≤ length held.trace.steps) same (omega (arith, within))

  forward_by : (b : Bool) (t : Trace) → (held.trace.position == length held.trace.steps) ≡ b → (if b then Err move.AtEnd else Ok (placed (held.trace.position + 1) held.trace)) ≡ Ok t → t.position ≤ length held.trace.steps
  forward_by true t end is = cc
  forward_by false t end is = let same : placed (held.trace.position + 1) held.trace ≡ t = cc in subst (λ (x : Trace). x.position ≤ length held.trace.steps) same (omega (arith, within, eqb-false held.trace.position (length held.trace.steps) end))

  jump_by : (n : ℕ) (b : Bool) (t : Trace) → nat_le n (length held.trace.steps) ≡ b → (if b then Ok (placed n held.trace) else Err move.NoPosition) ≡ Ok t → t.position ≤ length held.trace.steps
  jump_by n false t few is = cc
  jump_by n true t few is = let same : placed n held.trace ≡ t = cc in subst (λ (x : Trace). x.position ≤ length held.trace.steps) same (leb-true n (length held.trace.steps) few)

  command_short : (c : Command) → takes_no_memory held c ≡ true → IsShort held (started_by m unpack root held (Some c))
  command_short command.Blank spared = tt
  command_short command.Quit spared = tt
  command_short command.Back spared = moving_short (back held.trace) spared (λ t is. back_by _ t is)
  command_short command.Forward spared = moving_short (forward held.trace) spared (λ t is. forward_by _ t refl is)
  command_short (command.Jump n) spared = moving_short (jump n held.trace) spared (λ t is. jump_by n _ t refl is)
  command_short _ spared = cc

  by_short : (c : Option Command) → spared_by held c ≡ true → IsShort held (started_by m unpack root held c)
  by_short None spared = cc
  by_short (Some c) spared = command_short c spared

  line_by : (long : Bool) (c : Option Command) → (if long then true else spared_by held c) ≡ true
      → IsShort held (if long then Refuses refusal.LineTooLong else started_by m unpack root held c)
  line_by true c spared = tt
  line_by false c spared = by_short c spared

  -- a spared line settles without memory
  pub line_short : (line : List ℕ) → line_spared held line ≡ true → IsShort held (line_next m unpack root held line)
  line_short line spared = line_by (is_too_long line) (command_of line) spared
