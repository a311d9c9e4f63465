use Rattle.std.proofs.Common.{◌≤◌, ◌-◌, length, take}
use Rattle.b_lex.specs.Strings.{IsBodyOf}
use Rattle.b_lex.proofs.strings.string_front.Given as goal

-- the bytes so far go on as a string
abbrev pub invariant-parts : goal.invariant-parts
invariant-parts l = IsBodyOf (take l.at l.text) l.value × (l.at ≤ length l.text) × (l.value ≤ l.at)

abbrev pub decreases-parts : goal.decreases-parts
decreases-parts l = length l.text - l.at
