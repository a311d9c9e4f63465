use Rattle.std.proofs.Common.{length, ◌-◌, ap, ◌∙◌}
use Rattle.b_sequences.proofs.Steps.{part_found, couples_length}
use Rattle.b_sequences.proofs.parts.last_part.Goals as goal

pub returns-in-Some : goal.returns-in-Some
returns-in-Some c = part_found (λ xs. length xs - 1) _ _ _ _ c.in-Some.ensures (c.saturating_sub.ensures ∙ ap (λ n. n - 1) (couples_length _ c.in-Some.ensures.couples)) c.part_at.ensures
