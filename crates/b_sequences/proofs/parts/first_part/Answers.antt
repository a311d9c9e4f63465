use Rattle.std.proofs.Common.{refl}
use Rattle.b_sequences.proofs.Steps.{part_found}
use Rattle.b_sequences.proofs.parts.first_part.Goals as goal

pub returns-in-Some : goal.returns-in-Some
returns-in-Some c = part_found (λ xs. 0) _ _ _ _ c.in-Some.ensures refl c.part_at.ensures
