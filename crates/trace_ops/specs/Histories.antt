-- What a contract sees of a trace.
use Rattle.std.specs.Prelude.{ℕ, List, refl}
use Rattle.std.specs.Coded.{Coded, code_by, coded×, coded_ℕ, coded_list}

-- steps, and how many of them were taken
pub record History (S : Type 0) : Type 0 where
  pub steps : List S
  pub position : ℕ

-- it is stored as the pair of its fields
abbrev pub history_code : {S : Type 0} → Coded S → Coded (History S)
history_code {S} code =
    code_by (List S × ℕ) (coded× (coded_list code) coded_ℕ) (λ h. (h.steps, h.position))
    (λ p. record { steps = p.0; position = p.1 }) (λ _. refl)
