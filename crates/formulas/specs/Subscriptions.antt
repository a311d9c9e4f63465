-- What a contract sees of the subscriptions of a session.
use Rattle.std.specs.Prelude.{ℕ, List}
use Rattle.formulas.specs.declared.subs.Sub.{Sub}

-- the subscriptions in the order of their numbers, and the number that the next one gets
pub record Subscriptions : Type 0 where
  pub list : List Sub
  pub next : ℕ
