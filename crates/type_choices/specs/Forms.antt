-- The forms of a text, and the typings that keep them.
use Rattle.std.specs.Prelude.{◌≡◌, ◌≤◌, ◌<◌, ◌⊎◌, ℕ, List}
use Rattle.std.specs.List.{AllByRecursion}
use Rattle.type_table.specs.declared.rows.Row.{Row}
use Rattle.type_table.specs.Tables.{Typing}
use Rattle.type_count.specs.Typings.{IsTyping}
use Rattle.type_schemes.specs.declared.rules.Rule.{Rule}
use Rattle.type_schemes.specs.declared.rules.Rule.TheVariants as rule
use Rattle.type_schemes.specs.declared.rules.Reading.{Reading}
use Rattle.type_schemes.specs.declared.rules.Reading.TheVariants as reading
use Rattle.type_schemes.specs.Rules.{ObeysOne}
use Rattle.type_schemes.specs.declared.forms.Form.{Form}

-- the types of a form's parts are as its rule, or one of its two rules, has them
abbrev pub Keeps : Typing → Form → Type 0
Keeps s f = ObeysOne f.reading (s f.left) (s f.right) (s f.whole)

abbrev pub KeepsAll : Typing → List Form → Type 0
KeepsAll s = AllByRecursion (Keeps s)

-- a typing of a table that keeps forms
pub record Stands (limit : ℕ) (rows : List Row) (forms : List Form) (s : Typing) : Type 0 where
  pub typing : IsTyping limit rows s
  pub keeps : KeepsAll s forms

-- two rules are one of numbers and one of sets
abbrev pub IsReading : Reading → Type 0
IsReading (reading.One q) = Unit {0}
IsReading (reading.Either p q) = (p ≡ rule.Arithmetic) × ((q ≡ rule.SameSets) ⊎ (q ≡ rule.Products))

-- its parts are among the first
pub record IsForm (count : ℕ) (f : Form) : Type 0 where
  pub left : f.left < count
  pub right : f.right < count
  pub whole : f.whole < count
  pub reading : IsReading f.reading

abbrev pub AreForms : ℕ → List Form → Type 0
AreForms count = AllByRecursion (IsForm count)
