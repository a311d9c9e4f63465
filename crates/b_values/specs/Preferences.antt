-- The preferences: their ranges and their defaults.
use Rattle.std.specs.Prelude.{◌≤◌, ◌≤ℤ◌, ℕ, ℤ, pos, negsuc}
use Rattle.b_values.specs.declared.types.Prefs.{Prefs}

-- from low to high, both included
abbrev pub IsBetween : ℕ → ℕ → ℕ → Type 0
IsBetween low high n = (low ≤ n) × (n ≤ high)

-- the same of integers
abbrev pub IsBetweenInts : ℤ → ℤ → ℤ → Type 0
IsBetweenInts low high n = (low ≤ℤ n) × (n ≤ℤ high)

-- each preference is in its range
pub record AreInRange (prefs : Prefs) : Type 0 where
  pub minint : IsBetweenInts (negsuc 999999999) (pos 0) prefs.minint
  pub maxint : IsBetweenInts (pos 1) (pos 1000000000) prefs.maxint
  pub max_operations : IsBetween 1 1000 prefs.max_operations
  pub max_initialisations : IsBetween 1 1000 prefs.max_initialisations
  pub default_setsize : IsBetween 1 1000 prefs.default_setsize
  pub cache_steps : IsBetween 1 1000000 prefs.cache_steps
  pub cache_values : IsBetween 1 1000000 prefs.cache_values

-- the preferences where none are given
abbrev pub default_prefs : Prefs
default_prefs = record {
  minint = negsuc 0;
  maxint = pos 3;
  max_operations = 10;
  max_initialisations = 4;
  default_setsize = 2;
  cache_steps = 1000;
  cache_values = 10000;
}
