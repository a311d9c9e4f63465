-- A bounded store as the list of its entries by last use, and what its calls make of it.
use Rattle.std.specs.Prelude.{ℕ, ◌+◌, ◌-◌, ◌^◌, min, Bool, List, [], ◌∷◌, take, Option, Some, None, is_some, if◌then◌else◌, refl}
use Rattle.std.specs.Option.{option_map_or}
use Rattle.std.specs.Map.{lookup, lookup_entry, remove_entry}
use Rattle.std.specs.Coded.{Coded, code_by, coded×, coded_list, coded_ℕ}
use Rattle.engine_face.specs.Misses.{Use, Asked, Evicted}

-- the entries, the most recently used first
pub record Store (K V : Type 0) : Type 0 where
  pub entries : List (K × V)
  pub capacity : ℕ
  pub misses : ℕ

abbrev pub coded_store : {K V : Type 0} → Coded K → Coded V → Coded (Store K V)
coded_store {K} {V} k v = code_by (List (K × V) × (ℕ × ℕ)) (coded× (coded_list (coded× k v)) (coded× coded_ℕ coded_ℕ))
    (λ s. (s.entries, (s.capacity, s.misses))) (λ p. record { entries = p.0; capacity = p.1.0; misses = p.1.1 }) (λ _. refl)

abbrev pub empty_store : {K V : Type 0} → ℕ → Store K V
empty_store capacity = record { entries = []; capacity = capacity; misses = 0 }

-- a miss is counted, and the count stays at 2^64 - 1 once there
abbrev pub counted : ℕ → Bool → ℕ
counted n hit = if hit then n else min (n + 1) (2 ^ 64 - 1)

module _ {K V : Type 0} (same : K → K → Bool) where
  -- the value of the equal key
  abbrev pub found : Store K V → K → Option V
  found s key = lookup (same key) s.entries

  -- the entry of the key stands first, and a key that isn't there is a miss
  abbrev pub looked : Store K V → K → Store K V
  looked s key = record {
    entries = option_map_or (λ e. e ∷ remove_entry (same key) s.entries) (lookup_entry (same key) s.entries) s.entries;
    capacity = s.capacity;
    misses = counted s.misses (is_some (found s key));
  }

  -- the key stands first with the value; where it wasn't there, a full store loses its last entry
  abbrev pub put_in : Store K V → K → V → Store K V
  put_in s key value = record {
    entries = option_map_or (λ e. (e.0, value) ∷ remove_entry (same key) s.entries) (lookup_entry (same key) s.entries) ((key, value) ∷ take (s.capacity - 1) s.entries);
    capacity = s.capacity;
    misses = s.misses;
  }

  -- the entry of the key is gone
  abbrev pub without : Store K V → K → Store K V
  without s key = record { entries = remove_entry (same key) s.entries; capacity = s.capacity; misses = s.misses }

  -- a key that is asked for is looked for, and put with its value where it wasn't there
  abbrev pub asked : (K → V) → Store K V → K → Store K V
  asked value s key = if is_some (found s key) then looked s key else put_in (looked s key) key (value key)

  abbrev pub served : (K → V) → Store K V → Use K → Store K V
  served value s (Asked key) = asked value s key
  served value s (Evicted key) = without s key

  abbrev pub served_all : (K → V) → Store K V → List (Use K) → Store K V
  served_all value s [] = s
  served_all value s (event ∷ events) = served_all value (served value s event) events
