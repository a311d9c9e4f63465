-- The misses of a bounded store, by the rule that the least recently used key is lost.
use Rattle.std.specs.Prelude.{ℕ, ◌+◌, ◌-◌, Bool, false, not, List, [], ◌∷◌, take, if◌then◌else◌}
use Rattle.std.specs.List.{list_any}

-- what befalls a store: a key is asked for and then kept, or taken out
pub data Use (K : Type 0) : Type 0 where
  Asked : K → Use K
  Evicted : K → Use K

module _ {K : Type 0} (same : K → K → Bool) (capacity : ℕ) where
  abbrev pub is_recent : K → List K → Bool
  is_recent key = list_any (same key)

  -- without the first key that is equal
  abbrev pub removed : K → List K → List K
  removed key [] = []
  removed key (other ∷ keys) = if same key other then keys else other ∷ removed key keys

  -- the asked key stands at the front, once; where it wasn't there, a full list loses its last key
  abbrev pub touched : List K → K → List K
  touched recent key = if is_recent key recent then key ∷ removed key recent else key ∷ take (capacity - 1) recent

  -- the recent keys after all these were asked
  abbrev pub recent_after : List K → List K → List K
  recent_after recent [] = recent
  recent_after recent (key ∷ keys) = recent_after (touched recent key) keys

  -- how many of these keys weren't recent when they were asked
  abbrev pub misses : List K → List K → ℕ
  misses recent [] = 0
  misses recent (key ∷ keys) = (if is_recent key recent then 0 else 1) + misses (touched recent key) keys

  -- the same where keys are taken out between
  abbrev pub used : List K → Use K → List K
  used recent (Asked key) = touched recent key
  used recent (Evicted key) = removed key recent

  abbrev pub recent_after_uses : List K → List (Use K) → List K
  recent_after_uses recent [] = recent
  recent_after_uses recent (event ∷ events) = recent_after_uses (used recent event) events

  abbrev pub is_missed : List K → Use K → Bool
  is_missed recent (Asked key) = not (is_recent key recent)
  is_missed recent (Evicted key) = false

  abbrev pub misses_of_uses : List K → List (Use K) → ℕ
  misses_of_uses recent [] = 0
  misses_of_uses recent (event ∷ events) = (if is_missed recent event then 1 else 0) + misses_of_uses (used recent event) events
