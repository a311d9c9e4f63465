-- A store's keys are the recent keys of the least-recently-used rule, its misses are that rule's, its entries stay
-- within the capacity, and what holds of each entry goes on to hold.
use Rattle.std.proofs.Common.{◌≡◌, ◌∙◌, ◌≤◌, ◌<◌, sym, ap, subst, refl, ℕ, zero, suc, ◌+◌, ◌-◌, ◌^◌, min, arith, Bool, true, false, not, cond, ◌||◌, List, [], ◌∷◌, take, length, Option, Some, None, is_some, if◌then◌else◌}
use Rattle.std.specs.List.{list_any, AllByRecursion}
use Rattle.std.specs.Option.{option_map, option_map_or}
use Rattle.std.specs.Map.{lookup, lookup_entry, remove_entry, keys_of}
use Rattle.engine_face.specs.Misses.{Use, Asked, Evicted, is_recent, removed, touched, used, recent_after_uses, is_missed, misses_of_uses}
use Rattle.engine_face.specs.Stores.{Store, counted, found, looked, put_in, without, asked, served, served_all}

module _ {K V : Type 0} where
  any_step : (t : K → Bool) (b : Bool) (es : List (K × V)) (v : V) → list_any t (keys_of es) ≡ is_some (lookup t es) → (b || list_any t (keys_of es)) ≡ is_some (cond b (Some v) (lookup t es))
  any_step t true es v on = refl
  any_step t false es v on = on

  any_found : (t : K → Bool) (es : List (K × V)) → list_any t (keys_of es) ≡ is_some (lookup t es)
  any_found t [] = refl
  any_found t (e ∷ es) = any_step t (t e.0) es e.1 (any_found t es)

  entry_step : (b : Bool) (o : Option (K × V)) (r : Option V) (e : K × V) → r ≡ option_map (λ f. f.1) o → cond b (Some e.1) r ≡ option_map (λ f. f.1) (cond b (Some e) o)
  entry_step true o r e on = refl
  entry_step false o r e on = on

  lookup_is : (t : K → Bool) (es : List (K × V)) → lookup t es ≡ option_map (λ f. f.1) (lookup_entry t es)
  lookup_is t [] = refl
  lookup_is t (e ∷ es) = entry_step (t e.0) (lookup_entry t es) (lookup t es) e (lookup_is t es)

  test_step : (t : K → Bool) (e f : K × V) (es : List (K × V)) (b : Bool) → t e.0 ≡ b → cond b (Some e) (lookup_entry t es) ≡ Some f → (lookup_entry t es ≡ Some f → t f.0 ≡ true) → t f.0 ≡ true
  test_step t e f es true is h on = let same : e ≡ f = cc in subst (λ (g : K × V). t g.0 ≡ true) same is
  test_step t e f es false is h on = on h

  entry_test : (t : K → Bool) (es : List (K × V)) (f : K × V) → lookup_entry t es ≡ Some f → t f.0 ≡ true
  entry_test t [] f h = cc
  entry_test t (e ∷ es) f h = test_step t e f es (t e.0) refl h (entry_test t es f)

  take_keys : (n : ℕ) (es : List (K × V)) → keys_of (take n es) ≡ take n (keys_of es)
  take_keys zero es = refl
  take_keys (suc n) [] = refl
  take_keys (suc n) (e ∷ es) = ap (λ (ks : List K). e.0 ∷ ks) (take_keys n es)

  none_by : (o : Option (K × V)) → is_some (option_map (λ f. f.1) o) ≡ false → o ≡ None
  none_by None h = refl
  none_by (Some e) h = cc

  removed_step : (b : Bool) (e : K × V) (es : List (K × V)) (rest : List (K × V)) (keys : List K) → keys_of rest ≡ keys → keys_of (cond b es (e ∷ rest)) ≡ cond b (keys_of es) (e.0 ∷ keys)
  removed_step true e es rest keys on = refl
  removed_step false e es rest keys on = ap (λ ks. e.0 ∷ ks) on

  -- ---- within the capacity

  taken_length : (n : ℕ) (es : List (K × V)) → length (take n es) ≤ n
  taken_length zero es = omega arith
  taken_length (suc n) [] = omega arith
  taken_length (suc n) (e ∷ es) = let more = taken_length n es in omega (arith, more)

  removed_length_by : (b : Bool) (e : K × V) (es rest : List (K × V)) → length rest ≤ length es → length (cond b es (e ∷ rest)) ≤ suc (length es)
  removed_length_by true e es rest on = omega arith
  removed_length_by false e es rest on = omega (arith, on)

  removed_length : (t : K → Bool) (es : List (K × V)) → length (remove_entry t es) ≤ length es
  removed_length t [] = omega arith
  removed_length t (e ∷ es) = removed_length_by (t e.0) e es (remove_entry t es) (removed_length t es)

  -- an entry that is there and taken out makes room for one
  room_by : (t : K → Bool) (b : Bool) (e f : K × V) (es : List (K × V)) → cond b (Some e) (lookup_entry t es) ≡ Some f → (lookup_entry t es ≡ Some f → suc (length (remove_entry t es)) ≤ length es)
      → suc (length (cond b es (e ∷ remove_entry t es))) ≤ suc (length es)
  room_by t true e f es h on = omega arith
  room_by t false e f es h on = let more = on h in omega (arith, more)

  room : (t : K → Bool) (es : List (K × V)) (f : K × V) → lookup_entry t es ≡ Some f → suc (length (remove_entry t es)) ≤ length es
  room t [] f h = cc
  room t (e ∷ es) f h = room_by t (t e.0) e f es h (room t es f)

  promoted_length : (t : K → Bool) (es : List (K × V)) (o : Option (K × V)) → lookup_entry t es ≡ o → length (option_map_or (λ e. e ∷ remove_entry t es) o es) ≤ length es
  promoted_length t es None is = omega arith
  promoted_length t es (Some e) is = let more = room t es e is in omega (arith, more)

  put_length : (t : K → Bool) (n : ℕ) (key : K) (value : V) (es : List (K × V)) (o : Option (K × V)) → lookup_entry t es ≡ o → 0 < n → length es ≤ n
      → length (option_map_or (λ e. (e.0, value) ∷ remove_entry t es) o ((key, value) ∷ take (n - 1) es)) ≤ n
  put_length t n key value es None is some within = let more = taken_length (n - 1) es in omega (arith, more, some)
  put_length t n key value es (Some e) is some within = let more = room t es e is in omega (arith, more, within)

  abbrev pub IsWithin : Store K V → Type 0
  IsWithin s = length s.entries ≤ s.capacity

module _ {K V : Type 0} (same : K → K → Bool) where
  pub looked_within : (s : Store K V) (key : K) → IsWithin s → IsWithin (looked same s key)
  looked_within s key h = let less = promoted_length (same key) s.entries (lookup_entry (same key) s.entries) refl in omega (arith, less, h)

  pub put_within : (s : Store K V) (key : K) (value : V) → 0 < s.capacity → IsWithin s → IsWithin (put_in same s key value)
  put_within s key value some h = put_length (same key) s.capacity key value s.entries (lookup_entry (same key) s.entries) refl some h

  pub without_within : (s : Store K V) (key : K) → IsWithin s → IsWithin (without same s key)
  without_within s key h = let less = removed_length (same key) s.entries in omega (arith, less, h)

-- ---- the rule

abbrev miss : Bool → ℕ
miss b = if b then 1 else 0

counted_miss : (n : ℕ) (b : Bool) → n ≤ 2 ^ 64 - 1 → counted n b ≡ min (n + miss (not b)) (2 ^ 64 - 1)
counted_miss n true h = omega (arith, h)
counted_miss n false h = omega arith

sum_misses : (n m d e top : ℕ) → e ≡ min (n + d) top → n ≤ top → min (e + m) top ≡ min (n + (d + m)) top
sum_misses n m d e top h k = omega (arith, h, k)

module _ {K V : Type 0} (same : K → K → Bool) (sound : (a b : K) → same a b ≡ true → a ≡ b) where
  removed_keys : (cap : ℕ) (k : K) (es : List (K × V)) → keys_of (remove_entry (same k) es) ≡ removed same cap k (keys_of es)
  removed_keys cap k [] = refl
  removed_keys cap k (e ∷ es) = removed_step (same k e.0) e es _ _ (removed_keys cap k es)

  hit_by : (cap : ℕ) (k : K) (es : List (K × V)) (o : Option (K × V)) → lookup_entry (same k) es ≡ o → is_some (option_map (λ f. f.1) o) ≡ true
      → keys_of (option_map_or (λ e. e ∷ remove_entry (same k) es) o es) ≡ k ∷ removed same cap k (keys_of es)
  hit_by cap k es None is hits = cc
  hit_by cap k es (Some e) is hits =
      let key : k ≡ e.0 = sound k e.0 (entry_test (same k) es e is) in
      ap (λ (s : K). s ∷ keys_of (remove_entry (same k) es)) (sym key) ∙ ap (λ (ks : List K). k ∷ ks) (removed_keys cap k es)

  missed_put : (n : ℕ) (k : K) (v : V) (es : List (K × V)) (o p : Option (K × V)) → lookup_entry (same k) es ≡ o → o ≡ None
      → lookup_entry (same k) (option_map_or (λ e. e ∷ remove_entry (same k) es) o es) ≡ p
      → keys_of (option_map_or (λ e. (e.0, v) ∷ remove_entry (same k) (option_map_or (λ e. e ∷ remove_entry (same k) es) o es)) p
      ((k, v) ∷ take n (option_map_or (λ e. e ∷ remove_entry (same k) es) o es))) ≡ k ∷ take n (keys_of es)
  missed_put n k v es None None is none at = ap (λ (ks : List K). k ∷ ks) (take_keys n es)
  missed_put n k v es None (Some e) is none at = let no : None ≡ Some e = sym is ∙ at in cc
  missed_put n k v es (Some e) p is none at = cc

  asked_by : (value : K → V) (s : Store K V) (k : K) (b : Bool) → is_some (found same s k) ≡ b
      → keys_of (if b then looked same s k else put_in same (looked same s k) k (value k)).entries
      ≡ (if b then k ∷ removed same s.capacity k (keys_of s.entries) else k ∷ take (s.capacity - 1) (keys_of s.entries))
  asked_by value s k true is = hit_by s.capacity k s.entries (lookup_entry (same k) s.entries) refl (ap is_some (sym (lookup_is (same k) s.entries)) ∙ is)
  asked_by value s k false is =
      missed_put (s.capacity - 1) k (value k) s.entries (lookup_entry (same k) s.entries) _ refl (none_by _ (ap is_some (sym (lookup_is (same k) s.entries)) ∙ is)) refl

  pub recent_found : (s : Store K V) (k : K) → is_recent same s.capacity k (keys_of s.entries) ≡ is_some (found same s k)
  recent_found s k = any_found (same k) s.entries

  -- a served store has the recent keys of the rule
  pub served_keys : (value : K → V) (s : Store K V) (event : Use K) → keys_of (served same value s event).entries ≡ used same s.capacity (keys_of s.entries) event
  served_keys value s (Asked k) = asked_by value s k (is_some (found same s k)) refl
      ∙ ap (λ (b : Bool). cond b (k ∷ removed same s.capacity k (keys_of s.entries)) (k ∷ take (s.capacity - 1) (keys_of s.entries))) (sym (recent_found s k))
  served_keys value s (Evicted k) = removed_keys s.capacity k s.entries

  capacity_by : (value : K → V) (s : Store K V) (k : K) (b : Bool) → (if b then looked same s k else put_in same (looked same s k) k (value k)).capacity ≡ s.capacity
  capacity_by value s k true = refl
  capacity_by value s k false = refl

  served_capacity : (value : K → V) (s : Store K V) (event : Use K) → (served same value s event).capacity ≡ s.capacity
  served_capacity value s (Asked k) = capacity_by value s k (is_some (found same s k))
  served_capacity value s (Evicted k) = refl

  misses_by : (value : K → V) (s : Store K V) (k : K) (b : Bool) → is_some (found same s k) ≡ b
      → (if b then looked same s k else put_in same (looked same s k) k (value k)).misses ≡ counted s.misses b
  misses_by value s k true is = ap (counted s.misses) is
  misses_by value s k false is = ap (counted s.misses) is

  served_misses : (value : K → V) (s : Store K V) (event : Use K) → s.misses ≤ 2 ^ 64 - 1
      → (served same value s event).misses ≡ min (s.misses + miss (is_missed same s.capacity (keys_of s.entries) event)) (2 ^ 64 - 1)
  served_misses value s (Asked k) h =
      misses_by value s k (is_some (found same s k)) refl ∙ counted_miss s.misses (is_some (found same s k)) h
      ∙ ap (λ (b : Bool). min (s.misses + miss (not b)) (2 ^ 64 - 1)) (sym (recent_found s k))
  served_misses value s (Evicted k) h = omega (arith, h)

  misses_within : (value : K → V) (s : Store K V) (event : Use K) → s.misses ≤ 2 ^ 64 - 1 → (served same value s event).misses ≤ 2 ^ 64 - 1
  misses_within value s event h = let is = served_misses value s event h in omega (arith, is)

  -- the misses of a store that was asked for keys, and from which keys were taken out, are those of the rule
  pub misses_of_rule : (value : K → V) (s : Store K V) (events : List (Use K)) → s.misses ≤ 2 ^ 64 - 1
      → (served_all same value s events).misses ≡ min (s.misses + misses_of_uses same s.capacity (keys_of s.entries) events) (2 ^ 64 - 1)
  misses_of_rule value s [] h = omega (arith, h)
  misses_of_rule value s (event ∷ events) h =
      misses_of_rule value (served same value s event) events (misses_within value s event h)
      ∙ ap (λ (c : ℕ). min ((served same value s event).misses + misses_of_uses same c (keys_of (served same value s event).entries) events) (2 ^ 64 - 1)) (served_capacity value s event)
      ∙ ap (λ (ks : List K). min ((served same value s event).misses + misses_of_uses same s.capacity ks events) (2 ^ 64 - 1)) (served_keys value s event)
      ∙ sum_misses s.misses _ _ (served same value s event).misses (2 ^ 64 - 1) (served_misses value s event h) h

-- ---- what holds of each entry

module _ {K V : Type 0} (same : K → K → Bool) (sound : (a b : K) → same a b ≡ true → a ≡ b) (Holds : K → V → Type 0) where
  abbrev pub AreTrue : List (K × V) → Type 0
  AreTrue = AllByRecursion (λ e. Holds e.0 e.1)

  true_step : (k : K) (e : K × V) (es : List (K × V)) (v : V) (b : Bool) → same k e.0 ≡ b → Holds e.0 e.1 → cond b (Some e.1) (lookup (same k) es) ≡ Some v → (lookup (same k) es ≡ Some v → Holds k v) → Holds k v
  true_step k e es v true is here h on = let value : e.1 ≡ v = cc in subst (λ (w : V). Holds k w) value (subst (λ (x : K). Holds x e.1) (sym (sound k e.0 is)) here)
  true_step k e es v false is here h on = on h

  true_in : (k : K) (es : List (K × V)) (v : V) → AreTrue es → lookup (same k) es ≡ Some v → Holds k v
  true_in k [] v all h = cc
  true_in k (e ∷ es) v all h = true_step k e es v (same k e.0) refl all.0 h (true_in k es v all.1)

  -- what is found holds of the asked key
  pub true_found : (s : Store K V) (k : K) (v : V) → AreTrue s.entries → found same s k ≡ Some v → Holds k v
  true_found s k v all h = true_in k s.entries v all h

  remove_step : (b : Bool) (e : K × V) (es rest : List (K × V)) → Holds e.0 e.1 → AreTrue es → AreTrue rest → AreTrue (cond b es (e ∷ rest))
  remove_step true e es rest here all on = all
  remove_step false e es rest here all on = (here, on)

  true_removed : (t : K → Bool) (es : List (K × V)) → AreTrue es → AreTrue (remove_entry t es)
  true_removed t [] all = tt
  true_removed t (e ∷ es) all = remove_step (t e.0) e es _ all.0 all.1 (true_removed t es all.1)

  entry_true_step : (t : K → Bool) (e f : K × V) (es : List (K × V)) (b : Bool) → Holds e.0 e.1 → cond b (Some e) (lookup_entry t es) ≡ Some f → (lookup_entry t es ≡ Some f → Holds f.0 f.1) → Holds f.0 f.1
  entry_true_step t e f es true here h on = let same_entry : e ≡ f = cc in subst (λ (g : K × V). Holds g.0 g.1) same_entry here
  entry_true_step t e f es false here h on = on h

  true_entry : (t : K → Bool) (es : List (K × V)) (f : K × V) → AreTrue es → lookup_entry t es ≡ Some f → Holds f.0 f.1
  true_entry t [] f all h = cc
  true_entry t (e ∷ es) f all h = entry_true_step t e f es (t e.0) all.0 h (true_entry t es f all.1)

  true_taken : (n : ℕ) (es : List (K × V)) → AreTrue es → AreTrue (take n es)
  true_taken zero es all = tt
  true_taken (suc n) [] all = tt
  true_taken (suc n) (e ∷ es) all = (all.0, true_taken n es all.1)

  promoted_by : (t : K → Bool) (es : List (K × V)) (o : Option (K × V)) → lookup_entry t es ≡ o → AreTrue es → AreTrue (option_map_or (λ e. e ∷ remove_entry t es) o es)
  promoted_by t es None is all = all
  promoted_by t es (Some e) is all = (true_entry t es e all is, true_removed t es all)

  pub true_looked : (s : Store K V) (k : K) → AreTrue s.entries → AreTrue (looked same s k).entries
  true_looked s k all = promoted_by (same k) s.entries (lookup_entry (same k) s.entries) refl all

  put_by : (k : K) (v : V) (n : ℕ) (es : List (K × V)) (o : Option (K × V)) → lookup_entry (same k) es ≡ o → Holds k v → AreTrue es
      → AreTrue (option_map_or (λ e. (e.0, v) ∷ remove_entry (same k) es) o ((k, v) ∷ take n es))
  put_by k v n es None is here all = (here, true_taken n es all)
  put_by k v n es (Some e) is here all = (subst (λ (x : K). Holds x v) (sound k e.0 (entry_test (same k) es e is)) here, true_removed (same k) es all)

  pub true_put : (s : Store K V) (k : K) (v : V) → Holds k v → AreTrue s.entries → AreTrue (put_in same s k v).entries
  true_put s k v here all = put_by k v (s.capacity - 1) s.entries (lookup_entry (same k) s.entries) refl here all

  pub true_without : (s : Store K V) (k : K) → AreTrue s.entries → AreTrue (without same s k).entries
  true_without s k all = true_removed (same k) s.entries all
