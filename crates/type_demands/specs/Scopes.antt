-- What names mean at a place.
use Rattle.std.specs.Prelude.{◌≡◌, ℕ, ◌+◌, ◌-◌, Bool, true, false, ◌&&◌, not, cond, List, [], ◌∷◌, ◌++◌, length, take, map, Option, Some, None, is_some, Vec, bytes_eq}
use Rattle.std.specs.HashMap.{HashMap, get_by}
use Rattle.b_ast.specs.declared.Bound.{Bound}
use Rattle.type_demands.specs.declared.demands.Meaning.{Meaning}
use Rattle.type_demands.specs.declared.scopes.Frame.{Frame}

-- what each name means, if anything
abbrev pub Scope : Type 0
Scope = List ℕ → Option Meaning

abbrev pub nothing_known : Scope
nothing_known x = None

-- a bound name means its part, and has no old value
abbrev pub bound_at : ℕ → Meaning
bound_at n = record { part = n; has_old = false }

-- what names mean once some are bound, whose parts begin at n: bound names hide outer ones
abbrev pub bind : List (List ℕ) → ℕ → Scope → Scope
bind [] n outer x = outer x
bind (b ∷ bs) n outer x = cond (bytes_eq x b) (Some (bound_at n)) (bind bs (n + 1) outer x)

abbrev pub names_of : List Bound → List (List ℕ)
names_of bs = map (λ b. b.name) bs

-- whether all names of a list differ
abbrev pub all_differ : List (List ℕ) → Bool
all_differ [] = true
all_differ (b ∷ bs) = not (is_some (bind bs 0 nothing_known b)) && all_differ bs

-- what a map has at a name
abbrev pub meaning_in : {Y S : Type 0} → HashMap (Vec ℕ Y) Meaning S → Scope
meaning_in m x = get_by (λ k. bytes_eq x k.items) m

-- the first meaning, or else the second
abbrev pub or_else : Option Meaning → Option Meaning → Option Meaning
or_else (Some m) o = Some m
or_else None o = o

-- the last frame is the innermost: `scope_from` begins with what is known outside
abbrev pub scope_from : Scope → List Frame → Scope
scope_from outer [] = outer
scope_from outer (f ∷ fs) = scope_from (λ x. or_else (meaning_in f.meanings x) (outer x)) fs

abbrev pub scope_of : List Frame → Scope
scope_of = scope_from nothing_known

-- a list without its last element
abbrev pub without_last : List Frame → List Frame
without_last [] = []
without_last (f ∷ []) = []
without_last (f ∷ g ∷ fs) = f ∷ without_last (g ∷ fs)
