-- Which names are meant.
use Rattle.std.specs.Prelude.{ℕ, Bool, true, false, ◌&&◌, ◌||◌, not, cond, List, [], ◌∷◌, map, Vec, bytes_eq, Option, Some, None}
use Rattle.std.specs.List.{list_any}
use Rattle.std.specs.HashSet.{HashSet, contains_by}
use Rattle.b_ast.specs.declared.Place.{Place}
use Rattle.b_ast.specs.declared.Bound.{Bound}
use Rattle.written_names.specs.declared.names.Names.{Names}
use Rattle.written_names.specs.declared.names.Among.{Among, All, With', Without'}

-- some names, as a test
abbrev pub Which : Type 0
Which = List ℕ → Bool

unfoldable pub none : Which
none x = false

unfoldable pub either : Which → Which → Which
either p q x = p x || q x

unfoldable pub both : Which → Which → Which
both p q x = p x && q x

-- those that aren't hidden
unfoldable pub without : Which → Which → Which
without hidden p x = p x && not (hidden x)

-- the names of a list
unfoldable pub among : List (List ℕ) → Which
among xs x = list_any (bytes_eq x) xs

-- some names and those of a list, one after another
abbrev pub added : Which → List (List ℕ) → Which
added p [] = p
added p (x ∷ xs) = added (either (among (x ∷ [])) p) xs

abbrev pub names_of : List Bound → List (List ℕ)
names_of bs = map (λ b. b.name) bs

-- the names that stand there
abbrev pub named : List Bound → Which
named bs = among (names_of bs)

abbrev pub in_set : {Y S : Type 0} → HashSet (Vec ℕ Y) S → Which
in_set s x = contains_by (λ k. bytes_eq x k.items) s

-- the names of a set
unfoldable pub has : Names → Which
has n x = in_set n.set x

-- the names of a row of sets: each adds to those before it, or hides some of them
abbrev pub is_among : Among → Which
is_among (All n) = has n.now
is_among (With' n p outer) = either (has n.now) (is_among outer)
is_among (Without' n p outer) = without (has n.now) (is_among outer)

-- the first of two places
abbrev pub or_else : Option Place → Option Place → Option Place
or_else (Some at) o = Some at
or_else None o = o

-- the place, where the test says so
abbrev pub at_if : Bool → Place → Option Place
at_if true at = Some at
at_if false at = None

-- the first place that one of these tells of some names
abbrev pub in_order : List (Which → Option Place) → Which → Option Place
in_order [] w = None
in_order (f ∷ fs) w = or_else (f w) (in_order fs w)

abbrev pub perhaps : Option (Which → Option Place) → Which → Option Place
perhaps None w = None
perhaps (Some f) w = f w
