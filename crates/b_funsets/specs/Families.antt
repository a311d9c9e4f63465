-- Sets of sets, of relations and of sequences, by their members.
use Rattle.std.specs.Prelude.{◌≡◌, List, [], ◌∷◌, ◌++◌, map, Result, Err}
use Rattle.std.specs.List.{flat_map}
use Rattle.ascending.specs.Ascending.{In, IsAscending}
use Rattle.b_values.specs.Reading.{numbered}
use Rattle.b_values.specs.Values.{elements, value_cmp}
use Rattle.b_values.specs.declared.values.FaultKind.{FaultKind}
use Rattle.b_values.specs.declared.values.FaultKind.TheVariants.{TooLarge}
use Rattle.b_values.specs.declared.values.Value.{Value}
use Rattle.b_values.specs.declared.values.Value.TheVariants.{Pair, Set}
use Rattle.set_making.specs.Making.{set_with}

-- the nonempty sublists of a list: those that begin with its first element, and those without it
abbrev pub nonempty_sublists : {K : Type 0} → List K → List (List K)
nonempty_sublists [] = []
nonempty_sublists (x ∷ xs) = map (λ r. x ∷ r) ([] ∷ nonempty_sublists xs) ++ nonempty_sublists xs

-- the sublists of a list
abbrev pub sublists : {K : Type 0} → List K → List (List K)
sublists xs = [] ∷ nonempty_sublists xs

-- the couples of a member of s and a member of t
abbrev pub couples : List Value → List Value → List Value
couples s t = flat_map (λ x. map (λ y. Pair x y) t) s

-- POW(S): the subsets of S
abbrev pub pow_row : Value → Result Value FaultKind
pow_row s = set_with (map Set (sublists (elements s)))

-- POW1(S): the nonempty subsets of S
abbrev pub pow1_row : Value → Result Value FaultKind
pow1_row s = set_with (map Set (nonempty_sublists (elements s)))

-- S <-> T: the relations, which are the sets of couples
abbrev pub relations_row : Value → Value → Result Value FaultKind
relations_row s t = set_with (map Set (sublists (couples (elements s) (elements t))))

-- the sequence of these elements: the function from the places 1, 2, .. to them
abbrev pub sequence_of : List Value → Value
sequence_of xs = Set (numbered 1 xs)

-- of no elements there is the empty sequence alone; of any element there are sequences without end
abbrev pub sequences_over : List Value → Result Value FaultKind
sequences_over [] = set_with (sequence_of [] ∷ [])
sequences_over (x ∷ xs) = Err TooLarge

-- of no elements there is no nonempty sequence
abbrev pub nonempty_sequences_over : List Value → Result Value FaultKind
nonempty_sequences_over [] = set_with []
nonempty_sequences_over (x ∷ xs) = Err TooLarge

-- seq(S): the sequences of members of S
abbrev pub seq_row : Value → Result Value FaultKind
seq_row s = sequences_over (elements s)

-- seq1(S): the nonempty sequences of members of S
abbrev pub seq1_row : Value → Result Value FaultKind
seq1_row s = nonempty_sequences_over (elements s)

-- v is a set whose members are members of S
pub record IsSubset (s v : Value) : Type 0 where
  pub is_set : v ≡ Set (elements v)
  pub ascends : IsAscending value_cmp (elements v)
  pub within : (z : Value) → In z (elements v) → In z (elements s)

-- v is a subset of S with a member
pub record IsNonemptySubset (s v : Value) : Type 0 where
  pub subset : IsSubset s v
  pub member : Value
  pub is_member : In member (elements v)

-- z is the couple of a member of S and a member of T
pub record IsCouple (s t z : Value) : Type 0 where
  pub first : Value
  pub second : Value
  pub parts : z ≡ Pair first second
  pub left : In first (elements s)
  pub right : In second (elements t)

-- v is a set of couples of a member of S and a member of T
pub record IsRelation (s t v : Value) : Type 0 where
  pub is_set : v ≡ Set (elements v)
  pub ascends : IsAscending value_cmp (elements v)
  pub within : (z : Value) → In z (elements v) → IsCouple s t z

-- v is a sequence of members of S
pub record IsSequence (s v : Value) : Type 0 where
  pub items : List Value
  pub is : v ≡ sequence_of items
  pub within : (z : Value) → In z items → In z (elements s)

-- v is a sequence of members of S with a first one
pub record IsNonemptySequence (s v : Value) : Type 0 where
  pub sequence : IsSequence s v
  pub first : Value
  pub is_item : In first sequence.items
