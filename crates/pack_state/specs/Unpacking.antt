-- The state that bytes stand for, read by the types of a face. What it has to do with the bytes of states is a law
-- (`unpacks`), and so a reader need not believe this page.
use Rattle.std.specs.Prelude.{ℕ, zero, suc, ◌==◌, ◌+◌, ◌*◌, ◌^◌, nat_le, nat_lt, Bool, true, false, ◌&&◌, List, [], ◌∷◌, take, drop, length, slice_get, Option, Some, None, if◌then◌else◌}
use Rattle.std.specs.List.{list_all}
use Rattle.std.specs.Option.{option_map_or}
use Rattle.std.specs.Ordering.{is_lt}
use Rattle.std.specs.Int.{w32, w64, w128, cast_signed, from_be_bytes}
use Rattle.b_values.specs.ReadingDescent.{Found, with_found, is_text}
use Rattle.b_values.specs.Values.{value_cmp, node_count}
use Rattle.b_values.specs.declared.types.Face.{Face}
use Rattle.b_values.specs.declared.types.NameFace.{NameFace}
use Rattle.b_values.specs.declared.types.SetFace.{SetFace}
use Rattle.b_values.specs.declared.types.Ty.{Ty, fold-Ty}
use Rattle.b_values.specs.declared.types.Ty.TheOpen.{Ty-F}
use Rattle.b_values.specs.declared.values.State.{State}
use Rattle.b_values.specs.declared.values.State.TheVariants.{Root, Constants, Running}
use Rattle.b_values.specs.declared.values.Value.{Value}
use Rattle.b_values.specs.declared.values.Value.TheVariants as value

abbrev pub Reader : Type 0
Reader = List ℕ → Found Value

-- so many bytes, if they are there
abbrev pub first_bytes : ℕ → List ℕ → Found (List ℕ)
first_bytes n bytes = if nat_le n (length bytes) then Some (take n bytes, drop n bytes) else None

-- each is below 256
abbrev pub are_bytes : List ℕ → Bool
are_bytes = list_all (λ b. nat_lt b 256)

abbrev pub count_or_none : List ℕ → List ℕ → Found ℕ
count_or_none front rest = if are_bytes front then Some (from_be_bytes w32 front, rest) else None

abbrev pub read_count : List ℕ → Found ℕ
read_count bytes = with_found (first_bytes 4 bytes) count_or_none

-- the number below 2^128 whose 16 bytes these are
abbrev pub word_of : List ℕ → ℕ
word_of front = from_be_bytes w64 (take 8 front) * 2 ^ 64 + from_be_bytes w64 (drop 8 front)

abbrev pub number_or_none : List ℕ → List ℕ → Found Value
number_or_none front rest = if are_bytes front then Some (value.Int (cast_signed w128 (word_of front)), rest) else None

abbrev pub read_number : Reader
read_number bytes = with_found (first_bytes 16 bytes) number_or_none

abbrev pub read_truth : Reader
read_truth [] = None
read_truth (b ∷ bytes) = if b == 0 then Some (value.Truth false, bytes) else (if b == 1 then Some (value.Truth true, bytes) else None)

abbrev pub text_or_none : List ℕ → List ℕ → Found Value
text_or_none front rest = if is_text front then Some (value.Text front, rest) else None

abbrev pub read_text : Reader
read_text bytes = with_found (read_count bytes) (λ n rest. with_found (first_bytes n rest) text_or_none)

abbrev pub has_element : List SetFace → ℕ → ℕ → Bool
has_element sets set index = option_map_or (λ f. nat_lt index (length f.elements)) (slice_get sets set) false

abbrev pub read_element : List SetFace → ℕ → Reader
read_element sets set bytes = with_found (read_count bytes) (λ index rest. if has_element sets set index then Some (value.Elem set index, rest) else None)

abbrev pub read_couple : Reader → Reader → Reader
read_couple first second bytes = with_found (first bytes) (λ a rest. with_found (second rest) (λ b more. Some (value.Pair a b, more)))

-- so many values, one after the other
abbrev pub read_many : Reader → ℕ → List ℕ → Found (List Value)
read_many read zero bytes = Some ([], bytes)
read_many read (suc n) bytes = with_found (read bytes) (λ v rest. with_found (read_many read n rest) (λ vs more. Some (v ∷ vs, more)))

-- each value is below the next
abbrev pub ascends_behind : Value → List Value → Bool
ascends_behind v [] = true
ascends_behind v (w ∷ ws) = is_lt (value_cmp v w) && ascends_behind w ws

abbrev pub ascends : List Value → Bool
ascends [] = true
ascends (v ∷ vs) = ascends_behind v vs

abbrev pub set_or_none : List Value → List ℕ → Found Value
set_or_none xs rest = if ascends xs then Some (value.Set xs, rest) else None

abbrev pub read_set : Reader → Reader
read_set read bytes = with_found (read_count bytes) (λ n rest. with_found (read_many read n rest) set_or_none)

abbrev pub read_layer : List SetFace → Ty-F Reader → Reader
read_layer sets Ty-F.Int = read_number
read_layer sets Ty-F.Truth = read_truth
read_layer sets Ty-F.Text = read_text
read_layer sets (Ty-F.Elem set) = read_element sets set
read_layer sets (Ty-F.Pair first second) = read_couple first second
read_layer sets (Ty-F.Set read) = read_set read

-- a value of the type at the front
abbrev pub reader : List SetFace → Ty → Reader
reader sets = fold-Ty Reader (read_layer sets)

-- a value of the type with at most a million nodes
abbrev pub read_kept : List SetFace → Ty → Reader
read_kept sets ty bytes = with_found (reader sets ty bytes) (λ v rest. if nat_le (node_count v) 1000000 then Some (v, rest) else None)

-- a value for each name
abbrev pub read_names : List SetFace → List NameFace → List ℕ → Found (List Value)
read_names sets [] bytes = Some ([], bytes)
read_names sets (name ∷ names) bytes = with_found (read_kept sets name.ty bytes) (λ v rest. with_found (read_names sets names rest) (λ vs more. Some (v ∷ vs, more)))

-- nothing follows
abbrev pub whole : State → List ℕ → Option State
whole s [] = Some s
whole s (b ∷ bytes) = None

abbrev pub end_of : Option (State × List ℕ) → Option State
end_of None = None
end_of (Some p) = whole p.0 p.1

abbrev pub read_constants : Face → List ℕ → Option State
read_constants face bytes = end_of (with_found (read_names face.sets face.constants bytes) (λ cs rest. Some (Constants cs, rest)))

abbrev pub read_running : Face → List ℕ → Option State
read_running face bytes = end_of (with_found (read_names face.sets face.constants bytes)
    (λ cs rest. with_found (read_names face.sets face.variables rest) (λ vs more. Some (Running cs vs, more))))

-- the state of the face whose bytes these are
abbrev pub unpack_of : Face → List ℕ → Option State
unpack_of face [] = None
unpack_of face (kind ∷ bytes) = if kind == 0 then whole Root bytes else (if kind == 1 then read_constants face bytes else (if kind == 2 then read_running face bytes else None))
