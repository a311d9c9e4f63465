-- The text of a value, as it is written.
use Rattle.std.specs.Prelude.{◌==◌, ℕ, Bool, List, [], ◌∷◌, ◌++◌, codes, if◌then◌else◌, flat_map, slice_get, unwrap_or}
use Rattle.std.specs.Option.{option_map_or}
use Rattle.std.specs.Fmt.{signed_decimal}
use Rattle.b_values.specs.declared.types.SetFace.{SetFace}
use Rattle.b_values.specs.declared.values.Value.{Value, fold-Value}
use Rattle.b_values.specs.declared.values.Value.TheOpen.{Value-F}

-- the names of the elements of a set of the machine
abbrev pub names_of : List SetFace → ℕ → List (List ℕ)
names_of sets set = option_map_or (λ f. f.elements) (slice_get sets set) []

-- the name of an element; nothing where the machine has no such element
abbrev pub element_name : List SetFace → ℕ → ℕ → List ℕ
element_name sets set index = unwrap_or (slice_get (names_of sets set) index) []

-- how a byte of a text is written: a quote, a backslash, LF and tab by an escape
abbrev pub spelling_of : ℕ → List ℕ
spelling_of b =
    if b == 34 then codes "\\\""
    else (if b == 92 then codes "\\\\" else (if b == 10 then codes "\\n" else (if b == 9 then codes "\\t" else b ∷ [])))

-- each text with a comma before it
abbrev pub comma_each : List (List ℕ) → List ℕ
comma_each [] = []
comma_each (t ∷ ts) = 44 ∷ (t ++ comma_each ts)

-- the texts with commas between them
abbrev pub commas : List (List ℕ) → List ℕ
commas [] = []
commas (t ∷ ts) = t ++ comma_each ts

-- a layer of a value, with the texts of its parts
abbrev pub text_layer : List SetFace → Value-F (List ℕ) → List ℕ
text_layer sets (Value-F.Int n) = signed_decimal n
text_layer sets (Value-F.Truth b) = if b then codes "TRUE" else codes "FALSE"
text_layer sets (Value-F.Text s) = 34 ∷ (flat_map spelling_of s ++ 34 ∷ [])
text_layer sets (Value-F.Elem set index) = element_name sets set index
text_layer sets (Value-F.Pair a b) = 40 ∷ (a ++ codes "|->" ++ b ++ 41 ∷ [])
text_layer sets (Value-F.Set xs) = 123 ∷ (commas xs ++ 125 ∷ [])

-- the text of a value, under the names of a machine's elements
abbrev pub text_of : List SetFace → Value → List ℕ
text_of sets = fold-Value (List ℕ) (text_layer sets)
