-- Which texts stand for a value of a type.
use Rattle.std.specs.Prelude.{◌≡◌, ◌≢◌, ◌<◌, ◌≤◌, ◌==◌, ◌+◌, ◌^◌, ◌&&◌, ◌||◌, ℕ, zero, suc, Bool, false, ℤ, pos, negsuc, neg_ℤ, max, slice_get, List, [], ◌∷◌, ◌++◌, Option, Some, None, codes, length, nat_le, bytes_eq, position, if◌then◌else◌, IsTrue, IsUtf8}
use Rattle.std.specs.List.{list_all, AllByRecursion}
use Rattle.std.specs.Str.Parse.{IsNumeral, digits_value}
use Rattle.ascending.specs.Ascending.{set_of}
use Rattle.b_values.specs.declared.types.SetFace.{SetFace}
use Rattle.b_values.specs.declared.types.Ty.{Ty}
use Rattle.b_values.specs.declared.types.Ty.TheVariants as ty
use Rattle.b_values.specs.declared.values.Value.{Value, fold-Value, every-Value}
use Rattle.b_values.specs.declared.values.Value.TheOpen.{Value-F}
use Rattle.b_values.specs.declared.values.Value.TheVariants as value
use Rattle.b_values.specs.Types.{IsText, HasType}
use Rattle.b_values.specs.Values.{value_cmp, node_count, IsKept}
use Rattle.b_values.specs.Texts.{names_of, text_of}

-- so many blanks
abbrev pub blanks : ℕ → List ℕ
blanks zero = []
blanks (suc n) = 32 ∷ blanks n

-- a sign with blanks before it
abbrev pub sign : ℕ → List ℕ → List ℕ
sign n text = blanks n ++ text

-- what a letter stands for after a backslash
abbrev pub escape_of : ℕ → Option ℕ
escape_of b = if b == 34 then Some 34 else (if b == 92 then Some 92 else (if b == 110 then Some 10 else (if b == 116 then Some 9 else None)))

-- what may stand between quotes, and the bytes that it stands for
pub data Spells : List ℕ → List ℕ → Type 0 where
  ended : Spells [] []
  plain : {b : ℕ} {spelling bytes : List ℕ} → b ≢ 10 → b ≢ 34 → b ≢ 92 → Spells spelling bytes → Spells (b ∷ spelling) (b ∷ bytes)
  escaped : {letter b : ℕ} {spelling bytes : List ℕ} → escape_of letter ≡ Some b → Spells spelling bytes → Spells (92 ∷ letter ∷ spelling) (b ∷ bytes)

abbrev pub is_letter : ℕ → Bool
is_letter b = (nat_le 65 b && nat_le b 90) || (nat_le 97 b && nat_le b 122)

abbrev pub is_digit : ℕ → Bool
is_digit b = nat_le 48 b && nat_le b 57

abbrev pub is_name_byte : ℕ → Bool
is_name_byte b = is_letter b || is_digit b || b == 95

-- a letter, then letters, digits and `_`
abbrev pub is_name : List ℕ → Bool
is_name [] = false
is_name (b ∷ bs) = is_letter b && list_all is_name_byte bs

-- whether a couple may stand without brackets
pub data Form : Type 0 where
  free : Form
  bracketed : Form

-- the couples of 1, 2 and so on with the parts of a sequence
abbrev pub numbered : ℕ → List Value → List Value
numbered n [] = []
numbered n (v ∷ vs) = value.Pair (value.Int (pos n)) v ∷ numbered (n + 1) vs

-- the text is one of a value of the type, with at most so many brackets open at one place
mutual
  pub data IsPiece (sets : List SetFace) : Form → Ty → ℕ → List ℕ → Value → Type 0 where
    truth : {f : Form} {d : ℕ} (n : ℕ) (b : Bool) → IsPiece sets f ty.Truth d (sign n (if b then codes "TRUE" else codes "FALSE")) (value.Truth b)
    number : {f : Form} {d : ℕ} (n : ℕ) (digits : List ℕ) → IsNumeral 10 digits → digits_value 10 digits < 2 ^ 127
        → IsPiece sets f ty.Int d (sign n digits) (value.Int (pos (digits_value 10 digits)))
    negative : {f : Form} {d : ℕ} (n k : ℕ) (digits : List ℕ) → IsNumeral 10 digits → digits_value 10 digits ≤ 2 ^ 127
        → IsPiece sets f ty.Int d (sign n (codes "-") ++ sign k digits) (value.Int (neg_ℤ (pos (digits_value 10 digits))))
    text : {f : Form} {d : ℕ} (n : ℕ) (spelling bytes : List ℕ) → Spells spelling bytes → IsText bytes
        → IsPiece sets f ty.Text d (sign n (34 ∷ (spelling ++ 34 ∷ []))) (value.Text bytes)
    element : {f : Form} {d : ℕ} (n : ℕ) (set index : ℕ) (name : List ℕ) → IsTrue (is_name name) → position (bytes_eq name) (names_of sets set) ≡ Some index → index < 2 ^ 32
        → IsPiece sets f (ty.Elem set) d (sign n name) (value.Elem set index)
    couple : {d : ℕ} {a b : Ty} {left right : List ℕ} {x y : Value} (n : ℕ) → IsPiece sets free a d left x → IsPiece sets bracketed b d right y
        → IsPiece sets free (ty.Pair a b) d (left ++ (sign n (codes "|->") ++ right)) (value.Pair x y)
    bracketed_couple : {f : Form} {d : ℕ} {a b : Ty} {left right : List ℕ} {x y : Value} (n k m : ℕ) → IsPiece sets free a d left x → IsPiece sets bracketed b d right y
        → IsPiece sets f (ty.Pair a b) (suc d) (sign n (codes "(") ++ (left ++ (sign k (codes "|->") ++ (right ++ sign m (codes ")"))))) (value.Pair x y)
    comma_couple : {f : Form} {d : ℕ} {a b : Ty} {left right : List ℕ} {x y : Value} (n k m : ℕ) → IsPiece sets free a d left x → IsPiece sets free b d right y
        → IsPiece sets f (ty.Pair a b) (suc d) (sign n (codes "(") ++ (left ++ (sign k (codes ",") ++ (right ++ sign m (codes ")"))))) (value.Pair x y)
    set : {f : Form} {d : ℕ} {a : Ty} {inner : List ℕ} {xs : List Value} (n m : ℕ) → IsList sets a d inner xs
        → IsPiece sets f (ty.Set a) (suc d) (sign n (codes "{") ++ (inner ++ sign m (codes "}"))) (value.Set (set_of value_cmp xs))
    sequence : {f : Form} {d : ℕ} {a : Ty} {inner : List ℕ} {xs : List Value} (n m : ℕ) → IsList sets a d inner xs
        → IsPiece sets f (ty.Set (ty.Pair ty.Int a)) (suc d) (sign n (codes "[") ++ (inner ++ sign m (codes "]"))) (value.Set (numbered 1 xs))
    nothing : {f : Form} {d : ℕ} (a : Ty) (n : ℕ) → IsPiece sets f (ty.Set (ty.Pair ty.Int a)) d (sign n (codes "<>")) (value.Set [])

  -- the text is texts of values of the type, with commas between them
  pub data IsList (sets : List SetFace) : Ty → ℕ → List ℕ → List Value → Type 0 where
    none : {a : Ty} {d : ℕ} → IsList sets a d [] []
    last : {a : Ty} {d : ℕ} {front : List ℕ} {x : Value} → IsPiece sets free a d front x → IsList sets a d front (x ∷ [])
    more : {a : Ty} {d : ℕ} {front back : List ℕ} {x y : Value} {ys : List Value} (n : ℕ) → IsPiece sets free a d front x → IsList sets a d back (y ∷ ys)
        → IsList sets a d (front ++ (sign n (codes ",") ++ back)) (x ∷ y ∷ ys)

-- the text is one of the value, which is of the type: blanks may stand before each sign and at the end, at most
-- 100 brackets are open at one place, and the value has at most 1,000,000 nodes
pub record IsTextOf (sets : List SetFace) (type : Ty) (bytes : List ℕ) (v : Value) : Type 0 where
  pub front : List ℕ
  pub end : ℕ
  pub whole : bytes ≡ front ++ blanks end
  pub piece : IsPiece sets free type 100 front v
  pub small : node_count v ≤ 1000000

-- ---- what was written reads back

-- the elements of a set have names of the language, which differ, and their places have 32 bits
pub record HasNames (f : SetFace) : Type 0 where
  pub names : AllByRecursion (λ name. IsTrue (is_name name)) f.elements
  pub differ : (i j : ℕ) (name : List ℕ) → slice_get f.elements i ≡ Some name → slice_get f.elements j ≡ Some name → i ≡ j
  pub few : length f.elements ≤ 2 ^ 32

abbrev pub greatest : List ℕ → ℕ
greatest [] = 0
greatest (n ∷ ns) = max n (greatest ns)

abbrev pub bracket_layer : Value-F ℕ → ℕ
bracket_layer (Value-F.Int n) = 0
bracket_layer (Value-F.Truth b) = 0
bracket_layer (Value-F.Text s) = 0
bracket_layer (Value-F.Elem s i) = 0
bracket_layer (Value-F.Pair m n) = 1 + max m n
bracket_layer (Value-F.Set ns) = 1 + greatest ns

-- how many brackets are open at one place of the written text
abbrev pub bracket_count : Value → ℕ
bracket_count = fold-Value ℕ bracket_layer

-- a number of 128 bits
abbrev pub FitsNumber : ℤ → Type 0
FitsNumber (pos n) = n < 2 ^ 127
FitsNumber (negsuc n) = n < 2 ^ 127

abbrev pub LayerFits : Value-F Value → Type 0
LayerFits (Value-F.Int n) = FitsNumber n
LayerFits v = Unit {0}

-- each number in the value has 128 bits
abbrev pub NumbersFit : Value → Type 0
NumbersFit = every-Value LayerFits

-- the written text of a value of the type is a text of it
abbrev pub ReadsBack : Type 0
ReadsBack = (sets : List SetFace) (t : Ty) (v : Value) → AllByRecursion HasNames sets → HasType sets t v → IsKept v → NumbersFit v → bracket_count v ≤ 100
    → IsTextOf sets t (text_of sets v) v
