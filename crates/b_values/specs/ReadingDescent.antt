-- The front of a text, read by a type. Only private clauses cite this; what it has to do with the texts of
-- values is proved.
use Rattle.std.specs.Prelude.{◌≡◌, ◌≤◌, ◌==◌, ◌+◌, ◌-◌, ◌^◌, ◌&&◌, ℕ, zero, suc, Bool, true, false, not, ℤ, pos, neg_ℤ, List, [], ◌∷◌, ◌++◌, Option, Some, None, codes, cond, length, nat_le, nat_lt, bytes_eq, position}
use Rattle.std.specs.Str.{is_utf8}
use Rattle.std.specs.Str.Parse.{digits_value}
use Rattle.ascending.specs.Ascending.{set_of}
use Rattle.b_values.specs.declared.types.SetFace.{SetFace}
use Rattle.b_values.specs.declared.types.Ty.{Ty, fold-Ty}
use Rattle.b_values.specs.declared.types.Ty.TheOpen.{Ty-F}
use Rattle.b_values.specs.declared.values.Value.{Value}
use Rattle.b_values.specs.declared.values.Value.TheVariants as value
use Rattle.b_values.specs.declared.reading.StringStep.{StringStep}
use Rattle.b_values.specs.declared.reading.StringStep.TheVariants.{Closes, Breaks, BeginsEscape, Gives}
use Rattle.b_values.specs.Values.{value_cmp}
use Rattle.b_values.specs.Texts.{names_of}
use Rattle.b_values.specs.Reading.{Form, free, bracketed, escape_of, is_digit, is_name, is_name_byte, numbered}

-- what was read at the front, and what follows it
abbrev pub Found : Type 0 → Type 0
Found A = Option (A × List ℕ)

abbrev pub with_found : {A B : Type 0} → Found A → (A → List ℕ → Found B) → Found B
with_found None go = None
with_found (Some p) go = go p.0 p.1

abbrev pub with_rest : {B : Type 0} → Option (List ℕ) → (List ℕ → Found B) → Found B
with_rest None go = None
with_rest (Some rest) go = go rest

-- what follows the blanks
abbrev pub skip : List ℕ → List ℕ
skip [] = []
skip (b ∷ bs) = cond (b == 32) (skip bs) (b ∷ bs)

-- what follows a text at the front
abbrev pub strip : List ℕ → List ℕ → Option (List ℕ)
strip [] bs = Some bs
strip (p ∷ ps) [] = None
strip (p ∷ ps) (b ∷ bs) = cond (p == b) (strip ps bs) None

-- what follows a sign, before which blanks may stand
abbrev pub after : List ℕ → List ℕ → Option (List ℕ)
after text bs = strip text (skip bs)

-- the bytes at the front that pass, and what follows them
abbrev pub run : (ℕ → Bool) → List ℕ → List ℕ
run p [] = []
run p (b ∷ bs) = cond (p b) (b ∷ run p bs) []

abbrev pub past : (ℕ → Bool) → List ℕ → List ℕ
past p [] = []
past p (b ∷ bs) = cond (p b) (past p bs) (b ∷ bs)

-- ---- numbers, truth values, elements

abbrev pub digits_or : ℕ → List ℕ → List ℕ → Found ℕ
digits_or most [] rest = None
digits_or most (d ∷ ds) rest = cond (nat_le (digits_value 10 (d ∷ ds)) most) (Some (digits_value 10 (d ∷ ds), rest)) None

-- a run of digits of at most this value
abbrev pub magnitude : ℕ → List ℕ → Found ℕ
magnitude most bs = digits_or most (run is_digit bs) (past is_digit bs)

abbrev pub number_or : Option (List ℕ) → List ℕ → Found Value
number_or None bs = with_found (magnitude (2 ^ 127 - 1) (skip bs)) (λ n rest. Some (value.Int (pos n), rest))
number_or (Some rest) bs = with_found (magnitude (2 ^ 127) (skip rest)) (λ n rest. Some (value.Int (neg_ℤ (pos n)), rest))

abbrev pub read_number : List ℕ → Found Value
read_number bs = number_or (after (codes "-") bs) bs

abbrev pub falsehood : Option (List ℕ) → Found Value
falsehood o = with_rest o (λ rest. Some (value.Truth false, rest))

abbrev pub truth_or : Option (List ℕ) → List ℕ → Found Value
truth_or None bs = falsehood (after (codes "FALSE") bs)
truth_or (Some rest) bs = Some (value.Truth true, rest)

abbrev pub read_truth : List ℕ → Found Value
read_truth bs = truth_or (after (codes "TRUE") bs) bs

abbrev pub element_at : ℕ → List ℕ → Option ℕ → Found Value
element_at set rest None = None
element_at set rest (Some index) = cond (nat_lt index (2 ^ 32)) (Some (value.Elem set index, rest)) None

abbrev pub named : List SetFace → ℕ → List ℕ → List ℕ → Found Value
named sets set name rest = element_at set rest (cond (is_name name) (position (bytes_eq name) (names_of sets set)) None)

abbrev pub read_element : List SetFace → ℕ → List ℕ → Found Value
read_element sets set bs = named sets set (run is_name_byte (skip bs)) (past is_name_byte (skip bs))

-- ---- strings

abbrev pub escape_step : Option ℕ → StringStep
escape_step None = Breaks
escape_step (Some b) = Gives b

-- the step of a byte, after a backslash or not
abbrev pub step_of : Bool → ℕ → StringStep
step_of true b = escape_step (escape_of b)
step_of false b = cond (b == 34) Closes (cond (b == 10) Breaks (cond (b == 92) BeginsEscape (Gives b)))

abbrev pub by_step : StringStep → List ℕ → Found (List ℕ) → Found (List ℕ)
by_step Closes bs more = Some ([], bs)
by_step Breaks bs more = None
by_step BeginsEscape bs more = more
by_step (Gives b) bs more = with_found more (λ bytes rest. Some (b ∷ bytes, rest))

abbrev pub is_escaping : StringStep → Bool
is_escaping BeginsEscape = true
is_escaping Closes = false
is_escaping Breaks = false
is_escaping (Gives b) = false

-- the bytes up to the closing quote
abbrev pub string_from : Bool → List ℕ → Found (List ℕ)
string_from escaping [] = None
string_from escaping (b ∷ bs) = by_step (step_of escaping b) bs (string_from (is_escaping (step_of escaping b)) bs)

abbrev pub is_text : List ℕ → Bool
is_text bytes = is_utf8 bytes && nat_lt (length bytes) (2 ^ 32)

abbrev pub text_found : List ℕ → List ℕ → Found Value
text_found bytes rest = cond (is_text bytes) (Some (value.Text bytes, rest)) None

abbrev pub read_string : List ℕ → Found Value
read_string bs = with_rest (after (codes "\"") bs) (λ bs. with_found (string_from false bs) text_found)

-- ---- couples: the brackets before a couple are counted, and closed where they close

-- the value that a row of signs has given so far, how many of the brackets before it are still open, whether it
-- needs no brackets of its own, and what follows
pub record Chain : Type 0 where
  pub value : Value
  pub left : ℕ
  pub closed : Bool
  pub rest : List ℕ

abbrev pub with_chain : Option Chain → (Chain → Option Chain) → Option Chain
with_chain None go = None
with_chain (Some c) go = go c

abbrev pub chain_after : {A : Type 0} → Found A → (A → List ℕ → Option Chain) → Option Chain
chain_after None go = None
chain_after (Some p) go = go p.0 p.1

abbrev pub base : (ℕ → List ℕ → Found Value) → ℕ → ℕ → List ℕ → Option Chain
base read limit m bs = chain_after (read (limit - m) bs) (λ v rest. Some (record { value = v; left = m; closed = true; rest = rest }))

abbrev pub open_or : Option (List ℕ) → List ℕ → (List ℕ → ℕ × List ℕ) → ℕ × List ℕ
open_or None bs more = (0, bs)
open_or (Some rest) bs more = (suc (more rest).0, (more rest).1)

-- what form is asked for
abbrev pub form_of : Bool → Form
form_of true = bracketed
form_of false = free

-- how many brackets stand at the front, at most so many, and what follows them
abbrev pub opened : ℕ → List ℕ → ℕ × List ℕ
opened zero bs = (0, bs)
opened (suc d) bs = open_or (after (codes "(") bs) bs (opened d)

abbrev pub is_whole : Form → Chain → Bool
is_whole free c = c.left == 0
is_whole bracketed c = (c.left == 0) && c.closed

abbrev pub ended : Form → Option Chain → Found Value
ended f None = None
ended f (Some c) = cond (is_whole f c) (Some (c.value, c.rest)) None

abbrev pub front : Form → (ℕ → ℕ → List ℕ → Option Chain) → ℕ → List ℕ → Found Value
front f chain d bs = ended f (chain d (opened d bs).0 (opened d bs).1)

-- the couple is closed where a bracket closes and one was open
abbrev pub closes_one : Option (List ℕ) → ℕ → Value → List ℕ → Chain
closes_one None m v rest = record { value = v; left = m; closed = false; rest = rest }
closes_one (Some next) zero v rest = record { value = v; left = zero; closed = false; rest = rest }
closes_one (Some next) (suc m) v rest = record { value = v; left = m; closed = true; rest = next }

abbrev pub arrow_end : Chain → Value → List ℕ → Option Chain
arrow_end c y rest = Some (closes_one (after (codes ")") rest) c.left (value.Pair c.value y) rest)

abbrev pub chain_rest : Option (List ℕ) → (List ℕ → Option Chain) → Option Chain
chain_rest None go = None
chain_rest (Some rest) go = go rest

abbrev pub comma_end : Chain → ℕ → Value → List ℕ → Option Chain
comma_end c m y rest = chain_rest (after (codes ")") rest) (λ rest. Some (record { value = value.Pair c.value y; left = m; closed = true; rest = rest }))

abbrev pub by_comma : (ℕ → List ℕ → Found Value) → ℕ → Chain → ℕ → Option (List ℕ) → Option Chain
by_comma any limit c zero o = None
by_comma any limit c (suc m) None = None
by_comma any limit c (suc m) (Some bs) = chain_after (any (limit - c.left) bs) (comma_end c m)

abbrev pub by_arrow : (ℕ → List ℕ → Found Value) → (ℕ → List ℕ → Found Value) → ℕ → Chain → Option (List ℕ) → Option Chain
by_arrow closed any limit c None = by_comma any limit c c.left (after (codes ",") c.rest)
by_arrow closed any limit c (Some bs) = chain_after (closed (limit - c.left) bs) (arrow_end c)

-- a couple's second part, after its first
abbrev pub second : (ℕ → ℕ → List ℕ → Option Chain) → ℕ → Chain → Option Chain
second chain limit c = by_arrow (front bracketed chain) (front free chain) limit c (after (codes "|->") c.rest)

abbrev pub read_couple : (ℕ → ℕ → List ℕ → Option Chain) → (ℕ → ℕ → List ℕ → Option Chain) → ℕ → ℕ → List ℕ → Option Chain
read_couple first chain limit m bs = with_chain (first limit m bs) (second chain limit)

-- ---- sets and sequences

abbrev pub and_first : Value → Found (List Value) → Found (List Value)
and_first v found = with_found found (λ vs rest. Some (v ∷ vs, rest))

abbrev pub goes_on : (List ℕ → Found (List Value)) → Value → List ℕ → Option (List ℕ) → Found (List Value)
goes_on more v rest None = Some (v ∷ [], rest)
goes_on more v rest (Some bs) = and_first v (more bs)

-- at most n values with commas between them
abbrev pub pieces : (List ℕ → Found Value) → ℕ → List ℕ → Found (List Value)
pieces read zero bs = None
pieces read (suc n) bs = with_found (read bs) (λ v rest. goes_on (pieces read n) v rest (after (codes ",") rest))

abbrev pub closing : List ℕ → List Value → List ℕ → Found (List Value)
closing close vs rest = with_rest (after close rest) (λ rest. Some (vs, rest))

abbrev pub list_or : Option (List ℕ) → (List ℕ → Found Value) → List ℕ → List ℕ → Found (List Value)
list_or (Some rest) read close bs = Some ([], rest)
list_or None read close bs = with_found (pieces read (suc (length bs)) bs) (closing close)

-- values with commas between them, up to a closing bracket
abbrev pub list_up_to : List ℕ → (List ℕ → Found Value) → List ℕ → Found (List Value)
list_up_to close read bs = list_or (after close bs) read close bs

-- with one bracket more, if one more may be open
abbrev pub inside : ℕ → (ℕ → Found Value) → Found Value
inside zero go = None
inside (suc d) go = go d

-- the reader of a type, and for a couple of a number and something the reader of that
pub record Reader : Type 0 where
  pub chain : ℕ → ℕ → List ℕ → Option Chain
  pub item : Option (ℕ → List ℕ → Found Value)
  pub is_number : Bool

abbrev pub as_set : List Value → List ℕ → Found Value
as_set vs rest = Some (value.Set (set_of value_cmp vs), rest)

abbrev pub as_sequence : List Value → List ℕ → Found Value
as_sequence vs rest = Some (value.Set (numbered 1 vs), rest)

abbrev pub no_items : Option (List ℕ) → Found Value
no_items o = with_rest o (λ rest. Some (value.Set [], rest))

abbrev pub sequence_or : (ℕ → List ℕ → Found Value) → ℕ → List ℕ → Option (List ℕ) → Found Value
sequence_or item d bs None = no_items (after (codes "<>") bs)
sequence_or item d bs (Some rest) = inside d (λ d. with_found (list_up_to (codes "]") (item d) rest) as_sequence)

abbrev pub items_or : Option (ℕ → List ℕ → Found Value) → ℕ → List ℕ → Found Value
items_or None d bs = None
items_or (Some item) d bs = sequence_or item d bs (after (codes "[") bs)

abbrev pub set_or : Reader → ℕ → List ℕ → Option (List ℕ) → Found Value
set_or element d bs None = items_or element.item d bs
set_or element d bs (Some rest) = inside d (λ d. with_found (list_up_to (codes "}") (front free element.chain d) rest) as_set)

abbrev pub read_set : Reader → ℕ → List ℕ → Found Value
read_set element d bs = set_or element d bs (after (codes "{") bs)

-- ---- the reader of a type

abbrev pub lone : (ℕ → ℕ → List ℕ → Option Chain) → Reader
lone chain = record { chain = chain; item = None; is_number = false }

abbrev pub read_layer : List SetFace → Ty-F Reader → Reader
read_layer sets Ty-F.Int = record { chain = base (λ d. read_number); item = None; is_number = true }
read_layer sets Ty-F.Truth = lone (base (λ d. read_truth))
read_layer sets Ty-F.Text = lone (base (λ d. read_string))
read_layer sets (Ty-F.Elem set) = lone (base (λ d. read_element sets set))
read_layer sets (Ty-F.Pair a b) = record { chain = read_couple a.chain b.chain; item = cond a.is_number (Some (front free b.chain)) None; is_number = false }
read_layer sets (Ty-F.Set a) = lone (base (read_set a))

unfoldable pub reader : List SetFace → Ty → Reader
reader sets = fold-Ty Reader (read_layer sets)
