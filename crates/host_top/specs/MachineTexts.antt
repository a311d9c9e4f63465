-- The texts of the machines of one counter: MACHINE M VARIABLES x INVARIANT x : INTEGER INITIALISATION x := n OPERATIONS o = x := x + n END
use Rattle.std.specs.Prelude.{◌≡◌, ℕ, ℤ, pos, ◌-◌, ◌^◌, ◌<◌, Bool, true, false, not, ◌&&◌, ◌||◌, nat_le, List, [], ◌∷◌, ◌++◌, length, map, Some, ◌==◌, codes}
use Rattle.std.specs.List.{list_any, list_all}
use Rattle.std.specs.Str.{bytes_eq}
use Rattle.animator.specs.Words.{is_digit, is_digits, number_of}
use Rattle.host_top.specs.ReservedWords.{is_reserved}
use Rattle.host_top.specs.declared.machine.Operation.{Operation}
use Rattle.host_top.specs.declared.machine.Machine.{Machine}

-- ---- tokens

-- space, tab, CR and LF separate tokens
abbrev pub is_space : ℕ → Bool
is_space b = (b == 32) || (b == 9) || (b == 13) || (b == 10)

abbrev pub is_letter : ℕ → Bool
is_letter b = (nat_le 65 b && nat_le b 90) || (nat_le 97 b && nat_le b 122)

abbrev pub is_name_byte : ℕ → Bool
is_name_byte b = is_letter b || is_digit b || (b == 95)

-- a letter, and then letters, digits and `_`
abbrev pub is_word : List ℕ → Bool
is_word [] = false
is_word (b ∷ bytes) = is_letter b && list_all is_name_byte bytes

-- the signs of these machines
abbrev pub signs : List (List ℕ)
signs = codes ":" ∷ codes ":=" ∷ codes "=" ∷ codes "+" ∷ codes ";" ∷ []

abbrev pub is_token : List ℕ → Bool
is_token bytes = is_word bytes || is_digits bytes || list_any (bytes_eq bytes) signs

-- a token is as long as it can be: with the byte behind it it is none
abbrev pub IsLongest : List ℕ → List ℕ → Type 0
IsLongest token [] = Unit {0}
IsLongest token (b ∷ rest) = is_token (token ++ b ∷ []) ≡ false

-- the text is separators, a token that is as long as it can be, and the rest
pub record IsNext (text token rest : List ℕ) : Type 0 where
  pub gap : List ℕ
  pub spaces : list_all is_space gap ≡ true
  pub is : text ≡ gap ++ (token ++ rest)
  pub some : is_token token ≡ true
  pub longest : IsLongest token rest

-- ---- rows of tokens

-- what a grammar asks of a token: its spelling, the spelling at a place of the text, or a number
pub data Asked : Type 0 where
  word : List ℕ → Asked
  word_at : ℕ → List ℕ → Asked
  number : ℤ → Asked

-- whether a token at a place is what is asked; a number is at most 2 ^ 127 - 1 and may have leading zeros
abbrev pub Fits : Asked → ℕ → List ℕ → Type 0
Fits (word spelling) place token = token ≡ spelling
Fits (word_at asked spelling) place token = (token ≡ spelling) × (asked ≡ place)
Fits (number z) place token = (n : ℕ) × (number_of (2 ^ 127 - 1) token ≡ Some n) × (z ≡ pos n)

-- the tokens of the text, which ends a text of so many bytes, are what is asked, in this order: a token's place is the number of bytes before it
abbrev pub IsRow : ℕ → List Asked → List ℕ → Type 0
IsRow size [] text = list_all is_space text ≡ true
IsRow size (asked ∷ row) text = (token rest : List ℕ) × IsNext text token rest × Fits asked (size - length (token ++ rest)) token × IsRow size row rest

-- ---- the grammar

-- `o = x := x + n`
abbrev pub operation_row : List ℕ → Operation → List Asked → List Asked
operation_row x op behind = word op.name ∷ word (codes "=") ∷ word x ∷ word (codes ":=") ∷ word x ∷ word_at op.at (codes "+") ∷ number op.amount ∷ behind

-- operations with `;` between them, and END behind the last
abbrev pub operations_row : List ℕ → List Operation → List Asked
operations_row x [] = word (codes "END") ∷ []
operations_row x (op ∷ []) = operation_row x op (word (codes "END") ∷ [])
operations_row x (op ∷ next ∷ ops) = operation_row x op (word (codes ";") ∷ operations_row x (next ∷ ops))

-- `MACHINE M VARIABLES x INVARIANT x : INTEGER INITIALISATION x := n OPERATIONS`, and the operations
abbrev pub machine_row : List ℕ → Machine → List Asked
machine_row x m =
    word (codes "MACHINE") ∷ word m.name ∷ word (codes "VARIABLES") ∷ word x ∷ word (codes "INVARIANT") ∷ word x ∷ word (codes ":") ∷ word (codes "INTEGER")
    ∷ word (codes "INITIALISATION") ∷ word x ∷ word (codes ":=") ∷ number m.start ∷ word (codes "OPERATIONS") ∷ operations_row x m.ops

-- a name is a word that is not reserved
abbrev pub is_name : List ℕ → Bool
is_name token = is_word token && not (is_reserved token)

-- no two of the names are one
abbrev pub all_differ : List (List ℕ) → Bool
all_differ [] = true
all_differ (name ∷ names) = not (list_any (bytes_eq name) names) && all_differ names

abbrev pub op_names : List Operation → List (List ℕ)
op_names ops = map (λ op. op.name) ops

-- the text is one of this machine
pub record IsMachineText (text : List ℕ) (m : Machine) : Type 0 where
  -- the variable
  pub x : List ℕ
  pub row : IsRow (length text) (machine_row x m) text
  -- it has an operation
  pub some : 0 < length m.ops
  pub names : list_all is_name (m.name ∷ x ∷ op_names m.ops) ≡ true
  pub differ : all_differ (x ∷ op_names m.ops) ≡ true

-- the text is one of no machine
abbrev pub IsNoMachineText : List ℕ → Type 0
IsNoMachineText text = (m : Machine) → IsMachineText text m → ⊥

-- a text is one of at most one machine
abbrev pub OneMachine : Type 0
OneMachine = (text : List ℕ) (m n : Machine) → IsMachineText text m → IsMachineText text n → m ≡ n
