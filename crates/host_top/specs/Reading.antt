-- How the reader goes through a text and a line: each part is read from the front, with what stands behind it. MachineTexts and Words say what is read.
use Rattle.std.specs.Prelude.{ℕ, ◌+◌, ◌-◌, ◌^◌, pos, zero, suc, Bool, true, false, not, ◌&&◌, ◌||◌, nat_le, List, [], ◌∷◌, ◌++◌, length, take, drop, map, Option, Some, None, unwrap_or, ◌*◌, ◌≡◌, if◌then◌else◌, ◌==◌, codes, nat_eq}
use Rattle.std.specs.List.{position, starts_with}
use Rattle.std.specs.Str.{bytes_eq}
use Rattle.animator.specs.declared.model.Command.{Command}
use Rattle.animator.specs.declared.model.Command.TheVariants.{Blank, Unknown, Ops, Take, Back}
use Rattle.animator.specs.Words.{is_blank, is_digit, number_of, take_of}
use Rattle.host_top.specs.ReservedWords.{is_reserved}
use Rattle.host_top.specs.MachineTexts.{is_space, is_letter, is_name_byte, all_differ}
use Rattle.host_top.specs.declared.machine.Operation.{Operation}
use Rattle.host_top.specs.declared.machine.Machine.{Machine}

infixl 10 ◌>>=◌
abbrev pub ◌>>=◌ : {A B : Type 0} → Option A → (A → Option B) → Option B
None >>= f = None
(Some x) >>= f = f x

-- what a function returned, seen by view, is what reading gives
abbrev pub Gives : {X Y : Type 0} → (X → Y) → Option X → Option Y → Type 0
Gives view None read = read ≡ None
Gives view (Some x) read = read ≡ Some (view x)

-- how many bytes stand in front of the first that passes
abbrev pub front : (ℕ → Bool) → List ℕ → ℕ
front p bytes = unwrap_or (position p bytes) (length bytes)

abbrev pub past_space : List ℕ → List ℕ
past_space text = drop (front (λ b. not (is_space b)) text) text

-- how many bytes the token at the front has: a name or word, a number, `:=`, or one other byte
abbrev pub token_len : List ℕ → ℕ
token_len [] = 0
token_len (b ∷ text) =
    if is_letter b then 1 + front (λ c. not (is_name_byte c)) text
    else if is_digit b then 1 + front (λ c. not (is_digit c)) text
    else if starts_with nat_eq (b ∷ text) (codes ":=") then 2
    else 1

-- the next token, which is empty at the end
abbrev pub token_of : List ℕ → List ℕ
token_of text = take (token_len (past_space text)) (past_space text)

abbrev pub behind_token : List ℕ → List ℕ
behind_token text = drop (token_len (past_space text)) (past_space text)

abbrev pub begins_letter : List ℕ → Bool
begins_letter [] = false
begins_letter (b ∷ token) = is_letter b

-- whether a token of the text is a name
abbrev pub names : List ℕ → Bool
names token = begins_letter token && not (is_reserved token)

-- behind a token that is this one
abbrev pub behind_sign : List ℕ → List ℕ → Option (List ℕ)
behind_sign sign text = if bytes_eq (token_of text) sign then Some (behind_token text) else None

abbrev pub name_at : List ℕ → Option (List ℕ × List ℕ)
name_at text = if names (token_of text) then Some (token_of text, behind_token text) else None

abbrev pub number_by : List ℕ → Option ℕ → Option (ℕ × List ℕ)
number_by rest None = None
number_by rest (Some n) = Some (n, rest)

abbrev pub number_at : List ℕ → Option (ℕ × List ℕ)
number_at text = number_by (behind_token text) (number_of (2 ^ 127 - 1) (token_of text))

-- `x := x +`, and the place of the `+` from the end
unfoldable pub sum_at : List ℕ → List ℕ → Option (ℕ × List ℕ)
sum_at x text =
    behind_sign x text >>= λ text.
    behind_sign (codes ":=") text >>= λ text.
    behind_sign x text >>= λ text.
    behind_sign (codes "+") text >>= λ rest.
    Some (length (past_space text), rest)

-- `o = x := x + n`, in a text of so many bytes
unfoldable pub operation_at : ℕ → List ℕ → List ℕ → Option (Operation × List ℕ)
operation_at size x text =
    name_at text >>= λ name.
    behind_sign (codes "=") name.1 >>= λ text.
    sum_at x text >>= λ plus.
    number_at plus.1 >>= λ amount.
    Some (record { name = name.0; amount = pos amount.0; at = size - plus.0 }, amount.1)

-- END and nothing behind it
abbrev pub ends : List ℕ → Bool
ends text = bytes_eq (token_of text) (codes "END") && bytes_eq (token_of (behind_token text)) []

abbrev pub with_front : List Operation → Option (List Operation) → Option (List Operation)
with_front ops None = None
with_front ops (Some more) = Some (ops ++ more)

-- operations with `;` between them, and END behind the last, `most` of them at most
abbrev pub operations_at : ℕ → ℕ → List ℕ → List ℕ → Option (List Operation)
operations_at zero size x text = None
operations_at (suc most) size x text =
    operation_at size x text >>= λ op.
    if bytes_eq (token_of op.1) (codes ";") then with_front (op.0 ∷ []) (operations_at most size x (behind_token op.1))
    else if ends op.1 then Some (op.0 ∷ [])
    else None

-- `MACHINE M VARIABLES x INVARIANT x : INTEGER`
unfoldable pub head_at : List ℕ → Option (List ℕ × List ℕ × List ℕ)
head_at text =
    behind_sign (codes "MACHINE") text >>= λ text.
    name_at text >>= λ name.
    behind_sign (codes "VARIABLES") name.1 >>= λ text.
    name_at text >>= λ x.
    behind_sign (codes "INVARIANT") x.1 >>= λ text.
    behind_sign x.0 text >>= λ text.
    behind_sign (codes ":") text >>= λ text.
    behind_sign (codes "INTEGER") text >>= λ text.
    Some (name.0, x.0, text)

-- `INITIALISATION x := n OPERATIONS`
unfoldable pub start_at : List ℕ → List ℕ → Option (ℕ × List ℕ)
start_at x text =
    behind_sign (codes "INITIALISATION") text >>= λ text.
    behind_sign x text >>= λ text.
    behind_sign (codes ":=") text >>= λ text.
    number_at text >>= λ n.
    behind_sign (codes "OPERATIONS") n.1 >>= λ text.
    Some (n.0, text)

abbrev pub machine_by : List ℕ → List ℕ → ℕ → List Operation → Option Machine
machine_by name x start ops = if all_differ (x ∷ map (λ op. op.name) ops) then Some (record { name = name; start = pos start; ops = ops }) else None

-- the machine that a text stands for, where it is accepted
unfoldable pub machine_of : List ℕ → Option Machine
machine_of text =
    head_at text >>= λ head.
    start_at head.1 head.2 >>= λ start.
    operations_at (length text) (length text) head.1 start.1 >>= λ ops.
    machine_by head.0 head.1 start.0 ops

-- ---- numbers and the words of a line

-- the number that digits stand for, behind digits that stand for `high`: None where another byte stands among them or the number passes `most`
abbrev pub number_from : ℕ → ℕ → List ℕ → Option ℕ
number_from most high [] = if nat_le high most then Some high else None
number_from most high (b ∷ bytes) = if is_digit b then number_from most (10 * high + (b - 48)) bytes else None

-- the bytes from the first on that is no blank
abbrev pub past_blanks : List ℕ → List ℕ
past_blanks bytes = drop (front (λ b. not (is_blank b)) bytes) bytes

-- the first word of a line, which is empty where there is none
abbrev pub word_of : List ℕ → List ℕ
word_of line = take (front is_blank (past_blanks line)) (past_blanks line)

-- what stands behind the first word
abbrev pub behind_word : List ℕ → List ℕ
behind_word line = drop (front is_blank (past_blanks line)) (past_blanks line)

-- the command of three words, of which the last may be empty
abbrev pub command_at : List ℕ → List ℕ → List ℕ → Command
command_at word argument more =
    if bytes_eq word [] || starts_with nat_eq word (codes "//") then Blank
    else if bytes_eq word (codes "ops") && bytes_eq argument [] then Ops
    else if bytes_eq word (codes "back") && bytes_eq argument [] then Back
    else if bytes_eq word (codes "step") && bytes_eq more [] then take_of (number_of (2 ^ 64 - 1) argument)
    else Unknown
