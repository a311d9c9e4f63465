-- The words of the program, and what they ask for.
use Rattle.std.specs.Prelude.{ℕ, Bool, not, ◌&&◌, List, [], ◌∷◌, map, Option, Some, None, codes, if◌then◌else◌, nat_eq, string_bytes}
use Rattle.std.specs.List.{starts_with}
use Rattle.std.specs.Str.{bytes_eq}
use Rattle.host_top.specs.declared.asking.Form.{Form}
use Rattle.host_top.specs.declared.asking.Form.TheVariants.{Solo}
use Rattle.host_top.specs.declared.asking.Words.{Words}

-- what the words ask for: the form, the machine's name and the sessions' names
pub record Asked : Type 0 where
  pub form : Form
  pub machine : List ℕ
  pub sessions : List (List ℕ)

-- a word that is no option
abbrev pub is_plain : List ℕ → Bool
is_plain word = not (starts_with nat_eq word (codes "-"))

-- `solo MACHINE SESSION`, and no other words
abbrev pub asked_of : List (List ℕ) → Option Asked
asked_of (word ∷ machine ∷ session ∷ []) =
    if bytes_eq word (codes "solo") && is_plain machine && is_plain session then Some (record { form = Solo; machine = machine; sessions = session ∷ [] }) else None
asked_of words = None

-- what words that were read ask for
abbrev pub asked_by : Words → Asked
asked_by words = record { form = words.form; machine = string_bytes words.machine; sessions = map (λ name. string_bytes name) words.sessions.items }
