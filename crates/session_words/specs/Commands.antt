-- The command that a line stands for, by its bytes without the LF that ends it and without a CR before that.
use Rattle.std.specs.Prelude.{◌≡◌, ℕ, Bool, true, false, not, ◌&&◌, ◌||◌, nat_le, nat_eq, List, [], ◌∷◌, Option, Some, None, Result, Ok, Err, if◌then◌else◌, codes}
use Rattle.std.specs.List.{starts_with}
use Rattle.std.specs.Option.{option_map, option_and_then}
use Rattle.b_lex.specs.Spelling.{is_name}
use Rattle.session_words.specs.declared.commands.Verb.{Verb}
use Rattle.session_words.specs.declared.commands.Verb.TheVariants as verb
use Rattle.session_words.specs.declared.commands.Command.{Command}
use Rattle.session_words.specs.declared.commands.Command.TheVariants.{Blank, Info, Ops, Step, Do, Back, Forward, Jump, Trace, State, Show, Eval, Sub, Unsub, Subs, Inv, Keep, Use, Save, Replay, Migrate, Visb, Click, Random, Quit}
use Rattle.session_words.specs.Verbs.{verb_of}
use Rattle.session_words.specs.Arguments.{trimmed, first_word, behind_word, has_byte, such_as, number_of, is_document, is_operation}

-- a command without arguments
abbrev pub alone : List ℕ → Command → Option Command
alone [] command = Some command
alone (b ∷ bytes) command = None

-- `do NAME PRED`, where the predicate may be absent
abbrev pub do_of : List ℕ → List ℕ → Option Command
do_of name pred = if is_operation name then Some (Do name (such_as has_byte pred)) else None

-- `migrate DOC DOC`
abbrev pub migrate_of : List ℕ → List ℕ → Option Command
migrate_of from to = if is_document from && is_document to then Some (Migrate from to) else None

-- `random N SEED`, where N is from 1 to 1,000
abbrev pub random_of : Option ℕ → Option ℕ → Option Command
random_of (Some steps) (Some seed) = if nat_le 1 steps && nat_le steps 1000 then Some (Random steps seed) else None
random_of (Some steps) None = None
random_of None seed = None

-- the form of each command: what may stand behind its verb
abbrev pub command_with : Verb → List ℕ → Option Command
command_with verb.Info rest = alone rest Info
command_with verb.Ops rest = alone rest Ops
command_with verb.Step rest = option_map Step (number_of rest)
command_with verb.Do rest = do_of (first_word rest) (behind_word rest)
command_with verb.Back rest = alone rest Back
command_with verb.Forward rest = alone rest Forward
command_with verb.Jump rest = option_map Jump (number_of rest)
command_with verb.Trace rest = alone rest Trace
command_with verb.State rest = alone rest State
command_with verb.Show rest = option_map Show (number_of rest)
command_with verb.Eval rest = option_map Eval (such_as has_byte rest)
command_with verb.Sub rest = option_map Sub (such_as has_byte rest)
command_with verb.Unsub rest = option_map Unsub (number_of rest)
command_with verb.Subs rest = alone rest Subs
command_with verb.Inv rest = alone rest Inv
command_with verb.Keep rest = option_map Keep (such_as is_name rest)
command_with verb.Use rest = option_map Use (such_as is_name rest)
command_with verb.Save rest = option_map Save (such_as is_document rest)
command_with verb.Replay rest = option_map Replay (such_as is_document rest)
command_with verb.Migrate rest = migrate_of (first_word rest) (behind_word rest)
command_with verb.Visb rest = alone rest Visb
command_with verb.Click rest = option_map Click (such_as has_byte rest)
command_with verb.Random rest = random_of (number_of (first_word rest)) (number_of (behind_word rest))
command_with verb.Quit rest = alone rest Quit

-- no bytes, or a comment
abbrev pub is_silent : List ℕ → Bool
is_silent bytes = not (has_byte bytes) || starts_with nat_eq bytes (codes "//")

-- the command of a line without blanks at its ends
abbrev pub command_by : List ℕ → Option Command
command_by line =
    if is_silent line then Some Blank
    else option_and_then (λ verb. command_with verb (behind_word line)) (verb_of (first_word line))

-- the command that a line stands for, where it has one of the forms
abbrev pub command_of : List ℕ → Option Command
command_of line = command_by (trimmed line)

-- a command that has bytes of its line
abbrev pub has_bytes : Command → Bool
has_bytes (Do op pred) = true
has_bytes (Eval text) = true
has_bytes (Sub text) = true
has_bytes (Keep name) = true
has_bytes (Use name) = true
has_bytes (Save name) = true
has_bytes (Replay name) = true
has_bytes (Migrate from to) = true
has_bytes (Click id) = true
has_bytes _ = false
