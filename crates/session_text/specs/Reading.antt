-- What a reader of commands answers.
use Rattle.std.specs.Prelude.{◌≡◌, ℕ, Bool, true, false, List, Option, Some, None, Result, Ok, Err}
use Rattle.std.specs.Option.{option_map_or}
use Rattle.session_words.specs.declared.commands.Command.{Command}
use Rattle.session_words.specs.Commands.{has_bytes}
use Rattle.session_text.specs.declared.commands.CommandFault.{CommandFault}
use Rattle.session_text.specs.declared.commands.CommandFault.TheVariants.{NoCommand, Memory}

-- a copy of bytes that passed a test, or that they didn't
abbrev pub IsCopied : Bool → List ℕ → Result (List ℕ) CommandFault → Type 0
IsCopied passes bytes (Ok copy) = (passes ≡ true) × (copy ≡ bytes)
IsCopied passes bytes (Err NoCommand) = passes ≡ false
IsCopied passes bytes (Err Memory) = passes ≡ true

-- a command that has bytes of its line
abbrev pub needs_bytes : Option Command → Bool
needs_bytes expected = option_map_or has_bytes expected false

-- the command, or that there is none; want of memory only for a command that has bytes of its line
abbrev pub IsRead : Option Command → Result Command CommandFault → Type 0
IsRead expected (Ok command) = expected ≡ Some command
IsRead expected (Err NoCommand) = expected ≡ None
IsRead expected (Err Memory) = needs_bytes expected ≡ true
