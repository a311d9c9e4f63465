-- How a session settles at what comes next: what it holds then, where it is, and what it needs.
use Rattle.std.specs.Prelude.{◌≡◌, ◌≤◌, ℕ, Bool, true, false, List, ◌++◌, length, Some, codes, if◌then◌else◌}
use Rattle.std.specs.Fmt.{decimal}
use Rattle.b_values.specs.declared.types.Face.{Face}
use Rattle.session_words.specs.Texts.{line}
use Rattle.session_words.specs.declared.replies.Numbered.{Numbered}
use Rattle.session_words.specs.declared.replies.Reply.TheVariants as reply
use Rattle.session_text.specs.Writing.{text_of_reply}
use Rattle.session_text.specs.Brief.{HasWords}
use Rattle.session_core.specs.declared.held.Held.{Held}
use Rattle.session_core.specs.declared.core_of.At.{At}
use Rattle.session_core.specs.declared.core_of.At.TheVariants.{Asking, Replying, Quitting, Marked}
use Rattle.session_core.specs.declared.core_of.Turn.{Turn}
use Rattle.session_core.specs.declared.stages.Change.TheVariants.{Go}
use Rattle.session_core.specs.declared.stages.Need.TheVariants as needs
use Rattle.session_core.specs.declared.stages.Stage.{Stage}
use Rattle.session_core.specs.declared.stages.Next.{Next}
use Rattle.session_core.specs.declared.stages.Next.TheVariants.{Goes, Ends, Refuses, Silent, Moves, Quits}
use Rattle.session_core.specs.Moving.{needed, changed_held, is_too_long}
use Rattle.session_words.specs.Commands.{command_of}
use Rattle.animator.specs.History.{quits_by}

-- the lines of a reply that tells a state alone
abbrev pub moved_text : ℕ → List ℕ
moved_text number = line (codes "state " ++ decimal number) ++ line (codes "ok")

-- a question is asked, and nothing has changed
abbrev pub Asks : Numbered → Held → Held → Stage → Turn → Type 0
Asks root old new stage turn = (new ≡ old) × (needed root old stage ≡ Some turn.need) × (turn.at ≡ Asking stage)

-- a reply is given, and this is held
abbrev pub Replies : Held → Held → List ℕ → Turn → Type 0
Replies held new text turn = (new ≡ held) × (turn.at ≡ Replying) × (turn.need ≡ needs.Reply text)

abbrev pub RepliesToQuit : Held → Held → List ℕ → Turn → Type 0
RepliesToQuit held new text turn = (new ≡ held) × (turn.at ≡ Quitting) × (turn.need ≡ needs.Quit text)

-- what is held changes with a reply alone
abbrev pub Settled : Numbered → Held → Face → Next → Held → Turn → Type 0
Settled root old face (Goes stage) new turn = Asks root old new stage turn
Settled root old face (Ends change reply) new turn = Replies (changed_held old change) new (text_of_reply face reply) turn
Settled root old face (Refuses why) new turn = Replies old new (text_of_reply face (reply.Refused why)) turn
Settled root old face Silent new turn = Replies old new (text_of_reply face reply.Silent) turn
Settled root old face (Moves n number) new turn = Replies (changed_held old (Go n)) new (moved_text number) turn
Settled root old face Quits new turn = RepliesToQuit old new (text_of_reply face reply.Done) turn

-- it settles without memory
abbrev pub IsShort : Held → Next → Type 0
IsShort held (Refuses why) = HasWords why
IsShort held Silent = Unit {0}
IsShort held (Moves n number) = n ≤ length held.trace.steps
IsShort held Quits = Unit {0}
IsShort held _ = ⊥

-- memory refused the last command
abbrev pub is_marked : At → Bool
is_marked Marked = true
is_marked at = false

-- the reply to `quit` is given
abbrev pub quits_at : At → Bool
quits_at Quitting = true
quits_at at = false

abbrev pub quits_next : Next → Bool
quits_next Quits = true
quits_next next = false

-- the line is `quit`
abbrev pub quits_line : List ℕ → Bool
quits_line line = if is_too_long line then false else quits_by (command_of line)

-- within a command
abbrev pub is_asking : At → Bool
is_asking (Asking stage) = true
is_asking at = false
