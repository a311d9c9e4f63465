-- Replies of at most 64 bytes whatever the machine: errors, a lone `ok`, and a state alone.
use Rattle.std.specs.Prelude.{ℕ, ◌<◌, ◌^◌, List, [], ◌∷◌}
use Rattle.session_words.specs.declared.refusals.Refusal.{Refusal}
use Rattle.session_words.specs.declared.refusals.Refusal.TheVariants.{PostForm, Fault, NotAStep}
use Rattle.session_words.specs.declared.replies.SubValue.{SubValue}
use Rattle.session_words.specs.declared.replies.Reply.{Reply}
use Rattle.session_words.specs.declared.replies.Numbered.{Numbered}
use Rattle.session_words.specs.declared.replies.Reply.TheVariants.{Silent, Done, Moved, Refused}

-- the numbers of an error fit 64 bits
abbrev pub HasWords : Refusal → Type 0
HasWords (PostForm entry) = entry < 2 ^ 64
HasWords (Fault fault) = fault.at < 2 ^ 64
HasWords (NotAStep entry) = entry < 2 ^ 64
HasWords _ = Unit {0}

-- a state without subscriptions
abbrev pub IsAlone : Numbered → List SubValue → Type 0
IsAlone state [] = state.number < 2 ^ 64
IsAlone state (sub ∷ subs) = ⊥

abbrev pub IsBrief : Reply Numbered → Type 0
IsBrief Silent = Unit {0}
IsBrief Done = Unit {0}
IsBrief (Moved state subs) = IsAlone state subs
IsBrief (Refused refusal) = HasWords refusal
IsBrief _ = ⊥
