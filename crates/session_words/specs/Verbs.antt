-- The words of the commands.
use Rattle.std.specs.Prelude.{ℕ, List, Option, codes}
use Rattle.std.specs.List.{find}
use Rattle.std.specs.Str.{bytes_eq}
use Rattle.session_words.specs.declared.commands.Verb.{Verb}
use Rattle.session_words.specs.declared.commands.Verb.TheVariants.{Info, Ops, Step, Do, Back, Forward, Jump, Trace, State, Show, Eval, Sub, Unsub, Subs, Inv, Keep, Use, Save, Replay, Migrate, Visb, Click, Random, Quit}
use Rattle.session_words.specs.declared.commands.TheConstants.{VERBS}

-- how a verb is written
abbrev pub spelling : Verb → List ℕ
spelling Info = codes "info"
spelling Ops = codes "ops"
spelling Step = codes "step"
spelling Do = codes "do"
spelling Back = codes "back"
spelling Forward = codes "forward"
spelling Jump = codes "jump"
spelling Trace = codes "trace"
spelling State = codes "state"
spelling Show = codes "show"
spelling Eval = codes "eval"
spelling Sub = codes "sub"
spelling Unsub = codes "unsub"
spelling Subs = codes "subs"
spelling Inv = codes "inv"
spelling Keep = codes "keep"
spelling Use = codes "use"
spelling Save = codes "save"
spelling Replay = codes "replay"
spelling Migrate = codes "migrate"
spelling Visb = codes "visb"
spelling Click = codes "click"
spelling Random = codes "random"
spelling Quit = codes "quit"

-- the verb that is written so
abbrev pub verb_of : List ℕ → Option Verb
verb_of word = find (λ verb. bytes_eq word (spelling verb)) VERBS
