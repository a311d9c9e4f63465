use Rattle.std.proofs.Common.{◌≡◌, drop}
use Rattle.std.specs.List.{find}
use Rattle.std.specs.Str.{bytes_eq}
use Rattle.session_words.specs.Verbs.{spelling}
use Rattle.session_text.proofs.arguments.find_among.Given as goal

-- the verbs behind this place decide
abbrev pub invariant-loop-verb : goal.invariant-loop-verb
invariant-loop-verb l = find (λ verb. bytes_eq l.word (spelling verb)) (drop l.verb-index l.verbs) ≡ find (λ verb. bytes_eq l.word (spelling verb)) l.verbs
