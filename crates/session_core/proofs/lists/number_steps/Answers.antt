use Rattle.std.proofs.Common.{◌≡◌, ◌∙◌, ◌++◌, sym, ap, List, arith}
use Rattle.std.proofs.lemmas.List.{append-nil}
use Rattle.engine_face.specs.declared.answers.Step.{Step}
use Rattle.session_words.specs.declared.replies.Numbered.{Numbered}
use Rattle.session_core.proofs.Listing.{steps_past}
use Rattle.session_core.proofs.lists.number_steps.Goals as goal

pub returns : goal.returns
returns c =
    sym (append-nil c.loop-i.all)
    ∙ ap (λ (l : List (Step Numbered)). c.loop-i.all ++ l) (sym (steps_past c.args.steps.now c.args.numbers.now c.loop-i.i (omega arith)))
    ∙ c.loop-i.invariant
