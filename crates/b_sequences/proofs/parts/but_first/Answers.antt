use Rattle.std.proofs.Common.{◌<◌, length, rules, tests, ap, ◌∙◌}
use Rattle.b_values.specs.Reading.{numbered}
use Rattle.b_sequences.specs.Sequences.{seconds}
use Rattle.b_sequences.proofs.Steps.{but_first_couples}
use Rattle.b_sequences.proofs.parts.but_first.Goals as goal

pub returns-in_ok-renumbered : goal.returns-in_ok-renumbered
returns-in_ok-renumbered c =
    but_first_couples _ _ c.requires (let h : 0 < length c.args.couples.now = search (rules, tests) in h)
    (c.in_ok-renumbered.ensures ∙ ap (λ cs. numbered 1 (seconds cs)) c.split_at.ensures.back)
