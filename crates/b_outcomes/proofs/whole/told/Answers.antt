use Rattle.std.proofs.Common.{List, Err, sym, subst}
use Rattle.b_rows.specs.Answers.{bind, Means}
use Rattle.b_rows.specs.declared.EvalStop.{EvalStop}
use Rattle.b_outcomes.specs.Outcomes.{outcome_limit, within}
use Rattle.b_outcomes.specs.declared.frames.Frame.{Frame}
use Rattle.b_outcomes.proofs.Limits.{all_told, too_many}
use Rattle.b_outcomes.proofs.whole.told.Goals as goal

pub returns-in-Some-clause-value : goal.returns-in-Some-clause-value
returns-in-Some-clause-value c = λ a e. all_told outcome_limit c.args.at a c.args.out c.in-Some.frames e (sym c.in-Some.ensures.found)

pub returns-in-None-clause-value : goal.returns-in-None-clause-value
returns-in-None-clause-value c = λ a e. subst (λ (x : EvalStop). Means {A = List Frame} (bind a (within outcome_limit c.args.at)) (Err x)) (sym c.stop.ensures) (too_many outcome_limit c.args.at a c.args.out e (sym c.in-None.ensures.found))
