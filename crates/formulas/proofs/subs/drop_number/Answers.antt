use Rattle.std.proofs.Common.{rules, not}
use Rattle.std.proofs.lemmas.Fn.{filter_same}
use Rattle.formulas.specs.Subscribing.{has_number}
use Rattle.formulas.proofs.subs.drop_number.Goals as goal

pub returns : goal.returns
returns c = filter_same _ (λ sub. not (has_number c.args.number sub)) _ (λ x b f' k. search rules) _ _ c.retain.ensures.filtered
