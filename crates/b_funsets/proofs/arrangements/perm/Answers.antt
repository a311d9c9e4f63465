use Rattle.std.proofs.Common.{List, length, sym, ap, ◌∙◌, subst, arith}
use Rattle.b_values.specs.Values.{elements, IsKept}
use Rattle.b_values.specs.declared.values.Value.{Value}
use Rattle.b_values.specs.declared.values.Value.TheVariants.{Set}
use Rattle.b_funsets.specs.Arrangements.{places}
use Rattle.b_funsets.proofs.Placing.{places_kept}
use Rattle.b_funsets.proofs.arrangements.perm.Goals as goal

pub bijections-requires-clause-left : goal.bijections-requires-clause-left
bijections-requires-clause-left c = subst (λ (ps : List Value). IsKept (Set ps))
    (sym (c.in-Ok-new.ensures ∙ c.in-Ok.ensures ∙ ap (λ (xs : List Value). places (length xs)) c.members.ensures))
    (places_kept c.args.s.now (length (elements c.args.s.now)) c.requires (omega arith))
