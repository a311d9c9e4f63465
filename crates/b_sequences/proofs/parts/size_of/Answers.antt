use Rattle.std.proofs.Common.{Some, pos, length, sym, ap, ◌∙◌}
use Rattle.std.specs.Option.{option_map}
use Rattle.b_values.specs.declared.values.Value.TheVariants.{Int}
use Rattle.b_sequences.proofs.Steps.{couples_length}
use Rattle.b_sequences.proofs.parts.size_of.Goals as goal

pub returns-in-Some : goal.returns-in-Some
returns-in-Some c =
    let h = c.in-Some.ensures in
    ap Some (c.how_many.ensures ∙ ap (λ n. Int (pos n)) (couples_length _ h.couples)) ∙ sym (ap (λ o. option_map (λ xs. Int (pos (length xs))) o) h.list)
