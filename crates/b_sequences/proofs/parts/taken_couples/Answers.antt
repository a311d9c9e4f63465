use Rattle.std.proofs.Common.{◌≡◌, length, take, subst}
use Rattle.std.specs.Prelude.{IfOk}
use Rattle.std.specs.Option.{option_map}
use Rattle.b_values.specs.Reading.{numbered}
use Rattle.b_values.specs.declared.values.Value.{out-Value}
use Rattle.b_sequences.specs.Sequences.{seconds}
use Rattle.b_sequences.specs.Rows.{number_within}
use Rattle.b_sequences.proofs.Steps.{chained, couples_length}
use Rattle.b_sequences.proofs.parts.taken_couples.Goals as goal

pub returns-in-Some : goal.returns-in-Some
returns-in-Some c =
    let h = c.in-Some.ensures in
    let xs = seconds c.in-Some.couples.now in
    chained (λ xs. option_map (λ k. take k xs) (number_within (length xs) (out-Value c.args.n.now))) _ _ _ h
    (subst (λ n. IfOk c.first_couples.result (λ cs. cs ≡ option_map (numbered 1) (option_map (λ k. take k xs) (number_within n (out-Value c.args.n.now))))) (couples_length _ h.couples) c.first_couples.ensures)
