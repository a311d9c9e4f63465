use Rattle.std.proofs.Common.{arith, ◌∙◌, sym, ap, Some}
use Rattle.std.specs.Int.{w128, cast_signed}
use Rattle.b_values.specs.declared.values.Value.TheVariants.{Int}
use Rattle.pack_state.proofs.Fronts.{front_size, number_read}
use Rattle.pack_state.proofs.unpacking.number_at.Goals as goal

pub word_of-requires : goal.word_of-requires
word_of-requires c = front_size 16 c.args.bytes.now c.in_ok-front.front.now c.in_ok-front.rest.now c.in_ok-front.ensures

pub returns : goal.returns
returns c = number_read c.args.bytes.now c.in_ok-front.front.now c.in_ok-front.rest.now c.in_ok-front.ensures (λ i. omega (arith, c.type_inv.bytes i))
    ∙ ap (λ v. Some (v, c.in_ok-front.rest.now)) (ap (λ n. Int (cast_signed w128 n)) (sym c.word_of.ensures) ∙ sym c.number_of.ensures)
