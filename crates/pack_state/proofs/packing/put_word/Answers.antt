use Rattle.pack_state.proofs.Fronts.{halves}
use Rattle.pack_state.proofs.packing.put_word.Goals as goal

pub returns : goal.returns
returns c = halves c.args.out.now.items _ _ c.args.word c.in_ok-put_half.ensures c.in_ok-put_half-2.ensures
