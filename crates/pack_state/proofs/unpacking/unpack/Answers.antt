use Rattle.pack_state.proofs.Unpacked.{of_packed, is_packable}
use Rattle.pack_state.proofs.unpacking.unpack.Goals as goal

pub returns-clause-state : goal.returns-clause-state
returns-clause-state c = of_packed c.args.face.now c.args.p.now c.bytes.result.now c.state_at.result c.bytes.ensures c.state_at.ensures

pub returns-clause-packable : goal.returns-clause-packable
returns-clause-packable c = is_packable c.args.face.now c.args.p.now c.state_at.result (of_packed c.args.face.now c.args.p.now c.bytes.result.now c.state_at.result c.bytes.ensures c.state_at.ensures)
