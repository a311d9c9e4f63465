use Rattle.pack_state.specs.UnpackLaws.{unpacks, unpacked_back}
use Rattle.pack_state.proofs.spelling.unpacked_alone.Goals as goal

pub returns-clause-sound : goal.returns-clause-sound
returns-clause-sound c = unpacks

pub returns-clause-complete : goal.returns-clause-complete
returns-clause-complete c = unpacked_back
