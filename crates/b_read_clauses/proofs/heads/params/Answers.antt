use Rattle.b_stretches.specs.Stretches.{pieces, piece_of}
use Rattle.b_read_clauses.proofs.Laws.{params_none, params_some}
use Rattle.b_read_clauses.proofs.heads.params.Goals as goal

pub returns-in-None : goal.returns-in-None
returns-in-None c = rw c.new.ensures (params_none (pieces c.args.s) c.in-None.ensures)

pub returns-in-Some : goal.returns-in-Some
returns-in-Some c = params_some (pieces c.args.s) (piece_of c.in-Some.field-0) (pieces c.in-Some.field-0.2) c.enclosed_names.result c.in-Some.ensures c.enclosed_names.ensures
