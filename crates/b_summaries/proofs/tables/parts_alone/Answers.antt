use Rattle.std.proofs.Common.{sym, arith}
use Rattle.b_summaries.proofs.PartLists.{some_alone}
use Rattle.b_summaries.proofs.tables.parts_alone.Goals as goal

-- an argument that isn't there adds to them
pub returns-in-len1-up : goal.returns-in-len1-up
returns-in-len1-up c = sym (some_alone c.args.parts.now c.as_slice.result.now c.as_slice.ensures (omega arith))
