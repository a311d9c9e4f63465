use Rattle.std.proofs.Common.{◌≡◌, ◌++◌, map, take}
use Rattle.b_summaries.specs.Making.{scaled_entry}
use Rattle.b_summaries.proofs.making.with_scaled.Given as goal

-- those so far
abbrev pub invariant-loop-entry : goal.invariant-loop-entry
invariant-loop-entry l = l.entries ≡ l.fn.parts.entries ++ map (scaled_entry l.share.count l.share.offset) (take l.entry-index l.more.entries)
