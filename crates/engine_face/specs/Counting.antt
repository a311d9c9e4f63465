-- Counts, which stay at 2^64 - 1 once there.
use Rattle.std.specs.Prelude.{ℕ, ◌+◌, ◌-◌, ◌^◌, min}
use Rattle.engine_face.specs.declared.answers.Counts.{Counts}

-- nothing was asked yet
abbrev pub uncounted : Counts
uncounted = record { expand = 0; value = 0; find = 0; confirm = 0 }

-- one more
abbrev pub raised : ℕ → ℕ
raised n = min (n + 1) (2 ^ 64 - 1)

-- one question more of a kind, and none of another
abbrev pub expanded : Counts → Counts
expanded c = record { expand = raised c.expand; value = c.value; find = c.find; confirm = c.confirm }

abbrev pub valued : Counts → Counts
valued c = record { expand = c.expand; value = raised c.value; find = c.find; confirm = c.confirm }

abbrev pub searched : Counts → Counts
searched c = record { expand = c.expand; value = c.value; find = raised c.find; confirm = c.confirm }

abbrev pub checked : Counts → Counts
checked c = record { expand = c.expand; value = c.value; find = c.find; confirm = raised c.confirm }
