-- Parts with one more size.
use Rattle.std.proofs.Common.{◌≡◌, List, ◌++◌, []}
use Rattle.std.proofs.lemmas.List.{append-nil}
use Rattle.b_summaries.specs.declared.summary.Size.{Size}
use Rattle.b_summaries.specs.declared.summary.Entry.{Entry}
use Rattle.b_summaries.specs.declared.summary.Parts.{Parts}
use Rattle.b_summaries.specs.Sizes.{plus}
use Rattle.b_summaries.specs.Making.{alone, join}

-- parts with equal fields are equal
parts_by : (z : Size) (es gs : List Entry) → es ≡ gs → ◌≡◌ {A = Parts} (record { size = z; entries = es }) (record { size = z; entries = gs })
parts_by z es gs h = cc

-- a size has no entries
pub size_joined : (p : Parts) (z : Size) → join p (alone z) ≡ record { size = plus p.size z; entries = p.entries }
size_joined p z = parts_by _ _ _ (append-nil p.entries)
