-- What summaries say of trees once the arguments are known.
use Rattle.std.specs.Prelude.{ℕ, if◌then◌else◌, List, [], ◌∷◌, slice_get, Option, Some, None, option_map, option_and_then}
use Rattle.b_ast.specs.declared.Sort.{Sort}
use Rattle.b_expand.specs.Expansion.{both}
use Rattle.b_summaries.specs.declared.summary.Size.{Size}
use Rattle.b_summaries.specs.declared.summary.Facts.{Facts}
use Rattle.b_summaries.specs.declared.summary.Share.{Share}
use Rattle.b_summaries.specs.declared.summary.Entry.{Entry}
use Rattle.b_summaries.specs.declared.summary.Kind.{Kind}
use Rattle.b_summaries.specs.declared.summary.Kind.TheVariants as kind
use Rattle.b_summaries.specs.declared.summary.Parts.{Parts}
use Rattle.b_summaries.specs.declared.summary.Summary.{Summary}
use Rattle.b_summaries.specs.declared.summary.Told.{Told}
use Rattle.b_summaries.specs.Sizes.{nothing, times, under, together, met}

-- what an argument adds, if it is what is asked for
abbrev pub share_value : Share → Facts → Option Size
share_value h f = if met h.asked f.sort then Some (times h.count h.offset f.size) else None

abbrev pub entry_value : Entry → List Facts → Option Size
entry_value e fs = option_and_then (share_value e.share) (slice_get fs e.parameter)

abbrev pub entries_value : List Entry → List Facts → Option Size
entries_value [] fs = Some nothing
entries_value (e ∷ es) fs = together (entry_value e fs) (entries_value es fs)

-- one share for each argument
abbrev pub shares_value : List Share → List Facts → Option Size
shares_value [] [] = Some nothing
shares_value [] (f ∷ fs) = None
shares_value (h ∷ hs) [] = None
shares_value (h ∷ hs) (f ∷ fs) = together (share_value h f) (shares_value hs fs)

abbrev pub kind_value : Kind → List Facts → Option Sort
kind_value (kind.Own s) fs = Some s
kind_value (kind.Argument p) fs = option_map (λ f. f.sort) (slice_get fs p)

-- parts under so many brackets
abbrev pub parts_value : Parts → ℕ → List Facts → Option Size
parts_value p r fs = together (Some (under r p.size)) (entries_value p.entries fs)

abbrev pub facts_from : Sort → Size → Facts
facts_from s z = record { sort = s; size = z }

abbrev pub summary_value : Summary → ℕ → List Facts → Option Facts
summary_value u r fs = both facts_from (kind_value u.kind fs) (parts_value u.parts r fs)

abbrev pub told_value : Told → ℕ → List Facts → Option Facts
told_value t r fs = both facts_from (kind_value t.kind fs) (together (Some (under r t.size)) (shares_value t.shares fs))
