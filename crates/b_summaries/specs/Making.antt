-- Summaries from summaries.
use Rattle.std.specs.Prelude.{ℕ, zero, suc, ◌*◌, ◌+◌, if◌then◌else◌, List, [], ◌∷◌, ◌++◌, map, slice_get, Option, Some, None, option_map, option_and_then}
use Rattle.b_expand.specs.Places.{brackets}
use Rattle.b_expand.specs.Expansion.{both}
use Rattle.b_summaries.specs.declared.summary.Size.{Size}
use Rattle.b_summaries.specs.declared.summary.Asked.{Asked}
use Rattle.b_summaries.specs.declared.summary.Share.{Share}
use Rattle.b_summaries.specs.declared.summary.Entry.{Entry}
use Rattle.b_summaries.specs.declared.summary.Kind.{Kind}
use Rattle.b_summaries.specs.declared.summary.Kind.TheVariants as kind
use Rattle.b_summaries.specs.declared.summary.Parts.{Parts}
use Rattle.b_summaries.specs.declared.summary.Summary.{Summary}
use Rattle.b_summaries.specs.declared.summary.Told.{Told}
use Rattle.b_summaries.specs.Sizes.{counted, deeper_of, raised, plus, times, nothing_asked, both_asked, met}

-- parts that no argument adds to
abbrev pub alone : Size → Parts
alone z = record { size = z; entries = [] }

abbrev pub join : Parts → Parts → Parts
join p q = record { size = plus p.size q.size; entries = p.entries ++ q.entries }

-- so many nodes with the deepest of their places
abbrev pub place_size : ℕ → ℕ → Size
place_size n d = record { nodes = n; depth = Some d }

-- ---- what is asked for

-- what is asked of the argument for a parameter
abbrev pub demand : Asked → ℕ → Entry
demand a p = record { parameter = p; share = record { count = 0; offset = None; asked = a } }

-- the parts of a tree that has to be what is asked for
abbrev pub fitted : Asked → Kind → Parts → Option Parts
fitted a (kind.Own s) p = if met a s then Some p else None
fitted a (kind.Argument i) p = Some (record { size = p.size; entries = p.entries ++ demand a i ∷ [] })

abbrev pub fit : Asked → Option Summary → Option Parts
fit a o = option_and_then (λ u. fitted a u.kind u.parts) o

-- ---- uses

abbrev pub scaled_entry : ℕ → Option ℕ → Entry → Entry
scaled_entry c o e = record { parameter = e.parameter; share = record { count = counted (c * e.share.count); offset = raised o e.share.offset; asked = e.share.asked } }

abbrev pub scaled : ℕ → Option ℕ → Parts → Parts
scaled c o p = record { size = times c o p.size; entries = map (scaled_entry c o) p.entries }

-- what an argument adds to a use
abbrev pub lifted : Share → Summary → Option Parts
lifted h u = option_map (scaled h.count h.offset) (fitted h.asked u.kind u.parts)

-- with what arguments add, one share for each
abbrev pub lifted_all : Option Parts → List Share → List Summary → Option Parts
lifted_all o [] [] = o
lifted_all o [] (u ∷ us) = None
lifted_all o (h ∷ hs) [] = None
lifted_all o (h ∷ hs) (u ∷ us) = lifted_all (both join o (lifted h u)) hs us

abbrev pub kind_in : Kind → List Summary → Option Kind
kind_in (kind.Own s) us = Some (kind.Own s)
kind_in (kind.Argument p) us = option_map (λ u. u.kind) (slice_get us p)

-- the body's own places, where the definition's name stands under so many brackets
abbrev pub body_size : ℕ → Size → Size
body_size depth z = record { nodes = z.nodes; depth = raised (Some (brackets depth 1)) z.depth }

abbrev pub use_summary : Kind → Parts → Summary
use_summary k p = record { kind = k; parts = p }

-- a use of a definition with its arguments
abbrev pub substituted : Told → ℕ → List Summary → Option Summary
substituted t depth us = both use_summary (kind_in t.kind us) (lifted_all (Some (alone (body_size depth t.size))) t.shares us)

-- ---- one share for each parameter

abbrev pub no_share : Share
no_share = record { count = 0; offset = None; asked = nothing_asked }

abbrev pub more_share : Share → Share → Share
more_share h g = record { count = counted (h.count + g.count); offset = deeper_of h.offset g.offset; asked = both_asked h.asked g.asked }

-- the shares with one more at a place
abbrev pub added_share : List Share → ℕ → Share → Option (List Share)
added_share [] p g = None
added_share (h ∷ hs) zero g = Some (more_share h g ∷ hs)
added_share (h ∷ hs) (suc p) g = option_map (λ hs. h ∷ hs) (added_share hs p g)

abbrev pub gathered : List Share → List Entry → Option (List Share)
gathered hs [] = Some hs
gathered hs (e ∷ es) = option_and_then (λ hs. gathered hs es) (added_share hs e.parameter e.share)

abbrev pub no_shares : List (List ℕ) → List Share
no_shares ps = map (λ x. no_share) ps

-- what a use of a body gives that has to be what is asked for
abbrev pub told_parts : List (List ℕ) → Kind → Parts → Option Told
told_parts ps k p = option_map (λ hs. record { kind = k; size = p.size; shares = hs }) (gathered (no_shares ps) p.entries)

abbrev pub told_of : List (List ℕ) → Asked → Option Summary → Option Told
told_of ps a o = option_and_then (λ u. option_and_then (told_parts ps u.kind) (fitted a u.kind u.parts)) o
