-- What parts say together, and what they say under demands and shares.
use Rattle.std.proofs.Common.{◌≡◌, ℕ, ◌*◌, Bool, true, false, cond, List, [], ◌∷◌, ◌++◌, map, Option, Some, None, refl, sym, ap, ◌∙◌}
use Rattle.std.specs.Prelude.{option_map, option_and_then, slice_get}
use Rattle.std.proofs.Math.Nat.{zero-mul, mul-zero}
use Rattle.b_ast.specs.declared.Sort.{Sort}
use Rattle.b_expand.specs.Expansion.{both, all_of}
use Rattle.b_summaries.specs.declared.summary.Size.{Size}
use Rattle.b_summaries.specs.declared.summary.Facts.{Facts}
use Rattle.b_summaries.specs.declared.summary.Asked.{Asked}
use Rattle.b_summaries.specs.declared.summary.Share.{Share}
use Rattle.b_summaries.specs.declared.summary.Entry.{Entry}
use Rattle.b_summaries.specs.declared.summary.Kind.{Kind}
use Rattle.b_summaries.specs.declared.summary.Kind.TheVariants as kind
use Rattle.b_summaries.specs.declared.summary.Parts.{Parts}
use Rattle.b_summaries.specs.declared.summary.Summary.{Summary}
use Rattle.b_summaries.specs.Sizes.{counted, raised, nothing, plus, times, under, together, met, sized}
use Rattle.b_summaries.specs.Values.{share_value, entry_value, entries_value, shares_value, kind_value, parts_value, facts_from, summary_value}
use Rattle.b_summaries.specs.Making.{join, demand, fitted, scaled_entry, scaled, lifted, lifted_all}
use Rattle.b_summaries.proofs.Sums.{size_by, under_plus, times_plus, times-twice, under-times, together_assoc, together_exchange, together_nothing, nothing_together}

-- with nothing there is nothing
pub both_none : {X Y Z : Type 0} (f : X → Y → Z) (o : Option X) → both f o None ≡ None
both_none f None = refl
both_none f (Some x) = refl

-- what parts say, if there are any
abbrev pub value_of : ℕ → List Facts → Option Parts → Option Size
value_of r fs o = option_and_then (λ p. parts_value p r fs) o

-- ---- entries

pub nothing_entries : (es : List Entry) (fs : List Facts) → together (Some nothing) (entries_value es fs) ≡ entries_value es fs
nothing_entries [] fs = refl
nothing_entries (e ∷ es) fs = nothing_together (entry_value e fs) (entries_value es fs)

pub entries_nothing : (es : List Entry) (fs : List Facts) → together (entries_value es fs) (Some nothing) ≡ entries_value es fs
entries_nothing [] fs = refl
entries_nothing (e ∷ es) fs = together_nothing (entry_value e fs) (entries_value es fs)

entries_append : (es gs : List Entry) (fs : List Facts) → entries_value (es ++ gs) fs ≡ together (entries_value es fs) (entries_value gs fs)
entries_append [] gs fs = sym (nothing_entries gs fs)
entries_append (e ∷ es) gs fs = ap (together (entry_value e fs)) (entries_append es gs fs) ∙ sym (together_assoc (entry_value e fs) (entries_value es fs) (entries_value gs fs))

-- ---- parts

pub join_value : (p q : Parts) (r : ℕ) (fs : List Facts) → parts_value (join p q) r fs ≡ together (parts_value p r fs) (parts_value q r fs)
join_value p q r fs =
    ap (λ z. together (Some z) (entries_value (p.entries ++ q.entries) fs)) (under_plus r p.size q.size)
    ∙ (ap (together (Some (plus (under r p.size) (under r q.size)))) (entries_append p.entries q.entries fs)
    ∙ together_exchange (Some (under r p.size)) (Some (under r q.size)) (entries_value p.entries fs) (entries_value q.entries fs))

pub joined_value : (o p : Option Parts) (r : ℕ) (fs : List Facts) → value_of r fs (both join o p) ≡ together (value_of r fs o) (value_of r fs p)
joined_value None p r fs = refl
joined_value (Some o) None r fs = sym (both_none plus (parts_value o r fs))
joined_value (Some o) (Some p) r fs = join_value o p r fs

-- ---- demands

under_test : (b : Bool) (p : Parts) (r : ℕ) (fs : List Facts) → value_of r fs (cond b (Some p) None) ≡ cond b (parts_value p r fs) None
under_test true p r fs = refl
under_test false p r fs = refl

none_under : (b : Bool) → ◌≡◌ {A = Option Size} (cond b None None) None
none_under true = refl
none_under false = refl

sized_own : (a : Asked) (s : Sort) (z : Option Size) → cond (met a s) z None ≡ sized a (both facts_from (Some s) z)
sized_own a s None = none_under (met a s)
sized_own a s (Some z) = refl

-- a demand adds nothing
no_times : (z : Size) → ◌≡◌ {A = Size} (times 0 None z) nothing
no_times z = size_by _ _ _ _ (ap counted (zero-mul z.nodes)) refl

demanded : (b : Bool) (u : Size) (es : List Entry) (fs : List Facts) (z : Size) → together (Some u) (together (entries_value es fs) (together (cond b (Some (times 0 None z)) None) (Some nothing))) ≡ cond b (together (Some u) (entries_value es fs)) None
demanded true u es fs z = ap (λ z. together (Some u) (together (entries_value es fs) (together (Some z) (Some nothing)))) (no_times z) ∙ ap (together (Some u)) (entries_nothing es fs)
demanded false u es fs z = ap (together (Some u)) (both_none plus (entries_value es fs))

fitted_argument : (a : Asked) (i : ℕ) (p : Parts) (r : ℕ) (fs : List Facts) (o : Option Facts)
    → together (Some (under r p.size)) (together (entries_value p.entries fs) (together (option_and_then (share_value (demand a i).share) o) (Some nothing)))
    ≡ sized a (both facts_from (option_map (λ f. f.sort) o) (parts_value p r fs))
fitted_argument a i p r fs None = ap (together (Some (under r p.size))) (both_none plus (entries_value p.entries fs))
fitted_argument a i p r fs (Some f) = demanded (met a f.sort) (under r p.size) p.entries fs f.size ∙ sized_own a f.sort (parts_value p r fs)

-- what a tree's parts say that has to be what is asked for
pub fitted_value : (a : Asked) (k : Kind) (p : Parts) (r : ℕ) (fs : List Facts) → value_of r fs (fitted a k p) ≡ sized a (both facts_from (kind_value k fs) (parts_value p r fs))
fitted_value a (kind.Own s) p r fs = under_test (met a s) p r fs ∙ sized_own a s (parts_value p r fs)
fitted_value a (kind.Argument i) p r fs = ap (together (Some (under r p.size))) (entries_append p.entries (demand a i ∷ []) fs) ∙ fitted_argument a i p r fs (slice_get fs i)

-- ---- shares

together_times : (c : ℕ) (o : Option ℕ) (a b : Option Size) → option_map (times c o) (together a b) ≡ together (option_map (times c o) a) (option_map (times c o) b)
together_times c o None b = refl
together_times c o (Some a) None = refl
together_times c o (Some a) (Some b) = ap Some (times_plus c o a b)

raised_none : (o : Option ℕ) → raised o None ≡ None
raised_none None = refl
raised_none (Some n) = refl

nothing_times : (c : ℕ) (o : Option ℕ) → nothing ≡ times c o nothing
nothing_times c o = size_by _ _ _ _ (sym (ap counted (mul-zero c))) (sym (raised_none o))

scaled_share : (b : Bool) (m n : ℕ) (o p : Option ℕ) (z : Size) → cond b (Some (times (counted (m * n)) (raised o p) z)) None ≡ option_map (times m o) (cond b (Some (times n p z)) None)
scaled_share true m n o p z = ap Some (times-twice m n o p z)
scaled_share false m n o p z = refl

scaled_there : (c : ℕ) (o : Option ℕ) (e : Entry) (f : Option Facts) → option_and_then (share_value (scaled_entry c o e).share) f ≡ option_map (times c o) (option_and_then (share_value e.share) f)
scaled_there c o e None = refl
scaled_there c o e (Some f) = scaled_share (met e.share.asked f.sort) c e.share.count o e.share.offset f.size

scaled_entries : (c : ℕ) (o : Option ℕ) (es : List Entry) (fs : List Facts) → entries_value (map (scaled_entry c o) es) fs ≡ option_map (times c o) (entries_value es fs)
scaled_entries c o [] fs = ap Some (nothing_times c o)
scaled_entries c o (e ∷ es) fs =
    ap (λ z. together z (entries_value (map (scaled_entry c o) es) fs)) (scaled_there c o e (slice_get fs e.parameter))
    ∙ (ap (together (option_map (times c o) (entry_value e fs))) (scaled_entries c o es fs) ∙ sym (together_times c o (entry_value e fs) (entries_value es fs)))

scaled_value : (c : ℕ) (o : Option ℕ) (p : Parts) (r : ℕ) (fs : List Facts) → parts_value (scaled c o p) r fs ≡ option_map (times c o) (parts_value p r fs)
scaled_value c o p r fs =
    ap (λ z. together (Some z) (entries_value (map (scaled_entry c o) p.entries) fs)) (under-times r c o p.size)
    ∙ (ap (together (Some (times c o (under r p.size)))) (scaled_entries c o p.entries fs) ∙ sym (together_times c o (Some (under r p.size)) (entries_value p.entries fs)))

shared_test : (b : Bool) (c : ℕ) (o : Option ℕ) (z : Size) → option_map (times c o) (cond b (Some z) None) ≡ cond b (Some (times c o z)) None
shared_test true c o z = refl
shared_test false c o z = refl

shared_facts : (h : Share) (v : Option Facts) → option_map (times h.count h.offset) (sized h.asked v) ≡ option_and_then (share_value h) v
shared_facts h None = refl
shared_facts h (Some f) = shared_test (met h.asked f.sort) h.count h.offset f.size

scaled_option : (c : ℕ) (o : Option ℕ) (q : Option Parts) (r : ℕ) (fs : List Facts) → value_of r fs (option_map (scaled c o) q) ≡ option_map (times c o) (value_of r fs q)
scaled_option c o None r fs = refl
scaled_option c o (Some p) r fs = scaled_value c o p r fs

-- what an argument adds
pub lifted_value : (h : Share) (u : Summary) (r : ℕ) (fs : List Facts) → value_of r fs (lifted h u) ≡ option_and_then (share_value h) (summary_value u r fs)
lifted_value h u r fs =
    scaled_option h.count h.offset (fitted h.asked u.kind u.parts) r fs
    ∙ (ap (option_map (times h.count h.offset)) (fitted_value h.asked u.kind u.parts r fs) ∙ shared_facts h (summary_value u r fs))

-- ---- all shares

no_more : (v : Option Facts) (w : Option (List Facts)) → None ≡ option_and_then (shares_value []) (both (λ x xs. x ∷ xs) v w)
no_more None w = refl
no_more (Some v) None = refl
no_more (Some v) (Some w) = refl

one_more : (h : Share) (hs : List Share) (v : Option Facts) (w : Option (List Facts))
    → together (option_and_then (share_value h) v) (option_and_then (shares_value hs) w) ≡ option_and_then (shares_value (h ∷ hs)) (both (λ x xs. x ∷ xs) v w)
one_more h hs None w = refl
one_more h hs (Some v) None = both_none plus (share_value h v)
one_more h hs (Some v) (Some w) = refl

parts_nothing : (o : Option Parts) (r : ℕ) (fs : List Facts) → value_of r fs o ≡ together (value_of r fs o) (Some nothing)
parts_nothing None r fs = refl
parts_nothing (Some p) r fs = sym (together_nothing (Some (under r p.size)) (entries_value p.entries fs))

-- what parts say with what all arguments add
pub lifted_all_value : (o : Option Parts) (hs : List Share) (us : List Summary) (r : ℕ) (fs : List Facts)
    → value_of r fs (lifted_all o hs us) ≡ together (value_of r fs o) (option_and_then (shares_value hs) (all_of (map (λ u. summary_value u r fs) us)))
lifted_all_value o [] [] r fs = parts_nothing o r fs
lifted_all_value o [] (u ∷ us) r fs = sym (ap (together (value_of r fs o)) (sym (no_more (summary_value u r fs) (all_of (map (λ u. summary_value u r fs) us)))) ∙ both_none plus (value_of r fs o))
lifted_all_value o (h ∷ hs) [] r fs = sym (both_none plus (value_of r fs o))
lifted_all_value o (h ∷ hs) (u ∷ us) r fs =
    lifted_all_value (both join o (lifted h u)) hs us r fs
    ∙ (ap (λ z. together z (option_and_then (shares_value hs) (all_of (map (λ u. summary_value u r fs) us)))) (joined_value o (lifted h u) r fs ∙ ap (together (value_of r fs o)) (lifted_value h u r fs))
    ∙ (together_assoc (value_of r fs o) (option_and_then (share_value h) (summary_value u r fs)) (option_and_then (shares_value hs) (all_of (map (λ u. summary_value u r fs) us)))
    ∙ ap (together (value_of r fs o)) (one_more h hs (summary_value u r fs) (all_of (map (λ u. summary_value u r fs) us)))))
