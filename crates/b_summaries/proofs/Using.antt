-- What a use of a definition says, and what a definition says of its body.
use Rattle.std.proofs.Common.{◌≡◌, ℕ, zero, suc, Bool, true, false, cond, List, [], ◌∷◌, map, length, Option, Some, None, refl, sym, ap, subst, ◌∙◌, arith}
use Rattle.std.specs.Prelude.{option_map, option_and_then, slice_get, ◌==◌, ◌&&◌, ◌||◌}
use Rattle.std.proofs.Math.Nat.{zero-mul}
use Rattle.std.proofs.Math.Dec.{eqb-suc-zero, eqb-zero-suc, eqb-suc-suc}
use Rattle.b_ast.specs.declared.Sort.{Sort}
use Rattle.b_ast.specs.declared.Sort.TheVariants as sort
use Rattle.b_ast.specs.Sorts.{fits}
use Rattle.b_expand.specs.Places.{brackets}
use Rattle.b_expand.specs.Expansion.{both, all_of}
use Rattle.b_summaries.specs.declared.summary.Size.{Size}
use Rattle.b_summaries.specs.declared.summary.Facts.{Facts}
use Rattle.b_summaries.specs.declared.summary.Asked.{Asked}
use Rattle.b_summaries.specs.declared.summary.Share.{Share}
use Rattle.b_summaries.specs.declared.summary.Entry.{Entry}
use Rattle.b_summaries.specs.declared.summary.Kind.{Kind}
use Rattle.b_summaries.specs.declared.summary.Kind.TheVariants as kind
use Rattle.b_summaries.specs.declared.summary.Parts.{Parts}
use Rattle.b_summaries.specs.declared.summary.Summary.{Summary}
use Rattle.b_summaries.specs.declared.summary.Told.{Told}
use Rattle.b_summaries.specs.Sizes.{counted, raised, nothing, plus, times, under, together, met, sized, both_asked}
use Rattle.b_summaries.specs.Values.{share_value, entry_value, entries_value, shares_value, kind_value, parts_value, facts_from, summary_value, told_value}
use Rattle.b_summaries.specs.Making.{alone, fitted, lifted_all, kind_in, body_size, use_summary, substituted, no_share, no_shares, more_share, added_share, gathered, told_parts, told_of}
use Rattle.b_summaries.proofs.Sums.{size_by, plus-times, together_assoc, together_comm, nothing_together}
use Rattle.b_summaries.proofs.Adding.{both_none, value_of, entries_nothing, fitted_value, lifted_all_value}

-- ---- uses

-- the body of a use stands under its brackets
body_under : (r depth : ℕ) (z : Size) → under r (body_size depth z) ≡ under (brackets (brackets r depth) 1) z
body_under r depth z = size_by _ _ _ _ refl (go z.depth)
  where
    go : (d : Option ℕ) → raised (Some r) (raised (Some (brackets depth 1)) d) ≡ raised (Some (brackets (brackets r depth) 1)) d
    go None = refl
    go (Some d) = ap Some (omega arith)

nothing_shares : (hs : List Share) (fs : List Facts) → together (Some nothing) (shares_value hs fs) ≡ shares_value hs fs
nothing_shares [] [] = refl
nothing_shares [] (f ∷ fs) = refl
nothing_shares (h ∷ hs) [] = refl
nothing_shares (h ∷ hs) (f ∷ fs) = nothing_together (share_value h f) (shares_value hs fs)

-- the body's own size and what the arguments add
use_parts : (b : Size) (hs : List Share) (o : Option (List Facts)) → together (together (Some b) (Some nothing)) (option_and_then (shares_value hs) o) ≡ together (Some b) (option_and_then (shares_value hs) o)
use_parts b hs None = refl
use_parts b hs (Some fs) = together_assoc (Some b) (Some nothing) (shares_value hs fs) ∙ ap (together (Some b)) (nothing_shares hs fs)

-- what is found in two lists is a value and what it gives
abbrev Same : {X Y : Type 0} → (X → Option Y) → Option X → Option Y → Type 0
Same f None None = Unit {0}
Same f None (Some y) = ⊥
Same f (Some x) None = ⊥
Same f (Some x) (Some y) = f x ≡ Some y

same_first : {X Y : Type 0} (f : X → Option Y) (u : X) (us : List X) (gs : List Y) → ((ys : List Y) → all_of (map f us) ≡ Some ys → (p : ℕ) → Same f (slice_get us p) (slice_get ys p))
    → (o : Option Y) (w : Option (List Y)) → f u ≡ o → all_of (map f us) ≡ w → both (λ x xs. x ∷ xs) o w ≡ Some gs → (p : ℕ) → Same f (slice_get (u ∷ us) p) (slice_get gs p)
same_first f u us gs again None w i j k p = absurd (cc)
same_first f u us gs again (Some y) None i j k p = absurd (cc)
same_first f u us gs again (Some y) (Some ys) i j k zero = let e : y ∷ ys ≡ gs = cc in subst (λ gs. Same f (Some u) (slice_get gs zero)) e i
same_first f u us gs again (Some y) (Some ys) i j k (suc p) = let e : y ∷ ys ≡ gs = cc in subst (λ gs. Same f (slice_get us p) (slice_get gs (suc p))) e (again ys j p)

-- the facts at a place
at_place : {X Y : Type 0} (f : X → Option Y) (us : List X) (gs : List Y) → all_of (map f us) ≡ Some gs → (p : ℕ) → Same f (slice_get us p) (slice_get gs p)
at_place {X} {Y} f [] gs h p = let e : ◌≡◌ {A = List Y} [] gs = cc in subst (λ gs. Same f (slice_get [] p) (slice_get gs p)) e (none_there p)
  where
    none_there : (p : ℕ) → Same f (slice_get [] p) (slice_get [] p)
    none_there zero = tt
    none_there (suc p) = tt
at_place f (u ∷ us) gs h p = same_first f u us gs (at_place f us) (f u) (all_of (map f us)) refl refl h p

-- the sort of facts
sort_there : (k : Option Sort) (z : Option Size) (g : Facts) → both facts_from k z ≡ Some g → k ≡ Some g.sort
sort_there None z g h = absurd (cc)
sort_there (Some s) None g h = absurd (cc)
sort_there (Some s) (Some z) g h = let e : facts_from s z ≡ g = cc in ap (λ (f : Facts). Some f.sort) e

module _ (us : List Summary) (r : ℕ) (fs : List Facts) where
  -- what a summary says here
  abbrev value : Summary → Option Facts
  value u = summary_value u r fs

  -- what all arguments say
  abbrev values : Option (List Facts)
  values = all_of (map value us)

  -- the sort of a use
  kind_argument : (u : Option Summary) (g : Option Facts) → Same value u g → option_and_then (λ k. kind_value k fs) (option_map (λ u. u.kind) u) ≡ option_map (λ f. f.sort) g
  kind_argument None None e = refl
  kind_argument None (Some g) e = absurd e
  kind_argument (Some u) None e = absurd e
  kind_argument (Some u) (Some g) e = sort_there (kind_value u.kind fs) (parts_value u.parts r fs) g e

  kind_used : (k : Kind) (gs : List Facts) → values ≡ Some gs → option_and_then (λ k. kind_value k fs) (kind_in k us) ≡ kind_value k gs
  kind_used (kind.Own s) gs h = refl
  kind_used (kind.Argument p) gs h = kind_argument (slice_get us p) (slice_get gs p) (at_place value us gs h p)

  -- what a use says, by its sort and its parts
  use_value : (k : Option Kind) (p : Option Parts) → option_and_then value (both use_summary k p) ≡ both facts_from (option_and_then (λ k. kind_value k fs) k) (value_of r fs p)
  use_value None p = refl
  use_value (Some k) None = sym (both_none facts_from (kind_value k fs))
  use_value (Some k) (Some p) = refl

  -- what a use says is what its definition says of what its arguments say
  pub substituted_value : (t : Told) (depth : ℕ) → option_and_then value (substituted t depth us) ≡ option_and_then (λ gs. told_value t (brackets (brackets r depth) 1) gs) values
  substituted_value t depth =
      use_value (kind_in t.kind us) (lifted_all (Some (alone (body_size depth t.size))) t.shares us)
      ∙ (ap (both facts_from (option_and_then (λ k. kind_value k fs) (kind_in t.kind us))) parts
      ∙ go values refl)
    where
      parts : value_of r fs (lifted_all (Some (alone (body_size depth t.size))) t.shares us) ≡ together (Some (under (brackets (brackets r depth) 1) t.size)) (option_and_then (shares_value t.shares) values)
      parts =
          lifted_all_value (Some (alone (body_size depth t.size))) t.shares us r fs
          ∙ (use_parts (under r (body_size depth t.size)) t.shares values
          ∙ ap (λ z. together (Some z) (option_and_then (shares_value t.shares) values)) (body_under r depth t.size))

      go : (w : Option (List Facts)) → values ≡ w
          → both facts_from (option_and_then (λ k. kind_value k fs) (kind_in t.kind us)) (together (Some (under (brackets (brackets r depth) 1) t.size)) (option_and_then (shares_value t.shares) w))
          ≡ option_and_then (λ gs. told_value t (brackets (brackets r depth) 1) gs) w
      go None e = both_none facts_from (option_and_then (λ k. kind_value k fs) (kind_in t.kind us))
      go (Some gs) e = ap (λ k. both facts_from k (together (Some (under (brackets (brackets r depth) 1) t.size)) (shares_value t.shares gs))) (kind_used t.kind gs e)

-- ---- definitions

-- two demands
test_both : (a b x : Bool) → cond (a || b) x true ≡ (cond a x true && cond b x true)
test_both true true true = refl
test_both true true false = refl
test_both true false true = refl
test_both true false false = refl
test_both false true true = refl
test_both false true false = refl
test_both false false x = refl

and_exchange : (a b c d e f : Bool) → ((a && b) && ((c && d) && (e && f))) ≡ ((a && (c && e)) && (b && (d && f)))
and_exchange false b c d e f = refl
and_exchange true false c d e f = sym (and_false (c && e))
  where
    and_false : (x : Bool) → (x && false) ≡ false
    and_false true = refl
    and_false false = refl
and_exchange true true false d e f = refl
and_exchange true true true false e f = sym (and_false e)
  where
    and_false : (x : Bool) → (x && false) ≡ false
    and_false true = refl
    and_false false = refl
and_exchange true true true true e f = refl

met_both : (a b : Asked) (s : Sort) → met (both_asked a b) s ≡ (met a s && met b s)
met_both a b s =
    ap (λ x. x && (cond (a.predicate || b.predicate) (fits sort.Predicate (Some s)) true && cond (a.implication || b.implication) (fits sort.Implication (Some s)) true)) (test_both a.expression b.expression (fits sort.Expression (Some s)))
    ∙ (ap (λ x. (cond a.expression (fits sort.Expression (Some s)) true && cond b.expression (fits sort.Expression (Some s)) true) && (x && cond (a.implication || b.implication) (fits sort.Implication (Some s)) true)) (test_both a.predicate b.predicate (fits sort.Predicate (Some s)))
    ∙ (ap (λ x. (cond a.expression (fits sort.Expression (Some s)) true && cond b.expression (fits sort.Expression (Some s)) true) && ((cond a.predicate (fits sort.Predicate (Some s)) true && cond b.predicate (fits sort.Predicate (Some s)) true) && x)) (test_both a.implication b.implication (fits sort.Implication (Some s)))
    ∙ and_exchange (cond a.expression (fits sort.Expression (Some s)) true) (cond b.expression (fits sort.Expression (Some s)) true) (cond a.predicate (fits sort.Predicate (Some s)) true) (cond b.predicate (fits sort.Predicate (Some s)) true) (cond a.implication (fits sort.Implication (Some s)) true) (cond b.implication (fits sort.Implication (Some s)) true)))

more_test : (a b : Bool) (x y : Size) → cond (a && b) (Some (plus x y)) None ≡ together (cond a (Some x) None) (cond b (Some y) None)
more_test true true x y = refl
more_test true false x y = refl
more_test false b x y = refl

-- two shares of one argument
more_value : (h g : Share) (f : Facts) → share_value (more_share h g) f ≡ together (share_value h f) (share_value g f)
more_value h g f =
    ap (λ b. cond b (Some (times (more_share h g).count (more_share h g).offset f.size)) None) (met_both h.asked g.asked f.sort)
    ∙ (ap (λ z. cond (met h.asked f.sort && met g.asked f.sort) (Some z) None) (plus-times h.count g.count h.offset g.offset f.size)
    ∙ more_test (met h.asked f.sort) (met g.asked f.sort) (times h.count h.offset f.size) (times g.count g.offset f.size))

-- what a share says of an argument that may be missing
abbrev there : Share → Option Facts → Option Size
there g o = option_and_then (share_value g) o

-- what shares say, if there are any
abbrev all_there : List Facts → Option (List Share) → Option Size
all_there fs o = option_and_then (λ hs. shares_value hs fs) o

first_kept : (h : Share) (f : Facts) (fs : List Facts) (o : Option (List Share)) → all_there (f ∷ fs) (option_map (λ hs. h ∷ hs) o) ≡ together (share_value h f) (all_there fs o)
first_kept h f fs None = sym (both_none plus (share_value h f))
first_kept h f fs (Some hs) = refl

none_kept : (h : Share) (o : Option (List Share)) → all_there [] (option_map (λ hs. h ∷ hs) o) ≡ None
none_kept h None = refl
none_kept h (Some hs) = refl

swapped : (a b c : Option Size) → together a (together b c) ≡ together b (together a c)
swapped a b c = sym (together_assoc a b c) ∙ (ap (λ o. together o c) (together_comm a b) ∙ together_assoc b a c)

added_value : (hs : List Share) (p : ℕ) (g : Share) (fs : List Facts) → all_there fs (added_share hs p g) ≡ together (there g (slice_get fs p)) (shares_value hs fs)
added_value [] zero g [] = refl
added_value [] (suc p) g [] = refl
added_value [] zero g (f ∷ fs) = sym (both_none plus (share_value g f))
added_value [] (suc p) g (f ∷ fs) = sym (both_none plus (there g (slice_get fs p)))
added_value (h ∷ hs) zero g [] = refl
added_value (h ∷ hs) (suc p) g [] = none_kept h (added_share hs p g)
added_value (h ∷ hs) zero g (f ∷ fs) =
    ap (λ z. together z (shares_value hs fs)) (more_value h g f ∙ together_comm (share_value h f) (share_value g f)) ∙ together_assoc (share_value g f) (share_value h f) (shares_value hs fs)
added_value (h ∷ hs) (suc p) g (f ∷ fs) =
    first_kept h f fs (added_share hs p g) ∙ (ap (together (share_value h f)) (added_value hs p g fs) ∙ swapped (share_value h f) (there g (slice_get fs p)) (shares_value hs fs))

gathered_next : (e : Entry) (es : List Entry) (fs : List Facts) (v : Option Size) → ((hs : List Share) → all_there fs (gathered hs es) ≡ together (entries_value es fs) (shares_value hs fs))
    → (o : Option (List Share)) → all_there fs o ≡ together (entry_value e fs) v → all_there fs (option_and_then (λ hs. gathered hs es) o) ≡ together (together (entry_value e fs) (entries_value es fs)) v
gathered_next e es fs v again None h =
    sym (both_none plus (entries_value es fs)) ∙ (ap (together (entries_value es fs)) h ∙ (swapped (entries_value es fs) (entry_value e fs) v ∙ sym (together_assoc (entry_value e fs) (entries_value es fs) v)))
gathered_next e es fs v again (Some hs) h =
    again hs ∙ (ap (together (entries_value es fs)) h ∙ (swapped (entries_value es fs) (entry_value e fs) v ∙ sym (together_assoc (entry_value e fs) (entries_value es fs) v)))

gathered_value : (es : List Entry) (hs : List Share) (fs : List Facts) → all_there fs (gathered hs es) ≡ together (entries_value es fs) (shares_value hs fs)
gathered_value [] hs fs = sym (nothing_shares hs fs)
gathered_value (e ∷ es) hs fs = gathered_next e es fs (shares_value hs fs) (λ hs. gathered_value es hs fs) (added_share hs e.parameter e.share) (added_value hs e.parameter e.share fs)

-- shares of nothing
no_share_value : (f : Facts) → share_value no_share f ≡ Some nothing
no_share_value f = ap Some (size_by _ _ _ _ (ap counted (zero-mul f.size.nodes)) refl)

nothing_test : (b : Bool) → together (Some nothing) (cond b (Some nothing) None) ≡ cond b (Some nothing) None
nothing_test true = refl
nothing_test false = refl

more_of : (p : List ℕ) (ps : List (List ℕ)) (f : Facts) (fs : List Facts) → shares_value (no_shares ps) fs ≡ cond (length fs == length ps) (Some nothing) None → shares_value (no_shares (p ∷ ps)) (f ∷ fs) ≡ cond (length (f ∷ fs) == length (p ∷ ps)) (Some nothing) None
more_of p ps f fs h =
    ap (together (share_value no_share f)) h
    ∙ (ap (λ z. together z (cond (length fs == length ps) (Some nothing) None)) (no_share_value f)
    ∙ (nothing_test (length fs == length ps)
    ∙ ap (λ b. cond b (Some nothing) None) (sym (eqb-suc-suc (length fs) (length ps)))))

no_shares_value : (ps : List (List ℕ)) (fs : List Facts) → shares_value (no_shares ps) fs ≡ cond (length fs == length ps) (Some nothing) None
no_shares_value [] [] = refl
no_shares_value [] (f ∷ fs) = ap (λ b. cond b (Some nothing) None) (sym (eqb-suc-zero (length fs)))
no_shares_value (p ∷ ps) [] = ap (λ b. cond b (Some nothing) None) (sym (eqb-zero-suc (length ps)))
no_shares_value (p ∷ ps) (f ∷ fs) = more_of p ps f fs (no_shares_value ps fs)

-- facts that are what is asked for
abbrev pub asked_facts : Asked → Option Facts → Option Facts
asked_facts a o = option_and_then (λ f. cond (met a f.sort) (Some f) None) o

asked_test : (b : Bool) (s : Sort) (z : Size) → both facts_from (Some s) (cond b (Some z) None) ≡ cond b (Some (facts_from s z)) None
asked_test true s z = refl
asked_test false s z = refl

asked_parts : (a : Asked) (k : Option Sort) (z : Option Size) → both facts_from k (sized a (both facts_from k z)) ≡ asked_facts a (both facts_from k z)
asked_parts a None z = refl
asked_parts a (Some s) None = refl
asked_parts a (Some s) (Some z) = asked_test (met a s) s z

module _ (ps : List (List ℕ)) (k : Kind) (r : ℕ) (fs : List Facts) where
  -- what gathered parts say
  gathered_parts : (p : Parts) (o : Option (List Share))
      → option_and_then (λ t. told_value t r fs) (option_map (λ hs. record { kind = k; size = p.size; shares = hs }) o) ≡ both facts_from (kind_value k fs) (together (Some (under r p.size)) (all_there fs o))
  gathered_parts p None = sym (both_none facts_from (kind_value k fs))
  gathered_parts p (Some hs) = refl

  as_many : (p : Parts) (b : Bool) → both facts_from (kind_value k fs) (together (Some (under r p.size)) (together (entries_value p.entries fs) (cond b (Some nothing) None))) ≡ cond b (both facts_from (kind_value k fs) (parts_value p r fs)) None
  as_many p true = ap (λ z. both facts_from (kind_value k fs) (together (Some (under r p.size)) z)) (entries_nothing p.entries fs)
  as_many p false = ap (λ z. both facts_from (kind_value k fs) (together (Some (under r p.size)) z)) (both_none plus (entries_value p.entries fs)) ∙ both_none facts_from (kind_value k fs)

  told_parts_value : (p : Parts) → option_and_then (λ t. told_value t r fs) (told_parts ps k p) ≡ cond (length fs == length ps) (both facts_from (kind_value k fs) (parts_value p r fs)) None
  told_parts_value p =
      gathered_parts p (gathered (no_shares ps) p.entries)
      ∙ (ap (λ z. both facts_from (kind_value k fs) (together (Some (under r p.size)) z)) (gathered_value p.entries (no_shares ps) fs ∙ ap (together (entries_value p.entries fs)) (no_shares_value ps fs))
      ∙ as_many p (length fs == length ps))

  told_option : (o : Option Parts) → option_and_then (λ t. told_value t r fs) (option_and_then (told_parts ps k) o) ≡ cond (length fs == length ps) (both facts_from (kind_value k fs) (value_of r fs o)) None
  told_option None = go (length fs == length ps)
    where
      go : (b : Bool) → None ≡ cond b (both facts_from (kind_value k fs) None) None
      go true = sym (both_none facts_from (kind_value k fs))
      go false = refl
  told_option (Some p) = told_parts_value p

-- what a definition says of its body
pub told_of_value : (ps : List (List ℕ)) (a : Asked) (o : Option Summary) (r : ℕ) (fs : List Facts)
    → option_and_then (λ t. told_value t r fs) (told_of ps a o) ≡ cond (length fs == length ps) (asked_facts a (option_and_then (λ u. summary_value u r fs) o)) None
told_of_value ps a None r fs = go (length fs == length ps)
  where
    go : (b : Bool) → ◌≡◌ {A = Option Facts} None (cond b None None)
    go true = refl
    go false = refl
told_of_value ps a (Some u) r fs =
    told_option ps u.kind r fs (fitted a u.kind u.parts)
    ∙ ap (λ z. cond (length fs == length ps) z None) (ap (both facts_from (kind_value u.kind fs)) (fitted_value a u.kind u.parts r fs) ∙ asked_parts a (kind_value u.kind fs) (parts_value u.parts r fs))
