-- Laws between operators on sets, relations and sequences.
use Rattle.std.proofs.Common.{◌≡◌, ◌⊎◌, ◌↔◌, ℕ, ◌+◌, ℤ, pos, Bool, true, false, IsTrue, List, [], ◌∷◌, ◌++◌, map, length, Option, Some, None, Result, Ok, Err, refl, sym, ap, ◌∙◌, subst, inl, inr, length-append}
use Rattle.std.specs.Prelude.{reverse, not, filter, option_and_then}
use Rattle.std.specs.Option.{option_map}
use Rattle.std.proofs.lemmas.List.{reverse-reverse}
use Rattle.ascending.specs.Ascending.{In}
use Rattle.ascending.specs.Members.{in_append}
use Rattle.b_values.specs.Values.{IsKept, elements, limited}
use Rattle.b_values.specs.declared.values.FaultKind.{FaultKind}
use Rattle.b_values.specs.declared.values.Value.{Value, out-Value}
use Rattle.b_values.specs.declared.values.Value.TheOpen.{Value-F}
use Rattle.b_values.specs.declared.values.Value.TheVariants.{Int, Pair, outs-Int}
use Rattle.set_making.specs.Making.{set_with, is_among}
use Rattle.set_making.specs.MakingLaws.{set_with_members, set_with_same, limited_same, is_among_finds}
use Rattle.set_making.specs.ListMembers.{in_filter, in_map}
use Rattle.b_sets.specs.Rows.{union_row, intersect_row, difference_row}
use Rattle.b_relations.specs.Relations.{converse_row, converse_members, dom_row, dom_members, ran_row, ran_members, couples, couple}
use Rattle.b_relations.specs.CoupleLaws.{in_couples, same_parts}
use Rattle.b_sequences.specs.Sequences.{as_sequence, sequence_of}
use Rattle.b_sequences.specs.SequenceLaws.{as_sequence_sound}
use Rattle.b_sequences.specs.Rows.{sequence_answer, value_answer, size_row, rev_row, concat_row}
use Rattle.b_sequences.specs.RowsKept.{rev_kept}
use Rattle.b_sequences.specs.RowsByLists.{size_by_list, rev_by_list}

-- ---- sets

-- not among is no member
not_among : (xs : List Value) (z : Value) → IsTrue (not (is_among xs z)) ↔ (In z xs → ⊥)
not_among xs z = go (is_among xs z) (is_among_finds xs z)
  where
    go : (b : Bool) → IsTrue b ↔ In z xs → IsTrue (not b) ↔ (In z xs → ⊥)
    go true h = (λ t. absurd (cc), λ k. absurd (k (h.0 refl)))
    go false h = (λ t m. absurd (let f = h.1 m in cc), λ k. refl)

in_difference : (s t a : Value) → difference_row s t ≡ Ok a → (z : Value) → In z (elements a) ↔ (In z (elements s) × (In z (elements t) → ⊥))
in_difference s t a e z = (
  λ h. let p = (in_filter (λ x. not (is_among (elements t) x)) z (elements s)).0 ((set_with_members (filter (λ x. not (is_among (elements t) x)) (elements s)) a e z).0 h) in (p.0, (not_among (elements t) z).0 p.1),
  λ p. (set_with_members (filter (λ x. not (is_among (elements t) x)) (elements s)) a e z).1 ((in_filter (λ x. not (is_among (elements t) x)) z (elements s)).1 (p.0, (not_among (elements t) z).1 p.1)),
)

-- S - (T \/ U) is (S - T) /\ (S - U)
pub difference_of_union : (s t u v a b : Value) → union_row t u ≡ Ok v → difference_row s t ≡ Ok a → difference_row s u ≡ Ok b → difference_row s v ≡ intersect_row a b
difference_of_union s t u v a b e f g = set_with_same (filter (λ x. not (is_among (elements v) x)) (elements s)) (filter (λ x. is_among (elements b) x) (elements a)) (λ z. (
  λ h.
      let p = (in_filter (λ x. not (is_among (elements v) x)) z (elements s)).0 h in
      let out = (not_among (elements v) z).0 p.1 in
      let no_t : In z (elements t) → ⊥ = λ m. out ((set_with_members (elements t ++ elements u) v e z).1 ((in_append z (elements t) (elements u)).1 (inl m))) in
      let no_u : In z (elements u) → ⊥ = λ m. out ((set_with_members (elements t ++ elements u) v e z).1 ((in_append z (elements t) (elements u)).1 (inr m))) in
      (in_filter (λ x. is_among (elements b) x) z (elements a)).1 ((in_difference s t a f z).1 (p.0, no_t), (is_among_finds (elements b) z).1 ((in_difference s u b g z).1 (p.0, no_u))),
  λ h.
      let p = (in_filter (λ x. is_among (elements b) x) z (elements a)).0 h in
      let in_a = (in_difference s t a f z).0 p.0 in
      let in_b = (in_difference s u b g z).0 ((is_among_finds (elements b) z).0 p.1) in
      let no_v : In z (elements v) → ⊥ = λ m. elim ((in_append z (elements t) (elements u)).0 ((set_with_members (elements t ++ elements u) v e z).0 m)) [ inl k ↦ in_a.1 k | inr k ↦ in_b.1 k ] in
      (in_filter (λ x. not (is_among (elements v) x)) z (elements s)).1 (in_a.0, (not_among (elements v) z).1 no_v),
))

-- ---- relations

-- the domain of the converse is the range
pub domain_of_converse : (r c : Value) → converse_row r ≡ Ok c → dom_row c ≡ ran_row r
domain_of_converse r c e = set_with_same (dom_members c) (ran_members r) (λ z. (
  λ h.
      let p = (in_map (λ (q : Value × Value). q.0) z (couples c)).0 h in
      let m = (set_with_members (converse_members r) c e (couple p.0)).0 ((in_couples (elements c) p.0).0 p.1) in
      let q = (in_map (λ (w : Value × Value). Pair w.1 w.0) (couple p.0) (couples r)).0 m in
      let same = same_parts p.0 (q.0.1, q.0.0) q.2 in
      (in_map (λ (w : Value × Value). w.1) z (couples r)).1 (q.0, q.1, p.2 ∙ ap (λ (w : Value × Value). w.0) same),
  λ h.
      let q = (in_map (λ (w : Value × Value). w.1) z (couples r)).0 h in
      let m = (in_map (λ (w : Value × Value). Pair w.1 w.0) (Pair q.0.1 q.0.0) (couples r)).1 (q.0, q.1, refl) in
      let k = (in_couples (elements c) (q.0.1, q.0.0)).1 ((set_with_members (converse_members r) c e (Pair q.0.1 q.0.0)).1 m) in
      (in_map (λ (w : Value × Value). w.0) z (couples c)).1 ((q.0.1, q.0.0), k, q.2),
))

-- ---- sequences

-- the reverse of the reverse is the sequence
pub reverse_of_reverse : (s v : Value) → IsKept s → rev_row s ≡ Ok v → rev_row v ≡ Ok s
reverse_of_reverse s v h e = go (as_sequence s) refl e
  where
    go : (o : Option (List Value)) → as_sequence s ≡ o → sequence_answer (option_map reverse o) ≡ Ok v → rev_row v ≡ Ok s
    go None g k = absurd (cc)
    go (Some xs) g k =
        let is : v ≡ sequence_of (reverse xs) = sym (limited_same (sequence_of (reverse xs)) v k) in
        rev_by_list v (reverse xs) (rev_kept s v h e) is ∙ ap (λ ys. Ok (sequence_of ys)) (reverse-reverse xs) ∙ ap Ok (sym (as_sequence_sound s xs g))

-- equal integers are one number
same_number : (m n : ℕ) → ◌≡◌ {A = Result Value FaultKind} (Ok (Int (pos m))) (Ok (Int (pos n))) → m ≡ n
same_number m n e =
    let f : Int (pos m) ≡ Int (pos n) = cc in
    let g : ◌≡◌ {A = Value-F Value} (Value-F.Int (pos m)) (Value-F.Int (pos n)) = sym (outs-Int (pos m)) ∙ ap out-Value f ∙ outs-Int (pos n) in
    cc

-- the size of s ^ t is that of both together
pub size_of_join : (s t v : Value) (m n : ℕ) → concat_row s t ≡ Ok v → size_row s ≡ Ok (Int (pos m)) → size_row t ≡ Ok (Int (pos n)) → size_row v ≡ Ok (Int (pos (m + n)))
size_of_join s t v m n e f g = go (as_sequence s) (as_sequence t) e f g
  where
    go : (o p : Option (List Value)) → sequence_answer (option_and_then (λ xs. option_map (λ ys. xs ++ ys) p) o) ≡ Ok v
        → value_answer (option_map (λ xs. Int (pos (length xs))) o) ≡ Ok (Int (pos m)) → value_answer (option_map (λ xs. Int (pos (length xs))) p) ≡ Ok (Int (pos n)) → size_row v ≡ Ok (Int (pos (m + n)))
    go None p e f g = absurd (cc)
    go (Some xs) None e f g = absurd (cc)
    go (Some xs) (Some ys) e f g =
        let left = same_number (length xs) m f in
        let right = same_number (length ys) n g in
        size_by_list v (xs ++ ys) (sym (limited_same (sequence_of (xs ++ ys)) v e))
        ∙ ap (λ k. Ok (Int (pos k))) (length-append xs ys ∙ ap (λ k. k + length ys) left ∙ ap (λ k. m + k) right)
