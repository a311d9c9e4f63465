-- What the functions that read by a type answer.
use Rattle.std.proofs.Common.{◌≡◌, ◌≢◌, ◌≤◌, ◌<◌, ◌+◌, ◌-◌, ◌*◌, ℕ, zero, suc, Bool, true, false, List, [], ◌∷◌, ◌++◌, Option, Some, None, Result, Ok, Err, cond, length, drop, arith, refl, sym, ap, ◌∙◌, subst, length-drop, nat_lt}
use Rattle.std.specs.Prelude.{MatchOption, codes}
use Rattle.std.proofs.lemmas.List.{drop_all}
use Rattle.std.specs.declared.alloc.AllocError.{AllocError}
use Rattle.b_values.specs.declared.types.SetFace.{SetFace}
use Rattle.b_values.specs.declared.types.Ty.{Ty}
use Rattle.b_values.specs.declared.types.Ty.TheOpen.{Ty-F}
use Rattle.b_values.specs.declared.types.Ty.TheVariants as ty
use Rattle.b_values.specs.declared.values.Value.{Value}
use Rattle.b_values.specs.declared.reading.Link.{Link}
use Rattle.b_values.specs.Reading.{free}
use Rattle.b_values.specs.ReadingDescent.{Found, Chain, with_chain, chain_after, base, second, skip, after, front, Reader, items_or, set_or, read_set, sequence_or, read_layer, reader}
use Rattle.b_values.specs.ReadingAnswers.{IsPlace, Finds, FindsIn, Links, LinksIn, chain_of}
use Rattle.b_values.proofs.ReadingSound.{reader_sound}
use Rattle.b_values.proofs.ReadingComplete.{reader-Pair, item_of}
use Rattle.b_values.proofs.ReadingSize.{size, size-Pair, size-Set}

pub lone_links : (read : ℕ → List ℕ → Found Value) (limit opens at : ℕ) (text : List ℕ) (found : Option (Value × ℕ)) → Finds (read (limit - opens) (drop at text)) text at found
    → (r : Option Link) → MatchOption r (found ≡ None) (λ l. (found ≡ Some (l.value, l.end)) × (l.left ≡ opens) × (l.closed ≡ true)) → Links (base read limit opens (drop at text)) text opens at r
lone_links read limit opens at text None f None m = ap (λ o. chain_after o (λ v rest. Some (record { value = v; left = opens; closed = true; rest = rest }))) f
lone_links read limit opens at text None f (Some l) m = absurd (let e = m.0 in cc)
lone_links read limit opens at text (Some p) f None m = absurd (cc)
lone_links read limit opens at text (Some p) f (Some l) m =
    let e = m.0 in
    let both : p ≡ (l.value, l.end) = cc in
    let same : p.1 ≡ l.end = ap (λ (q : Value × ℕ). q.1) both in
    let from = f.1.0 in
    let to = f.1.1 in
    let left = m.1 in (
      ap (λ o. chain_after o (λ v rest. Some (record { value = v; left = opens; closed = true; rest = rest }))) f.0
          ∙ ap (λ (q : Value × ℕ). Some (record { value = q.0; left = opens; closed = true; rest = drop q.1 text })) both
          ∙ ap (λ n. Some (record { value = l.value; left = n; closed = true; rest = drop l.end text })) (sym m.1)
          ∙ ap (λ b. Some (record { value = l.value; left = l.left; closed = b; rest = drop l.end text })) (sym m.2),
      omega arith,
      (omega arith, omega arith),
    )

module _ (sets : List SetFace) (limit opens at : ℕ) (text : List ℕ) where
  -- the reader of a type that is known
  pub at_type : (t u : Ty) (s : Reader) (r : Option Link) → t ≡ u → reader sets u ≡ s → Links (s.chain limit opens (drop at text)) text opens at r → Links ((reader sets t).chain limit opens (drop at text)) text opens at r
  at_type t u s r e f h = subst (λ (z : Reader). Links (z.chain limit opens (drop at text)) text opens at r) (sym (ap (reader sets) e ∙ f)) h

  module _ (t a b a' : Ty) (is : t ≡ ty.Pair a b) (first : a' ≡ a) where
    pub couple_at : (o : Option Chain) → (reader sets a').chain limit opens (drop at text) ≡ o → (reader sets t).chain limit opens (drop at text) ≡ with_chain o (second (reader sets b).chain limit)
    couple_at o e =
        ap (λ t. (reader sets t).chain limit opens (drop at text)) is
        ∙ ap (λ (z : Reader). z.chain limit opens (drop at text)) (reader-Pair sets a b)
        ∙ ap (λ a. with_chain ((reader sets a).chain limit opens (drop at text)) (second (reader sets b).chain limit)) (sym first)
        ∙ ap (λ o. with_chain o (second (reader sets b).chain limit)) e

    pub couple_none : (reader sets a').chain limit opens (drop at text) ≡ None → (reader sets t).chain limit opens (drop at text) ≡ None
    couple_none e = couple_at None e

    pub couple_links : (b' : Ty) → b' ≡ b → (l : Link) → Links ((reader sets a').chain limit opens (drop at text)) text opens at (Some l) → (r : Result (Option Link) AllocError)
        → LinksIn (second (reader sets b').chain limit (chain_of text l)) text l.left l.end r → LinksIn ((reader sets t).chain limit opens (drop at text)) text opens at r
    couple_links b' f l h (Ok None) k = couple_at (Some (chain_of text l)) h.0 ∙ ap (λ b. second (reader sets b).chain limit (chain_of text l)) (sym f) ∙ k
    couple_links b' f l h (Ok (Some m)) k =
        let x = h.1 in
        let y = h.2.0 in
        let u = k.1 in
        let v = k.2.0 in
        (couple_at (Some (chain_of text l)) h.0 ∙ ap (λ b. second (reader sets b).chain limit (chain_of text l)) (sym f) ∙ k.0, omega arith, (omega arith, k.2.1))
    couple_links b' f l h (Err e) k = tt

-- ---- sequences

module _ (sets : List SetFace) (t : Ty) (depth : ℕ) (bs : List ℕ) (unset : after (codes "{") bs ≡ None) where
  pub part_reads : (b : Ty) → t ≡ ty.Pair ty.Int b → read_set (reader sets t) depth bs ≡ sequence_or (front free (reader sets b).chain) depth bs (after (codes "[") bs)
  part_reads b e =
      ap (set_or (reader sets t) depth bs) unset
      ∙ ap (λ t. items_or (reader sets t).item depth bs) e
      ∙ ap (λ o. items_or o depth bs) (item_of sets b)

  pub no_parts : ((b : Ty) → t ≡ ty.Pair ty.Int b → ⊥) → read_set (reader sets t) depth bs ≡ None
  no_parts n = ap (set_or (reader sets t) depth bs) unset ∙ go (reader sets t).item refl
    where
      go : (o : Option (ℕ → List ℕ → Found Value)) → (reader sets t).item ≡ o → items_or o depth bs ≡ None
      go None e = refl
      go (Some read) e = let s = (reader_sound sets t).item read e in absurd (n s.0 s.1)

pub in_place : (found other : Found Value) (text : List ℕ) (at : ℕ) (r : Result (Option (Value × ℕ)) AllocError) → found ≡ other → FindsIn other text at r → FindsIn found text at r
in_place found other text at r e h = subst (λ o. FindsIn o text at r) (sym e) h

-- what the whole text gave
pub answer_at : (t : Ty) (text : List ℕ) (sets sets' : List SetFace) → sets ≡ sets' → (r s : Result (Option (Value × ℕ)) AllocError) → r ≡ s → FindsIn (front free (reader sets t).chain 100 text) text 0 r → FindsIn (front free (reader sets' t).chain 100 text) text 0 s
answer_at t text sets sets' e r s f h = subst (λ s. FindsIn (front free (reader sets' t).chain 100 text) text 0 s) f (subst (λ sets. FindsIn (front free (reader sets t).chain 100 text) text 0 r) e h)

-- ---- sizes

pub pair_size : (t a b : Ty) → t ≡ ty.Pair a b → size t ≡ 1 + size a + size b
pair_size t a b e = ap size e ∙ size-Pair a b

pub set_size : (t a : Ty) → t ≡ ty.Set a → size t ≡ 1 + size a
set_size t a e = ap size e ∙ size-Set a

-- ---- the end of a text

pub none_left : (text : List ℕ) (end r : ℕ) → drop r text ≡ skip (drop end text) → length text ≤ r → skip (drop end text) ≡ []
none_left text end r e h = sym e ∙ drop_all r text h

pub some_left : (text : List ℕ) (end r : ℕ) → drop r text ≡ skip (drop end text) → r < length text → skip (drop end text) ≡ [] → ⊥
some_left text end r e h k = let l = ap length (e ∙ k) in omega (arith, length-drop r text)
