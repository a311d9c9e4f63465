-- The texts of values are what descent reads whole, and a text is one of at most one value.
use Rattle.std.proofs.Common.{◌≡◌, ◌≤◌, ℕ, List, [], ◌++◌, Some, None, refl, sym, ap, ◌∙◌, subst, append-nil}
use Rattle.b_values.specs.declared.types.SetFace.{SetFace}
use Rattle.b_values.specs.declared.types.Ty.{Ty}
use Rattle.b_values.specs.declared.values.Value.{Value}
use Rattle.b_values.specs.Types.{HasType}
use Rattle.b_values.specs.Values.{node_count, IsValue, IsKept}
use Rattle.b_values.specs.Reading.{blanks, free, IsTextOf}
use Rattle.b_values.specs.ReadingDescent.{Found, skip, front, reader}
use Rattle.b_values.proofs.ReadingBytes.{skip_sound, skip_blanks, pair_is}
use Rattle.b_values.proofs.ReadingSound.{front_sound, reader_sound}
use Rattle.b_values.proofs.ReadingComplete.{ends_blanks, front_complete, piece_complete}
use Rattle.b_values.proofs.ReadingTyped.{piece_typed}

module _ (sets : List SetFace) (t : Ty) where
  pub parsed : (bs : List ℕ) (v : Value) (rest : List ℕ) → front free (reader sets t).chain 100 bs ≡ Some (v, rest) → skip rest ≡ [] → node_count v ≤ 1000000 → IsTextOf sets t bs v
  parsed bs v rest e f h =
      let s = front_sound sets t (reader sets t).chain (reader_sound sets t).chain free 100 bs v rest e in
      let b = skip_sound rest in
      record {
        front = s.0;
        end = b.0;
        whole = s.1 ∙ ap (λ l. s.0 ++ l) (b.1 ∙ ap (λ l. blanks b.0 ++ l) f ∙ append-nil (blanks b.0));
        piece = s.2;
        small = h;
      }

  pub stands : (bs : List ℕ) (v : Value) → (h : IsTextOf sets t bs v) → front free (reader sets t).chain 100 bs ≡ Some (v, blanks h.end)
  stands bs v h =
      ap (front free (reader sets t).chain 100) h.whole
      ∙ front_complete (reader sets t).chain free 100 h.front v (piece_complete sets h.piece) (blanks h.end) (ends_blanks h.end)

  -- a text stands for at most one value of a type
  pub one_value : (bs : List ℕ) (v w : Value) → IsTextOf sets t bs v → IsTextOf sets t bs w → v ≡ w
  one_value bs v w h k = (pair_is v w (blanks h.end) (blanks k.end) (sym (stands bs v h) ∙ stands bs w k)).0

  pub unread : (bs : List ℕ) → front free (reader sets t).chain 100 bs ≡ None → (v : Value) → IsTextOf sets t bs v → ⊥
  unread bs e v h = let k = stands bs v h in cc

  nothing_left : (n : ℕ) → skip (blanks n) ≡ []
  nothing_left n = ap skip (sym (append-nil (blanks n))) ∙ skip_blanks n []

  pub not_whole : (bs : List ℕ) (u : Value) (rest : List ℕ) → front free (reader sets t).chain 100 bs ≡ Some (u, rest) → (skip rest ≡ [] → ⊥) → (v : Value) → IsTextOf sets t bs v → ⊥
  not_whole bs u rest e n v h = n (ap skip (pair_is u v rest (blanks h.end) (sym e ∙ stands bs v h)).1 ∙ nothing_left h.end)

  pub too_large : (bs : List ℕ) (u : Value) (rest : List ℕ) → front free (reader sets t).chain 100 bs ≡ Some (u, rest) → (node_count u ≤ 1000000 → ⊥) → (v : Value) → IsTextOf sets t bs v → ⊥
  too_large bs u rest e n v h = n (subst (λ w. node_count w ≤ 1000000) (sym (pair_is u v rest (blanks h.end) (sym e ∙ stands bs v h)).0) h.small)

  pub typed : (bs : List ℕ) (v : Value) → IsTextOf sets t bs v → HasType sets t v
  typed bs v h = (piece_typed sets h.piece).0

  pub kept : (bs : List ℕ) (v : Value) → IsTextOf sets t bs v → IsKept v
  kept bs v h = record { value = (piece_typed sets h.piece).1; size = h.small }
