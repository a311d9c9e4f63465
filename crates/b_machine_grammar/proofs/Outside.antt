-- A list is cut at its first separator outside brackets.
use Rattle.std.proofs.Common.{◌≡◌, ℕ, zero, suc, Bool, true, false, List, [], ◌∷◌, ◌++◌, Some, None, refl, sym, ap, subst, if◌then◌else◌}
use Rattle.b_machine_grammar.specs.declared.words.Separator.{Separator}
use Rattle.b_machine_grammar.specs.Words.{separates}
use Rattle.b_machine_grammar.specs.Cuts.{Piece, Next, Cut, cut, cut_from, depth_behind, ends_part, and_before}
use Rattle.b_machine_grammar.specs.Laws.{depth_of, what_follows, IsStop, CutsOutsideBrackets}

module _ (at : Separator) where
  abbrev choose : Bool → ℕ → Piece → List Piece → Cut
  choose b depth s ts = if b then ([], Some (s, ts)) else and_before s (cut_from at (depth_behind s.0 depth) ts)

  joined : (ts : List Piece) (depth : ℕ) → ts ≡ (cut_from at depth ts).0 ++ what_follows (cut_from at depth ts).1
  joined [] depth = refl
  joined (s ∷ ts) depth = go (ends_part at depth s.0) (joined ts (depth_behind s.0 depth))
    where
      go : (b : Bool) → ts ≡ (cut_from at (depth_behind s.0 depth) ts).0 ++ what_follows (cut_from at (depth_behind s.0 depth) ts).1 → s ∷ ts ≡ (choose b depth s ts).0 ++ what_follows (choose b depth s ts).1
      go true more = refl
      go false more = ap (λ l. s ∷ l) more

  outside : (depth : ℕ) (s : Piece) → ends_part at depth s.0 ≡ true → (separates at s.0 ≡ true) × (depth ≡ zero)
  outside zero s e = (e, refl)
  outside (suc depth) s e = absurd (cc)

  -- the separator that follows stands outside brackets
  abbrev IsStopFrom : ℕ → List Piece → Next → Type 0
  IsStopFrom depth front None = Unit {0}
  IsStopFrom depth front (Some p) = (separates at p.0.0 ≡ true) × (depth_of depth front ≡ zero)

  one_before : (depth : ℕ) (s : Piece) (front : List Piece) (q : Next) → IsStopFrom (depth_behind s.0 depth) front q → IsStopFrom depth (s ∷ front) q
  one_before depth s front None k = tt
  one_before depth s front (Some p) k = k

  stops : (ts : List Piece) (depth : ℕ) → IsStopFrom depth (cut_from at depth ts).0 (cut_from at depth ts).1
  stops [] depth = tt
  stops (s ∷ ts) depth = go (ends_part at depth s.0) refl (stops ts (depth_behind s.0 depth))
    where
      go : (b : Bool) → ends_part at depth s.0 ≡ b → IsStopFrom (depth_behind s.0 depth) (cut_from at (depth_behind s.0 depth) ts).0 (cut_from at (depth_behind s.0 depth) ts).1 → IsStopFrom depth (choose b depth s ts).0 (choose b depth s ts).1
      go true e more = outside depth s e
      go false e more = one_before depth s (cut_from at (depth_behind s.0 depth) ts).0 (cut_from at (depth_behind s.0 depth) ts).1 more

  abbrev IsFree : ℕ → List Piece → Type 0
  IsFree depth front = (a : List Piece) (s : Piece) (b : List Piece) → front ≡ a ++ s ∷ b → depth_of depth a ≡ zero → separates at s.0 ≡ false

  nothing_free : (depth : ℕ) → IsFree depth []
  nothing_free depth [] s b e k = absurd (cc)
  nothing_free depth (x ∷ a) s b e k = absurd (cc)

  here : (depth : ℕ) (s : Piece) → ends_part at depth s.0 ≡ false → depth ≡ zero → separates at s.0 ≡ false
  here zero s e k = e
  here (suc depth) s e k = absurd (cc)

  more_free : (depth : ℕ) (t : Piece) (front : List Piece) → ends_part at depth t.0 ≡ false → IsFree (depth_behind t.0 depth) front → IsFree depth (t ∷ front)
  more_free depth t front f free [] s b e k = let same : t ≡ s = cc in subst (λ (z : Piece). separates at z.0 ≡ false) same (here depth t f k)
  more_free depth t front f free (x ∷ a) s b e k =
      let same : t ≡ x = cc in
      let rest : front ≡ a ++ s ∷ b = cc in
      free a s b rest (subst (λ (z : Piece). depth_of (depth_behind z.0 depth) a ≡ zero) (sym same) k)

  free : (ts : List Piece) (depth : ℕ) → IsFree depth (cut_from at depth ts).0
  free [] depth = nothing_free depth
  free (s ∷ ts) depth = go (ends_part at depth s.0) refl (free ts (depth_behind s.0 depth))
    where
      go : (b : Bool) → ends_part at depth s.0 ≡ b → IsFree (depth_behind s.0 depth) (cut_from at (depth_behind s.0 depth) ts).0 → IsFree depth (choose b depth s ts).0
      go true e more = nothing_free depth
      go false e more = more_free depth s (cut_from at (depth_behind s.0 depth) ts).0 e more

  at_start : (front : List Piece) (q : Next) → IsStopFrom zero front q → IsStop at front q
  at_start front None k = tt
  at_start front (Some p) k = k

pub cut_outside : CutsOutsideBrackets
cut_outside at ts = (joined at ts zero, at_start at (cut at ts).0 (cut at ts).1 (stops at ts zero), free at ts zero)
