-- Lexemes with their words, and the scan for a separator.
use Rattle.std.proofs.Common.{◌≡◌, ◌≤◌, ◌<◌, ◌+◌, ◌-◌, ℕ, zero, suc, Bool, true, false, List, [], ◌∷◌, ◌++◌, Option, Some, None, Result, Ok, Err, length, map, take, arith, refl, sym, ap, ◌∙◌, subst, append_assoc, append-nil, length-append, if◌then◌else◌}
use Rattle.b_grammar.specs.declared.Lexeme.{Lexeme}
use Rattle.b_machine_grammar.specs.declared.words.Word.{Word}
use Rattle.b_machine_grammar.specs.declared.words.Separator.{Separator}
use denote.Enum.Bare.{same_true}
use Rattle.b_machine_grammar.specs.contracts.words.Word as word_type
use Rattle.b_machine_grammar.specs.Words.{opens, closes}
use Rattle.b_machine_grammar.specs.Cuts.{Piece, Next, Cutting, cut_from, ends_part, and_before, depth_behind}
use Rattle.b_machine_grammar.specs.Cuts as cuts
use Rattle.b_stretches.specs.declared.Unread.{Unread}
use Rattle.b_stretches.specs.Stretches.{zipped, is_word, IsEndedAs, IsEnclosedAs}
use Rattle.b_stretches.specs.declared.Stretch.{Stretch}

pub front_pieces : (n : ℕ) (ws : List Word) (ls : List Lexeme) → zipped (take n ws) (take n ls) ≡ take n (zipped ws ls)
front_pieces zero ws ls = refl
front_pieces (suc n) [] ls = refl
front_pieces (suc n) (w ∷ ws) [] = refl
front_pieces (suc n) (w ∷ ws) (l ∷ ls) = ap (λ r. (w, l) ∷ r) (front_pieces n ws ls)

pub fits_words : (ws : List Word) (ls : List Lexeme) → length (zipped ws ls) ≤ length ws
fits_words [] ls = omega arith
fits_words (w ∷ ws) [] = omega arith
fits_words (w ∷ ws) (l ∷ ls) = let more : length (zipped ws ls) ≤ length ws = fits_words ws ls in omega arith

pub fits_lexemes : (ws : List Word) (ls : List Lexeme) → length (zipped ws ls) ≤ length ls
fits_lexemes [] ls = omega arith
fits_lexemes (w ∷ ws) [] = omega arith
fits_lexemes (w ∷ ws) (l ∷ ls) = let more : length (zipped ws ls) ≤ length ls = fits_lexemes ws ls in omega arith

pub length_short : (ws : List Word) (ls : List Lexeme) → length ws < length ls → length (zipped ws ls) ≡ length ws
length_short [] ls h = refl
length_short (w ∷ ws) [] h = absurd (omega arith)
length_short (w ∷ ws) (l ∷ ls) h = let less : length ws < length ls = omega arith in ap suc (length_short ws ls less)

pub length_long : (ws : List Word) (ls : List Lexeme) → length ls ≤ length ws → length (zipped ws ls) ≡ length ls
length_long [] [] h = refl
length_long [] (l ∷ ls) h = absurd (omega arith)
length_long (w ∷ ws) [] h = refl
length_long (w ∷ ws) (l ∷ ls) h = let less : length ls ≤ length ws = omega arith in ap suc (length_long ws ls less)

pub lexemes_short : (ws : List Word) (ls : List Lexeme) → length ws < length ls → take (length ws) ls ≡ map (λ (p : Piece). p.1) (zipped ws ls)
lexemes_short [] ls h = refl
lexemes_short (w ∷ ws) [] h = absurd (omega arith)
lexemes_short (w ∷ ws) (l ∷ ls) h = let less : length ws < length ls = omega arith in ap (λ r. l ∷ r) (lexemes_short ws ls less)

pub lexemes_long : (ws : List Word) (ls : List Lexeme) → length ls ≤ length ws → ls ≡ map (λ (p : Piece). p.1) (zipped ws ls)
lexemes_long [] [] h = refl
lexemes_long [] (l ∷ ls) h = absurd (omega arith)
lexemes_long (w ∷ ws) [] h = refl
lexemes_long (w ∷ ws) (l ∷ ls) h = let less : length ls ≤ length ws = omega arith in ap (λ r. l ∷ r) (lexemes_long ws ls less)

-- ---- the scan

abbrev pub before : List Piece → cuts.Cut → cuts.Cut
before done c = (done ++ c.0, c.1)

-- so many lexemes were passed over, and so many brackets are open behind them
pub record IsScanned (at : Separator) (whole : List Piece) (count depth : ℕ) (rest : List Piece) : Type 0 where
  pub done : List Piece
  pub split : whole ≡ done ++ rest
  pub long : length done ≡ count
  pub few : depth ≤ count
  pub same : cuts.cut at whole ≡ before done (cut_from at depth rest)

taken : (done rest : List Piece) → take (length done) (done ++ rest) ≡ done
taken [] rest = refl
taken (x ∷ xs) rest = ap (λ r. x ∷ r) (taken xs rest)

pub within : (at : Separator) (whole : List Piece) (count depth : ℕ) (rest : List Piece) → IsScanned at whole count depth rest → count + length rest ≡ length whole
within at whole count depth rest s =
    let total : length whole ≡ length s.done + length rest = ap length s.split ∙ length-append s.done rest in
    let long : length s.done ≡ count = s.long in
    omega arith

pub scan_begin : (at : Separator) (whole : List Piece) → IsScanned at whole 0 0 whole
scan_begin at whole = record { done = []; split = refl; long = refl; few = omega arith; same = refl }

shallow : (w : Word) (depth count : ℕ) → depth ≤ count → depth_behind w depth ≤ count + 1
shallow w depth count h = go (opens w) (closes w)
  where
    go : (a b : Bool) → (if a then suc depth else if b then depth - 1 else depth) ≤ count + 1
    go true b = omega arith
    go false true = omega arith
    go false false = omega arith

module _ (at : Separator) (whole : List Piece) (count depth : ℕ) (rest : List Piece) (scanned : IsScanned at whole count depth rest) where
  abbrev chosen : Bool → Piece → List Piece → cuts.Cut
  chosen b s ts = if b then ([], Some (s, ts)) else and_before s (cut_from at (depth_behind s.0 depth) ts)

  pub scan_on : (s : Piece) (more : List Piece) → rest ≡ s ∷ more → false ≡ ends_part at depth s.0 → IsScanned at whole (count + 1) (depth_behind s.0 depth) more
  scan_on s more e f = record {
    done = scanned.done ++ s ∷ [];
    split = scanned.split ∙ ap (λ l. scanned.done ++ l) e ∙ sym (append_assoc scanned.done (s ∷ []) more);
    long = let l : length scanned.done ≡ count = scanned.long in length-append scanned.done (s ∷ []) ∙ omega arith;
    few = shallow s.0 depth count scanned.few;
    same =
        scanned.same
        ∙ ap (λ l. before scanned.done (cut_from at depth l)) e
        ∙ ap (λ b. before scanned.done (chosen b s more)) (sym f)
        ∙ ap (λ l. (l, (cut_from at (depth_behind s.0 depth) more).1)) (sym (append_assoc scanned.done (s ∷ []) (cut_from at (depth_behind s.0 depth) more).0));
  }

  pub scan_stop : (s : Piece) (more : List Piece) → rest ≡ s ∷ more → true ≡ ends_part at depth s.0 → cuts.cut at whole ≡ (take count whole, Some (s, more))
  scan_stop s more e f =
      let front : take count whole ≡ scanned.done = ap (λ n. take n whole) (sym scanned.long) ∙ ap (take (length scanned.done)) scanned.split ∙ taken scanned.done rest in
      scanned.same
      ∙ ap (λ l. before scanned.done (cut_from at depth l)) e
      ∙ ap (λ b. before scanned.done (chosen b s more)) (sym f)
      ∙ ap (λ l. (l, Some (s, more))) (append-nil scanned.done ∙ sym front)

  pub scan_end : rest ≡ [] → cuts.cut at whole ≡ (whole, None)
  scan_end e =
      scanned.same
      ∙ ap (λ l. before scanned.done (cut_from at depth l)) e
      ∙ ap (λ l. (l, None)) (sym (scanned.split ∙ ap (λ l. scanned.done ++ l) e))

-- ---- what is left

before_less : (at : Separator) (depth : ℕ) (ts : List Piece) (p : Piece × List Piece) → (cut_from at depth ts).1 ≡ Some p → length p.1 < length ts
before_less at depth [] p e = absurd (cc)
before_less at depth (s ∷ ts) p e = go (ends_part at depth s.0) (before_less at (depth_behind s.0 depth) ts p) e
  where
    go : (b : Bool) → ((cut_from at (depth_behind s.0 depth) ts).1 ≡ Some p → length p.1 < length ts) → (if b then ([], Some (s, ts)) else and_before s (cut_from at (depth_behind s.0 depth) ts)).1 ≡ Some p → length p.1 < length (s ∷ ts)
    go true more e = let same : ts ≡ p.1 = ap (λ (q : Option (Piece × List Piece)). of q) e in let l : length ts ≡ length p.1 = ap length same in omega arith
      where
        of : Option (Piece × List Piece) → List Piece
        of None = []
        of (Some q) = q.1
    go false more e = let l : length p.1 < length ts = more e in omega arith

-- behind a separator fewer lexemes are left
pub next_less : (at : Separator) (ts : List Piece) (p : Piece × List Piece) → (cuts.cut at ts).1 ≡ Some p → length p.1 < length ts
next_less at ts p e = before_less at zero ts p e

-- ---- between two words

pub same_word : (v w : Word) → is_word v w ≡ true → v ≡ w
same_word v w e = same_true word_type.the_type tt v w e

pub enclosed_read : (w : Word) (by : Cutting) (ts : List Piece) (s : Piece) (more : List Piece) (r : Result Stretch Unread) → ts ≡ s ∷ more → is_word s.0 w ≡ true → IsEndedAs (by more) r → IsEnclosedAs w by ts r
enclosed_read w by ts s more (Ok x) e f k = subst (λ (l : List Piece). IsEnclosedAs w by l (Ok x)) (sym e) (same_word s.0 w f, (k.0, k.1))
enclosed_read w by ts s more (Err u) e f k = subst (λ (l : List Piece). IsEnclosedAs w by l (Err u)) (sym e) (k.0, λ g. k.1)
