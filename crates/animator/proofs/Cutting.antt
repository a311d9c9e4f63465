-- Lines at the front of bytes.
use Rattle.std.proofs.Common.{◌≡◌, ◌≢◌, ◌∙◌, sym, ap, refl, ℕ, suc, ◌+◌, zero-add, ◌<◌, Bool, true, false, cond, ◌&&◌, List, [], ◌∷◌, ◌++◌, length, arith, nat_eq}
use Rattle.std.specs.Prelude.{All}
use Rattle.std.specs.List.{AllByRecursion}
use Rattle.std.proofs.lemmas.List.Elements.{recursion_from_All}
use Rattle.std.proofs.lemmas.Bool.Decides.{nat_tests}
use Rattle.animator.specs.Lines.{lines_of, onto_first, begins_lf, chomped, whole_lines}

other : (b : ℕ) → b ≢ 10 → nat_eq b 10 ≡ false
other b differs = grind (arith, nat_tests)

-- a byte before others that don't begin with a LF
inside : (b c : ℕ) (bytes : List ℕ) → b ≢ 10 → c ≢ 10 → lines_of (b ∷ c ∷ bytes) ≡ onto_first b (lines_of (c ∷ bytes))
inside b c bytes no_b no_c = step (nat_eq b 13)
  where
    step : (t : Bool) → cond (nat_eq b 10) ([] ∷ lines_of (c ∷ bytes)) (cond (t && nat_eq c 10) (lines_of (c ∷ bytes)) (onto_first b (lines_of (c ∷ bytes)))) ≡ onto_first b (lines_of (c ∷ bytes))
    step true = rw (other b no_b, other c no_c) refl
    step false = rw (other b no_b) refl

-- the last byte before a LF
before_lf : (b : ℕ) (rest : List ℕ) → b ≢ 10 → lines_of (b ∷ 10 ∷ rest) ≡ chomped (b ∷ []) ∷ lines_of rest
before_lf b rest differs = step (nat_eq b 13)
  where
    step : (t : Bool) → cond (nat_eq b 10) ([] ∷ lines_of (10 ∷ rest)) (cond (t && true) (lines_of (10 ∷ rest)) (onto_first b (lines_of (10 ∷ rest)))) ≡ cond t [] (b ∷ []) ∷ lines_of rest
    step true = rw (other b differs) refl
    step false = rw (other b differs) refl

first_line : (line rest : List ℕ) → AllByRecursion (λ b. b ≢ 10) line → lines_of (line ++ 10 ∷ rest) ≡ chomped line ∷ lines_of rest
first_line [] rest one = refl
first_line (b ∷ []) rest one = before_lf b rest one.0
first_line (b ∷ c ∷ line) rest one = inside b c (line ++ 10 ∷ rest) one.0 one.1.0 ∙ ap (onto_first b) (first_line (c ∷ line) rest one.1)

alone : (b : ℕ) → b ≢ 10 → lines_of (b ∷ []) ≡ (b ∷ []) ∷ []
alone b differs = step (nat_eq b 13)
  where
    step : (t : Bool) → cond (nat_eq b 10) ([] ∷ []) (cond (t && false) [] ((b ∷ []) ∷ [])) ≡ (b ∷ []) ∷ []
    step true = rw (other b differs) refl
    step false = rw (other b differs) refl

only_line : (b : ℕ) (line : List ℕ) → AllByRecursion (λ b. b ≢ 10) (b ∷ line) → lines_of (b ∷ line) ≡ (b ∷ line) ∷ []
only_line b [] one = alone b one.0
only_line b (c ∷ line) one = inside b c line one.0 one.1.0 ∙ ap (onto_first b) (only_line c line one.1)

-- a line that ends in a LF is the first
pub lines-first : (line rest : List ℕ) → All (λ b. b ≢ 10) line → lines_of (line ++ 10 ∷ rest) ≡ chomped line ∷ lines_of rest
lines-first line rest one = first_line line rest (recursion_from_All (λ b. b ≢ 10) line one)

-- bytes without LF are one line
pub lines-last : (line : List ℕ) → 0 < length line → All (λ b. b ≢ 10) line → lines_of line ≡ line ∷ []
lines-last [] some one = absurd (omega arith)
lines-last (b ∷ line) some one = only_line b line (recursion_from_All (λ b. b ≢ 10) (b ∷ line) one)

pub chomped-cr : (line : List ℕ) → chomped (line ++ 13 ∷ []) ≡ line
chomped-cr [] = refl
chomped-cr (b ∷ []) = refl
chomped-cr (b ∷ c ∷ line) = ap (λ (l : List ℕ). b ∷ l) (chomped-cr (c ∷ line))

pub chomped-other : (line : List ℕ) (last : ℕ) → last ≢ 13 → chomped (line ++ last ∷ []) ≡ line ++ last ∷ []
chomped-other [] last differs = grind (arith, nat_tests)
chomped-other (b ∷ []) last differs = ap (λ (l : List ℕ). b ∷ l) (chomped-other [] last differs)
chomped-other (b ∷ c ∷ line) last differs = ap (λ (l : List ℕ). b ∷ l) (chomped-other (c ∷ line) last differs)

ended_step : (t : Bool) (all front back : ℕ) → all ≡ front + back → cond t (suc all) all ≡ cond t (suc front) front + back
ended_step true all front back both = omega arith
ended_step false all front back both = both

-- lines that end in two texts
pub whole_lines-append : (front back : List ℕ) → whole_lines (front ++ back) ≡ whole_lines front + whole_lines back
whole_lines-append [] back = sym (zero-add (whole_lines back))
whole_lines-append (b ∷ front) back = ended_step (nat_eq b 10) (whole_lines (front ++ back)) (whole_lines front) (whole_lines back) (whole_lines-append front back)

unended : (bytes : List ℕ) → AllByRecursion (λ b. b ≢ 10) bytes → whole_lines bytes ≡ 0
unended [] none = refl
unended (b ∷ bytes) none = rw (other b none.0) (unended bytes none.1)

-- no line ends in bytes without LF
pub whole_lines-none : (bytes : List ℕ) → All (λ b. b ≢ 10) bytes → whole_lines bytes ≡ 0
whole_lines-none bytes none = unended bytes (recursion_from_All (λ b. b ≢ 10) bytes none)

-- one line ends in a line and its LF
pub whole_lines-one : (bytes : List ℕ) → All (λ b. b ≢ 10) bytes → whole_lines (bytes ++ 10 ∷ []) ≡ 1
whole_lines-one bytes none = whole_lines-append bytes (10 ∷ []) ∙ rw (whole_lines-none bytes none) refl
