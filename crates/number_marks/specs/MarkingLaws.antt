-- Marks that are given, room for them, and both together.
use Rattle.std.proofs.Common.{◌≡◌, ◌∙◌, ◌≤◌, ◌<◌, sym, ap, refl, ℕ, zero, suc, ◌+◌, ◌==◌, max, Bool, true, false, ◌||◌, List, [], ◌∷◌, ◌++◌, length, take, drop, get_or, drop-cons, Option, Some, None, slice_get, arith}
use Rattle.std.specs.Prelude.{slice_set}
use Rattle.std.proofs.Math.Dec.{eqb-suc-zero, eqb-zero-suc, eqb-suc-suc}
use Rattle.number_marks.specs.Marking.{has_mark, with_mark, with_marks, with_room, past_all, is_among}

-- ---- reading and setting

pub mark_some : (marks : List Bool) (n : ℕ) (mark : Bool) → slice_get marks n ≡ Some mark → has_mark marks n ≡ mark
mark_some [] n mark is = cc
mark_some (m ∷ marks) zero mark is = cc
mark_some (m ∷ marks) (suc n) mark is = mark_some marks n mark is

pub mark_none : (marks : List Bool) (n : ℕ) → slice_get marks n ≡ None → has_mark marks n ≡ false
mark_none [] n is = refl
mark_none (m ∷ marks) zero is = cc
mark_none (m ∷ marks) (suc n) is = mark_none marks n is

-- a mark that is set within the list
pub set_mark : (marks : List Bool) (n : ℕ) → n < length marks → slice_set marks n true ≡ with_mark n marks
set_mark [] n within = let no : ⊥ = omega arith in absurd no
set_mark (m ∷ marks) zero within = refl
set_mark (m ∷ marks) (suc n) within = ap (λ ms. m ∷ ms) (set_mark marks n (omega arith))

-- one more behind a list leaves its front
pub front_more : (marks front : List Bool) (mark : Bool) → take (length front) marks ≡ front → take (length front) (marks ++ mark ∷ []) ≡ front
front_more [] [] mark is = refl
front_more (m ∷ marks) [] mark is = refl
front_more [] (f ∷ front) mark is = cc
front_more (m ∷ marks) (f ∷ front) mark is =
    let first : m ≡ f = cc in
    let rest : take (length front) marks ≡ front = cc in
    ap (λ (b : Bool). b ∷ take (length front) (marks ++ mark ∷ [])) first ∙ ap (λ ms. f ∷ ms) (front_more marks front mark rest)

pub front_whole : (marks : List Bool) → take (length marks) marks ≡ marks
front_whole [] = refl
front_whole (m ∷ marks) = ap (λ ms. m ∷ ms) (front_whole marks)

-- ---- one mark

-- a number has a mark once another is given one exactly where it is that other or had one
pub mark_one : (k : ℕ) (marks : List Bool) (n : ℕ) → has_mark (with_mark k marks) n ≡ ((n == k) || has_mark marks n)
mark_one zero [] zero = refl
mark_one zero [] (suc n) = ap (λ (b : Bool). b || false) (sym (eqb-suc-zero n))
mark_one (suc k) [] zero = ap (λ (b : Bool). b || false) (sym (eqb-zero-suc k))
mark_one (suc k) [] (suc n) = mark_one k [] n ∙ ap (λ (b : Bool). b || false) (sym (eqb-suc-suc n k))
mark_one zero (mark ∷ marks) zero = refl
mark_one zero (mark ∷ marks) (suc n) = ap (λ (b : Bool). b || has_mark marks n) (sym (eqb-suc-zero n))
mark_one (suc k) (mark ∷ marks) zero = ap (λ (b : Bool). b || mark) (sym (eqb-zero-suc k))
mark_one (suc k) (mark ∷ marks) (suc n) = mark_one k marks n ∙ ap (λ (b : Bool). b || has_mark marks n) (sym (eqb-suc-suc n k))

or_swap : (a b c : Bool) → (a || (b || c)) ≡ ((b || a) || c)
or_swap true true c = refl
or_swap true false c = refl
or_swap false true c = refl
or_swap false false c = refl

pub marked_by : (numbers : List ℕ) (marks : List Bool) (n : ℕ) → has_mark (with_marks numbers marks) n ≡ (is_among n numbers || has_mark marks n)
marked_by [] marks n = refl
marked_by (k ∷ numbers) marks n =
    marked_by numbers (with_mark k marks) n
    ∙ ap (λ (b : Bool). is_among n numbers || b) (mark_one k marks n)
    ∙ or_swap (is_among n numbers) (n == k) (has_mark marks n)

or_true : (a b : Bool) → b ≡ true → (a || b) ≡ true
or_true true b is = refl
or_true false b is = is

pub mark_stays : (numbers : List ℕ) (marks : List Bool) (n : ℕ) → has_mark marks n ≡ true → has_mark (with_marks numbers marks) n ≡ true
mark_stays numbers marks n is = marked_by numbers marks n ∙ or_true (is_among n numbers) (has_mark marks n) is

-- ---- room

pub room_none : (room : ℕ) (marks : List Bool) (n : ℕ) → has_mark (with_room room marks) n ≡ has_mark marks n
room_none zero marks n = refl
room_none (suc room) [] zero = refl
room_none (suc room) [] (suc n) = room_none room [] n
room_none (suc room) (mark ∷ marks) zero = refl
room_none (suc room) (mark ∷ marks) (suc n) = room_none room marks n

pub room_given_up : (room : ℕ) (marks : List Bool) → take (length marks) (with_room room marks) ≡ marks
room_given_up zero marks = taken_all marks
  where
    taken_all : (xs : List Bool) → take (length xs) xs ≡ xs
    taken_all [] = refl
    taken_all (x ∷ xs) = ap (λ ys. x ∷ ys) (taken_all xs)
room_given_up (suc room) [] = refl
room_given_up (suc room) (mark ∷ marks) = ap (λ ms. mark ∷ ms) (room_given_up room marks)

pub room_enough : (room : ℕ) (marks : List Bool) → room ≤ length (with_room room marks)
room_enough zero marks = omega arith
room_enough (suc room) [] = omega (arith, room_enough room [])
room_enough (suc room) (mark ∷ marks) = omega (arith, room_enough room marks)

pub room_there : (room : ℕ) (marks : List Bool) → room ≤ length marks → with_room room marks ≡ marks
room_there zero marks within = refl
room_there (suc room) [] within = let no : ⊥ = omega arith in absurd no
room_there (suc room) (mark ∷ marks) within = ap (λ ms. mark ∷ ms) (room_there room marks (omega arith))

-- one more unset mark
pub room_more : (room : ℕ) (marks : List Bool) → length marks < room → with_room room (marks ++ false ∷ []) ≡ with_room room marks
room_more zero marks within = let no : ⊥ = omega arith in absurd no
room_more (suc room) [] within = refl
room_more (suc room) (mark ∷ marks) within = ap (λ ms. mark ∷ ms) (room_more room marks (omega arith))

-- ---- both

mark_room : (k room : ℕ) (marks : List Bool) → with_mark k (with_room room marks) ≡ with_room room (with_mark k marks)
mark_room k zero marks = refl
mark_room zero (suc room) [] = refl
mark_room (suc k) (suc room) [] = ap (λ ms. false ∷ ms) (mark_room k room [])
mark_room zero (suc room) (mark ∷ marks) = refl
mark_room (suc k) (suc room) (mark ∷ marks) = ap (λ ms. mark ∷ ms) (mark_room k room marks)

marks_room : (numbers : List ℕ) (room : ℕ) (marks : List Bool) → with_marks numbers (with_room room marks) ≡ with_room room (with_marks numbers marks)
marks_room [] room marks = refl
marks_room (k ∷ numbers) room marks = ap (with_marks numbers) (mark_room k room marks) ∙ marks_room numbers room (with_mark k marks)

pub mark_length : (k : ℕ) (marks : List Bool) → length (with_mark k marks) ≡ max (k + 1) (length marks)
mark_length zero [] = refl
mark_length (suc k) [] = omega (arith, mark_length k [])
mark_length zero (mark ∷ marks) = omega arith
mark_length (suc k) (mark ∷ marks) = omega (arith, mark_length k marks)

marks_length : (numbers : List ℕ) (marks : List Bool) → length (with_marks numbers marks) ≡ max (past_all numbers) (length marks)
marks_length [] marks = omega arith
marks_length (k ∷ numbers) marks = omega (arith, marks_length numbers (with_mark k marks), mark_length k marks)

pub room_filled : (numbers : List ℕ) (marks : List Bool) → with_marks numbers (with_room (past_all numbers) marks) ≡ with_marks numbers marks
room_filled numbers marks =
    marks_room numbers (past_all numbers) marks
    ∙ room_there (past_all numbers) (with_marks numbers marks) (omega (arith, marks_length numbers marks))

-- ---- one number after another

suc_one : (i : ℕ) → suc i ≡ i + 1
suc_one i = omega arith

-- the number at a place is given its mark, and then those behind it
pub walk_marks : (numbers : List ℕ) (i d : ℕ) (marks new : List Bool) → i < length numbers → new ≡ with_mark (get_or numbers i d) marks → with_marks (drop i numbers) marks ≡ with_marks (drop (i + 1) numbers) new
walk_marks numbers i d marks new within is =
    ap (λ (ns : List ℕ). with_marks ns marks) (drop-cons numbers i d within)
    ∙ ap (λ (k : ℕ). with_marks (drop k numbers) (with_mark (get_or numbers i d) marks)) (suc_one i)
    ∙ ap (with_marks (drop (i + 1) numbers)) (sym is)

pub walk_room : (numbers : List ℕ) (i d : ℕ) (marks new : List Bool) → i < length numbers → new ≡ with_mark (get_or numbers i d) marks → past_all (drop i numbers) ≤ length marks → past_all (drop (i + 1) numbers) ≤ length new
walk_room numbers i d marks new within is room =
    let long : length new ≡ max (get_or numbers i d + 1) (length marks) = ap length is ∙ mark_length (get_or numbers i d) marks in
    let past : past_all (drop i numbers) ≡ max (get_or numbers i d + 1) (past_all (drop (i + 1) numbers)) =
    ap past_all (drop-cons numbers i d within) ∙ ap (λ (k : ℕ). max (get_or numbers i d + 1) (past_all (drop k numbers))) (suc_one i) in
    omega (arith, long, past, room)
