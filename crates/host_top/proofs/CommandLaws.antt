-- The words that the descent cuts off a line are its words.
use Rattle.std.proofs.Common.{◌≡◌, ◌∙◌, sym, ap, refl, ℕ, ◌+◌, ◌-◌, ◌*◌, ◌^◌, ◌<◌, nat_lt, nat_eq, Bool, true, false, cond, not, ◌&&◌, ◌||◌, List, [], ◌∷◌, ◌++◌, length, take, drop, arith}
use Rattle.std.specs.Prelude.{Option, Some, None, unwrap_or, filter, codes, if◌then◌else◌}
use Rattle.std.specs.List.{prefix_len, list_all, slice_split, onto_first, starts_with}
use Rattle.std.specs.Str.{bytes_eq}
use Rattle.std.proofs.lemmas.List.{take-append-drop, append-nil}
use Rattle.animator.specs.declared.model.Command.{Command}
use Rattle.animator.specs.declared.model.Command.TheVariants.{Blank, Unknown, Ops, Take, Back}
use Rattle.animator.specs.Words.{is_blank, has_byte, words_of, number_of, take_of, named_command, command_by, command_of}
use Rattle.host_top.specs.Reading.{front, past_blanks, word_of, behind_word, command_at}
use Rattle.host_top.proofs.Fronts.{and_left, and_right, Stops, run, run_passes, run_stops}

abbrev inside : ℕ → Bool
inside b = not (is_blank b)

-- ---- a word and what stands behind it

same_prefix : (f g : ℕ → Bool) → ((b : ℕ) → f b ≡ g b) → (xs : List ℕ) → prefix_len f xs ≡ prefix_len g xs
same_prefix f g same [] = refl
same_prefix f g same (x ∷ xs) = rw (same x, same_prefix f g same xs) refl

thrice : (t : Bool) → not t ≡ not (not (not t))
thrice true = refl
thrice false = refl

front_inside : (xs : List ℕ) → front is_blank xs ≡ run inside xs
front_inside xs =
    ap (λ (n : ℕ). unwrap_or (cond (nat_lt n (length xs)) (Some n) None) (length xs)) (same_prefix (λ b. not (is_blank b)) (λ b. not (not (inside b))) (λ b. thrice (is_blank b)) xs)

inside_no_blank : (b : ℕ) → inside b ≡ true → is_blank b ≡ false
inside_no_blank b h = step (is_blank b) h
  where
    step : (t : Bool) → not t ≡ true → t ≡ false
    step true h = sym h
    step false h = refl

outside_blank : (b : ℕ) → inside b ≡ false → is_blank b ≡ true
outside_blank b h = step (is_blank b) h
  where
    step : (t : Bool) → not t ≡ false → t ≡ true
    step true h = refl
    step false h = sym h

-- ---- the words of bytes

-- blanks at the front are no word
past_gap : (gap rest : List ℕ) → list_all is_blank gap ≡ true → words_of (gap ++ rest) ≡ words_of rest
past_gap [] rest h = refl
past_gap (b ∷ gap) rest h = rw (and_left (is_blank b) (list_all is_blank gap) h) (past_gap gap rest (and_right (is_blank b) (list_all is_blank gap) h))

split_end : (a : List ℕ) → list_all inside a ≡ true → slice_split is_blank a ≡ a ∷ []
split_end [] h = refl
split_end (b ∷ a) h =
    let in' : is_blank b ≡ false = inside_no_blank b (and_left (inside b) (list_all inside a) h) in
    let rest : slice_split is_blank a ≡ a ∷ [] = split_end a (and_right (inside b) (list_all inside a) h) in
    rw (in', rest) refl

split_blank : (a : List ℕ) (y : ℕ) (rest : List ℕ) → list_all inside a ≡ true → is_blank y ≡ true → slice_split is_blank (a ++ y ∷ rest) ≡ a ∷ slice_split is_blank rest
split_blank [] y rest h k = rw k refl
split_blank (b ∷ a) y rest h k =
    let in' : is_blank b ≡ false = inside_no_blank b (and_left (inside b) (list_all inside a) h) in
    let rest' : slice_split is_blank (a ++ y ∷ rest) ≡ a ∷ slice_split is_blank rest = split_blank a y rest (and_right (inside b) (list_all inside a) h) k in
    rw (in', rest') refl

-- a first word before the others, where it has a byte
abbrev with_word : List ℕ → List (List ℕ) → List (List ℕ)
with_word [] words = []
with_word (b ∷ word) words = (b ∷ word) ∷ words

cut : (a rest : List ℕ) → list_all inside a ≡ true → Stops inside rest → Stops is_blank (a ++ rest) → words_of (a ++ rest) ≡ with_word a (words_of rest)
cut [] [] all stop first = refl
cut [] (y ∷ rest) all stop first = let bad : true ≡ false = rw first at stop in cc
cut (b ∷ a) [] all stop first =
    let none : (b ∷ a) ++ [] ≡ b ∷ a = append-nil (b ∷ a) in
    let split : slice_split is_blank (b ∷ a) ≡ (b ∷ a) ∷ [] = split_end (b ∷ a) all in
    ap words_of none ∙ ap (filter has_byte) split
cut (b ∷ a) (y ∷ rest) all stop first =
    let blank : is_blank y ≡ true = outside_blank y stop in
    let split : slice_split is_blank ((b ∷ a) ++ y ∷ rest) ≡ (b ∷ a) ∷ slice_split is_blank rest = split_blank (b ∷ a) y rest all blank in
    let behind : words_of (y ∷ rest) ≡ words_of rest = past_gap (y ∷ []) rest (rw blank refl) in
    ap (filter has_byte) split ∙ ap (λ (words : List (List ℕ)). (b ∷ a) ∷ words) (sym behind)

front_cut : (xs : List ℕ) → Stops is_blank xs → words_of xs ≡ with_word (take (front is_blank xs) xs) (words_of (drop (front is_blank xs) xs))
front_cut xs first =
    let whole : take (run inside xs) xs ++ drop (run inside xs) xs ≡ xs = take-append-drop (run inside xs) xs in
    let stop : Stops is_blank (take (run inside xs) xs ++ drop (run inside xs) xs) = rw whole first in
    rw (front_inside xs) (ap words_of (sym whole) ∙ cut (take (run inside xs) xs) (drop (run inside xs) xs) (run_passes inside xs) (run_stops inside xs) stop)

-- the words of a line are its first word and those behind it
words_first : (line : List ℕ) → words_of line ≡ with_word (word_of line) (words_of (behind_word line))
words_first line =
    let whole : take (run is_blank line) line ++ past_blanks line ≡ line = take-append-drop (run is_blank line) line in
    ap words_of (sym whole) ∙ past_gap (take (run is_blank line) line) (past_blanks line) (run_passes is_blank line) ∙ front_cut (past_blanks line) (run_stops is_blank line)

-- ---- the command

by_words : (word argument more : List ℕ) (rest : List (List ℕ)) → command_by (with_word word (with_word argument (with_word more rest))) ≡ command_at word argument more
by_words [] argument more rest = refl
by_words (b ∷ word) [] more rest = step (starts_with nat_eq (b ∷ word) (codes "//")) (bytes_eq (b ∷ word) (codes "ops")) (bytes_eq (b ∷ word) (codes "back")) (bytes_eq (b ∷ word) (codes "step") && bytes_eq more [])
  where
    step : (p q r s : Bool) → (if p then Blank else if q then Ops else if r then Back else Unknown)
        ≡ (if p then Blank else if q && true then Ops else if r && true then Back else if s then Unknown else Unknown)
    step true q r s = refl
    step false true r s = refl
    step false false true s = refl
    step false false false true = refl
    step false false false false = refl
by_words (b ∷ word) (c ∷ argument) [] rest = step (starts_with nat_eq (b ∷ word) (codes "//")) (bytes_eq (b ∷ word) (codes "ops")) (bytes_eq (b ∷ word) (codes "back")) (bytes_eq (b ∷ word) (codes "step")) (take_of (number_of (2 ^ 64 - 1) (c ∷ argument)))
  where
    step : (p q r s : Bool) (n : Command) → (if p then Blank else if s then n else Unknown)
        ≡ (if p then Blank else if q && false then Ops else if r && false then Back else if s && true then n else Unknown)
    step true q r s n = refl
    step false true true true n = refl
    step false true true false n = refl
    step false true false true n = refl
    step false true false false n = refl
    step false false true true n = refl
    step false false true false n = refl
    step false false false true n = refl
    step false false false false n = refl
by_words (b ∷ word) (c ∷ argument) (d ∷ more) rest = step (starts_with nat_eq (b ∷ word) (codes "//")) (bytes_eq (b ∷ word) (codes "ops")) (bytes_eq (b ∷ word) (codes "back")) (bytes_eq (b ∷ word) (codes "step")) (take_of (number_of (2 ^ 64 - 1) (c ∷ argument)))
  where
    step : (p q r s : Bool) (n : Command) → (if p then Blank else Unknown)
        ≡ (if p then Blank else if q && false then Ops else if r && false then Back else if s && false then n else Unknown)
    step true q r s n = refl
    step false true true true n = refl
    step false true true false n = refl
    step false true false true n = refl
    step false true false false n = refl
    step false false true true n = refl
    step false false true false n = refl
    step false false false true n = refl
    step false false false false n = refl

pub command_is : (line : List ℕ) → command_of line ≡ command_at (word_of line) (word_of (behind_word line)) (word_of (behind_word (behind_word line)))
command_is line =
    let behind = behind_word line in
    let e0 : words_of line ≡ with_word (word_of line) (words_of behind) = words_first line in
    let e1 : words_of behind ≡ with_word (word_of behind) (words_of (behind_word behind)) = words_first behind in
    let e2 : words_of (behind_word behind) ≡ with_word (word_of (behind_word behind)) (words_of (behind_word (behind_word behind))) = words_first (behind_word behind) in
    let all : words_of line ≡ with_word (word_of line) (with_word (word_of behind) (with_word (word_of (behind_word behind)) (words_of (behind_word (behind_word behind))))) =
    e0 ∙ ap (with_word (word_of line)) (e1 ∙ ap (with_word (word_of behind)) e2) in
    ap command_by all ∙ by_words (word_of line) (word_of behind) (word_of (behind_word behind)) (words_of (behind_word (behind_word behind)))
