-- A document put in place of the first one of its name, or at the end, stands under its name, and the others are as before.
use Rattle.std.proofs.Common.{◌≡◌, ◌∙◌, sym, ap, subst, ℕ, zero, suc, ◌<◌, ◌≤◌, List, [], ◌∷◌, ◌++◌, length, Bool, true, false, cond, nat_lt, set, get_or, Option, Some, None, bytes_eq, refl, arith, position, slice_get, if◌then◌else◌}
use Rattle.std.specs.List.{find, position_or_len}
use Rattle.std.specs.Option.{option_or}
use Rattle.std.proofs.lemmas.List.Folds.{find-set, find_past, find-append, find_at}
use Rattle.std.proofs.lemmas.List.Sums.{passes_at_first}
use Rattle.std.proofs.lemmas.Bool.Decides.{nat_tests}
use Rattle.std.proofs.lemmas.Slice.Eq.{bytes_eq-Decides}
use Rattle.host_io.specs.Memory.{Writes}
use Rattle.host_io.specs.declared.mem_cabinet.MemDocument.{MemDocument}

-- the name of a document is n
abbrev is_of : List ℕ → MemDocument → Bool
is_of n = λ d. bytes_eq d.name n

same_name : (a b : List ℕ) → bytes_eq a b ≡ true → a ≡ b
same_name a b e = (bytes_eq-Decides a b).0 e

reflexive : (a : List ℕ) → bytes_eq a a ≡ true
reflexive a = (bytes_eq-Decides a a).1 refl

set_by : (documents : List MemDocument) (place : ℕ) (document : MemDocument) (n : List ℕ) → place ≡ position_or_len (is_of document.name) documents → place < length documents → (is : Bool) → bytes_eq document.name n ≡ is
    → find (is_of n) (set documents place document) ≡ (if is then Some document else find (is_of n) documents)
set_by documents place document n at within true is = let name = same_name document.name n is in subst (λ m. find (is_of m) (set documents place document) ≡ Some document) name (find-set (is_of document.name) documents place document at within (reflexive document.name))
set_by documents place document n at within false is =
    let passes : is_of document.name (get_or documents place document) ≡ true = subst (λ p. is_of document.name (get_or documents p document) ≡ true) (sym at) (passes_at_first (is_of document.name) documents document (subst (λ p. p < length documents) at within)) in
    let name = same_name (get_or documents place document).name document.name passes in
    find_past (is_of n) documents place document document (ap (λ m. bytes_eq m n) name ∙ is) is

pub writes_set : (documents : List MemDocument) (place : ℕ) (document : MemDocument) → place ≡ position_or_len (is_of document.name) documents → place < length documents → Writes documents document (set documents place document)
writes_set documents place document at within n = set_by documents place document n at within (bytes_eq document.name n) refl

or_none : {X : Type 0} (o : Option X) → option_or o None ≡ o
or_none None = refl
or_none (Some x) = refl

pub writes_end : (documents : List MemDocument) (document : MemDocument) → find (is_of document.name) documents ≡ None → Writes documents document (documents ++ document ∷ [])
writes_end documents document missing n = by (bytes_eq document.name n) refl
  where
    by : (is : Bool) → bytes_eq document.name n ≡ is → find (is_of n) (documents ++ document ∷ []) ≡ (if is then Some document else find (is_of n) documents)
    by true is =
        let here : find (is_of n) documents ≡ None = subst (λ m. find (is_of m) documents ≡ None) (same_name document.name n is) missing in
        find-append (is_of n) documents (document ∷ []) ∙ ap (λ o. option_or o (cond (bytes_eq document.name n) (Some document) None)) here ∙ ap (λ b. cond b (Some document) None) is
    by false is = find-append (is_of n) documents (document ∷ []) ∙ ap (λ b. option_or (find (is_of n) documents) (cond b (Some document) None)) is ∙ or_none (find (is_of n) documents)

-- what a place that was found says
found : (b : Bool) (n place : ℕ) → Some place ≡ cond b (Some n) None → (b ≡ true) × (place ≡ n)
found true n place e = (refl, cc)
found false n place e = cc

not_found : (b : Bool) (n : ℕ) → None ≡ cond b (Some n) None → b ≡ false
not_found true n e = cc
not_found false n e = refl

-- put at the place of the first document of its name
pub writes_at : (documents : List MemDocument) (place : ℕ) (document : MemDocument) → Some place ≡ position (is_of document.name) documents → Writes documents document (set documents place document)
writes_at documents place document at =
    let is = found (nat_lt (position_or_len (is_of document.name) documents) (length documents)) (position_or_len (is_of document.name) documents) place at in
    let within : position_or_len (is_of document.name) documents < length documents = let h = is.0 in grind (arith, nat_tests) in
    writes_set documents place document is.1 (subst (λ p. p < length documents) (sym is.1) within)

past : (xs : List MemDocument) (n : ℕ) → length xs ≤ n → slice_get xs n ≡ None
past [] n h = refl
past (x ∷ xs) zero h = absurd (omega arith)
past (x ∷ xs) (suc n) h = past xs n (omega arith)

-- put at the end, where no document has its name
pub writes_new : (documents : List MemDocument) (document : MemDocument) → None ≡ position (is_of document.name) documents → Writes documents document (documents ++ document ∷ [])
writes_new documents document at =
    let is = not_found (nat_lt (position_or_len (is_of document.name) documents) (length documents)) (position_or_len (is_of document.name) documents) at in
    let beyond : length documents ≤ position_or_len (is_of document.name) documents = grind (arith, nat_tests) in
    writes_end documents document (find_at (is_of document.name) documents ∙ past documents (position_or_len (is_of document.name) documents) beyond)
