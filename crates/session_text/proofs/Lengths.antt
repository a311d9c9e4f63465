-- A text that is too long in its front is too long: what a loop says when a piece doesn't fit.
use Rattle.std.proofs.Common.{◌≡◌, ◌<◌, ◌≤◌, ◌+◌, ◌-◌, ℕ, suc, Bool, true, false, cond, List, [], ◌∷◌, ◌++◌, Result, Ok, Err, OnErr, length, get_or, map, take, drop, flat_map, append_assoc, length-append, refl, sym, ap, ◌∙◌, arith, codes}
use Rattle.std.proofs.Math.Seq.{drop-cons}
use Rattle.std.proofs.lemmas.List.{take_all, length-drop}
use Rattle.std.specs.Fmt.{decimal}
use Rattle.b_values.specs.declared.types.Face.{Face}
use Rattle.b_values.specs.declared.types.NameFace.{NameFace}
use Rattle.b_values.specs.declared.values.Value.{Value}
use Rattle.b_values.specs.Texts.{text_of, commas, comma_each}
use Rattle.engine_face.specs.declared.answers.Step.{Step}
use Rattle.engine_face.specs.declared.answers.OpList.{OpList}
use Rattle.session_words.specs.Texts.{line, end_text}
use Rattle.session_words.specs.Replies.{op_name, values_text, results_text, params_text, named_values, step_line, step_lines, list_lines}
use Rattle.session_words.specs.declared.replies.Numbered.{Numbered}
use Rattle.session_text.specs.Writing.{its_number}

pub on_err : {T E : Type 0} {P : Type 0} (r : Result T E) → P → OnErr r P
on_err (Ok x) p = tt
on_err (Err e) p = p

-- behind what was written stand a piece that didn't fit and the rest
pub long_rest : (out piece rest text all : List ℕ) → out ++ (piece ++ rest) ≡ text ++ all → 64 < length out + length piece → 64 < length text + length all
long_rest out piece rest text all e h =
    let a : length (out ++ (piece ++ rest)) ≡ length out + (length piece + length rest) = length-append out (piece ++ rest) ∙ ap (λ n. length out + n) (length-append piece rest) in
    let b : length (out ++ (piece ++ rest)) ≡ length text + length all = ap length e ∙ length-append text all in
    omega arith

-- the same, where another piece was written before it
pub long_second : (out new first piece rest text all : List ℕ) → new ≡ out ++ first → out ++ (first ++ (piece ++ rest)) ≡ text ++ all → 64 < length new + length piece → 64 < length text + length all
long_second out new first piece rest text all is e h =
    long_rest new piece rest text all (ap (λ t. t ++ (piece ++ rest)) is ∙ append_assoc out first (piece ++ rest) ∙ e) h

-- the element at a place, and those behind it
pub opened : {A : Type 0} (xs : List A) (i : ℕ) (x : A) → i < length xs → x ≡ get_or xs i x → drop i xs ≡ x ∷ drop (suc i) xs
opened xs i x small is = drop-cons xs i x small ∙ ap (λ y. y ∷ drop (suc i) xs) (sym is)

pub long_item : {A : Type 0} (f : A → List ℕ) (xs : List A) (i : ℕ) (x : A) (out text all : List ℕ) → i < length xs → x ≡ get_or xs i x
    → out ++ flat_map f (drop i xs) ≡ text ++ all → 64 < length out + length (f x) → 64 < length text + length all
long_item f xs i x out text all small is e h =
    long_rest out (f x) (flat_map f (drop (suc i) xs)) text all (ap (λ l. out ++ flat_map f l) (sym (opened xs i x small is)) ∙ e) h

pub long_byte : (f : ℕ → List ℕ) (xs : List ℕ) (i : ℕ) (out text all : List ℕ) → i < length xs
    → out ++ flat_map f (drop i xs) ≡ text ++ all → 64 < length out + length (f (get_or xs i 0)) → 64 < length text + length all
long_byte f xs i out text all small e h =
    long_rest out (f (get_or xs i 0)) (flat_map f (drop (suc i) xs)) text all (ap (λ l. out ++ flat_map f l) (sym (drop-cons xs i 0 small)) ∙ e) h

-- texts with commas: behind the comma, at the first text, and at a later one
pub long_comma : {A : Type 0} (f : A → List ℕ) (xs : List A) (i : ℕ) (x : A) (first : Bool) (out text all : List ℕ) → i < length xs → x ≡ get_or xs i x → first ≡ false
    → out ++ cond first (commas (map f (drop i xs))) (comma_each (map f (drop i xs))) ≡ text ++ all → 64 < length out + length {A = ℕ} (44 ∷ []) → 64 < length text + length all
long_comma f xs i x first out text all small is later e h =
    long_rest out (44 ∷ []) (f x ++ comma_each (map f (drop (suc i) xs))) text all
    (ap (λ l. out ++ comma_each (map f l)) (sym (opened xs i x small is))
    ∙ ap (λ b. out ++ cond b (commas (map f (drop i xs))) (comma_each (map f (drop i xs)))) (sym later) ∙ e) h

pub long_first : {A : Type 0} (f : A → List ℕ) (xs : List A) (i : ℕ) (x : A) (first : Bool) (out new text all : List ℕ) → i < length xs → x ≡ get_or xs i x → first ≡ true → new ≡ out
    → out ++ cond first (commas (map f (drop i xs))) (comma_each (map f (drop i xs))) ≡ text ++ all → 64 < length new + length (f x) → 64 < length text + length all
long_first f xs i x first out new text all small is begins same e h =
    long_rest new (f x) (comma_each (map f (drop (suc i) xs))) text all
    (ap (λ t. t ++ (f x ++ comma_each (map f (drop (suc i) xs)))) same
    ∙ ap (λ l. out ++ commas (map f l)) (sym (opened xs i x small is))
    ∙ ap (λ b. out ++ cond b (commas (map f (drop i xs))) (comma_each (map f (drop i xs)))) (sym begins) ∙ e) h

pub long_later : {A : Type 0} (f : A → List ℕ) (xs : List A) (i : ℕ) (x : A) (first : Bool) (out new text all : List ℕ) → i < length xs → x ≡ get_or xs i x → first ≡ false → new ≡ out ++ 44 ∷ []
    → out ++ cond first (commas (map f (drop i xs))) (comma_each (map f (drop i xs))) ≡ text ++ all → 64 < length new + length (f x) → 64 < length text + length all
long_later f xs i x first out new text all small is later added e h =
    long_second out new (44 ∷ []) (f x) (comma_each (map f (drop (suc i) xs))) text all added
    (ap (λ l. out ++ comma_each (map f l)) (sym (opened xs i x small is))
    ∙ ap (λ b. out ++ cond b (commas (map f (drop i xs))) (comma_each (map f (drop i xs)))) (sym later) ∙ e) h

-- steps with their numbers
pub long_step : (face : Face) (xs : List (Step Numbered)) (i k : ℕ) (x : Step Numbered) (out text all : List ℕ) → i < length xs → x ≡ get_or xs i x
    → out ++ step_lines face its_number k (drop i xs) ≡ text ++ all → 64 < length out + length (decimal k ++ codes " " ++ step_line face its_number x) → 64 < length text + length all
long_step face xs i k x out text all small is e h =
    long_rest out (decimal k ++ codes " " ++ step_line face its_number x) (step_lines face its_number (k + 1) (drop (suc i) xs)) text all
    (ap (λ l. out ++ step_lines face its_number k l) (sym (opened xs i x small is)) ∙ e) h

-- lists of steps: at the steps of a list, and at its end
at_list : (face : Face) (xs : List (OpList Numbered)) (i k : ℕ) (x : OpList Numbered) (steps : List (Step Numbered)) (out text all : List ℕ) → i < length xs → x ≡ get_or xs i x → steps ≡ x.steps
    → out ++ list_lines face its_number k (drop i xs) ≡ text ++ all
    → out ++ (step_lines face its_number k steps ++ (line (op_name face x.op ++ end_text x.end) ++ list_lines face its_number (k + length x.steps) (drop (suc i) xs))) ≡ text ++ all
at_list face xs i k x steps out text all small is same e =
    ap (λ t. out ++ t) (sym (append_assoc (step_lines face its_number k steps) (line (op_name face x.op ++ end_text x.end)) (list_lines face its_number (k + length x.steps) (drop (suc i) xs))))
    ∙ ap (λ s. out ++ (step_lines face its_number k s ++ line (op_name face x.op ++ end_text x.end) ++ list_lines face its_number (k + length x.steps) (drop (suc i) xs))) same
    ∙ ap (λ l. out ++ list_lines face its_number k l) (sym (opened xs i x small is)) ∙ e

pub long_list : (face : Face) (xs : List (OpList Numbered)) (i k : ℕ) (x : OpList Numbered) (steps : List (Step Numbered)) (out text all : List ℕ) → i < length xs → x ≡ get_or xs i x → steps ≡ x.steps
    → out ++ list_lines face its_number k (drop i xs) ≡ text ++ all → 64 < length out + length (step_lines face its_number k steps) → 64 < length text + length all
long_list face xs i k x steps out text all small is same e h =
    long_rest out (step_lines face its_number k steps) (line (op_name face x.op ++ end_text x.end) ++ list_lines face its_number (k + length x.steps) (drop (suc i) xs)) text all
    (at_list face xs i k x steps out text all small is same e) h

pub long_list_end : (face : Face) (xs : List (OpList Numbered)) (i k : ℕ) (x : OpList Numbered) (steps : List (Step Numbered)) (out new text all : List ℕ) → i < length xs → x ≡ get_or xs i x → steps ≡ x.steps
    → new ≡ out ++ step_lines face its_number k steps
    → out ++ list_lines face its_number k (drop i xs) ≡ text ++ all → 64 < length new + length (line (op_name face x.op ++ end_text x.end)) → 64 < length text + length all
long_list_end face xs i k x steps out new text all small is same added e h =
    long_second out new (step_lines face its_number k steps) (line (op_name face x.op ++ end_text x.end)) (list_lines face its_number (k + length x.steps) (drop (suc i) xs)) text all added
    (at_list face xs i k x steps out text all small is same e) h

-- the first name with its value, and those behind them
pub named_front : (face : Face) (names : List NameFace) (values : List Value) (name : NameFace) (v : Value) → 1 ≤ length names → 1 ≤ length values → name ≡ get_or names 0 name → v ≡ get_or values 0 v
    → named_values face names values ≡ line (name.name ++ codes " = " ++ text_of face.sets v) ++ named_values face (drop 1 names) (drop 1 values)
named_front face [] values name v a b c d = let no : ⊥ = omega arith in absurd no
named_front face (n ∷ names) [] name v a b c d = let no : ⊥ = omega arith in absurd no
named_front face (n ∷ names) (w ∷ values) name v a b c d =
    ap (λ (m : NameFace). line (m.name ++ codes " = " ++ text_of face.sets w) ++ named_values face names values) (sym c)
    ∙ ap (λ u. line (name.name ++ codes " = " ++ text_of face.sets u) ++ named_values face names values) (sym d)

pub long_named : (face : Face) (names : List NameFace) (values : List Value) (name : NameFace) (v : Value) (out text all : List ℕ) → 1 ≤ length names → 1 ≤ length values → name ≡ get_or names 0 name → v ≡ get_or values 0 v
    → out ++ named_values face names values ≡ text ++ all → 64 < length out + length (line (name.name ++ codes " = " ++ text_of face.sets v)) → 64 < length text + length all
long_named face names values name v out text all a b c d e h =
    long_rest out (line (name.name ++ codes " = " ++ text_of face.sets v)) (named_values face (drop 1 names) (drop 1 values)) text all
    (ap (λ t. out ++ t) (sym (named_front face names values name v a b c d)) ∙ e) h

tail_whole : {A : Type 0} (xs : List A) → take (length xs - 1) (drop 1 xs) ≡ drop 1 xs
tail_whole xs = take_all (length xs - 1) (drop 1 xs) (omega (arith, length-drop 1 xs))

pub named_on : (face : Face) (names : List NameFace) (values : List Value) (name : NameFace) (v : Value) (out new text all : List ℕ) → 1 ≤ length names → 1 ≤ length values → name ≡ get_or names 0 name → v ≡ get_or values 0 v
    → new ≡ out ++ line (name.name ++ codes " = " ++ text_of face.sets v) → out ++ named_values face names values ≡ text ++ all
    → new ++ named_values face (take (length names - 1) (drop 1 names)) (take (length values - 1) (drop 1 values)) ≡ text ++ all
named_on face names values name v out new text all a b c d added e =
    ap (λ ns. new ++ named_values face ns (take (length values - 1) (drop 1 values))) (tail_whole names)
    ∙ ap (λ vs. new ++ named_values face (drop 1 names) vs) (tail_whole values)
    ∙ ap (λ t. t ++ named_values face (drop 1 names) (drop 1 values)) added
    ∙ append_assoc out (line (name.name ++ codes " = " ++ text_of face.sets v)) (named_values face (drop 1 names) (drop 1 values))
    ∙ ap (λ t. out ++ t) (sym (named_front face names values name v a b c d)) ∙ e

-- values in brackets, where there are any
pub results_some : (face : Face) (values : List Value) → 1 ≤ length values → values_text face values ++ codes " <-- " ≡ results_text face values
results_some face [] some = let no : ⊥ = omega arith in absurd no
results_some face (v ∷ values) some = refl

pub params_some : (face : Face) (values : List Value) → 1 ≤ length values → codes "(" ++ values_text face values ++ codes ")" ≡ params_text face values
params_some face [] some = let no : ⊥ = omega arith in absurd no
params_some face (v ∷ values) some = refl
