-- What was given so far, and what was taken.
use Rattle.std.proofs.Common.{◌≡◌, ◌≢◌, ◌∙◌, sym, ap, subst, refl, ⊎_elim, inl, inr, ℕ, ◌+◌, ◌<◌, ◌≤◌, List, [], ◌∷◌, ◌++◌, length, take, drop, Option, Some, None, arith, append_assoc, length-append, take-append-drop}
use Rattle.std.proofs.lemmas.List.{append-nil, take_at, take_all, take-append-le}
use Rattle.std.proofs.lemmas.Bool.{cases_lt}
use Rattle.std.proofs.Math.Seq.{take-append_seam, take-append-add, take-length}
use Rattle.std.specs.Prelude.{All, Result, Ok, Err, OnOk, OnErr}
use Rattle.host_io.specs.Outside.{before_told, behind_told, Gives, Takes, HasCause}
use Rattle.host_top.specs.Runs.{SaysFront, Says}
use Rattle.host_top.specs.Taking.{PassesRoom}

pub record GivenSoFar (old : Option (List ℕ)) (bytes : List ℕ) (held : Option (List ℕ)) (rest : List ℕ) : Type 0 where
  pub front : List ℕ
  pub split : bytes ≡ front ++ rest
  pub held_is : held ≡ behind_told old front

pub nothing_behind : (old : Option (List ℕ)) → old ≡ behind_told old []
nothing_behind None = refl
nothing_behind (Some held) = ap (λ b. Some b) (sym (append-nil held))

behind_twice : (old : Option (List ℕ)) (a b : List ℕ) → behind_told (behind_told old a) b ≡ behind_told old (a ++ b)
behind_twice None a b = refl
behind_twice (Some held) a b = ap (λ l. Some l) (append_assoc held a b)

before_twice : (a b : List ℕ) (o : Option (List ℕ)) → before_told a (before_told b o) ≡ before_told (a ++ b) o
before_twice a b None = refl
before_twice a b (Some rest) = ap (λ l. Some l) (sym (append_assoc a b rest))

pub given_start : (old : Option (List ℕ)) (bytes : List ℕ) → GivenSoFar old bytes old bytes
given_start old bytes = record { front = []; split = refl; held_is = nothing_behind old }

pub given_more : (old : Option (List ℕ)) (bytes : List ℕ) (held : Option (List ℕ)) (rest : List ℕ) (count : ℕ) (new : Option (List ℕ)) → GivenSoFar old bytes held rest → Gives held count rest new → GivenSoFar old bytes new (drop count rest)
given_more old bytes held rest count new so_far gives = record {
  front = so_far.front ++ take count rest;
  split = so_far.split ∙ ap (λ (l : List ℕ). so_far.front ++ l) (sym (take-append-drop count rest)) ∙ sym (append_assoc so_far.front (take count rest) (drop count rest));
  held_is = gives.given ∙ ap (λ h. behind_told h (take count rest)) so_far.held_is ∙ behind_twice old so_far.front (take count rest);
}

pub given_all : (old : Option (List ℕ)) (bytes : List ℕ) (held : Option (List ℕ)) (rest : List ℕ) → GivenSoFar old bytes held rest → length rest ≡ 0 → held ≡ behind_told old bytes
given_all old bytes held [] so_far none = so_far.held_is ∙ ap (behind_told old) (sym (so_far.split ∙ append-nil so_far.front))
given_all old bytes held (b ∷ rest) so_far none = absurd (omega arith)

pub given_front : (old : Option (List ℕ)) (bytes : List ℕ) (held : Option (List ℕ)) (rest : List ℕ) → GivenSoFar old bytes held rest → (n : ℕ) × (held ≡ behind_told old (take n bytes))
given_front old bytes held rest so_far =
    (length so_far.front, so_far.held_is ∙ ap (behind_told old) (sym (ap (take (length so_far.front)) so_far.split ∙ take_at so_far.front rest (length so_far.front) refl)))

pub passes : (old : Option (List ℕ)) (room : ℕ) (line : List ℕ) (left : Option (List ℕ)) (count : ℕ) (piece : List ℕ) (new : Option (List ℕ))
    → old ≡ before_told line left → Takes left count piece new → length line ≡ room → 0 < length (take count piece) → All (λ b. b ≢ 10) line → PassesRoom old room new
passes old room line left count piece new taken takes full some one = record {
  bytes = line ++ take count piece;
  taken = taken ∙ ap (before_told line) takes.taken ∙ before_twice line (take count piece) new;
  more = omega (arith, length-append line (take count piece));
  one = subst (All (λ b. b ≢ 10)) (sym (ap (λ n. take n (line ++ take count piece)) (sym full) ∙ take-append_seam line (take count piece))) one;
}

-- a front of the first of two texts is one of both
pub front_first : (old held : Option (List ℕ)) (a b : List ℕ) → SaysFront old held a → SaysFront old held (a ++ b)
front_first old held a b front = ⊎_elim
    (λ (within : front.0 < length a). (front.0, front.1 ∙ ap (behind_told old) (sym (take-append-le front.0 a b (omega arith)))))
    (λ (past : length a ≤ front.0). (length a, front.1 ∙ ap (behind_told old) (take_all front.0 a past ∙ sym (take-append_seam a b))))
    (cases_lt front.0 (length a))

-- the first of two texts and a front of the second is a front of both
pub front_second : (old held new : Option (List ℕ)) (a b : List ℕ) → held ≡ behind_told old a → SaysFront held new b → SaysFront old new (a ++ b)
front_second old held new a b is front =
    (length a + front.0, front.1 ∙ ap (λ h. behind_told h (take front.0 b)) is ∙ behind_twice old a (take front.0 b) ∙ ap (behind_told old) (sym (take-append-add a b front.0)))

-- both texts
pub given_both : (old held new : Option (List ℕ)) (a b : List ℕ) → held ≡ behind_told old a → new ≡ behind_told held b → new ≡ behind_told old (a ++ b)
given_both old held new a b is more = more ∙ ap (λ h. behind_told h b) is ∙ behind_twice old a b

-- what was given whole, or a front of it after a fault
pub says : {T E : Type 0} (old new : Option (List ℕ)) (before now : ℕ) (text : List ℕ) (given : Result T E) → OnOk given (new ≡ behind_told old text) → OnErr given (SaysFront old new text) → HasCause before now given → Says old new before now text
says old new before now text (Ok x) whole front cause = record { front = (length text, whole ∙ ap (behind_told old) (sym (take-length text))); whole = inr whole }
says old new before now text (Err e) whole front cause = record { front = front; whole = inl cause.failed }

pub on_err : {T E : Type 0} (r : Result T E) (P : Type 0) → P → OnErr r P
on_err (Ok x) P p = tt
on_err (Err e) P p = p

pub then_err : {T E : Type 0} (r : Result T E) (P Q : Type 0) → (P → Q) → OnErr r P → OnErr r Q
then_err (Ok x) P Q f p = tt
then_err (Err e) P Q f p = f p
