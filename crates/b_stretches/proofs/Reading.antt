-- What is answered for a list from what is answered for its parts.
use Rattle.std.proofs.Common.{◌≡◌, ◌<◌, ◌+◌, ℕ, zero, suc, Bool, true, false, List, [], ◌∷◌, ◌++◌, Option, Some, None, Result, Ok, Err, length, arith, refl, sym, ap, ◌∙◌, subst, append_assoc, append-nil}
use Rattle.b_machine_grammar.specs.declared.words.Word.{Word}
use Rattle.b_machine_grammar.specs.declared.words.Separator.{Separator}
use Rattle.b_machine_grammar.specs.declared.words.Separator.TheVariants as at
use Rattle.b_machine_grammar.specs.Cuts.{Piece, Stands, Next, Cutting, cut, cut_at, cut_before, unless_last, IsMade, IsSuch, IsLast, IsEnded, IsEnclosed, IsBehind, IsBehindIf, IsFollowing, IsParted, IsPartedIf, IsRow, IsList}
use Rattle.b_stretches.specs.declared.Unread.{Unread}
use Rattle.b_stretches.specs.declared.Unread.TheVariants as unread
use Rattle.b_stretches.specs.declared.Stretch.{Stretch}
use Rattle.b_stretches.specs.declared.Split.{Split}
use Rattle.b_stretches.specs.Stretches.{pieces, Follow, piece_of, next_of, behind, IsCutAs, IsNoMachine, Answers, IsEndedAs, IsEnclosedAs, IsFollowedBy, IsHalvedAs}
use Rattle.b_stretches.proofs.Pieces.{next_less}

-- ---- in general

-- nothing is there, where that would need what isn't there
pub fails : {A B : Type 0} (R : A → Type 0) (Q : B → Type 0) (e : Unread) → ((y : B) → Q y → (x : A) × R x) → Answers R (Err e) → Answers Q (Err e)
fails R Q (unread.NoMachine place) more k = λ y q. k (more y q).0 (more y q).1
fails R Q unread.Memory more k = tt

-- nothing is there
pub nothing : {B : Type 0} (Q : B → Type 0) (e : Unread) → IsNoMachine e → ((y : B) → Q y → ⊥) → Answers Q (Err e)
nothing Q (unread.NoMachine place) i h = h
nothing Q unread.Memory i h = absurd i

-- what holds of the same things is answered the same
pub answers_same : {A : Type 0} (R Q : A → Type 0) (r : Result A Unread) → ((x : A) → R x → Q x) → ((x : A) → Q x → R x) → Answers R r → Answers Q r
answers_same R Q (Ok x) to from k = to x k
answers_same R Q (Err e) to from k = fails R Q e (λ y q. (y, from y q)) k

pub made_fails : {A B : Type 0} (f : A → B) (R : Stands A) (ts : List Piece) (e : Unread) → Answers (R ts) (Err e) → Answers (IsMade f R ts) (Err e)
made_fails f R ts e k = fails (R ts) (IsMade f R ts) e (λ y q. (q.0, q.1)) k

-- ---- two parts

pub behind_is : {B : Type 0} (T : Stands B) (q : Next) (back : List Piece) (y : B) → IsFollowedBy q back → IsBehind (λ s. T) q y → T back y
behind_is T None back y k b = absurd k
behind_is T (Some p) back y k b = rw k b

pub is_behind : {B : Type 0} (T : Stands B) (q : Next) (back : List Piece) (y : B) → IsFollowedBy q back → T back y → IsBehind (λ s. T) q y
is_behind T None back y k b = absurd k
is_behind T (Some p) back y k b = rw k at b

behind_none : {B : Type 0} (S : Piece → Stands B) (q : Next) (y : B) → q ≡ None → IsBehind S q y → ⊥
behind_none S None y e b = b
behind_none S (Some p) y e b = absurd (cc)

module _ {A B : Type 0} (by : Cutting) (R : Stands A) (T : Stands B) (ts : List Piece) where
  pub parted_none : (e : Unread) → IsHalvedAs (by ts) (Err e) → Answers (IsParted by R (λ s. T) ts) (Err e)
  parted_none e k = nothing (IsParted by R (λ s. T) ts) e k.0 (λ y q. behind_none (λ s. T) (by ts).1 y.1 k.1 q.1)

  module _ (front back : Stretch) (k : IsHalvedAs (by ts) (Ok (front, back))) where
    pub parted_first : (e : Unread) → Answers (R (pieces front)) (Err e) → Answers (IsParted by R (λ s. T) ts) (Err e)
    parted_first e a = fails (R (pieces front)) (IsParted by R (λ s. T) ts) e (λ y q. (y.0, rw k.0 q.0)) a

    pub parted_second : (e : Unread) → Answers (T (pieces back)) (Err e) → Answers (IsParted by R (λ s. T) ts) (Err e)
    parted_second e a = fails (T (pieces back)) (IsParted by R (λ s. T) ts) e (λ y q. (y.1, behind_is T (by ts).1 (pieces back) y.1 k.1 q.1)) a

    pub parted_both : (x : A) (y : B) → R (pieces front) x → T (pieces back) y → IsParted by R (λ s. T) ts (x, y)
    parted_both x y a b = (rw k.0 at a, is_behind T (by ts).1 (pieces back) y k.1 b)

module _ {A B : Type 0} (by : Cutting) (R : Stands A) (S : Piece → Stands B) (ts : List Piece) (d : Split) (k : IsCutAs (by ts) d) where
  pub parted_if_first : (e : Unread) → Answers (R (pieces d.front)) (Err e) → Answers (IsPartedIf by R S ts) (Err e)
  parted_if_first e a = fails (R (pieces d.front)) (IsPartedIf by R S ts) e (λ y q. (y.0, rw k.0 q.0)) a

  pub parted_if_second : (e : Unread) → Answers (IsBehindIf S (next_of d.next)) (Err e) → Answers (IsPartedIf by R S ts) (Err e)
  parted_if_second e a = fails (IsBehindIf S (next_of d.next)) (IsPartedIf by R S ts) e (λ y q. (y.1, rw k.1 q.1)) a

  pub parted_if_both : (x : A) (y : Option B) → R (pieces d.front) x → IsBehindIf S (next_of d.next) y → IsPartedIf by R S ts (x, y)
  parted_if_both x y a b = (rw k.0 at a, rw k.1 at b)

-- ---- what may follow

module _ {B : Type 0} (T : Stands B) (q : Next) (p : Piece × List Piece) (s : q ≡ Some p) where
  behind_some : (y : Option B) → IsBehindIf (λ (t : Piece). T) (Some p) y → (x : B) × T p.1 x
  behind_some None k = absurd k
  behind_some (Some x) k = (x, k)

  pub behind_if_fails : (e : Unread) → Answers (T p.1) (Err e) → Answers (IsBehindIf (λ (t : Piece). T) q) (Err e)
  behind_if_fails e k = subst (λ (n : Next). Answers (IsBehindIf (λ (t : Piece). T) n) (Err e)) (sym s) (fails (T p.1) (IsBehindIf (λ (t : Piece). T) (Some p)) e behind_some k)

  pub behind_if_found : (x : B) → T p.1 x → IsBehindIf (λ (t : Piece). T) q (Some x)
  behind_if_found x k = rw s k

-- ---- between two words

module _ {A : Type 0} (by : Cutting) (R : Stands A) (ts : List Piece) where
  pub ended_none : (e : Unread) → IsEndedAs (by ts) (Err e) → Answers (IsEnded by R ts) (Err e)
  ended_none e k = nothing (IsEnded by R ts) e k.0 (λ y q. k.1 q.1)

  pub ended_on : (s : Stretch) (r : Result A Unread) → IsEndedAs (by ts) (Ok s) → Answers (R (pieces s)) r → Answers (IsEnded by R ts) r
  ended_on s r k a = answers_same (R (pieces s)) (IsEnded by R ts) r (λ x h. (rw k.0 at h, k.1)) (λ x q. rw k.0 q.0) a

pub enclosed_none : {A : Type 0} (w : Word) (by : Cutting) (R : Stands A) (ts : List Piece) (e : Unread) → IsEnclosedAs w by ts (Err e) → Answers (IsEnclosed w by R ts) (Err e)
enclosed_none w by R [] e k = nothing (IsEnclosed w by R []) e k (λ y q. q)
enclosed_none w by R (s ∷ ts) e k = nothing (IsEnclosed w by R (s ∷ ts)) e k.0 (λ y q. k.1 q.0 q.1.1)

pub enclosed_on : {A : Type 0} (w : Word) (by : Cutting) (R : Stands A) (ts : List Piece) (s : Stretch) (r : Result A Unread) → IsEnclosedAs w by ts (Ok s) → Answers (R (pieces s)) r → Answers (IsEnclosed w by R ts) r
enclosed_on w by R [] s r k a = absurd k
enclosed_on w by R (t ∷ ts) s r k a = answers_same (R (pieces s)) (IsEnclosed w by R (t ∷ ts)) r (λ x h. (k.0, (rw k.1.0 at h, k.1.1))) (λ x q. rw k.1.0 q.1.0) a

-- ---- lists

-- how much is left
abbrev pub left : Option Stretch → ℕ
left None = zero
left (Some s) = suc (length (pieces s))

module _ {A : Type 0} (by : Cutting) (R : Stands A) where
  -- what a rest stands for
  abbrev pub IsRest : Option Stretch → List A → Type 0
  IsRest None [] = Unit {0}
  IsRest None (y ∷ ys) = ⊥
  IsRest (Some s) ys = IsList by R (pieces s) ys

  -- of the whole list these are read, and this rest is left
  pub record IsPartlyRead (ts : List Piece) (done : List A) (rest : Option Stretch) : Type 0 where
    pub sound : (ys : List A) → IsRest rest ys → IsList by R ts (done ++ ys)
    pub whole : (xs : List A) → IsList by R ts xs → (ys : List A) × IsRest rest ys

  pub list_begin : (s : Stretch) → IsPartlyRead (pieces s) [] (Some s)
  list_begin s = record { sound = λ ys k. k; whole = λ xs k. (xs, k) }

  follows : (q : Option Follow) (ys : List A) → IsRest (behind q) ys → IsFollowing by (λ s. R) (next_of q) ys
  follows None [] k = tt
  follows None (y ∷ ys) k = absurd k
  follows (Some p) [] k = absurd k
  follows (Some p) (y ∷ ys) k = k

  followed : (q : Option Follow) (ys : List A) → IsFollowing by (λ s. R) (next_of q) ys → IsRest (behind q) ys
  followed None [] k = tt
  followed None (y ∷ ys) k = absurd k
  followed (Some p) [] k = absurd k
  followed (Some p) (y ∷ ys) k = k

  others : (ts : List Piece) (d : Split) (xs : List A) → IsCutAs (by ts) d → IsList by R ts xs → (ys : List A) × IsRest (behind d.next) ys
  others ts d [] k l = absurd l
  others ts d (x ∷ xs) k l = (xs, followed d.next xs (rw k.1 l.1))

  one : (ts : List Piece) (d : Split) (xs : List A) → IsCutAs (by ts) d → IsList by R ts xs → (x : A) × R (pieces d.front) x
  one ts d [] k l = absurd l
  one ts d (x ∷ xs) k l = (x, rw k.0 l.0)

  module _ (ts : List Piece) (done : List A) (s : Stretch) (d : Split) (read : IsPartlyRead ts done (Some s)) (k : IsCutAs (by (pieces s)) d) where
    pub list_go : (x : A) → R (pieces d.front) x → IsPartlyRead ts (done ++ x ∷ []) (behind d.next)
    list_go x a = record {
      sound = λ ys q. subst (IsList by R ts) (sym (append_assoc done (x ∷ []) ys)) (read.sound (x ∷ ys) (rw k.0 at a, rw k.1 at (follows d.next ys q)));
      whole = λ xs l. let rest = read.whole xs l in others (pieces s) d rest.0 k rest.1;
    }

    pub list_fails : (e : Unread) → Answers (R (pieces d.front)) (Err e) → Answers (IsList by R ts) (Err e)
    list_fails e a = fails (R (pieces d.front)) (IsList by R ts) e (λ xs l. let rest = read.whole xs l in one (pieces s) d rest.0 k rest.1) a

  pub list_end : (ts : List Piece) (done : List A) → IsPartlyRead ts done None → IsList by R ts done
  list_end ts done read = rw (append-nil done) at (read.sound [] tt)

-- ---- what follows a first part

-- how much is left
abbrev pub left_behind : Next → ℕ
left_behind None = zero
left_behind (Some p) = suc (length p.1)

module _ {B : Type 0} (by : Cutting) (S : Piece → Stands B) where
  -- of what follows these are read, and this is left
  pub record IsPartlyFollowed (whole : Next) (done : List B) (rest : Next) : Type 0 where
    pub sound : (ys : List B) → IsFollowing by S rest ys → IsFollowing by S whole (done ++ ys)
    pub all : (xs : List B) → IsFollowing by S whole xs → (ys : List B) × IsFollowing by S rest ys

  pub follow_begin : (q : Next) → IsPartlyFollowed q [] q
  follow_begin q = record { sound = λ ys k. k; all = λ xs k. (xs, k) }

  more : (p : Piece × List Piece) (d : Split) (xs : List B) → IsCutAs (by p.1) d → IsFollowing by S (Some p) xs → (ys : List B) × IsFollowing by S (next_of d.next) ys
  more p d [] k l = absurd l
  more p d (x ∷ xs) k l = (xs, rw k.1 l.1)

  here : (p : Piece × List Piece) (d : Split) (xs : List B) → IsCutAs (by p.1) d → IsFollowing by S (Some p) xs → (x : B) × S p.0 (pieces d.front) x
  here p d [] k l = absurd l
  here p d (x ∷ xs) k l = (x, rw k.0 l.0)

  module _ (whole : Next) (done : List B) (p : Piece × List Piece) (d : Split) (read : IsPartlyFollowed whole done (Some p)) (k : IsCutAs (by p.1) d) where
    pub follow_go : (x : B) → S p.0 (pieces d.front) x → IsPartlyFollowed whole (done ++ x ∷ []) (next_of d.next)
    follow_go x a = record {
      sound = λ ys q. subst (IsFollowing by S whole) (sym (append_assoc done (x ∷ []) ys)) (read.sound (x ∷ ys) (rw k.0 at a, rw k.1 at q));
      all = λ xs l. let rest = read.all xs l in more p d rest.0 k rest.1;
    }

    pub follow_fails : (e : Unread) → Answers (S p.0 (pieces d.front)) (Err e) → Answers (IsFollowing by S whole) (Err e)
    follow_fails e a = fails (S p.0 (pieces d.front)) (IsFollowing by S whole) e (λ xs l. let rest = read.all xs l in here p d rest.0 k rest.1) a

  pub follow_end : (whole : Next) (done : List B) → IsPartlyFollowed whole done None → IsFollowing by S whole done
  follow_end whole done read = rw (append-nil done) at (read.sound [] tt)

module _ {A B : Type 0} (by : Cutting) (R : Stands A) (S : Piece → Stands B) (ts : List Piece) (d : Split) (k : IsCutAs (by ts) d) where
  pub row_first : (e : Unread) → Answers (R (pieces d.front)) (Err e) → Answers (IsRow by R S ts) (Err e)
  row_first e a = fails (R (pieces d.front)) (IsRow by R S ts) e (λ y q. (y.0, rw k.0 q.0)) a

  pub row_rest : (e : Unread) → Answers (IsFollowing by S (next_of d.next)) (Err e) → Answers (IsRow by R S ts) (Err e)
  row_rest e a = fails (IsFollowing by S (next_of d.next)) (IsRow by R S ts) e (λ y q. (y.1, rw k.1 q.1)) a

  pub row_both : (x : A) (ys : List B) → R (pieces d.front) x → IsFollowing by S (next_of d.next) ys → IsRow by R S ts (x, ys)
  row_both x ys a b = (rw k.0 at a, rw k.1 at b)

-- ---- less is left

abbrev followed_by : Piece → List Piece → Next
followed_by s l = Some (s, l)

unless_some : (r p : Piece × List Piece) → unless_last (Some r) ≡ Some p → Some r ≡ Some p
unless_some r p e = go r.1 refl e
  where
    go : (l : List Piece) → r.1 ≡ l → unless_last (Some r) ≡ Some p → Some r ≡ Some p
    go [] f e = let none = rw f at e in absurd (cc)
    go (t ∷ ts) f e = let same = rw f at e in ap (followed_by r.0) f ∙ same

unless_same : (q : Next) (p : Piece × List Piece) → unless_last q ≡ Some p → q ≡ Some p
unless_same None p e = absurd (cc)
unless_same (Some r) p e = unless_some r p e

less_from : (s : Stretch) (whole : Next) → ((p : Piece × List Piece) → whole ≡ Some p → length p.1 < length (pieces s)) → (q : Option Follow) → next_of q ≡ whole → left (behind q) < left (Some s)
less_from s whole less None e = omega arith
less_from s whole less (Some p) e = let l : length (pieces p.2) < length (pieces s) = less (piece_of p, pieces p.2) (sym e) in omega arith

pub left_less : (at : Separator) (s : Stretch) (d : Split) → IsCutAs (cut at (pieces s)) d → left (behind d.next) < left (Some s)
left_less at s d k = less_from s (cut at (pieces s)).1 (next_less at (pieces s)) d.next k.1

pub left_less_before : (w : Word) (s : Stretch) (d : Split) → IsCutAs (cut_before w (pieces s)) d → left (behind d.next) < left (Some s)
left_less_before w s d k = less_from s (cut_before w (pieces s)).1 (λ p e. next_less (at.At w) (pieces s) p (unless_same (cut_at w (pieces s)).1 p e)) d.next k.1

pub follow_less : (at : Separator) (p : Piece × List Piece) (d : Split) → IsCutAs (cut at p.1) d → left_behind (next_of d.next) < left_behind (Some p)
follow_less at p d k = go (next_of d.next) k.1
  where
    go : (q : Next) → q ≡ (cut at p.1).1 → left_behind q < suc (length p.1)
    go None e = omega arith
    go (Some r) e = let l : length r.1 < length p.1 = next_less at p.1 r (sym e) in omega arith
