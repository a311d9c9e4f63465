-- What is answered by what is made of answers.
use Rattle.std.proofs.Common.{◌≡◌, List, [], ◌∷◌, ◌++◌, Option, Some, None, Result, Ok, Err, refl, sym, ap, ◌∙◌, subst}
use Rattle.b_machine_grammar.specs.Cuts.{Piece, Stands, Next, Cutting, IsMade, IsBehindIf, IsFollowing, IsParted, IsPartedIf, IsRow, IsList}
use Rattle.b_stretches.specs.declared.Unread.{Unread}
use Rattle.b_stretches.specs.declared.Unread.TheVariants as unread
use Rattle.b_stretches.specs.declared.Stretch.{Stretch}
use Rattle.b_stretches.specs.declared.Split.{Split}
use Rattle.b_stretches.specs.Stretches.{pieces, next_of, behind, IsCutAs, Answers, IsHalvedAs}
use Rattle.b_stretches.proofs.Reading.{fails, made_fails, behind_is, parted_both, IsPartlyRead, list_go, list_fails, IsPartlyFollowed, follow_go, follow_fails}
use Rattle.b_stretches.specs.Making.{IsPair, IsMadeOf, IsPushed}

pub pair_on : {A B : Type 0} (R : A → Type 0) (T : B → Type 0) (Q : A × B → Type 0) → ((x : A) (y : B) → R x → T y → Q (x, y)) → ((z : A × B) → Q z → R z.0) → ((z : A × B) → Q z → T z.1)
    → (a : Result A Unread) (b : Result B Unread) (r : Result (A × B) Unread) → IsPair a b r → Answers R a → Answers T b → Answers Q r
pair_on R T Q both one two (Ok x) (Ok y) r p k l = subst (Answers Q) (sym p) (both x y k l)
pair_on R T Q both one two (Ok x) (Err e) r p k l = subst (Answers Q) (sym p) (fails T Q e (λ z q. (z.1, two z q)) l)
pair_on R T Q both one two (Err e) b r p k l = subst (Answers Q) (sym p) (fails R Q e (λ z q. (z.0, one z q)) k)

module _ {A B : Type 0} (by : Cutting) (R : Stands A) (T : Stands B) (ts : List Piece) (front back : Stretch) (k : IsHalvedAs (by ts) (Ok (front, back))) where
  pub parted_pair : (a : Result A Unread) (b : Result B Unread) (r : Result (A × B) Unread) → IsPair a b r → Answers (R (pieces front)) a → Answers (T (pieces back)) b → Answers (IsParted by R (λ s. T) ts) r
  parted_pair =
      pair_on (R (pieces front)) (T (pieces back)) (IsParted by R (λ s. T) ts)
      (λ x y u v. parted_both by R T ts front back k x y u v)
      (λ z q. rw k.0 q.0)
      (λ z q. behind_is T (by ts).1 (pieces back) z.1 k.1 q.1)

module _ {A B : Type 0} (by : Cutting) (R : Stands A) (S : Piece → Stands B) (ts : List Piece) (d : Split) (k : IsCutAs (by ts) d) where
  pub parted_if_pair : (a : Result A Unread) (b : Result (Option B) Unread) (r : Result (A × Option B) Unread) → IsPair a b r → Answers (R (pieces d.front)) a → Answers (IsBehindIf S (next_of d.next)) b → Answers (IsPartedIf by R S ts) r
  parted_if_pair =
      pair_on (R (pieces d.front)) (IsBehindIf S (next_of d.next)) (IsPartedIf by R S ts)
      (λ x y u v. (rw k.0 at u, rw k.1 at v))
      (λ z q. rw k.0 q.0)
      (λ z q. rw k.1 q.1)

  pub row_pair : (a : Result A Unread) (b : Result (List B) Unread) (r : Result (A × List B) Unread) → IsPair a b r → Answers (R (pieces d.front)) a → Answers (IsFollowing by S (next_of d.next)) b → Answers (IsRow by R S ts) r
  row_pair =
      pair_on (R (pieces d.front)) (IsFollowing by S (next_of d.next)) (IsRow by R S ts)
      (λ x y u v. (rw k.0 at u, rw k.1 at v))
      (λ z q. rw k.0 q.0)
      (λ z q. rw k.1 q.1)

pub made_on : {A B : Type 0} (f : A → B) (R : Stands A) (ts : List Piece) (a : Result A Unread) (r : Result B Unread) → IsMadeOf f a r → Answers (R ts) a → Answers (IsMade f R ts) r
made_on f R ts (Ok x) (Ok y) m k = (x, k, m)
made_on f R ts (Ok x) (Err e) m k = subst (λ (u : Unread). Answers (IsMade f R ts) (Err u)) (sym m) tt
made_on f R ts (Err e) r m k = subst (Answers (IsMade f R ts)) (sym m) (made_fails f R ts e k)

module _ {A : Type 0} (by : Cutting) (R : Stands A) (ts : List Piece) (done : List A) (s : Stretch) (d : Split) (read : IsPartlyRead by R ts done (Some s)) (k : IsCutAs (by (pieces s)) d) where
  pub list_push : {new : List A} {u : Unit {0}} (a : Result A Unread) → IsPushed done a new (Ok u) → Answers (R (pieces d.front)) a → IsPartlyRead by R ts new (behind d.next)
  list_push (Ok x) p h = subst (λ (l : List A). IsPartlyRead by R ts l (behind d.next)) (sym p) (list_go by R ts done s d read k x h)
  list_push (Err e) p h = absurd (cc)

  pub list_unpushed : (new : List A) (e : Unread) (a : Result A Unread) → IsPushed done a new (Err e) → Answers (R (pieces d.front)) a → Answers (IsList by R ts) (Err e)
  list_unpushed new e (Ok x) p h = subst (λ (v : Unread). Answers (IsList by R ts) (Err v)) (sym p) tt
  list_unpushed new e (Err v) p h = let same : e ≡ v = cc in subst (λ (w : Unread). Answers (IsList by R ts) (Err w)) (sym same) (list_fails by R ts done s d read k v h)

module _ {B : Type 0} (by : Cutting) (S : Piece → Stands B) (whole : Next) (done : List B) (p : Piece × List Piece) (d : Split) (read : IsPartlyFollowed by S whole done (Some p)) (k : IsCutAs (by p.1) d) where
  pub follow_push : {new : List B} {u : Unit {0}} (a : Result B Unread) → IsPushed done a new (Ok u) → Answers (S p.0 (pieces d.front)) a → IsPartlyFollowed by S whole new (next_of d.next)
  follow_push (Ok x) q h = subst (λ (l : List B). IsPartlyFollowed by S whole l (next_of d.next)) (sym q) (follow_go by S whole done p d read k x h)
  follow_push (Err e) q h = absurd (cc)

  pub follow_unpushed : (new : List B) (e : Unread) (a : Result B Unread) → IsPushed done a new (Err e) → Answers (S p.0 (pieces d.front)) a → Answers (IsFollowing by S whole) (Err e)
  follow_unpushed new e (Ok x) q h = subst (λ (v : Unread). Answers (IsFollowing by S whole) (Err v)) (sym q) tt
  follow_unpushed new e (Err v) q h = let same : e ≡ v = cc in subst (λ (w : Unread). Answers (IsFollowing by S whole) (Err w)) (sym same) (follow_fails by S whole done p d read k v h)

module _ {B : Type 0} (T : Stands B) (p : Piece × List Piece) where
  some_behind : (y : Option B) → IsBehindIf (λ (t : Piece). T) (Some p) y → (x : B) × T p.1 x
  some_behind None h = absurd h
  some_behind (Some x) h = (x, h)

  otherwise_some : (a : Result B Unread) (r : Result (Option B) Unread) → IsMadeOf (λ (x : B). Some x) a r → Answers (T p.1) a → Answers (IsBehindIf (λ (t : Piece). T) (Some p)) r
  otherwise_some (Ok x) (Ok y) m k = subst (IsBehindIf (λ (t : Piece). T) (Some p)) (sym m) k
  otherwise_some (Ok x) (Err e) m k = subst (λ (u : Unread). Answers (IsBehindIf (λ (t : Piece). T) (Some p)) (Err u)) (sym m) tt
  otherwise_some (Err e) r m k = subst (Answers (IsBehindIf (λ (t : Piece). T) (Some p))) (sym m) (fails (T p.1) (IsBehindIf (λ (t : Piece). T) (Some p)) e some_behind k)

  pub otherwise_on : (q : Next) → q ≡ Some p → (a : Result B Unread) (r : Result (Option B) Unread) → IsMadeOf (λ (x : B). Some x) a r → Answers (T p.1) a → Answers (IsBehindIf (λ (t : Piece). T) q) r
  otherwise_on q s a r m k = subst (λ (n : Next). Answers (IsBehindIf (λ (t : Piece). T) n) r) (sym s) (otherwise_some a r m k)
