-- Each way to cut leaves at most one reading.
use Rattle.std.proofs.Common.{◌≡◌, Bool, List, [], ◌∷◌, Option, Some, None, refl, sym, ap, ◌∙◌}
use Rattle.b_machine_grammar.specs.declared.words.Word.{Word}
use Rattle.b_machine_grammar.specs.Cuts.{Piece, Stands, Next, Cutting, IsNever, IsMade, IsSuch, IsEnded, IsEnclosed, IsBehind, IsBehindIf, IsFollowing, IsParted, IsPartedIf, IsRow, IsList}

abbrev pub IsUnique : {A : Type 0} → Stands A → Type 0
IsUnique {A} R = (ts : List Piece) (x y : A) → R ts x → R ts y → x ≡ y

-- ---- pairs

pub pair_same : {A B : Type 0} (x y : A × B) → x.0 ≡ y.0 → x.1 ≡ y.1 → x ≡ y
pair_same {A} {B} x y e f = ap (λ (z : A). let w : A × B = (z, x.1) in w) e ∙ ap (λ (z : B). let w : A × B = (y.0, z) in w) f

-- ---- one by one

pub never_unique : {A : Type 0} → IsUnique {A = A} IsNever
never_unique ts x y c d = absurd c

pub made_unique : {A B : Type 0} (f : A → B) (R : Stands A) → IsUnique R → IsUnique (IsMade f R)
made_unique f R unique ts x y c d = c.2 ∙ ap f (unique ts c.0 d.0 c.1 d.1) ∙ sym d.2

pub such_unique : {A : Type 0} (test : A → Bool) (R : Stands A) → IsUnique R → IsUnique (IsSuch test R)
such_unique test R unique ts x y c d = unique ts x y c.0 d.0

pub ended_unique : {A : Type 0} (by : Cutting) (R : Stands A) → IsUnique R → IsUnique (IsEnded by R)
ended_unique by R unique ts x y c d = unique (by ts).0 x y c.0 d.0

pub enclosed_unique : {A : Type 0} (opening : Word) (by : Cutting) (R : Stands A) → IsUnique R → IsUnique (IsEnclosed opening by R)
enclosed_unique opening by R unique [] x y c d = absurd c
enclosed_unique opening by R unique (s ∷ ts) x y c d = ended_unique by R unique ts x y c.1 d.1

pub behind_unique : {B : Type 0} (S : Piece → Stands B) → ((s : Piece) → IsUnique (S s)) → (q : Next) (x y : B) → IsBehind S q x → IsBehind S q y → x ≡ y
behind_unique S unique None x y c d = absurd c
behind_unique S unique (Some p) x y c d = unique p.0 p.1 x y c d

pub behind_if_unique : {B : Type 0} (S : Piece → Stands B) → ((s : Piece) → IsUnique (S s)) → (q : Next) (x y : Option B) → IsBehindIf S q x → IsBehindIf S q y → x ≡ y
behind_if_unique S unique None None None c d = refl
behind_if_unique S unique None None (Some y) c d = absurd d
behind_if_unique S unique None (Some x) y c d = absurd c
behind_if_unique S unique (Some p) None y c d = absurd c
behind_if_unique S unique (Some p) (Some x) None c d = absurd d
behind_if_unique S unique (Some p) (Some x) (Some y) c d = ap Some (unique p.0 p.1 x y c d)

pub following_unique : {B : Type 0} (by : Cutting) (S : Piece → Stands B) → ((s : Piece) → IsUnique (S s)) → (q : Next) (xs ys : List B) → IsFollowing by S q xs → IsFollowing by S q ys → xs ≡ ys
following_unique by S unique None [] [] c d = refl
following_unique by S unique None [] (y ∷ ys) c d = absurd d
following_unique by S unique None (x ∷ xs) ys c d = absurd c
following_unique by S unique (Some p) [] ys c d = absurd c
following_unique by S unique (Some p) (x ∷ xs) [] c d = absurd d
following_unique by S unique (Some p) (x ∷ xs) (y ∷ ys) c d =
    ap (λ z. z ∷ xs) (unique p.0 (by p.1).0 x y c.0 d.0) ∙ ap (λ zs. y ∷ zs) (following_unique by S unique (by p.1).1 xs ys c.1 d.1)

pub parted_unique : {A B : Type 0} (by : Cutting) (R : Stands A) (S : Piece → Stands B) → IsUnique R → ((s : Piece) → IsUnique (S s)) → IsUnique (IsParted by R S)
parted_unique by R S first second ts x y c d =
    pair_same x y (first (by ts).0 x.0 y.0 c.0 d.0) (behind_unique S second (by ts).1 x.1 y.1 c.1 d.1)

pub parted_if_unique : {A B : Type 0} (by : Cutting) (R : Stands A) (S : Piece → Stands B) → IsUnique R → ((s : Piece) → IsUnique (S s)) → IsUnique (IsPartedIf by R S)
parted_if_unique by R S first second ts x y c d =
    pair_same x y (first (by ts).0 x.0 y.0 c.0 d.0) (behind_if_unique S second (by ts).1 x.1 y.1 c.1 d.1)

pub row_unique : {A B : Type 0} (by : Cutting) (R : Stands A) (S : Piece → Stands B) → IsUnique R → ((s : Piece) → IsUnique (S s)) → IsUnique (IsRow by R S)
row_unique by R S first second ts x y c d =
    pair_same x y (first (by ts).0 x.0 y.0 c.0 d.0) (following_unique by S second (by ts).1 x.1 y.1 c.1 d.1)

pub list_unique : {A : Type 0} (by : Cutting) (R : Stands A) → IsUnique R → IsUnique (IsList by R)
list_unique by R unique ts [] y c d = absurd c
list_unique by R unique ts (x ∷ xs) [] c d = absurd d
list_unique by R unique ts (x ∷ xs) (y ∷ ys) c d =
    ap (λ z. z ∷ xs) (unique (by ts).0 x y c.0 d.0) ∙ ap (λ zs. y ∷ zs) (following_unique by (λ s. R) (λ s. unique) (by ts).1 xs ys c.1 d.1)
