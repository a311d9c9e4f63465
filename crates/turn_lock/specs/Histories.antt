-- Histories: lists that only grow at their end.
use Rattle.std.specs.Prelude.{◌≡◌, ◌≤◌, List, ◌++◌, length, cond, nat_lt}

-- the longer list begins with the shorter
abbrev pub Begins : {A : Type 0} → List A → List A → Type 0
Begins {A} shorter longer = (rest : List A) × (longer ≡ shorter ++ rest)

-- the second list is the first, or the first with one entry more
abbrev pub GrowsByOne : {A : Type 0} → List A → List A → Type 0
GrowsByOne {A} before after = (added : List A) × (after ≡ before ++ added) × (length added ≤ 1)

-- of two lists the longer, and of two that are as long the first
abbrev pub longer_of : {A : Type 0} → List A → List A → List A
longer_of xs ys = cond (nat_lt (length xs) (length ys)) ys xs
