-- Ways to cut a list of lexemes at its separators outside brackets. The grammar of machines is made of them.
use Rattle.std.specs.Prelude.{◌≡◌, ℕ, zero, suc, ◌-◌, Bool, true, false, List, [], ◌∷◌, Option, Some, None, if◌then◌else◌}
use Rattle.b_grammar.specs.declared.Lexeme.{Lexeme}
use Rattle.b_machine_grammar.specs.declared.words.Word.{Word}
use Rattle.b_machine_grammar.specs.declared.words.Separator.{Separator}
use Rattle.b_machine_grammar.specs.declared.words.Separator.TheVariants as at
use Rattle.b_machine_grammar.specs.Words.{opens, closes, separates}

-- a lexeme with what it is to the grammar of machines
abbrev pub Piece : Type 0
Piece = Word × Lexeme

-- what a list of lexemes stands for
abbrev pub Stands : Type 0 → Type 1
Stands A = List Piece → A → Type 0

-- ---- cuts

-- how many brackets are open behind a word, where so many are open before it; never fewer than none
abbrev pub depth_behind : Word → ℕ → ℕ
depth_behind w depth = if opens w then suc depth else if closes w then depth - 1 else depth

-- a separator counts where no bracket is open
abbrev pub ends_part : Separator → ℕ → Word → Bool
ends_part at zero w = separates at w
ends_part at (suc depth) w = false

-- a separator and what is behind it, if there is one
abbrev pub Next : Type 0
Next = Option (Piece × List Piece)

-- what stands before the first separator, and what follows
abbrev pub Cut : Type 0
Cut = List Piece × Next

abbrev pub and_before : Piece → Cut → Cut
and_before s c = (s ∷ c.0, c.1)

-- the cut of a list, where so many brackets are open before it
abbrev pub cut_from : Separator → ℕ → List Piece → Cut
cut_from at depth [] = ([], None)
cut_from at depth (s ∷ ts) = if ends_part at depth s.0 then ([], Some (s, ts)) else and_before s (cut_from at (depth_behind s.0 depth) ts)

abbrev pub cut : Separator → List Piece → Cut
cut at ts = cut_from at zero ts

-- the cut at a word
abbrev pub cut_at : Word → List Piece → Cut
cut_at w ts = cut (at.At w) ts

abbrev pub unless_last : Next → Next
unless_last None = None
unless_last (Some p) = of p.1
  where
    of : List Piece → Next
    of [] = None
    of (t ∷ ts) = Some p

-- the same, where one more word may stand at the end
abbrev pub cut_before : Word → List Piece → Cut
cut_before w ts = ((cut_at w ts).0, unless_last (cut_at w ts).1)

-- ---- ways to cut

-- no list stands for anything
abbrev pub IsNever : {A : Type 0} → Stands A
IsNever ts x = ⊥

-- the tree is made of what the list stands for
abbrev pub IsMade : {A B : Type 0} → (A → B) → Stands A → Stands B
IsMade {A} f R ts t = (x : A) × R ts x × (t ≡ f x)

-- what the list stands for passes a test
abbrev pub IsSuch : {A : Type 0} → (A → Bool) → Stands A → Stands A
IsSuch test R ts x = R ts x × (test x ≡ true)

-- a way to cut
abbrev pub Cutting : Type 0
Cutting = List Piece → Cut

-- nothing is behind a separator
abbrev pub IsLast : Next → Type 0
IsLast None = ⊥
IsLast (Some p) = p.1 ≡ []

-- the list is cut by its last lexeme, and what stands before that counts
abbrev pub IsEnded : {A : Type 0} → Cutting → Stands A → Stands A
IsEnded by R ts x = R (by ts).0 x × IsLast (by ts).1

-- the list begins with a word and is cut so by its last lexeme
abbrev pub IsEnclosed : {A : Type 0} → Word → Cutting → Stands A → Stands A
IsEnclosed opening by R [] x = ⊥
IsEnclosed opening by R (s ∷ ts) x = (s.0 ≡ opening) × IsEnded by R ts x

-- a separator must follow, with what is behind it
abbrev pub IsBehind : {B : Type 0} → (Piece → Stands B) → Next → B → Type 0
IsBehind S None y = ⊥
IsBehind S (Some p) y = S p.0 p.1 y

-- a separator may follow, with what is behind it
abbrev pub IsBehindIf : {B : Type 0} → (Piece → Stands B) → Next → Option B → Type 0
IsBehindIf S None None = Unit {0}
IsBehindIf S None (Some y) = ⊥
IsBehindIf S (Some p) None = ⊥
IsBehindIf S (Some p) (Some y) = S p.0 p.1 y

-- separators follow, each with the part behind it
abbrev pub IsFollowing : {B : Type 0} → Cutting → (Piece → Stands B) → Next → List B → Type 0
IsFollowing by S None [] = Unit {0}
IsFollowing by S None (y ∷ ys) = ⊥
IsFollowing by S (Some p) [] = ⊥
IsFollowing by S (Some p) (y ∷ ys) = S p.0 (by p.1).0 y × IsFollowing by S (by p.1).1 ys

-- the list is cut in two at its first separator
abbrev pub IsParted : {A B : Type 0} → Cutting → Stands A → (Piece → Stands B) → Stands (A × B)
IsParted by R S ts x = R (by ts).0 x.0 × IsBehind S (by ts).1 x.1

-- the list is cut in two at its first separator if it has one
abbrev pub IsPartedIf : {A B : Type 0} → Cutting → Stands A → (Piece → Stands B) → Stands (A × Option B)
IsPartedIf by R S ts x = R (by ts).0 x.0 × IsBehindIf S (by ts).1 x.1

-- the list is cut at all its separators
abbrev pub IsRow : {A B : Type 0} → Cutting → Stands A → (Piece → Stands B) → Stands (A × List B)
IsRow by R S ts x = R (by ts).0 x.0 × IsFollowing by S (by ts).1 x.1

-- parts of one kind with separators between them, at least one
abbrev pub IsList : {A : Type 0} → Cutting → Stands A → Stands (List A)
IsList by R ts [] = ⊥
IsList by R ts (x ∷ xs) = IsRow by R (λ s. R) ts (x, xs)
