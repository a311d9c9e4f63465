-- Stretches of a text as lists of lexemes with their words.
use Rattle.std.specs.Prelude.{◌≡◌, ℕ, Bool, List, [], ◌∷◌, Option, Some, None, Result, Ok, Err}
use denote.Ref.{Bor}
use Rattle.b_grammar.specs.declared.Lexeme.{Lexeme}
use Rattle.b_machine_grammar.specs.declared.words.Word.{Word}
use Rattle.b_machine_grammar.specs.declared.words.Separator.{Separator}
use Rattle.b_machine_grammar.specs.Words as words
use Rattle.b_machine_grammar.specs.Cuts as cuts
use Rattle.b_machine_grammar.specs.Cuts.{Piece, Stands, Next, Cutting, IsLast}
use Rattle.b_stretches.specs.declared.Unread.{Unread}
use Rattle.b_stretches.specs.declared.Unread.TheVariants as unread
use Rattle.b_stretches.specs.declared.Stretch.{Stretch}
use Rattle.b_stretches.specs.declared.Split.{Split}

abbrev pub is_word : Word → Word → Bool
is_word = words.is_word

abbrev pub cut : Separator → List Piece → cuts.Cut
cut = cuts.cut

abbrev pub cut_at : Word → List Piece → cuts.Cut
cut_at = cuts.cut_at

abbrev pub cut_before : Word → List Piece → cuts.Cut
cut_before = cuts.cut_before

abbrev pub unless_last : Next → Next
unless_last = cuts.unless_last

abbrev pub ends_part : Separator → ℕ → Word → Bool
ends_part = cuts.ends_part

abbrev pub Item : Type 0
Item = Piece

-- each lexeme with its word
abbrev pub zipped : List Word → List Lexeme → List Piece
zipped [] ls = []
zipped (w ∷ ws) [] = []
zipped (w ∷ ws) (l ∷ ls) = (w, l) ∷ zipped ws ls

abbrev pub pieces : Stretch → List Piece
pieces s = zipped s.words.now s.lexemes.now

-- a word, its lexeme and what is behind it
abbrev pub Follow : Type 0
Follow = Word × Bor Lexeme × Stretch

abbrev pub piece_of : Follow → Piece
piece_of p = (p.0, p.1.now)

abbrev pub next_of : Option Follow → Next
next_of None = None
next_of (Some p) = Some ((p.0, p.1.now), pieces p.2)

abbrev pub behind : Option Follow → Option Stretch
behind None = None
behind (Some p) = Some p.2

abbrev pub IsFirst : List Piece → Option Follow → Type 0
IsFirst ts None = ts ≡ []
IsFirst ts (Some p) = ts ≡ (p.0, p.1.now) ∷ pieces p.2

-- a cut as it should be
abbrev pub IsCutAs : cuts.Cut → Split → Type 0
IsCutAs c d = (pieces d.front ≡ c.0) × (next_of d.next ≡ c.1)

-- ---- what a function answers

abbrev pub IsNoMachine : Unread → Type 0
IsNoMachine (unread.NoMachine at) = Unit {0}
IsNoMachine unread.Memory = ⊥

-- something of which this holds, or that it holds of nothing, unless memory ran out
abbrev pub Answers : {A : Type 0} → (A → Type 0) → Result A Unread → Type 0
Answers R (Ok x) = R x
Answers {A} R (Err (unread.NoMachine at)) = (x : A) → R x → ⊥
Answers R (Err unread.Memory) = Unit {0}

abbrev pub IsEndedAs : cuts.Cut → Result Stretch Unread → Type 0
IsEndedAs c (Ok s) = (pieces s ≡ c.0) × IsLast c.1
IsEndedAs c (Err e) = IsNoMachine e × (IsLast c.1 → ⊥)

-- what stands between a first word and a last one
abbrev pub IsEnclosedAs : Word → Cutting → List Piece → Result Stretch Unread → Type 0
IsEnclosedAs opening by [] (Ok s) = ⊥
IsEnclosedAs opening by [] (Err e) = IsNoMachine e
IsEnclosedAs opening by (t ∷ ts) (Ok s) = (t.0 ≡ opening) × ((pieces s ≡ (by ts).0) × IsLast (by ts).1)
IsEnclosedAs opening by (t ∷ ts) (Err e) = IsNoMachine e × (t.0 ≡ opening → IsLast (by ts).1 → ⊥)

-- this stands behind a separator
abbrev pub IsFollowedBy : Next → List Piece → Type 0
IsFollowedBy None back = ⊥
IsFollowedBy (Some p) back = back ≡ p.1

-- what stands on both sides of a separator
abbrev pub IsHalvedAs : cuts.Cut → Result (Stretch × Stretch) Unread → Type 0
IsHalvedAs c (Ok p) = (pieces p.0 ≡ c.0) × IsFollowedBy c.1 (pieces p.1)
IsHalvedAs c (Err e) = IsNoMachine e × (c.1 ≡ None)
