-- Ways to cut a list of lexemes. The grammar is made of them.
use Rattle.std.specs.Prelude.{◌≡◌, ◌⊎◌, Bool, true, List, [], ◌∷◌, ◌++◌}
use Rattle.b_ast.specs.declared.Place.{Place}
use Rattle.b_grammar.specs.declared.Mark.{Mark}
use Rattle.b_grammar.specs.declared.Symbol.TheVariants as symbol
use Rattle.b_grammar.specs.declared.Lexeme.{Lexeme}

-- what a list of lexemes stands for
abbrev pub Stands : Type 0 → Type 1
Stands A = List Lexeme → A → Type 0

-- a mark at its place
abbrev pub mark : Mark → Place → Lexeme
mark m at = record { symbol = symbol.Mark m; at = at }

-- no list stands for anything
abbrev pub IsNever : {A : Type 0} → Stands A
IsNever ts x = ⊥

-- nothing is left, and it stands for this
abbrev pub IsDone : {A : Type 0} → A → Stands A
IsDone a ts x = (ts ≡ []) × (x ≡ a)

-- the first lexeme says what follows
abbrev pub IsHeaded : {A : Type 0} → (Lexeme → Stands A) → Stands A
IsHeaded F [] x = ⊥
IsHeaded F (s ∷ ts) x = F s ts x

-- the list ends with this mark, and what stands before it counts
abbrev pub IsEnded : {A : Type 0} → Mark → Stands A → Stands A
IsEnded m R ts x = (front : List Lexeme) × (at : Place) × (ts ≡ front ++ mark m at ∷ []) × R front x

-- the list is cut in two
abbrev pub IsPair : {A B : Type 0} → Stands A → Stands B → Stands (A × B)
IsPair R S ts p = (front : List Lexeme) × (back : List Lexeme) × (ts ≡ front ++ back) × R front p.0 × S back p.1

-- the list is cut in as many pieces as there are parts, perhaps none
abbrev pub IsEach : {A : Type 0} → Stands A → Stands (List A)
IsEach R ts [] = ts ≡ []
IsEach R ts (x ∷ xs) = (front : List Lexeme) × (back : List Lexeme) × (ts ≡ front ++ back) × R front x × IsEach R back xs

-- the tree is made of what the list stands for
abbrev pub IsMade : {A B : Type 0} → (A → B) → Stands A → Stands B
IsMade {A} f R ts t = (x : A) × R ts x × (t ≡ f x)

-- what the list stands for passes a test
abbrev pub IsSuch : {A : Type 0} → (A → Bool) → Stands A → Stands A
IsSuch test R ts x = R ts x × (test x ≡ true)

-- one or the other
abbrev pub IsEither : {A : Type 0} → Stands A → Stands A → Stands A
IsEither R S ts x = R ts x ⊎ S ts x
