-- What is made of answers.
use Rattle.std.specs.Prelude.{◌≡◌, List, [], ◌∷◌, ◌++◌, Result, Ok, Err}
use Rattle.b_stretches.specs.declared.Unread.{Unread}
use Rattle.b_stretches.specs.declared.Unread.TheVariants as unread

-- two answers as one, the first that is none before the second
abbrev pub IsPair : {A B : Type 0} → Result A Unread → Result B Unread → Result (A × B) Unread → Type 0
IsPair (Ok x) (Ok y) r = r ≡ Ok (x, y)
IsPair (Ok x) (Err e) r = r ≡ Err e
IsPair (Err e) b r = r ≡ Err e

-- what is made of an answer, unless memory runs out
abbrev pub IsMadeOf : {A B : Type 0} → (A → B) → Result A Unread → Result B Unread → Type 0
IsMadeOf f (Ok x) (Ok y) = y ≡ f x
IsMadeOf f (Ok x) (Err e) = e ≡ unread.Memory
IsMadeOf f (Err e) r = r ≡ Err e

-- an answer behind those that are there, unless memory runs out
abbrev pub IsPushed : {A : Type 0} → List A → Result A Unread → List A → Result (Unit {0}) Unread → Type 0
IsPushed old (Ok x) new (Ok u) = new ≡ old ++ x ∷ []
IsPushed old (Ok x) new (Err e) = e ≡ unread.Memory
IsPushed old (Err e) new r = r ≡ Err e
