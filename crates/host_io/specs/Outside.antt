-- What the calls of a source, a sink, a cabinet and an opener do to what they tell, and when a fault may come.
use Rattle.std.specs.Prelude.{◌≡◌, ◌≢◌, ℕ, ◌+◌, ◌-◌, ◌^◌, ◌≤◌, ◌<◌, min, Bool, true, false, List, [], ◌++◌, length, take, Option, Some, None, IfSome, Result, OnErr}

-- one more, or the type's end
abbrev pub risen : ℕ → ℕ
risen count = min (count + 1) (2 ^ 64 - 1)

-- The count went up, or stands at its type's end.
abbrev pub Rose : ℕ → ℕ → Type 0
Rose before now = risen before ≤ now

-- The count of faults doesn't fall, and a failure comes only where it rose.
pub record HasCause {T E : Type 0} (before now : ℕ) (result : Result T E) : Type 0 where
  pub later : before ≤ now
  pub failed : OnErr result (Rose before now)

-- bytes before those that are told
abbrev pub before_told : List ℕ → Option (List ℕ) → Option (List ℕ)
before_told bytes None = None
before_told bytes (Some rest) = Some (bytes ++ rest)

-- bytes behind those that are told
abbrev pub behind_told : Option (List ℕ) → List ℕ → Option (List ℕ)
behind_told None bytes = None
behind_told (Some held) bytes = Some (held ++ bytes)

-- What was left is the first bytes of the piece, and then what is left now. None taken means that nothing was left.
pub record Takes (old : Option (List ℕ)) (count : ℕ) (piece : List ℕ) (new : Option (List ℕ)) : Type 0 where
  pub within : count ≤ length piece
  pub taken : old ≡ before_told (take count piece) new
  pub end : count ≡ 0 → IfSome old (λ bytes. bytes ≡ [])

-- What is held grew by a front of the piece, which has a byte where the piece has.
pub record Gives (old : Option (List ℕ)) (count : ℕ) (piece : List ℕ) (new : Option (List ℕ)) : Type 0 where
  pub within : count ≤ length piece
  pub given : new ≡ behind_told old (take count piece)
  pub some : 0 < length piece → 0 < count

-- what is told under a name: nothing, that there is no such thing, or what it is
pub data Told (A : Type 0) : Type 0 where
  Untold : Told A
  Absent : Told A
  Present : A → Told A

-- These bytes are the document, where it is told; and it isn't told to be absent.
abbrev pub IsTold : Told (List ℕ) → List ℕ → Type 0
IsTold Untold bytes = Unit {0}
IsTold Absent bytes = ⊥
IsTold (Present told) bytes = bytes ≡ told

-- The document has more bytes than the limit, where it is told; and it isn't told to be absent.
abbrev pub IsTooLong : Told (List ℕ) → ℕ → Type 0
IsTooLong Untold limit = Unit {0}
IsTooLong Absent limit = ⊥
IsTooLong (Present told) limit = limit < length told

-- what is told of a document in which these bytes were stored, by a cabinet that tells what it keeps or doesn't
abbrev pub told_stored : Bool → List ℕ → Told (List ℕ)
told_stored true bytes = Present bytes
told_stored false bytes = Untold

-- Under every name the same is told.
abbrev pub SameTold : {A : Type 0} → (List ℕ → Told A) → (List ℕ → Told A) → Type 0
SameTold old new = (n : List ℕ) → new n ≡ old n

-- Under every other name the same is told.
abbrev pub SameOthers : {A : Type 0} → List ℕ → (List ℕ → Told A) → (List ℕ → Told A) → Type 0
SameOthers name old new = (n : List ℕ) → n ≢ name → new n ≡ old n

-- what is told of a session before it runs: the bytes of its source, those in its sink, and its documents
pub record ToldDesk : Type 0 where
  pub source : List ℕ
  pub sink : List ℕ
  pub documents : List ℕ → Told (List ℕ)

-- A source, a sink and a cabinet tell just what was told of the session.
pub record Tells (told : ToldDesk) (left held : Option (List ℕ)) (documents : List ℕ → Told (List ℕ)) : Type 0 where
  pub source : left ≡ Some told.source
  pub sink : held ≡ Some told.sink
  pub cabinet : SameTold told.documents documents

-- The desk is that of the session, where that is told; and it isn't told to be absent.
abbrev pub IsToldDesk : Told ToldDesk → Option (List ℕ) → Option (List ℕ) → (List ℕ → Told (List ℕ)) → Type 0
IsToldDesk Untold left held documents = Unit {0}
IsToldDesk Absent left held documents = ⊥
IsToldDesk (Present told) left held documents = Tells told left held documents
