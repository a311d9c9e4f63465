-- What the reading functions answer.
use Rattle.std.specs.Prelude.{◌≡◌, ◌≤◌, ◌<◌, ℕ, Bool, List, [], ◌++◌, Option, Some, None, Result, Ok, Err, length, drop, Vec, vec_items}
use Rattle.std.specs.declared.alloc.Global.{Global}
use Rattle.std.specs.declared.alloc.AllocError.{AllocError}
use Rattle.b_values.specs.declared.types.SetFace.{SetFace}
use Rattle.b_values.specs.declared.types.Ty.{Ty}
use Rattle.b_values.specs.declared.values.Value.{Value}
use Rattle.b_values.specs.declared.reading.ReadFault.{ReadFault}
use Rattle.b_values.specs.declared.reading.ReadFault.TheVariants.{NotAValue, Memory}
use Rattle.b_values.specs.declared.reading.Link.{Link}
use Rattle.b_values.specs.Reading.{IsTextOf}
use Rattle.b_values.specs.ReadingDescent.{Found, Chain}

-- the value of the type that the text stands for, or that it stands for none; nothing where memory ran out
abbrev pub IsRead : List SetFace → Ty → List ℕ → Result Value ReadFault → Type 0
IsRead sets t text (Ok v) = IsTextOf sets t text v
IsRead sets t text (Err NotAValue) = (v : Value) → IsTextOf sets t text v → ⊥
IsRead sets t text (Err Memory) = Unit {0}

-- a place from `at` to the end
abbrev pub IsPlace : List ℕ → ℕ → ℕ → Type 0
IsPlace text at to = (at ≤ to) × (to ≤ length text)

-- the place after what follows
abbrev pub Strips : Option (List ℕ) → List ℕ → ℕ → Option ℕ → Type 0
Strips found text at None = found ≡ None
Strips found text at (Some to) = (found ≡ Some (drop to text)) × IsPlace text at to

-- what was found, with the place after it
abbrev pub Finds : {A : Type 0} → Found A → List ℕ → ℕ → Option (A × ℕ) → Type 0
Finds found text at None = found ≡ None
Finds found text at (Some p) = (found ≡ Some (p.0, drop p.1 text)) × IsPlace text at p.1

-- the same, unless memory ran out
abbrev pub FindsIn : {A : Type 0} → Found A → List ℕ → ℕ → Result (Option (A × ℕ)) AllocError → Type 0
FindsIn found text at (Ok o) = Finds found text at o
FindsIn found text at (Err e) = Unit {0}

-- what was linked, with the list of bytes that follows it
abbrev pub chain_of : List ℕ → Link → Chain
chain_of text l = record { value = l.value; left = l.left; closed = l.closed; rest = drop l.end text }

abbrev pub Links : Option Chain → List ℕ → ℕ → ℕ → Option Link → Type 0
Links found text open' at None = found ≡ None
Links found text open' at (Some l) = (found ≡ Some (chain_of text l)) × (l.left ≤ open') × IsPlace text at l.end

abbrev pub LinksIn : Option Chain → List ℕ → ℕ → ℕ → Result (Option Link) AllocError → Type 0
LinksIn found text open' at (Ok o) = Links found text open' at o
LinksIn found text open' at (Err e) = Unit {0}

-- a list that was found, unless memory ran out
abbrev pub FindsList : Found (List Value) → List ℕ → ℕ → Result (Option (Vec Value Global × ℕ)) AllocError → Type 0
FindsList found text at (Ok None) = found ≡ None
FindsList found text at (Ok (Some p)) = (found ≡ Some (vec_items p.0, drop p.1 text)) × IsPlace text at p.1
FindsList found text at (Err e) = Unit {0}
