-- Making parts be of one type: which table stands for the same equations as another.
use Rattle.std.specs.Prelude.{◌≡◌, ◌≤◌, ◌<◌, ◌+◌, ℕ, Bool, true, false, IsTrue, List, [], ◌∷◌, length, Result, Ok, Err}
use Rattle.std.specs.List.{AllByRecursion}
use Rattle.std.specs.declared.alloc.AllocError.{AllocError}
use Rattle.b_values.specs.declared.types.Ty.{Ty}
use Rattle.type_table.specs.declared.rows.Row.{Row}
use Rattle.type_table.specs.declared.rows.Row.TheVariants as row
use Rattle.type_table.specs.declared.unifying.Step.{Step}
use Rattle.type_table.specs.declared.unifying.Step.TheVariants as step
use Rattle.type_table.specs.Tables.{Typing, Fits, row_at, Solves, IsRow, IsTable, IsRoot}

abbrev pub one_class : Row → ℕ
one_class (row.Same j) = 0
one_class r = 1

-- the rows that are no links
abbrev pub classes : List Row → ℕ
classes [] = 0
classes (r ∷ rs) = one_class r + classes rs

-- where the link of the row i goes, or i itself
abbrev pub link_of : ℕ → Row → ℕ
link_of i (row.Same j) = j
link_of i r = i

-- the same equations by other links: rows that are no links stay
pub record Shortens (old new : List Row) : Type 0 where
  pub table : IsTable new
  pub count : length new ≡ length old
  pub kept : (i : ℕ) → IsRoot (row_at old i) → row_at new i ≡ row_at old i
  pub classes : classes new ≡ classes old
  pub forth : (s : Typing) → Solves s old → Solves s new
  pub back : (s : Typing) → Solves s new → Solves s old

-- the links of a part end there
pub record Finds (old new : List Row) (i end : ℕ) : Type 0 where
  pub short : Shortens old new
  pub back : end ≤ i
  pub root : IsRoot (row_at new end)
  pub same : (s : Typing) → Solves s new → s i ≡ s end

-- each link goes to a row that is no link
abbrev pub LinksEnd : List Row → Row → Type 0
LinksEnd rows (row.Same j) = IsRoot (row_at rows j)
LinksEnd rows r = Unit {0}

abbrev pub Flat : List Row → Type 0
Flat rows = (i : ℕ) → LinksEnd rows (row_at rows i)

-- what is left to be equal
abbrev pub Agree : Typing → Step → Type 0
Agree s step.Done = Unit {0}
Agree s (step.One p q) = s p ≡ s q
Agree s (step.Two p q r t) = (s p ≡ s q) × (s r ≡ s t)
Agree s step.Clash = ⊥

abbrev pub IsStep : ℕ → Step → Type 0
IsStep count step.Done = Unit {0}
IsStep count (step.One p q) = (p < count) × (q < count)
IsStep count (step.Two p q r t) = (p < count) × (q < count) × (r < count) × (t < count)
IsStep count step.Clash = Unit {0}

-- one row in place of two, and what is left: together they say what the two said
pub record Meets (x y z : Row) (left : Step) : Type 0 where
  pub forth : (s : Typing) (t : Ty) → Fits s t x → Fits s t y → Fits s t z × Agree s left
  pub back : (s : Typing) (t : Ty) → Fits s t z → Agree s left → Fits s t x × Fits s t y
  pub rows : (count i j : ℕ) → IsRoot x → IsRoot y → IsRow count i x → IsRow count j y → IsRow count i z × IsStep count left
  pub root : IsRoot x → IsRoot y → IsRoot z

-- equations are left only where two classes became one
abbrev pub Fewer : List Row → List Row → Step → Type 0
Fewer old new step.Done = classes new ≤ classes old
Fewer old new (step.One p q) = classes new < classes old
Fewer old new (step.Two p q r t) = classes new < classes old
Fewer old new step.Clash = classes new ≤ classes old

-- the new table and what is left say what the old one said and that two parts are of one type
pub record Merges (old new : List Row) (a b : ℕ) (left : Step) : Type 0 where
  pub table : IsTable new
  pub count : length new ≡ length old
  pub inside : IsStep (length new) left
  pub fewer : Fewer old new left
  pub forth : (s : Typing) → Solves s old → s a ≡ s b → Solves s new × Agree s left
  pub back : (s : Typing) → Solves s new → Agree s left → Solves s old × (s a ≡ s b)

-- the two parts of each equation are of one type
abbrev pub AllAlike : Typing → List (ℕ × ℕ) → Type 0
AllAlike s = AllByRecursion (λ e. s e.0 ≡ s e.1)

abbrev pub AreInside : ℕ → List (ℕ × ℕ) → Type 0
AreInside count = AllByRecursion (λ e. (e.0 < count) × (e.1 < count))

-- at most two equations more, which say what was left
pub record Deferred (old new : List (ℕ × ℕ)) (left : Step) : Type 0 where
  pub inside : (count : ℕ) → AreInside count old → IsStep count left → AreInside count new
  pub forth : (s : Typing) → AllAlike s old → Agree s left → AllAlike s new
  pub back : (s : Typing) → AllAlike s new → AllAlike s old × Agree s left

abbrev pub left_count : Step → ℕ
left_count step.Done = 0
left_count (step.One p q) = 1
left_count (step.Two p q r t) = 2
left_count step.Clash = 0

abbrev pub Defers : List (ℕ × ℕ) → List (ℕ × ℕ) → Step → Result Bool AllocError → Type 0
Defers old new left (Ok true) = Deferred old new left × (length new ≡ length old + left_count left)
Defers old new left (Ok false) = left ≡ step.Clash
Defers old new left (Err e) = Unit {0}

-- the new table says what the old one said and Q; false where no typing solves the old one and meets Q
pub record Adds (old new : List Row) (Q : Typing → Type 0) (found : Bool) : Type 0 where
  pub table : IsTable new
  pub count : length new ≡ length old
  pub forth : (s : Typing) → Solves s old → Q s → Solves s new × IsTrue found
  pub back : (s : Typing) → IsTrue found → Solves s new → Solves s old × Q s

-- without memory the table stays a table, and nothing is said of its equations
abbrev pub Settles : List Row → List Row → (Typing → Type 0) → Result Bool AllocError → Type 0
Settles old new Q (Ok found) = Adds old new Q found
Settles old new Q (Err e) = IsTable new × (length new ≡ length old)

-- the two parts are of one type
abbrev pub Unifies : List Row → List Row → ℕ → ℕ → Result Bool AllocError → Type 0
Unifies old new a b = Settles old new (λ s. s a ≡ s b)
