-- Where a tree first uses a definition of the table that an index is of.
use Rattle.std.specs.Prelude.{◌≡◌, ℕ, Bool, List, [], ◌∷◌, if◌then◌else◌, Option, Some, None, is_some, Result, Ok, Err}
use Rattle.b_ast.specs.declared.Formula.{Formula, fold-Formula}
use Rattle.b_ast.specs.declared.Link.{Link, fold-Link}
use Rattle.b_ast.specs.declared.After.{After, fold-After}
use Rattle.b_ast.specs.declared.After.TheOpen.{Formula-F, Link-F, After-F}
use Rattle.b_ast.specs.declared.FormulaText.{FormulaText}
use Rattle.b_names.specs.declared.places.Index.{Index}
use Rattle.b_names.specs.Index.{answer_of}
use Rattle.b_expand.specs.declared.faults.Unexpanded.{Unexpanded}
use Rattle.b_expand.specs.declared.faults.Unexpanded.TheVariants.{Refused, Memory}

-- whether a name is a definition's
abbrev pub is_defined : Index → List ℕ → Bool
is_defined index x = is_some (answer_of index x)

-- ---- the first of some places

abbrev pub either : Option ℕ → Option ℕ → Option ℕ
either (Some n) o = Some n
either None o = o

abbrev pub first_of : List (Option ℕ) → Option ℕ
first_of [] = None
first_of (o ∷ os) = either o (first_of os)

abbrev pub after_use : After-F (Option ℕ) (Option ℕ) (Option ℕ) → Option ℕ
after_use (After-F.Converse at) = None
after_use (After-F.Apply at o) = o
after_use (After-F.Image at o) = o

abbrev pub link_use : Link-F (Option ℕ) (Option ℕ) (Option ℕ) → Option ℕ
link_use l = l.operand

abbrev pub formula_use : Index → Formula-F (Option ℕ) (Option ℕ) (Option ℕ) → Option ℕ
formula_use index (Formula-F.Number at n) = None
formula_use index (Formula-F.Text at x) = None
formula_use index (Formula-F.Name at x) = if is_defined index x then Some at.at else None
formula_use index (Formula-F.Old at x) = None
formula_use index (Formula-F.Constant at c) = None
formula_use index (Formula-F.Negative at o) = o
formula_use index (Formula-F.Chain o os) = either o (first_of os)
formula_use index (Formula-F.Row o os) = either o (first_of os)
formula_use index (Formula-F.Call at f os) = first_of os
formula_use index (Formula-F.Set at os) = first_of os
formula_use index (Formula-F.Sequence at os) = first_of os
formula_use index (Formula-F.Comprehension at xs o) = o
formula_use index (Formula-F.Quantified at q xs o) = o
formula_use index (Formula-F.Collected at c xs o p) = either o p
formula_use index (Formula-F.If at o p q) = either o (either p q)

-- the byte of the first name of a definition in a tree
abbrev pub first_use : Index → Formula → Option ℕ
first_use index = fold-Formula (Option ℕ) (Option ℕ) (Option ℕ) after_use (formula_use index) link_use

abbrev pub first_use_of_link : Index → Link → Option ℕ
first_use_of_link index = fold-Link (Option ℕ) (Option ℕ) (Option ℕ) after_use (formula_use index) link_use

abbrev pub first_use_of_form : Index → After → Option ℕ
first_use_of_form index = fold-After (Option ℕ) (Option ℕ) (Option ℕ) after_use (formula_use index) link_use

-- ---- the first byte

abbrev pub after_byte : After-F ℕ ℕ ℕ → ℕ
after_byte (After-F.Converse at) = at.at
after_byte (After-F.Apply at n) = at.at
after_byte (After-F.Image at n) = at.at

abbrev pub link_byte : Link-F ℕ ℕ ℕ → ℕ
link_byte l = l.operand

abbrev pub formula_byte : Formula-F ℕ ℕ ℕ → ℕ
formula_byte (Formula-F.Number at n) = at.at
formula_byte (Formula-F.Text at x) = at.at
formula_byte (Formula-F.Name at x) = at.at
formula_byte (Formula-F.Old at x) = at.at
formula_byte (Formula-F.Constant at c) = at.at
formula_byte (Formula-F.Negative at n) = at.at
formula_byte (Formula-F.Chain n ns) = n
formula_byte (Formula-F.Row n ns) = n
formula_byte (Formula-F.Call at f ns) = at.at
formula_byte (Formula-F.Set at ns) = at.at
formula_byte (Formula-F.Sequence at ns) = at.at
formula_byte (Formula-F.Comprehension at xs n) = at.at
formula_byte (Formula-F.Quantified at q xs n) = at.at
formula_byte (Formula-F.Collected at c xs m n) = at.at
formula_byte (Formula-F.If at l m n) = at.at

-- the byte where a tree stands: that of its first operand, where it is a chain or has forms behind it
abbrev pub first_byte : Formula → ℕ
first_byte = fold-Formula ℕ ℕ ℕ after_byte formula_byte link_byte

-- the byte of the first use of a definition, or else of the tree
abbrev pub place_told : Option ℕ → Formula → ℕ
place_told (Some at) t = at
place_told None t = first_byte t

-- a refusal is told at the first use of a definition, or else where the tree begins
abbrev pub IsToldAt : Index → Formula → Result FormulaText Unexpanded → Type 0
IsToldAt index t (Ok f) = Unit {0}
IsToldAt index t (Err (Refused why at)) = at ≡ place_told (first_use index t) t
IsToldAt index t (Err Memory) = Unit {0}
