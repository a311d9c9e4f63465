-- How many elements a deferred set has, and how they are called.
use Rattle.std.specs.Prelude.{ℕ, ◌+◌, Bool, ◌&&◌, cond, nat_le, zero, suc, List, [], ◌∷◌, ◌++◌, map, Option, Some, None, option_and_then, slice_get, position, bytes_eq, decimal}
use Rattle.b_ast.specs.declared.Operator.{Operator}
use Rattle.b_ast.specs.declared.Operator.TheVariants as operator
use Rattle.b_ast.specs.declared.Function.{Function}
use Rattle.b_ast.specs.declared.Function.TheVariants as function
use Rattle.b_ast.specs.declared.Formula.{Formula, fold-Formula}
use Rattle.b_ast.specs.declared.Pred.{Pred}
use Rattle.b_ast.specs.declared.Link.{Link, fold-Link}
use Rattle.b_ast.specs.declared.After.TheOpen.{Formula-F, Link-F, After-F}
use Rattle.b_names.specs.Index.{IsIndexOfNames}
use Rattle.set_elements.specs.declared.conjuncts.Sizing.{Sizing}
use Rattle.set_elements.specs.declared.conjuncts.Shape.{Shape}
use Rattle.set_elements.specs.declared.sizes.Sizes.{Sizes}

-- what is none of these
abbrev pub plain : Shape
plain = record { name = None; set = None; size = None; sizings = [] }

abbrev pub of_name : List ℕ → Shape
of_name x = record { name = Some x; set = None; size = None; sizings = [] }

abbrev pub of_size : Option ℕ → Shape
of_size n = record { name = None; set = None; size = n; sizings = [] }

abbrev pub of_set : Option (List ℕ) → Shape
of_set x = record { name = None; set = x; size = None; sizings = [] }

abbrev pub of_sizings : List Sizing → Shape
of_sizings ss = record { name = None; set = None; size = None; sizings = ss }

-- a literal from 1 to 1,000
abbrev pub literal : ℕ → Option ℕ
literal k = cond (nat_le 1 k && nat_le k 1000) (Some k) None

-- `card(S)`
abbrev pub carded : List Shape → Shape
carded (e ∷ []) = of_set e.name
carded es = plain

abbrev pub called : Function → List Shape → Shape
called function.Card es = carded es
called f es = plain

-- a side of an equation is `card(S)`; the other side is the size where it is a literal, and else the default is
abbrev pub sized : Option (List ℕ) → Option ℕ → List Sizing
sized None size = []
sized (Some x) size = record { name = x; size = size } ∷ []

-- an operator with its right operand
pub record Linked : Type 0 where
  pub operator : Operator
  pub operand : Shape

-- the conjuncts of `P & Q` are those of P and of Q, and `e = f` is one; what another operator makes says nothing. An equation
-- has one link, so its left side is the chain's first operand
abbrev pub continued : Option (List ℕ) → Option ℕ → Operator → List Sizing → Shape → List Sizing
continued set size operator.And ss f = ss ++ f.sizings
continued set size operator.Equal ss f = sized set f.size ++ sized f.set size
continued set size o ss f = []

abbrev pub chain_on : Option (List ℕ) → Option ℕ → List Sizing → List Linked → List Sizing
chain_on set size ss [] = ss
chain_on set size ss (k ∷ ks) = chain_on set size (continued set size k.operator ss k.operand) ks

abbrev pub formula_shape : Formula-F (Unit {0}) Shape Linked → Shape
formula_shape (Formula-F.Number at k) = of_size (literal k)
formula_shape (Formula-F.Name at x) = of_name x
formula_shape (Formula-F.Call at f es) = called f es
formula_shape (Formula-F.Chain e ks) = of_sizings (chain_on e.set e.size e.sizings ks)
formula_shape x = plain

abbrev pub link_shape : Link-F (Unit {0}) Shape Linked → Linked
link_shape l = record { operator = l.operator; operand = l.operand }

abbrev pub after_shape : After-F (Unit {0}) Shape Linked → Unit {0}
after_shape a = tt

abbrev pub shape_of : Formula → Shape
shape_of = fold-Formula (Unit {0}) Shape Linked after_shape formula_shape link_shape

abbrev pub link_of : Link → Linked
link_of = fold-Link (Unit {0}) Shape Linked after_shape formula_shape link_shape

-- the first equation that names the set decides
abbrev pub or_default : ℕ → Option ℕ → ℕ
or_default d None = d
or_default d (Some n) = n

abbrev pub size_by : ℕ → Option Sizing → ℕ
size_by d None = d
size_by d (Some s) = or_default d s.size

abbrev pub sized_names : List Sizing → List (List ℕ)
sized_names ss = map (λ s. s.name) ss

abbrev pub size_in : List Sizing → ℕ → List ℕ → ℕ
size_in ss d x = size_by d (option_and_then (slice_get ss) (position (bytes_eq x) (sized_names ss)))

-- element k of S is called Sk
abbrev pub element_of : List ℕ → ℕ → List ℕ
element_of set k = set ++ decimal k

abbrev pub sizings_of : Option Pred → List Sizing
sizings_of None = []
sizings_of (Some p) = (shape_of p.formula).sizings

-- the elements of a deferred set S that has n of them: those from k on
abbrev pub elements_from : List ℕ → ℕ → ℕ → List (List ℕ)
elements_from set k zero = []
elements_from set k (suc n) = element_of set k ∷ elements_from set (k + 1) n

abbrev pub elements_of : List ℕ → ℕ → List (List ℕ)
elements_of set n = elements_from set 1 n

-- the index finds the first equation of a name
abbrev pub AreIndexed : Sizes → Type 0
AreIndexed s = IsIndexOfNames (sized_names s.sizings) s.index
