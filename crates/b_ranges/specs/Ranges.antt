-- The range of a bound variable: the first of six kinds of which a conjunct helps, by the first such conjunct.
use Rattle.std.specs.Prelude.{ℕ, zero, suc, ◌+◌, ◌==◌, nat_lt, pos, Bool, true, false, not, ◌&&◌, ◌||◌, if◌then◌else◌, List, [], ◌∷◌, ◌++◌, Option, Some, None}
use Rattle.b_ranges.specs.declared.conjuncts.Conjunct.{Conjunct}
use Rattle.b_ranges.specs.declared.conjuncts.Help.{Help}
use Rattle.b_ranges.specs.declared.conjuncts.Relation.{Relation}
use Rattle.b_ranges.specs.declared.conjuncts.Relation.TheVariants as relation
use Rattle.b_ranges.specs.declared.offers.Found.{Found}
use Rattle.b_ranges.specs.declared.offers.Kind.{Kind}
use Rattle.b_ranges.specs.declared.offers.Kind.TheVariants as kind
use Rattle.b_ranges.specs.declared.offers.Offer.{Offer}
use Rattle.b_ranges.specs.declared.choices.Range.{Range}
use Rattle.b_ranges.specs.declared.choices.Range.TheVariants as range
use Rattle.b_ranges.specs.declared.sides.Slots.{Slots}
use Rattle.b_ranges.specs.Conjuncts.{ExprLayer, conjuncts_of}
use Rattle.b_tree.specs.declared.ExprTree.{ExprTree, out-ExprTree}
use Rattle.b_tree.specs.declared.ExprTree.TheOpen.{ExprTree-F}
use Rattle.b_tree.specs.declared.ExprTree.TheVariants as expr
use Rattle.b_tree.specs.declared.PredTree.{PredTree}
use Rattle.b_tree.specs.declared.Sides.{Sides, out-Sides}
use Rattle.b_tree.specs.declared.operators.SetOperator.{SetOperator}
use Rattle.b_tree.specs.declared.operators.SetOperator.TheVariants as between
use Rattle.b_tree.specs.declared.operators.Word.{Word}
use Rattle.b_tree.specs.declared.operators.Word.TheVariants as word

-- ---- what a conjunct offers

-- a bound itself, or all on its side of it
abbrev pub plain : ExprTree → Offer
plain e = record { by = e; strict = false }

abbrev pub strict : ExprTree → Offer
strict e = record { by = e; strict = true }

abbrev pub when : Bool → ExprTree → Option Offer
when b e = if b then Some (plain e) else None

-- `E..F`; INT, NAT and NAT1 are such
abbrev pub is_range : SetOperator → Bool
is_range between.Interval = true
is_range op = false

abbrev pub is_interval_by : ExprLayer → Bool
is_interval_by (ExprTree-F.Between op at s) = is_range op
is_interval_by e = false

abbrev pub is_interval : ExprTree → Bool
is_interval e = is_interval_by (out-ExprTree e)

-- a set that is a range itself: no interval, and without words for sets without an end
abbrev pub is_listed : Help → Bool
is_listed h = not h.side.endless && not (is_interval h.by)

-- kind 1: `x = E`
abbrev pub equation : Relation → Help → Option Offer
equation relation.Equal h = Some (plain h.by)
equation r h = None

-- kind 2: `x : E`
abbrev pub listed : Relation → Help → Option Offer
listed relation.Member h = when (is_listed h) h.by
listed r h = None

abbrev pub least_between : SetOperator → Sides → Option Offer
least_between between.Interval s = Some (plain (out-Sides s).left)
least_between op s = None

abbrev pub least_word : Word → Option Offer
least_word word.Natural = Some (plain (expr.Number (pos 0)))
least_word word.Natural1 = Some (plain (expr.Number (pos 1)))
least_word w = None

abbrev pub least_by : ExprLayer → Option Offer
least_by (ExprTree-F.Between op at s) = least_between op s
least_by (ExprTree-F.Word at w) = least_word w
least_by e = None

-- kind 3, a lower bound: `x > E`, `x >= E`, `x : E..F`, `x : NATURAL`, `x : NATURAL1`
abbrev pub lower : Relation → Help → Option Offer
lower relation.Greater h = Some (strict h.by)
lower relation.GreaterOrEqual h = Some (plain h.by)
lower relation.Member h = least_by (out-ExprTree h.by)
lower r h = None

abbrev pub greatest_between : SetOperator → Sides → Option Offer
greatest_between between.Interval s = Some (plain (out-Sides s).right)
greatest_between op s = None

abbrev pub greatest_by : ExprLayer → Option Offer
greatest_by (ExprTree-F.Between op at s) = greatest_between op s
greatest_by e = None

-- kind 3, an upper bound: `x < E`, `x <= E`, `x : E..F`
abbrev pub upper : Relation → Help → Option Offer
upper relation.Less h = Some (strict h.by)
upper relation.LessOrEqual h = Some (plain h.by)
upper relation.Member h = greatest_by (out-ExprTree h.by)
upper r h = None

-- kind 4: `x <: E`, `x <<: E`
abbrev pub subsets : Relation → Help → Option Offer
subsets relation.Subset h = when (not h.side.endless || is_interval h.by) h.by
subsets r h = None

-- kind 5: any other `x : E` without STRING
abbrev pub cut : Relation → Help → Option Offer
cut relation.Member h = when (not (is_listed h) && not h.side.strings) h.by
cut r h = None

abbrev pub offered : Kind → Help → Option Offer
offered kind.Equation h = equation h.relation h
offered kind.Listed h = listed h.relation h
offered kind.Lower h = lower h.relation h
offered kind.Upper h = upper h.relation h
offered kind.Subsets h = subsets h.relation h
offered kind.Cut h = cut h.relation h

-- to a variable
abbrev pub offered_to : Kind → ℕ → Option Help → Option Offer
offered_to k v None = None
offered_to k v (Some h) = if h.variable == v then offered k h else None

abbrev pub or_else : Option Offer → Option Offer → Option Offer
or_else (Some o) p = Some o
or_else None p = p

abbrev pub offered_in : Kind → ℕ → Conjunct → Option Offer
offered_in k v c = or_else (offered_to k v c.left) (offered_to k v c.right)

-- ---- the first conjunct

abbrev pub found_at : ℕ → Option Offer → Option Found → Option Found
found_at n (Some o) rest = Some (record { number = n; offer = o })
found_at n None rest = rest

-- the first of the conjuncts numbered from n that offers a kind to a variable
abbrev pub first : ℕ → Kind → ℕ → List Conjunct → Option Found
first n k v [] = None
first n k v (c ∷ cs) = found_at n (offered_in k v c) (first (n + 1) k v cs)

abbrev pub first_of : Kind → ℕ → List Conjunct → Option Found
first_of k v cs = first 0 k v cs

-- ---- the first kind

abbrev pub or_only : Option Found → Range → Range
or_only (Some f) later = range.Only f.offer.by
or_only None later = later

abbrev pub or_members : Option Found → Range → Range
or_members (Some f) later = range.Members f.offer.by
or_members None later = later

-- the bound that stands first is evaluated first; of one `E..F` that is E
abbrev pub numbers : Found → Found → Range
numbers l u = range.Numbers (record { above = l.offer.strict; below = u.offer.strict; upper_first = nat_lt u.number l.number }) l.offer.by u.offer.by

-- a lower and an upper bound
abbrev pub or_numbers : Option Found → Option Found → Range → Range
or_numbers (Some l) (Some u) later = numbers l u
or_numbers l u later = later

abbrev pub or_subsets : Option Found → Range → Range
or_subsets (Some f) later = range.Subsets f.offer.by
or_subsets None later = later

-- nothing helps: all values of the type
abbrev pub cut_or_whole : Option Found → Range
cut_or_whole (Some f) = range.Cut f.number f.offer.by
cut_or_whole None = range.Whole

abbrev pub from_kind_5 : ℕ → List Conjunct → Range
from_kind_5 v cs = cut_or_whole (first_of kind.Cut v cs)

abbrev pub from_kind_4 : ℕ → List Conjunct → Range
from_kind_4 v cs = or_subsets (first_of kind.Subsets v cs) (from_kind_5 v cs)

abbrev pub from_lower : ℕ → List Conjunct → Found → Range
from_lower v cs l = or_numbers (Some l) (first_of kind.Upper v cs) (from_kind_4 v cs)

abbrev pub from_kind_3 : ℕ → List Conjunct → Range
from_kind_3 v cs = or_numbers (first_of kind.Lower v cs) (first_of kind.Upper v cs) (from_kind_4 v cs)

abbrev pub from_kind_2 : ℕ → List Conjunct → Range
from_kind_2 v cs = or_members (first_of kind.Listed v cs) (from_kind_3 v cs)

-- the range of a variable
abbrev pub range_of : ℕ → List Conjunct → Range
range_of v cs = or_only (first_of kind.Equation v cs) (from_kind_2 v cs)

-- those of the first n variables
abbrev pub first_ranges : ℕ → List Conjunct → List Range
first_ranges zero cs = []
first_ranges (suc n) cs = first_ranges n cs ++ range_of n cs ∷ []

-- the ranges of a binder's variables, by its predicate
abbrev pub ranges : Slots → PredTree → List Range
ranges s p = first_ranges s.count (conjuncts_of s p)
