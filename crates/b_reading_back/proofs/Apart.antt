-- Nodes and commas are the same of trees that are the same apart from places.
use Rattle.std.proofs.Common.{◌≡◌, ℕ, Bool, true, ◌&&◌, not, List, [], ◌∷◌, refl}
use Rattle.b_ast.specs.declared.Formula.{Formula, fold-Formula}
use Rattle.b_ast.specs.declared.Link.{Link, fold-Link}
use Rattle.b_ast.specs.declared.After.{After, fold-After}
use Rattle.b_ast.specs.declared.After.TheOpen.{Formula-F, Link-F, After-F}
use Rattle.b_expand.specs.Places as places
use Rattle.b_expand.specs.Places.{node_total}
use Rattle.b_expand.specs.Expansion.{is_comma}
use Rattle.b_reading_back.specs.Places.{IsSameApartFromPlaces}
use Rattle.b_reading_back.proofs.Blind.{IsBlind, unplaced, unplaced_after, same_by_blind}

-- ---- nodes

nodes_blind : IsBlind ℕ ℕ ℕ places.after_nodes places.formula_nodes places.link_nodes
nodes_blind = record { afters = afters; formulas = formulas; links = λ x. refl }
  where
    afters : (x : After-F ℕ ℕ ℕ) → places.after_nodes (unplaced_after ℕ ℕ ℕ x) ≡ places.after_nodes x
    afters (After-F.Converse at) = refl
    afters x = refl

    formulas : (x : Formula-F ℕ ℕ ℕ) → places.formula_nodes (unplaced ℕ ℕ ℕ x) ≡ places.formula_nodes x
    formulas (Formula-F.Number at n) = refl
    formulas x = refl

pub same_nodes : (t u : Formula) → IsSameApartFromPlaces t u → node_total t ≡ node_total u
same_nodes = same_by_blind ℕ ℕ ℕ places.after_nodes places.formula_nodes places.link_nodes nodes_blind

-- ---- trees without commas

abbrev pub after_free : After-F Bool Bool Bool → Bool
after_free (After-F.Converse at) = true
after_free (After-F.Apply at b) = b
after_free (After-F.Image at b) = b

abbrev pub link_free : Link-F Bool Bool Bool → Bool
link_free l = not (is_comma l.operator) && l.operand

abbrev pub all_free : List Bool → Bool
all_free [] = true
all_free (b ∷ bs) = b && all_free bs

abbrev pub formula_free : Formula-F Bool Bool Bool → Bool
formula_free (Formula-F.Number at n) = true
formula_free (Formula-F.Text at s) = true
formula_free (Formula-F.Name at x) = true
formula_free (Formula-F.Old at x) = true
formula_free (Formula-F.Constant at c) = true
formula_free (Formula-F.Negative at b) = b
formula_free (Formula-F.Chain b bs) = b && all_free bs
formula_free (Formula-F.Row b bs) = b && all_free bs
formula_free (Formula-F.Call at f bs) = all_free bs
formula_free (Formula-F.Set at bs) = all_free bs
formula_free (Formula-F.Sequence at bs) = all_free bs
formula_free (Formula-F.Comprehension at ns b) = b
formula_free (Formula-F.Quantified at q ns b) = b
formula_free (Formula-F.Collected at c ns b d) = b && d
formula_free (Formula-F.If at b c d) = b && (c && d)

-- no comma stands between operands
abbrev pub is_free : Formula → Bool
is_free = fold-Formula Bool Bool Bool after_free formula_free link_free

abbrev pub is_free_link : Link → Bool
is_free_link = fold-Link Bool Bool Bool after_free formula_free link_free

abbrev pub is_free_after : After → Bool
is_free_after = fold-After Bool Bool Bool after_free formula_free link_free

free_blind : IsBlind Bool Bool Bool after_free formula_free link_free
free_blind = record { afters = afters; formulas = formulas; links = λ x. refl }
  where
    afters : (x : After-F Bool Bool Bool) → after_free (unplaced_after Bool Bool Bool x) ≡ after_free x
    afters (After-F.Converse at) = refl
    afters x = refl

    formulas : (x : Formula-F Bool Bool Bool) → formula_free (unplaced Bool Bool Bool x) ≡ formula_free x
    formulas (Formula-F.Number at n) = refl
    formulas x = refl

pub same_free : (t u : Formula) → IsSameApartFromPlaces t u → is_free t ≡ is_free u
same_free = same_by_blind Bool Bool Bool after_free formula_free link_free free_blind
