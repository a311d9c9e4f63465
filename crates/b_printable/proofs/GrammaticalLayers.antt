-- A layer whose parts are written is a written tree.
use Rattle.std.proofs.Common.{◌≡◌, ◌≢◌, ◌≤◌, ◌-◌, ◌^◌, ℕ, List, [], ◌∷◌, map, length, refl, ap, subst}
use Rattle.std.specs.List.{AllByRecursion}
use Rattle.b_ast.specs.declared.Place.{Place}
use Rattle.b_ast.specs.declared.Bound.{Bound}
use Rattle.b_ast.specs.declared.Constant.{Constant}
use Rattle.b_ast.specs.declared.Function.{Function}
use Rattle.b_ast.specs.declared.Quantifier.{Quantifier}
use Rattle.b_ast.specs.declared.Collector.{Collector}
use Rattle.b_ast.specs.declared.Formula.{Formula, roll-Formula, map-Formula, every_made-Formula}
use Rattle.b_ast.specs.declared.Formula.TheVariants as formula
use Rattle.b_ast.specs.declared.Link.{Link, every_made-Link}
use Rattle.b_ast.specs.declared.After.{After, roll-After, map-After, every_made-After}
use Rattle.b_ast.specs.declared.After.TheVariants as after
use Rattle.b_ast.specs.declared.After.TheOpen.{Formula-F, After-F}
use Rattle.b_grammar.specs.Grammar.{arity, Part, link}
use Rattle.b_reading_back.specs.Printable.{Anything, operators, IsName, IsStringValue, AreNames}
use Rattle.b_printable.specs.Written.{MayStand, LayerIsWritten, IsWritten, IsWrittenLink, IsWrittenAfter}

-- written parts of each sort
abbrev A' : Type 0
A' = (v : After) × IsWrittenAfter v

abbrev F' : Type 0
F' = (v : Formula) × IsWritten v

abbrev L' : Type 0
L' = (v : Link) × IsWrittenLink v

-- each element with what holds of it
abbrev paired : {X : Type 0} (P : X → Type 0) (xs : List X) → AllByRecursion P xs → List ((v : X) × P v)
paired P [] k = []
paired P (x ∷ xs) k = (x, k.0) ∷ paired P xs k.1

-- the elements are still the same
paired_back : {X : Type 0} (P : X → Type 0) (xs : List X) (k : AllByRecursion P xs) → map (λ (e : (v : X) × P v). e.0) (paired P xs k) ≡ xs
paired_back P [] k = refl
paired_back P (x ∷ xs) k = ap (λ l. x ∷ l) (paired_back P xs k.1)

-- a layer of written parts
rolled : (x : Formula-F After Formula Link) (y : Formula-F A' F' L') → map-Formula A' F' L' After Formula Link (λ e. e.0) (λ e. e.0) (λ e. e.0) y ≡ x → LayerIsWritten x → IsWritten (roll-Formula x)
rolled x y is here = every_made-Formula Anything LayerIsWritten Anything x y is here

-- a form of written parts
rolled_after : (x : After-F After Formula Link) (y : After-F A' F' L') → map-After A' F' L' After Formula Link (λ e. e.0) (λ e. e.0) (λ e. e.0) y ≡ x → IsWrittenAfter (roll-After x)
rolled_after x y is = every_made-After Anything LayerIsWritten Anything x y is tt

-- a number that isn't too wide
pub written-Number : (at : Place) (n : ℕ) → n ≤ 2 ^ 127 - 1 → IsWritten (formula.Number at n)
written-Number at n h = subst IsWritten (formula.rolls-Number at n) (rolled (Formula-F.Number at n) (Formula-F.Number at n) refl h)

-- a string's value
pub written-Text : (at : Place) (s : List ℕ) → IsStringValue s → IsWritten (formula.Text at s)
written-Text at s h = subst IsWritten (formula.rolls-Text at s) (rolled (Formula-F.Text at s) (Formula-F.Text at s) refl h)

-- a name
pub written-Name : (at : Place) (x : List ℕ) → IsName x → IsWritten (formula.Name at x)
written-Name at x h = subst IsWritten (formula.rolls-Name at x) (rolled (Formula-F.Name at x) (Formula-F.Name at x) refl h)

-- a name's former value
pub written-Old : (at : Place) (x : List ℕ) → IsName x → IsWritten (formula.Old at x)
written-Old at x h = subst IsWritten (formula.rolls-Old at x) (rolled (Formula-F.Old at x) (Formula-F.Old at x) refl h)

-- a constant
pub written-Constant : (at : Place) (c : Constant) → IsWritten (formula.Constant at c)
written-Constant at c = subst IsWritten (formula.rolls-Constant at c) (rolled (Formula-F.Constant at c) (Formula-F.Constant at c) refl tt)

-- a minus before a written tree
pub written-Negative : (at : Place) (e : Formula) → IsWritten e → IsWritten (formula.Negative at e)
written-Negative at e h = subst IsWritten (formula.rolls-Negative at e) (rolled (Formula-F.Negative at e) (Formula-F.Negative at (e, h)) refl tt)

-- written operands with operators that may stand together
pub written-Chain : (e : Formula) (ls : List Link) → IsWritten e → AllByRecursion IsWrittenLink ls → MayStand (operators ls) → IsWritten (formula.Chain e ls)
written-Chain e ls h k m = subst IsWritten (formula.rolls-Chain e ls) (rolled (Formula-F.Chain e ls) (Formula-F.Chain (e, h) (paired IsWrittenLink ls k)) (ap (λ (l : List Link). Formula-F.Chain e l) (paired_back IsWrittenLink ls k)) m)

-- written forms, one at least, after a written tree
pub written-Row : (e : Formula) (fs : List After) → IsWritten e → AllByRecursion IsWrittenAfter fs → fs ≢ [] → IsWritten (formula.Row e fs)
written-Row e fs h k m = subst IsWritten (formula.rolls-Row e fs) (rolled (Formula-F.Row e fs) (Formula-F.Row (e, h) (paired IsWrittenAfter fs k)) (ap (λ (l : List After). Formula-F.Row e l) (paired_back IsWrittenAfter fs k)) m)

-- as many written arguments as a function word has
pub written-Call : (at : Place) (f : Function) (us : List Formula) → AllByRecursion IsWritten us → length us ≡ arity f → IsWritten (formula.Call at f us)
written-Call at f us k m = subst IsWritten (formula.rolls-Call at f us) (rolled (Formula-F.Call at f us) (Formula-F.Call at f (paired IsWritten us k)) (ap (λ (l : List Formula). Formula-F.Call at f l) (paired_back IsWritten us k)) m)

-- a set of written trees
pub written-Set : (at : Place) (us : List Formula) → AllByRecursion IsWritten us → IsWritten (formula.Set at us)
written-Set at us k = subst IsWritten (formula.rolls-Set at us) (rolled (Formula-F.Set at us) (Formula-F.Set at (paired IsWritten us k)) (ap (λ (l : List Formula). Formula-F.Set at l) (paired_back IsWritten us k)) tt)

-- a sequence of written trees
pub written-Sequence : (at : Place) (us : List Formula) → AllByRecursion IsWritten us → IsWritten (formula.Sequence at us)
written-Sequence at us k = subst IsWritten (formula.rolls-Sequence at us) (rolled (Formula-F.Sequence at us) (Formula-F.Sequence at (paired IsWritten us k)) (ap (λ (l : List Formula). Formula-F.Sequence at l) (paired_back IsWritten us k)) tt)

-- a comprehension over names
pub written-Comprehension : (at : Place) (ns : List Bound) (p : Formula) → AreNames ns → IsWritten p → IsWritten (formula.Comprehension at ns p)
written-Comprehension at ns p k h = subst IsWritten (formula.rolls-Comprehension at ns p) (rolled (Formula-F.Comprehension at ns p) (Formula-F.Comprehension at ns (p, h)) refl k)

-- a quantifier over names
pub written-Quantified : (at : Place) (q : Quantifier) (ns : List Bound) (p : Formula) → AreNames ns → IsWritten p → IsWritten (formula.Quantified at q ns p)
written-Quantified at q ns p k h = subst IsWritten (formula.rolls-Quantified at q ns p) (rolled (Formula-F.Quantified at q ns p) (Formula-F.Quantified at q ns (p, h)) refl k)

-- a collector over names
pub written-Collected : (at : Place) (c : Collector) (ns : List Bound) (p : Formula) (e : Formula) → AreNames ns → IsWritten p → IsWritten e → IsWritten (formula.Collected at c ns p e)
written-Collected at c ns p e k h i = subst IsWritten (formula.rolls-Collected at c ns p e) (rolled (Formula-F.Collected at c ns p e) (Formula-F.Collected at c ns (p, h) (e, i)) refl k)

-- a conditional of written trees
pub written-If : (at : Place) (p : Formula) (e : Formula) (f : Formula) → IsWritten p → IsWritten e → IsWritten f → IsWritten (formula.If at p e f)
written-If at p e f h i j = subst IsWritten (formula.rolls-If at p e f) (rolled (Formula-F.If at p e f) (Formula-F.If at (p, h) (e, i) (f, j)) refl tt)

-- a converse
pub written-Converse : (at : Place) → IsWrittenAfter (after.Converse at)
written-Converse at = subst IsWrittenAfter (after.rolls-Converse at) (rolled_after (After-F.Converse at) (After-F.Converse at) refl)

-- an application to a written tree
pub written-Apply : (at : Place) (e : Formula) → IsWritten e → IsWrittenAfter (after.Apply at e)
written-Apply at e h = subst IsWrittenAfter (after.rolls-Apply at e) (rolled_after (After-F.Apply at e) (After-F.Apply at (e, h)) refl)

-- an image of a written tree
pub written-Image : (at : Place) (e : Formula) → IsWritten e → IsWrittenAfter (after.Image at e)
written-Image at e h = subst IsWrittenAfter (after.rolls-Image at e) (rolled_after (After-F.Image at e) (After-F.Image at (e, h)) refl)

-- an operator before a written tree
pub written-link : (l : Part) → IsWritten l.2 → IsWrittenLink (link l)
written-link l h =
    every_made-Link Anything LayerIsWritten Anything (record { operator = l.0; at = l.1; operand = l.2 }) (record { operator = l.0; at = l.1; operand = (l.2, h) }) refl tt
