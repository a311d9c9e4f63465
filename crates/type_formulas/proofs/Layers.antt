-- Induction over formulas, layer by layer.
use Rattle.std.proofs.Common.{◌≡◌, List, [], ◌∷◌, map, subst}
use Rattle.std.specs.List.{AllByRecursion}
use Rattle.b_ast.specs.declared.Formula.{Formula, roll-Formula, map-Formula, ind-Formula}
use Rattle.b_ast.specs.declared.Link.{Link, roll-Link, map-Link}
use Rattle.b_ast.specs.declared.After.{After, roll-After, map-After}
use Rattle.b_ast.specs.declared.After.TheOpen.{Formula-F, Link-F, After-F}

module _ (PA : After → Type 0) (PF : Formula → Type 0) (PL : Link → Type 0) where
  -- of each part right below
  abbrev pub BelowAfter : After-F After Formula Link → Type 0
  BelowAfter (After-F.Converse at) = Unit {0}
  BelowAfter (After-F.Apply at e) = PF e
  BelowAfter (After-F.Image at e) = PF e

  abbrev pub BelowLink : Link-F After Formula Link → Type 0
  BelowLink l = PF l.operand

  abbrev pub Below : Formula-F After Formula Link → Type 0
  Below (Formula-F.Negative at e) = PF e
  Below (Formula-F.Chain e ls) = PF e × AllByRecursion PL ls
  Below (Formula-F.Row e fs) = PF e × AllByRecursion PA fs
  Below (Formula-F.Call at f us) = AllByRecursion PF us
  Below (Formula-F.Set at us) = AllByRecursion PF us
  Below (Formula-F.Sequence at us) = AllByRecursion PF us
  Below (Formula-F.Comprehension at ns p) = PF p
  Below (Formula-F.Quantified at q ns p) = PF p
  Below (Formula-F.Collected at c ns p e) = PF p × PF e
  Below (Formula-F.If at p e f) = PF p × PF e × PF f
  Below x = Unit {0}

  abbrev A' : Type 0
  A' = (v : After) × PA v

  abbrev F' : Type 0
  F' = (v : Formula) × PF v

  abbrev L' : Type 0
  L' = (v : Link) × PL v

  each_of : {X : Type 0} (P : X → Type 0) (es : List ((v : X) × P v)) → AllByRecursion P (map (λ (e : (v : X) × P v). e.0) es)
  each_of P [] = tt
  each_of P (e ∷ es) = (e.1, each_of P es)

  below_after : (y : After-F A' F' L') → BelowAfter (map-After A' F' L' After Formula Link (λ e. e.0) (λ e. e.0) (λ e. e.0) y)
  below_after (After-F.Converse at) = tt
  below_after (After-F.Apply at e) = e.1
  below_after (After-F.Image at e) = e.1

  below_link : (y : Link-F A' F' L') → BelowLink (map-Link A' F' L' After Formula Link (λ e. e.0) (λ e. e.0) (λ e. e.0) y)
  below_link l = l.operand.1

  below_of : (y : Formula-F A' F' L') → Below (map-Formula A' F' L' After Formula Link (λ e. e.0) (λ e. e.0) (λ e. e.0) y)
  below_of (Formula-F.Negative at e) = e.1
  below_of (Formula-F.Chain e ls) = (e.1, each_of PL ls)
  below_of (Formula-F.Row e fs) = (e.1, each_of PA fs)
  below_of (Formula-F.Call at f us) = each_of PF us
  below_of (Formula-F.Set at us) = each_of PF us
  below_of (Formula-F.Sequence at us) = each_of PF us
  below_of (Formula-F.Comprehension at ns p) = p.1
  below_of (Formula-F.Quantified at q ns p) = p.1
  below_of (Formula-F.Collected at c ns p e) = (p.1, e.1)
  below_of (Formula-F.If at p e f) = (p.1, e.1, f.1)
  below_of x = tt

  -- what holds of a layer whose parts have it holds of every formula
  pub by_layers : ((x : After-F After Formula Link) → BelowAfter x → PA (roll-After x)) → ((x : Formula-F After Formula Link) → Below x → PF (roll-Formula x))
      → ((x : Link-F After Formula Link) → BelowLink x → PL (roll-Link x)) → (t : Formula) → PF t
  by_layers on_after on_formula on_link =
      ind-Formula PA PF PL
      (λ x y is. on_after x (subst BelowAfter is (below_after y)))
      (λ x y is. on_formula x (subst Below is (below_of y)))
      (λ x y is. on_link x (subst BelowLink is (below_link y)))
