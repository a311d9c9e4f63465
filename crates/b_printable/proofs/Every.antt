-- What holds of each layer of a tree, taken apart and put together.
use Rattle.std.proofs.Common.{◌≡◌, List, [], ◌∷◌, map, refl, ap, subst}
use Rattle.std.specs.List.{AllByRecursion}
use Rattle.b_ast.specs.declared.Formula.{Formula, roll-Formula, out-Formula, map-Formula, out-roll-Formula, every-Formula, every_here-Formula, every_held-Formula, every_made-Formula}
use Rattle.b_ast.specs.declared.Link.{Link, roll-Link, out-Link, out-roll-Link, every-Link, every_held-Link, every_made-Link}
use Rattle.b_ast.specs.declared.After.{After, roll-After, out-After, map-After, out-roll-After, every-After, every_held-After, every_made-After}
use Rattle.b_ast.specs.declared.After.TheOpen.{Formula-F, Link-F, After-F}
use Rattle.b_reading_back.specs.Printable.{Anything}
use Rattle.b_expand.proofs.Layers.{Below, BelowLink, BelowAfter, unlift, unlift_link, unlift_after}

-- a list whose elements have it is one of elements that have it
lifted : {X : Type 0} (P : X → Type 0) (xs : List X) → AllByRecursion P xs → (ys : List ((v : X) × P v)) × (map (λ (e : (v : X) × P v). e.0) ys ≡ xs)
lifted P [] h = ([], refl)
lifted {X} P (x ∷ xs) h = let r = lifted P xs h.1 in ((x, h.0) ∷ r.0, ap (λ (zs : List X). x ∷ zs) r.1)

module _ (Q : Formula-F After Formula Link → Type 0) where
  -- each layer of the tree has it
  abbrev OfFormula : Formula → Type 0
  OfFormula = every-Formula Anything Q Anything

  abbrev OfLink : Link → Type 0
  OfLink = every-Link Anything Q Anything

  abbrev OfAfter : After → Type 0
  OfAfter = every-After Anything Q Anything

  -- a layer has it
  pub here : (x : Formula-F After Formula Link) → OfFormula (roll-Formula x) → Q x
  here x h = subst Q (out-roll-Formula x) (every_here-Formula Anything Q Anything (roll-Formula x) h)

  -- and the parts below have it
  pub held : (x : Formula-F After Formula Link) → OfFormula (roll-Formula x) → Below OfAfter OfFormula OfLink x
  held x h =
      let out = unlift OfAfter OfFormula OfLink (out-Formula (roll-Formula x)) (every_held-Formula Anything Q Anything (roll-Formula x) h) in
      subst (λ (y : Formula-F After Formula Link). Below OfAfter OfFormula OfLink y) (out-roll-Formula x) out

  -- of a link
  pub held_link : (x : Link-F After Formula Link) → OfLink (roll-Link x) → BelowLink OfAfter OfFormula OfLink x
  held_link x h =
      let out = unlift_link OfAfter OfFormula OfLink (out-Link (roll-Link x)) (every_held-Link Anything Q Anything (roll-Link x) h) in
      subst (λ (y : Link-F After Formula Link). BelowLink OfAfter OfFormula OfLink y) (out-roll-Link x) out

  -- of a form after an operand
  pub held_after : (x : After-F After Formula Link) → OfAfter (roll-After x) → BelowAfter OfAfter OfFormula OfLink x
  held_after x h =
      let out = unlift_after OfAfter OfFormula OfLink (out-After (roll-After x)) (every_held-After Anything Q Anything (roll-After x) h) in
      subst (λ (y : After-F After Formula Link). BelowAfter OfAfter OfFormula OfLink y) (out-roll-After x) out

  -- parts with their proofs
  abbrev A' : Type 0
  A' = (v : After) × OfAfter v

  abbrev F' : Type 0
  F' = (v : Formula) × OfFormula v

  abbrev L' : Type 0
  L' = (v : Link) × OfLink v

  -- the layer without the proofs
  abbrev bared : Formula-F A' F' L' → Formula-F After Formula Link
  bared = map-Formula A' F' L' After Formula Link (λ e. e.0) (λ e. e.0) (λ e. e.0)

  -- a layer with the proofs of its parts
  proved : (x : Formula-F After Formula Link) → Below OfAfter OfFormula OfLink x → (y : Formula-F A' F' L') × (bared y ≡ x)
  proved (Formula-F.Number at n) k = (Formula-F.Number at n, refl)
  proved (Formula-F.Text at s) k = (Formula-F.Text at s, refl)
  proved (Formula-F.Name at s) k = (Formula-F.Name at s, refl)
  proved (Formula-F.Old at s) k = (Formula-F.Old at s, refl)
  proved (Formula-F.Constant at c) k = (Formula-F.Constant at c, refl)
  proved (Formula-F.Negative at e) k = (Formula-F.Negative at (e, k), refl)
  proved (Formula-F.Chain e ls) k = let r = lifted OfLink ls k.1 in (Formula-F.Chain (e, k.0) r.0, ap (λ (zs : List Link). Formula-F.Chain e zs) r.1)
  proved (Formula-F.Row e fs) k = let r = lifted OfAfter fs k.1 in (Formula-F.Row (e, k.0) r.0, ap (λ (zs : List After). Formula-F.Row e zs) r.1)
  proved (Formula-F.Call at f us) k = let r = lifted OfFormula us k in (Formula-F.Call at f r.0, ap (λ (zs : List Formula). Formula-F.Call at f zs) r.1)
  proved (Formula-F.Set at us) k = let r = lifted OfFormula us k in (Formula-F.Set at r.0, ap (λ (zs : List Formula). Formula-F.Set at zs) r.1)
  proved (Formula-F.Sequence at us) k = let r = lifted OfFormula us k in (Formula-F.Sequence at r.0, ap (λ (zs : List Formula). Formula-F.Sequence at zs) r.1)
  proved (Formula-F.Comprehension at ns p) k = (Formula-F.Comprehension at ns (p, k), refl)
  proved (Formula-F.Quantified at q ns p) k = (Formula-F.Quantified at q ns (p, k), refl)
  proved (Formula-F.Collected at c ns p e) k = (Formula-F.Collected at c ns (p, k.0) (e, k.1), refl)
  proved (Formula-F.If at p e f) k = (Formula-F.If at (p, k.0) (e, k.1) (f, k.2), refl)

  -- a layer and its parts that have it make a tree that has it
  pub made : (x : Formula-F After Formula Link) (t : Formula) → roll-Formula x ≡ t → Q x → Below OfAfter OfFormula OfLink x → OfFormula t
  made x t e h k = let r = proved x k in subst OfFormula e (every_made-Formula Anything Q Anything x r.0 r.1 h)

  -- of a link
  pub made_link : (x : Link-F After Formula Link) → BelowLink OfAfter OfFormula OfLink x → OfLink (roll-Link x)
  made_link x k = every_made-Link Anything Q Anything x (record { operator = x.operator; at = x.at; operand = (x.operand, k) }) refl tt

  -- a form after an operand with the proof of its part
  proved_after : (x : After-F After Formula Link) → BelowAfter OfAfter OfFormula OfLink x → (y : After-F A' F' L') × (map-After A' F' L' After Formula Link (λ e. e.0) (λ e. e.0) (λ e. e.0) y ≡ x)
  proved_after (After-F.Converse at) k = (After-F.Converse at, refl)
  proved_after (After-F.Apply at e) k = (After-F.Apply at (e, k), refl)
  proved_after (After-F.Image at e) k = (After-F.Image at (e, k), refl)

  -- a form after an operand whose part has it
  pub made_after : (x : After-F After Formula Link) (a : After) → roll-After x ≡ a → BelowAfter OfAfter OfFormula OfLink x → OfAfter a
  made_after x a e k = let r = proved_after x k in subst OfAfter e (every_made-After Anything Q Anything x r.0 r.1 tt)
