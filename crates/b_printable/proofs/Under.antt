-- A printable tree is printable under more brackets.
use Rattle.std.proofs.Common.{◌≡◌, ◌≢◌, ℕ, List, [], ◌∷◌, map, refl, sym, ap, ◌∙◌, subst}
use Rattle.std.specs.List.{AllByRecursion}
use Rattle.b_ast.specs.declared.Bound.{Bound}
use Rattle.b_ast.specs.declared.Operator.{Operator}
use Rattle.b_ast.specs.declared.Formula.{Formula, roll-Formula, map-Formula, fold-roll-Formula}
use Rattle.b_ast.specs.declared.Formula.TheVariants as formula
use Rattle.b_ast.specs.declared.Link.{Link, roll-Link, out-Link, fold-roll-Link, out-roll-Link}
use Rattle.b_ast.specs.declared.After.{After, roll-After, map-After, fold-roll-After}
use Rattle.b_ast.specs.declared.After.TheVariants as after
use Rattle.b_ast.specs.declared.After.TheOpen.{Formula-F, Link-F, After-F}
use Rattle.b_expand.specs.Places.{deeper_place, deeper_bound, after_deeper, formula_deeper, link_deeper, deeper, deeper_link, deeper_after}
use Rattle.b_reading_back.specs.Printable.{IsName, AreNames, MayChain, operators, LayerIsPrintable, IsPrintable, IsPrintableLink, IsPrintableAfter}
use Rattle.b_expand.proofs.Layers.{Below, BelowLink, BelowAfter, by_layers}
use Rattle.b_printable.proofs.Parts.{many_mapped, each_image}
use Rattle.b_printable.proofs.Every.{here, held, held_link, held_after, made, made_link, made_after}

-- ---- names under more brackets

-- the names stay
names_deeper : (n : ℕ) (bs : List Bound) → AllByRecursion (λ (b : Bound). IsName b.name) bs → AllByRecursion (λ (b : Bound). IsName b.name) (map (deeper_bound n) bs)
names_deeper n [] h = tt
names_deeper n (b ∷ bs) h = (h.0, names_deeper n bs h.1)

-- so there are some still
some_deeper : (n : ℕ) (bs : List Bound) → bs ≢ [] → map (deeper_bound n) bs ≢ []
some_deeper n [] h e = h refl
some_deeper n (b ∷ bs) h e = absurd (cc)

-- the names of a binder are names of a binder
pub bounds_deeper : (n : ℕ) (bs : List Bound) → AreNames bs → AreNames (map (deeper_bound n) bs)
bounds_deeper n bs h = (some_deeper n bs h.0, names_deeper n bs h.1)

-- ---- lists

-- of some there are some images
some_mapped : {X Y : Type 0} (f : X → Y) (xs : List X) → xs ≢ [] → map f xs ≢ []
some_mapped f [] h e = h refl
some_mapped f (x ∷ xs) h e = absurd (cc)

-- ---- layer by layer

module _ (n : ℕ) where
  -- what is to be proved of a formula, of a link and of a form after an operand
  abbrev PF : Formula → Type 0
  PF t = IsPrintable t → IsPrintable (deeper n t)

  abbrev PL : Link → Type 0
  PL l = IsPrintableLink l → IsPrintableLink (deeper_link n l) × ((out-Link (deeper_link n l)).operator ≡ (out-Link l).operator)

  abbrev PA : After → Type 0
  PA f = IsPrintableAfter f → IsPrintableAfter (deeper_after n f)

  -- the links of a chain with their operators
  links_mapped : (ls : List Link) → AllByRecursion IsPrintableLink ls → AllByRecursion PL ls → AllByRecursion IsPrintableLink (map (deeper_link n) ls) × (operators (map (deeper_link n) ls) ≡ operators ls)
  links_mapped [] h k = (tt, refl)
  links_mapped (l ∷ ls) h k =
      let one = k.0 h.0 in
      let more = links_mapped ls h.1 k.1 in
      ((one.0, more.0), ap (λ (o : Operator). o ∷ operators (map (deeper_link n) ls)) one.1 ∙ ap (λ (os : List Operator). (out-Link l).operator ∷ os) more.1)

  -- a layer whose parts are printable under the brackets
  layer_deeper : (x : Formula-F After Formula Link) → LayerIsPrintable x → Below IsPrintableAfter IsPrintable IsPrintableLink x → Below PA PF PL x
      → IsPrintable (formula_deeper n (map-Formula After Formula Link After Formula Link (deeper_after n) (deeper n) (deeper_link n) x))
  layer_deeper (Formula-F.Number at k) is held below = made LayerIsPrintable (Formula-F.Number (deeper_place n at) k) (formula.Number (deeper_place n at) k) (formula.rolls-Number (deeper_place n at) k) is tt
  layer_deeper (Formula-F.Text at s) is held below = made LayerIsPrintable (Formula-F.Text (deeper_place n at) s) (formula.Text (deeper_place n at) s) (formula.rolls-Text (deeper_place n at) s) is tt
  layer_deeper (Formula-F.Name at y) is held below = made LayerIsPrintable (Formula-F.Name (deeper_place n at) y) (formula.Name (deeper_place n at) y) (formula.rolls-Name (deeper_place n at) y) is tt
  layer_deeper (Formula-F.Old at y) is held below = made LayerIsPrintable (Formula-F.Old (deeper_place n at) y) (formula.Old (deeper_place n at) y) (formula.rolls-Old (deeper_place n at) y) is tt
  layer_deeper (Formula-F.Constant at c) is held below = made LayerIsPrintable (Formula-F.Constant (deeper_place n at) c) (formula.Constant (deeper_place n at) c) (formula.rolls-Constant (deeper_place n at) c) tt tt
  layer_deeper (Formula-F.Negative at e) is held below =
      made LayerIsPrintable (Formula-F.Negative (deeper_place n at) (deeper n e)) (formula.Negative (deeper_place n at) (deeper n e)) (formula.rolls-Negative (deeper_place n at) (deeper n e)) tt (below held)
  layer_deeper (Formula-F.Chain e ls) is held below =
      let r = links_mapped ls held.1 below.1 in
      made LayerIsPrintable (Formula-F.Chain (deeper n e) (map (deeper_link n) ls)) (formula.Chain (deeper n e) (map (deeper_link n) ls)) (formula.rolls-Chain (deeper n e) (map (deeper_link n) ls))
      (subst MayChain (sym r.1) is) (below.0 held.0, r.0)
  layer_deeper (Formula-F.Row e fs) is held below =
      made LayerIsPrintable (Formula-F.Row (deeper n e) (map (deeper_after n) fs)) (formula.Row (deeper n e) (map (deeper_after n) fs)) (formula.rolls-Row (deeper n e) (map (deeper_after n) fs))
      (some_mapped (deeper_after n) fs is) (below.0 held.0, each_image IsPrintableAfter IsPrintableAfter (deeper_after n) fs held.1 below.1)
  layer_deeper (Formula-F.Call at f us) is held below =
      made LayerIsPrintable (Formula-F.Call (deeper_place n at) f (map (deeper n) us)) (formula.Call (deeper_place n at) f (map (deeper n) us)) (formula.rolls-Call (deeper_place n at) f (map (deeper n) us))
      (many_mapped (deeper n) us ∙ is) (each_image IsPrintable IsPrintable (deeper n) us held below)
  layer_deeper (Formula-F.Set at us) is held below =
      made LayerIsPrintable (Formula-F.Set (deeper_place n at) (map (deeper n) us)) (formula.Set (deeper_place n at) (map (deeper n) us)) (formula.rolls-Set (deeper_place n at) (map (deeper n) us)) tt
      (each_image IsPrintable IsPrintable (deeper n) us held below)
  layer_deeper (Formula-F.Sequence at us) is held below =
      made LayerIsPrintable (Formula-F.Sequence (deeper_place n at) (map (deeper n) us)) (formula.Sequence (deeper_place n at) (map (deeper n) us)) (formula.rolls-Sequence (deeper_place n at) (map (deeper n) us)) tt
      (each_image IsPrintable IsPrintable (deeper n) us held below)
  layer_deeper (Formula-F.Comprehension at ns p) is held below =
      made LayerIsPrintable (Formula-F.Comprehension (deeper_place n at) (map (deeper_bound n) ns) (deeper n p)) (formula.Comprehension (deeper_place n at) (map (deeper_bound n) ns) (deeper n p))
      (formula.rolls-Comprehension (deeper_place n at) (map (deeper_bound n) ns) (deeper n p)) (bounds_deeper n ns is) (below held)
  layer_deeper (Formula-F.Quantified at q ns p) is held below =
      made LayerIsPrintable (Formula-F.Quantified (deeper_place n at) q (map (deeper_bound n) ns) (deeper n p)) (formula.Quantified (deeper_place n at) q (map (deeper_bound n) ns) (deeper n p))
      (formula.rolls-Quantified (deeper_place n at) q (map (deeper_bound n) ns) (deeper n p)) (bounds_deeper n ns is) (below held)
  layer_deeper (Formula-F.Collected at c ns p e) is held below =
      made LayerIsPrintable (Formula-F.Collected (deeper_place n at) c (map (deeper_bound n) ns) (deeper n p) (deeper n e)) (formula.Collected (deeper_place n at) c (map (deeper_bound n) ns) (deeper n p) (deeper n e))
      (formula.rolls-Collected (deeper_place n at) c (map (deeper_bound n) ns) (deeper n p) (deeper n e)) (bounds_deeper n ns is) (below.0 held.0, below.1 held.1)
  layer_deeper (Formula-F.If at p e f) is held below =
      made LayerIsPrintable (Formula-F.If (deeper_place n at) (deeper n p) (deeper n e) (deeper n f)) (formula.If (deeper_place n at) (deeper n p) (deeper n e) (deeper n f))
      (formula.rolls-If (deeper_place n at) (deeper n p) (deeper n e) (deeper n f)) tt (below.0 held.0, below.1 held.1, below.2 held.2)

  -- of a formula, by its layer
  on_formula : (x : Formula-F After Formula Link) → Below PA PF PL x → PF (roll-Formula x)
  on_formula x below h =
      subst IsPrintable (sym (fold-roll-Formula After Formula Link (after_deeper n) (formula_deeper n) (link_deeper n) x)) (layer_deeper x (here LayerIsPrintable x h) (held LayerIsPrintable x h) below)

  -- of a link
  on_link : (x : Link-F After Formula Link) → BelowLink PA PF PL x → PL (roll-Link x)
  on_link x below h =
      let y : Link-F After Formula Link = record { operator = x.operator; at = deeper_place n x.at; operand = deeper n x.operand } in
      let e : deeper_link n (roll-Link x) ≡ roll-Link y = fold-roll-Link After Formula Link (after_deeper n) (formula_deeper n) (link_deeper n) x in (
        subst IsPrintableLink (sym e) (made_link LayerIsPrintable y (below (held_link LayerIsPrintable x h))),
        ap (λ (l : Link). (out-Link l).operator) e ∙ ap (λ (z : Link-F After Formula Link). z.operator) (out-roll-Link y) ∙ sym (ap (λ (z : Link-F After Formula Link). z.operator) (out-roll-Link x)),
      )

  -- a layer of a form after an operand
  after_layer_deeper : (x : After-F After Formula Link) → BelowAfter IsPrintableAfter IsPrintable IsPrintableLink x → BelowAfter PA PF PL x
      → IsPrintableAfter (after_deeper n (map-After After Formula Link After Formula Link (deeper_after n) (deeper n) (deeper_link n) x))
  after_layer_deeper (After-F.Converse at) held below = made_after LayerIsPrintable (After-F.Converse (deeper_place n at)) (after.Converse (deeper_place n at)) (after.rolls-Converse (deeper_place n at)) tt
  after_layer_deeper (After-F.Apply at e) held below = made_after LayerIsPrintable (After-F.Apply (deeper_place n at) (deeper n e)) (after.Apply (deeper_place n at) (deeper n e)) (after.rolls-Apply (deeper_place n at) (deeper n e)) (below held)
  after_layer_deeper (After-F.Image at e) held below = made_after LayerIsPrintable (After-F.Image (deeper_place n at) (deeper n e)) (after.Image (deeper_place n at) (deeper n e)) (after.rolls-Image (deeper_place n at) (deeper n e)) (below held)

  -- of a form after an operand, by its layer
  on_after : (x : After-F After Formula Link) → BelowAfter PA PF PL x → PA (roll-After x)
  on_after x below h =
      subst IsPrintableAfter (sym (fold-roll-After After Formula Link (after_deeper n) (formula_deeper n) (link_deeper n) x)) (after_layer_deeper x (held_after LayerIsPrintable x h) below)

  -- of every tree
  pub printable_deeper : (t : Formula) → IsPrintable t → IsPrintable (deeper n t)
  printable_deeper = by_layers PA PF PL on_after on_formula on_link
