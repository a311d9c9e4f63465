-- Trees whose places change, and change again.
use Rattle.std.proofs.Common.{◌≡◌, ℕ, List, [], ◌∷◌, map, Option, Some, None, refl, sym, ap, ◌∙◌, arith}
use Rattle.std.specs.List.{AllByRecursion}
use Rattle.b_ast.specs.declared.Place.{Place}
use Rattle.b_ast.specs.declared.Bound.{Bound}
use Rattle.b_ast.specs.declared.Formula.{Formula, roll-Formula, map-Formula, fold-roll-Formula}
use Rattle.b_ast.specs.declared.Formula.TheVariants as formula
use Rattle.b_ast.specs.declared.Link.{Link, roll-Link, fold-roll-Link}
use Rattle.b_ast.specs.declared.After.{After, roll-After, map-After, fold-roll-After}
use Rattle.b_ast.specs.declared.After.TheVariants as after
use Rattle.b_ast.specs.declared.After.TheOpen.{Formula-F, Link-F, After-F}
use Rattle.b_expand.specs.Places.{brackets, deeper_place, raised_place, raised, after_moved, formula_moved, link_moved, moved_bound, moved, moved_link, moved_after}
use Rattle.b_expand.specs.Expansion.{row_of}
use Rattle.b_expand.proofs.Layers.{Below, BelowAfter, BelowLink, by_layers}

-- a layer of a tree whose places change
abbrev moved_layer : (Place → Place) → Formula-F After Formula Link → Formula
moved_layer f x = formula_moved f (map-Formula After Formula Link After Formula Link (moved_after f) (moved f) (moved_link f) x)

layer : (f : Place → Place) (x : Formula-F After Formula Link) (t : Formula) → roll-Formula x ≡ t → moved f t ≡ moved_layer f x
layer f x t e = ap (moved f) (sym e) ∙ fold-roll-Formula After Formula Link (after_moved f) (formula_moved f) (link_moved f) x

abbrev moved_form : (Place → Place) → After-F After Formula Link → After
moved_form f x = after_moved f (map-After After Formula Link After Formula Link (moved_after f) (moved f) (moved_link f) x)

form_layer : (f : Place → Place) (x : After-F After Formula Link) (t : After) → roll-After x ≡ t → moved_after f t ≡ moved_form f x
form_layer f x t e = ap (moved_after f) (sym e) ∙ fold-roll-After After Formula Link (after_moved f) (formula_moved f) (link_moved f) x

link_layer : (f : Place → Place) (x : Link-F After Formula Link) → moved_link f (roll-Link x) ≡ roll-Link (record { operator = x.operator; at = f x.at; operand = moved f x.operand })
link_layer f x = fold-roll-Link After Formula Link (after_moved f) (formula_moved f) (link_moved f) x

-- ---- twice

module _ (f g h : Place → Place) (same : (at : Place) → f (g at) ≡ h at) where
  abbrev PF : Formula → Type 0
  PF t = moved f (moved g t) ≡ moved h t

  abbrev PL : Link → Type 0
  PL l = moved_link f (moved_link g l) ≡ moved_link h l

  abbrev PA : After → Type 0
  PA a = moved_after f (moved_after g a) ≡ moved_after h a

  all_twice : {X : Type 0} (m n o : X → X) (xs : List X) → AllByRecursion (λ x. m (n x) ≡ o x) xs → map m (map n xs) ≡ map o xs
  all_twice m n o [] k = refl
  all_twice {X} m n o (x ∷ xs) k = ap (λ (y : X). y ∷ map m (map n xs)) k.0 ∙ ap (λ (ys : List X). o x ∷ ys) (all_twice m n o xs k.1)

  bounds_twice : (xs : List Bound) → map (moved_bound f) (map (moved_bound g) xs) ≡ map (moved_bound h) xs
  bounds_twice [] = refl
  bounds_twice (x ∷ xs) =
      ap (λ (at : Place). record x { at = at } ∷ map (moved_bound f) (map (moved_bound g) xs)) (same x.at)
      ∙ ap (λ (ys : List Bound). moved_bound h x ∷ ys) (bounds_twice xs)

  -- through a layer and the next
  joint : (x y : Formula-F After Formula Link) (t : Formula) → moved_layer g x ≡ t → roll-Formula y ≡ t → moved_layer f y ≡ moved_layer h x → PF (roll-Formula x)
  joint x y t e r k = ap (moved f) (layer g x (roll-Formula x) refl ∙ e) ∙ (layer f y t r ∙ (k ∙ sym (layer h x (roll-Formula x) refl)))

  on_formula : (x : Formula-F After Formula Link) → Below PA PF PL x → PF (roll-Formula x)
  on_formula (Formula-F.Number at n) k =
      joint (Formula-F.Number at n) (Formula-F.Number (g at) n) (formula.Number (g at) n) refl (formula.rolls-Number (g at) n)
      (ap (λ (z : Place). formula.Number z n) (same at))
  on_formula (Formula-F.Text at x) k =
      joint (Formula-F.Text at x) (Formula-F.Text (g at) x) (formula.Text (g at) x) refl (formula.rolls-Text (g at) x)
      (ap (λ (z : Place). formula.Text z x) (same at))
  on_formula (Formula-F.Name at x) k =
      joint (Formula-F.Name at x) (Formula-F.Name (g at) x) (formula.Name (g at) x) refl (formula.rolls-Name (g at) x)
      (ap (λ (z : Place). formula.Name z x) (same at))
  on_formula (Formula-F.Old at x) k =
      joint (Formula-F.Old at x) (Formula-F.Old (g at) x) (formula.Old (g at) x) refl (formula.rolls-Old (g at) x)
      (ap (λ (z : Place). formula.Old z x) (same at))
  on_formula (Formula-F.Constant at c) k =
      joint (Formula-F.Constant at c) (Formula-F.Constant (g at) c) (formula.Constant (g at) c) refl (formula.rolls-Constant (g at) c)
      (ap (λ (z : Place). formula.Constant z c) (same at))
  on_formula (Formula-F.Negative at e) k =
      joint (Formula-F.Negative at e) (Formula-F.Negative (g at) (moved g e)) (formula.Negative (g at) (moved g e)) refl (formula.rolls-Negative (g at) (moved g e))
      (ap (λ (z : Place). formula.Negative z (moved f (moved g e))) (same at) ∙ (ap (λ (z : Formula). formula.Negative (h at) z) (k)))
  on_formula (Formula-F.Chain e ls) k =
      joint (Formula-F.Chain e ls) (Formula-F.Chain (moved g e) (map (moved_link g) ls)) (formula.Chain (moved g e) (map (moved_link g) ls)) refl (formula.rolls-Chain (moved g e) (map (moved_link g) ls))
      (ap (λ (z : Formula). formula.Chain z (map (moved_link f) (map (moved_link g) ls))) (k.0) ∙ (ap (λ (z : List Link). formula.Chain (moved h e) z) (all_twice (moved_link f) (moved_link g) (moved_link h) ls k.1)))
  on_formula (Formula-F.Row e fs) k =
      joint (Formula-F.Row e fs) (Formula-F.Row (moved g e) (map (moved_after g) fs)) (formula.Row (moved g e) (map (moved_after g) fs)) refl (formula.rolls-Row (moved g e) (map (moved_after g) fs))
      (ap (λ (z : Formula). formula.Row z (map (moved_after f) (map (moved_after g) fs))) (k.0) ∙ (ap (λ (z : List After). formula.Row (moved h e) z) (all_twice (moved_after f) (moved_after g) (moved_after h) fs k.1)))
  on_formula (Formula-F.Call at w es) k =
      joint (Formula-F.Call at w es) (Formula-F.Call (g at) w (map (moved g) es)) (formula.Call (g at) w (map (moved g) es)) refl (formula.rolls-Call (g at) w (map (moved g) es))
      (ap (λ (z : Place). formula.Call z w (map (moved f) (map (moved g) es))) (same at) ∙ (ap (λ (z : List Formula). formula.Call (h at) w z) (all_twice (moved f) (moved g) (moved h) es k)))
  on_formula (Formula-F.Set at es) k =
      joint (Formula-F.Set at es) (Formula-F.Set (g at) (map (moved g) es)) (formula.Set (g at) (map (moved g) es)) refl (formula.rolls-Set (g at) (map (moved g) es))
      (ap (λ (z : Place). formula.Set z (map (moved f) (map (moved g) es))) (same at) ∙ (ap (λ (z : List Formula). formula.Set (h at) z) (all_twice (moved f) (moved g) (moved h) es k)))
  on_formula (Formula-F.Sequence at es) k =
      joint (Formula-F.Sequence at es) (Formula-F.Sequence (g at) (map (moved g) es)) (formula.Sequence (g at) (map (moved g) es)) refl (formula.rolls-Sequence (g at) (map (moved g) es))
      (ap (λ (z : Place). formula.Sequence z (map (moved f) (map (moved g) es))) (same at) ∙ (ap (λ (z : List Formula). formula.Sequence (h at) z) (all_twice (moved f) (moved g) (moved h) es k)))
  on_formula (Formula-F.Comprehension at xs p) k =
      joint (Formula-F.Comprehension at xs p) (Formula-F.Comprehension (g at) (map (moved_bound g) xs) (moved g p)) (formula.Comprehension (g at) (map (moved_bound g) xs) (moved g p)) refl (formula.rolls-Comprehension (g at) (map (moved_bound g) xs) (moved g p))
      (ap (λ (z : Place). formula.Comprehension z (map (moved_bound f) (map (moved_bound g) xs)) (moved f (moved g p))) (same at) ∙ (ap (λ (z : List Bound). formula.Comprehension (h at) z (moved f (moved g p))) (bounds_twice xs) ∙ (ap (λ (z : Formula). formula.Comprehension (h at) (map (moved_bound h) xs) z) (k))))
  on_formula (Formula-F.Quantified at q xs p) k =
      joint (Formula-F.Quantified at q xs p) (Formula-F.Quantified (g at) q (map (moved_bound g) xs) (moved g p)) (formula.Quantified (g at) q (map (moved_bound g) xs) (moved g p)) refl (formula.rolls-Quantified (g at) q (map (moved_bound g) xs) (moved g p))
      (ap (λ (z : Place). formula.Quantified z q (map (moved_bound f) (map (moved_bound g) xs)) (moved f (moved g p))) (same at) ∙ (ap (λ (z : List Bound). formula.Quantified (h at) q z (moved f (moved g p))) (bounds_twice xs) ∙ (ap (λ (z : Formula). formula.Quantified (h at) q (map (moved_bound h) xs) z) (k))))
  on_formula (Formula-F.Collected at c xs p e) k =
      joint (Formula-F.Collected at c xs p e) (Formula-F.Collected (g at) c (map (moved_bound g) xs) (moved g p) (moved g e)) (formula.Collected (g at) c (map (moved_bound g) xs) (moved g p) (moved g e)) refl (formula.rolls-Collected (g at) c (map (moved_bound g) xs) (moved g p) (moved g e))
      (ap (λ (z : Place). formula.Collected z c (map (moved_bound f) (map (moved_bound g) xs)) (moved f (moved g p)) (moved f (moved g e))) (same at) ∙ (ap (λ (z : List Bound). formula.Collected (h at) c z (moved f (moved g p)) (moved f (moved g e))) (bounds_twice xs) ∙ (ap (λ (z : Formula). formula.Collected (h at) c (map (moved_bound h) xs) z (moved f (moved g e))) (k.0) ∙ (ap (λ (z : Formula). formula.Collected (h at) c (map (moved_bound h) xs) (moved h p) z) (k.1)))))
  on_formula (Formula-F.If at p e u) k =
      joint (Formula-F.If at p e u) (Formula-F.If (g at) (moved g p) (moved g e) (moved g u)) (formula.If (g at) (moved g p) (moved g e) (moved g u)) refl (formula.rolls-If (g at) (moved g p) (moved g e) (moved g u))
      (ap (λ (z : Place). formula.If z (moved f (moved g p)) (moved f (moved g e)) (moved f (moved g u))) (same at) ∙ (ap (λ (z : Formula). formula.If (h at) z (moved f (moved g e)) (moved f (moved g u))) (k.0) ∙ (ap (λ (z : Formula). formula.If (h at) (moved h p) z (moved f (moved g u))) (k.1) ∙ (ap (λ (z : Formula). formula.If (h at) (moved h p) (moved h e) z) (k.2)))))

  on_link : (x : Link-F After Formula Link) → BelowLink PA PF PL x → PL (roll-Link x)
  on_link x k =
      ap (moved_link f) (link_layer g x)
      ∙ (link_layer f (record { operator = x.operator; at = g x.at; operand = moved g x.operand })
      ∙ (ap (λ (at : Place). roll-Link (record { operator = x.operator; at = at; operand = moved f (moved g x.operand) })) (same x.at)
      ∙ (ap (λ (t : Formula). roll-Link (record { operator = x.operator; at = h x.at; operand = t })) k ∙ sym (link_layer h x))))

  joint_form : (x y : After-F After Formula Link) (t : After) → moved_form g x ≡ t → roll-After y ≡ t → moved_form f y ≡ moved_form h x → PA (roll-After x)
  joint_form x y t e r k = ap (moved_after f) (form_layer g x (roll-After x) refl ∙ e) ∙ (form_layer f y t r ∙ (k ∙ sym (form_layer h x (roll-After x) refl)))

  on_after : (x : After-F After Formula Link) → BelowAfter PA PF PL x → PA (roll-After x)
  on_after (After-F.Converse at) k = joint_form (After-F.Converse at) (After-F.Converse (g at)) (after.Converse (g at)) refl (after.rolls-Converse (g at)) (ap (λ (z : Place). after.Converse z) (same at))
  on_after (After-F.Apply at e) k =
      joint_form (After-F.Apply at e) (After-F.Apply (g at) (moved g e)) (after.Apply (g at) (moved g e)) refl (after.rolls-Apply (g at) (moved g e))
      (ap (λ (z : Place). after.Apply z (moved f (moved g e))) (same at) ∙ ap (λ (z : Formula). after.Apply (h at) z) k)
  on_after (After-F.Image at e) k =
      joint_form (After-F.Image at e) (After-F.Image (g at) (moved g e)) (after.Image (g at) (moved g e)) refl (after.rolls-Image (g at) (moved g e))
      (ap (λ (z : Place). after.Image z (moved f (moved g e))) (same at) ∙ ap (λ (z : Formula). after.Image (h at) z) k)

  -- places that change twice change once
  pub moved_twice : (t : Formula) → moved f (moved g t) ≡ moved h t
  moved_twice t = by_layers PA PF PL on_after on_formula on_link t

-- ---- not at all

module _ (f : Place → Place) (same : (at : Place) → f at ≡ at) where
  abbrev SF : Formula → Type 0
  SF t = moved f t ≡ t

  abbrev SL : Link → Type 0
  SL l = moved_link f l ≡ l

  abbrev SA : After → Type 0
  SA a = moved_after f a ≡ a

  all_same : {X : Type 0} (m : X → X) (xs : List X) → AllByRecursion (λ x. m x ≡ x) xs → map m xs ≡ xs
  all_same m [] k = refl
  all_same {X} m (x ∷ xs) k = ap (λ (y : X). y ∷ map m xs) k.0 ∙ ap (λ (ys : List X). x ∷ ys) (all_same m xs k.1)

  bounds_same : (xs : List Bound) → map (moved_bound f) xs ≡ xs
  bounds_same [] = refl
  bounds_same (x ∷ xs) = ap (λ (at : Place). record x { at = at } ∷ map (moved_bound f) xs) (same x.at) ∙ ap (λ (ys : List Bound). x ∷ ys) (bounds_same xs)

  still : (x : Formula-F After Formula Link) (t : Formula) → roll-Formula x ≡ t → moved_layer f x ≡ t → SF (roll-Formula x)
  still x t r k = layer f x (roll-Formula x) refl ∙ (k ∙ sym r)

  on_formula_same : (x : Formula-F After Formula Link) → Below SA SF SL x → SF (roll-Formula x)
  on_formula_same (Formula-F.Number at n) k = still (Formula-F.Number at n) (formula.Number at n) (formula.rolls-Number at n) (ap (λ (z : Place). formula.Number z n) (same at))
  on_formula_same (Formula-F.Text at x) k = still (Formula-F.Text at x) (formula.Text at x) (formula.rolls-Text at x) (ap (λ (z : Place). formula.Text z x) (same at))
  on_formula_same (Formula-F.Name at x) k = still (Formula-F.Name at x) (formula.Name at x) (formula.rolls-Name at x) (ap (λ (z : Place). formula.Name z x) (same at))
  on_formula_same (Formula-F.Old at x) k = still (Formula-F.Old at x) (formula.Old at x) (formula.rolls-Old at x) (ap (λ (z : Place). formula.Old z x) (same at))
  on_formula_same (Formula-F.Constant at c) k = still (Formula-F.Constant at c) (formula.Constant at c) (formula.rolls-Constant at c) (ap (λ (z : Place). formula.Constant z c) (same at))
  on_formula_same (Formula-F.Negative at e) k = still (Formula-F.Negative at e) (formula.Negative at e) (formula.rolls-Negative at e) (ap (λ (z : Place). formula.Negative z (moved f e)) (same at) ∙ (ap (λ (z : Formula). formula.Negative at z) (k)))
  on_formula_same (Formula-F.Chain e ls) k = still (Formula-F.Chain e ls) (formula.Chain e ls) (formula.rolls-Chain e ls) (ap (λ (z : Formula). formula.Chain z (map (moved_link f) ls)) (k.0) ∙ (ap (λ (z : List Link). formula.Chain e z) (all_same (moved_link f) ls k.1)))
  on_formula_same (Formula-F.Row e fs) k = still (Formula-F.Row e fs) (formula.Row e fs) (formula.rolls-Row e fs) (ap (λ (z : Formula). formula.Row z (map (moved_after f) fs)) (k.0) ∙ (ap (λ (z : List After). formula.Row e z) (all_same (moved_after f) fs k.1)))
  on_formula_same (Formula-F.Call at w es) k = still (Formula-F.Call at w es) (formula.Call at w es) (formula.rolls-Call at w es) (ap (λ (z : Place). formula.Call z w (map (moved f) es)) (same at) ∙ (ap (λ (z : List Formula). formula.Call at w z) (all_same (moved f) es k)))
  on_formula_same (Formula-F.Set at es) k = still (Formula-F.Set at es) (formula.Set at es) (formula.rolls-Set at es) (ap (λ (z : Place). formula.Set z (map (moved f) es)) (same at) ∙ (ap (λ (z : List Formula). formula.Set at z) (all_same (moved f) es k)))
  on_formula_same (Formula-F.Sequence at es) k = still (Formula-F.Sequence at es) (formula.Sequence at es) (formula.rolls-Sequence at es) (ap (λ (z : Place). formula.Sequence z (map (moved f) es)) (same at) ∙ (ap (λ (z : List Formula). formula.Sequence at z) (all_same (moved f) es k)))
  on_formula_same (Formula-F.Comprehension at xs p) k = still (Formula-F.Comprehension at xs p) (formula.Comprehension at xs p) (formula.rolls-Comprehension at xs p) (ap (λ (z : Place). formula.Comprehension z (map (moved_bound f) xs) (moved f p)) (same at) ∙ (ap (λ (z : List Bound). formula.Comprehension at z (moved f p)) (bounds_same xs) ∙ (ap (λ (z : Formula). formula.Comprehension at xs z) (k))))
  on_formula_same (Formula-F.Quantified at q xs p) k = still (Formula-F.Quantified at q xs p) (formula.Quantified at q xs p) (formula.rolls-Quantified at q xs p) (ap (λ (z : Place). formula.Quantified z q (map (moved_bound f) xs) (moved f p)) (same at) ∙ (ap (λ (z : List Bound). formula.Quantified at q z (moved f p)) (bounds_same xs) ∙ (ap (λ (z : Formula). formula.Quantified at q xs z) (k))))
  on_formula_same (Formula-F.Collected at c xs p e) k = still (Formula-F.Collected at c xs p e) (formula.Collected at c xs p e) (formula.rolls-Collected at c xs p e) (ap (λ (z : Place). formula.Collected z c (map (moved_bound f) xs) (moved f p) (moved f e)) (same at) ∙ (ap (λ (z : List Bound). formula.Collected at c z (moved f p) (moved f e)) (bounds_same xs) ∙ (ap (λ (z : Formula). formula.Collected at c xs z (moved f e)) (k.0) ∙ (ap (λ (z : Formula). formula.Collected at c xs p z) (k.1)))))
  on_formula_same (Formula-F.If at p e u) k = still (Formula-F.If at p e u) (formula.If at p e u) (formula.rolls-If at p e u) (ap (λ (z : Place). formula.If z (moved f p) (moved f e) (moved f u)) (same at) ∙ (ap (λ (z : Formula). formula.If at z (moved f e) (moved f u)) (k.0) ∙ (ap (λ (z : Formula). formula.If at p z (moved f u)) (k.1) ∙ (ap (λ (z : Formula). formula.If at p e z) (k.2)))))

  on_link_same : (x : Link-F After Formula Link) → BelowLink SA SF SL x → SL (roll-Link x)
  on_link_same x k =
      link_layer f x
      ∙ (ap (λ (at : Place). roll-Link (record { operator = x.operator; at = at; operand = moved f x.operand })) (same x.at)
      ∙ ap (λ (t : Formula). roll-Link (record { operator = x.operator; at = x.at; operand = t })) k)

  still_form : (x : After-F After Formula Link) (t : After) → roll-After x ≡ t → moved_form f x ≡ t → SA (roll-After x)
  still_form x t r k = form_layer f x (roll-After x) refl ∙ (k ∙ sym r)

  on_after_same : (x : After-F After Formula Link) → BelowAfter SA SF SL x → SA (roll-After x)
  on_after_same (After-F.Converse at) k = still_form (After-F.Converse at) (after.Converse at) (after.rolls-Converse at) (ap (λ (z : Place). after.Converse z) (same at))
  on_after_same (After-F.Apply at e) k = still_form (After-F.Apply at e) (after.Apply at e) (after.rolls-Apply at e) (ap (λ (z : Place). after.Apply z (moved f e)) (same at) ∙ ap (λ (z : Formula). after.Apply at z) k)
  on_after_same (After-F.Image at e) k = still_form (After-F.Image at e) (after.Image at e) (after.rolls-Image at e) (ap (λ (z : Place). after.Image z (moved f e)) (same at) ∙ ap (λ (z : Formula). after.Image at z) k)

  -- a tree whose places stay is the same
  pub moved_same : (t : Formula) → moved f t ≡ t
  moved_same t = by_layers SA SF SL on_after_same on_formula_same on_link_same t

-- ---- under more brackets

-- a place under so many more brackets and those
raised_twice : (o : Option ℕ) (n : ℕ) (at : Place) → raised_place o (deeper_place n at) ≡ deeper_place (raised o n) at
raised_twice None n at = refl
raised_twice (Some m) n at = let e : brackets m (brackets n at.depth) ≡ brackets (brackets m n) at.depth = omega arith in ap (λ (d : ℕ). record at { depth = d }) e

-- a tree under so many more brackets and those
pub deeper_twice : (o : Option ℕ) (n : ℕ) (t : Formula) → moved (raised_place o) (moved (deeper_place n) t) ≡ moved (deeper_place (raised o n)) t
deeper_twice o n t = moved_twice (raised_place o) (deeper_place n) (deeper_place (raised o n)) (raised_twice o n) t

-- a tree under no others
pub not_raised : (t : Formula) → moved (raised_place None) t ≡ t
not_raised t = moved_same (raised_place None) (λ at. refl) t

-- a use with the forms after its arguments
pub moved_row : (f : Place → Place) (u : Formula) (fs : List After) → row_of (moved f u) (map (moved_after f) fs) ≡ moved f (row_of u fs)
moved_row f u [] = refl
moved_row f u (a ∷ fs) = sym (layer f (Formula-F.Row u (a ∷ fs)) (formula.Row u (a ∷ fs)) (formula.rolls-Row u (a ∷ fs)))
