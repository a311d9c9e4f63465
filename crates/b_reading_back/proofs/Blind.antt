-- What looks at no place is the same for trees that are the same apart from places.
use Rattle.std.proofs.Common.{◌≡◌, ℕ, Bool, List, [], ◌∷◌, ◌++◌, map, refl, sym, ap, ◌∙◌}
use Rattle.std.specs.Prelude.{codes}
use Rattle.std.specs.List.{AllByRecursion}
use Rattle.b_ast.specs.declared.Bound.{Bound}
use Rattle.b_ast.specs.declared.Collector.{Collector}
use Rattle.b_ast.specs.declared.Collector.TheVariants as collector
use Rattle.b_ast.specs.declared.Operator.{Operator}
use Rattle.b_ast.specs.declared.Formula.{Formula, roll-Formula, map-Formula, fold-Formula, fold-roll-Formula}
use Rattle.b_ast.specs.declared.Formula.TheVariants as formula
use Rattle.b_ast.specs.declared.Link.{Link, roll-Link, map-Link, fold-Link, fold-roll-Link}
use Rattle.b_ast.specs.declared.After.{After, roll-After, map-After, fold-After, fold-roll-After}
use Rattle.b_ast.specs.declared.After.TheVariants as after
use Rattle.b_ast.specs.declared.After.TheOpen.{Formula-F, Link-F, After-F}
use Rattle.b_ast.specs.Sorts as sorts
use Rattle.b_print.specs.Spellings.{quantifier_sign, collector_word}
use Rattle.b_print.specs.Texts as texts
use Rattle.b_reading_back.specs.Places as places
use Rattle.b_reading_back.specs.Places.{nowhere, bare, bare_link, bare_after, bare_bounds, IsSameApartFromPlaces}
use Rattle.b_expand.proofs.Layers.{Below, BelowAfter, BelowLink, by_layers}

module _ (A F L : Type 0) where
  -- a layer with one place for all
  abbrev pub unplaced : Formula-F A F L → Formula-F A F L
  unplaced (Formula-F.Number at n) = Formula-F.Number nowhere n
  unplaced (Formula-F.Text at s) = Formula-F.Text nowhere s
  unplaced (Formula-F.Name at x) = Formula-F.Name nowhere x
  unplaced (Formula-F.Old at x) = Formula-F.Old nowhere x
  unplaced (Formula-F.Constant at c) = Formula-F.Constant nowhere c
  unplaced (Formula-F.Negative at e) = Formula-F.Negative nowhere e
  unplaced (Formula-F.Chain e ls) = Formula-F.Chain e ls
  unplaced (Formula-F.Row e fs) = Formula-F.Row e fs
  unplaced (Formula-F.Call at f us) = Formula-F.Call nowhere f us
  unplaced (Formula-F.Set at us) = Formula-F.Set nowhere us
  unplaced (Formula-F.Sequence at us) = Formula-F.Sequence nowhere us
  unplaced (Formula-F.Comprehension at ns p) = Formula-F.Comprehension nowhere (bare_bounds ns) p
  unplaced (Formula-F.Quantified at q ns p) = Formula-F.Quantified nowhere q (bare_bounds ns) p
  unplaced (Formula-F.Collected at c ns p e) = Formula-F.Collected nowhere c (bare_bounds ns) p e
  unplaced (Formula-F.If at p e f) = Formula-F.If nowhere p e f

  abbrev pub unplaced_after : After-F A F L → After-F A F L
  unplaced_after (After-F.Converse at) = After-F.Converse nowhere
  unplaced_after (After-F.Apply at e) = After-F.Apply nowhere e
  unplaced_after (After-F.Image at e) = After-F.Image nowhere e

  abbrev pub unplaced_link : Link-F A F L → Link-F A F L
  unplaced_link l = record { operator = l.operator; at = nowhere; operand = l.operand }

  module _ (on_a : After-F A F L → A) (on_f : Formula-F A F L → F) (on_l : Link-F A F L → L) where
    -- the steps look at no place
    pub record IsBlind : Type 0 where
      pub afters : (x : After-F A F L) → on_a (unplaced_after x) ≡ on_a x
      pub formulas : (x : Formula-F A F L) → on_f (unplaced x) ≡ on_f x
      pub links : (x : Link-F A F L) → on_l (unplaced_link x) ≡ on_l x

    abbrev of_formula : Formula → F
    of_formula = fold-Formula A F L on_a on_f on_l

    abbrev of_link : Link → L
    of_link = fold-Link A F L on_a on_f on_l

    abbrev of_after : After → A
    of_after = fold-After A F L on_a on_f on_l

    abbrev PF : Formula → Type 0
    PF t = of_formula (bare t) ≡ of_formula t

    abbrev PL : Link → Type 0
    PL l = of_link (bare_link l) ≡ of_link l

    abbrev PA : After → Type 0
    PA a = of_after (bare_after a) ≡ of_after a

    each : {X Y : Type 0} (f : X → Y) (g : X → X) (xs : List X) → AllByRecursion (λ x. f (g x) ≡ f x) xs → map f (map g xs) ≡ map f xs
    each f g [] h = refl
    each f g (x ∷ xs) h = ap (λ y. y ∷ map f (map g xs)) h.0 ∙ ap (λ ys. f x ∷ ys) (each f g xs h.1)

    -- a layer of the tree that has one place for all
    seen : (x y : Formula-F After Formula Link) (t : Formula) → roll-Formula y ≡ t → places.formula_step (map-Formula After Formula Link After Formula Link bare_after bare bare_link x) ≡ t
        → of_formula (bare (roll-Formula x)) ≡ on_f (map-Formula After Formula Link A F L of_after of_formula of_link y)
    seen x y t e i =
        ap of_formula (fold-roll-Formula After Formula Link places.after_step places.formula_step places.link_step x ∙ i ∙ sym e) ∙ fold-roll-Formula A F L on_a on_f on_l y

    module _ (blind : IsBlind) where
      -- the same on both sides, once the parts are
      joint : (x y : Formula-F After Formula Link) (t : Formula) → roll-Formula y ≡ t → places.formula_step (map-Formula After Formula Link After Formula Link bare_after bare bare_link x) ≡ t
          → map-Formula After Formula Link A F L of_after of_formula of_link y ≡ unplaced (map-Formula After Formula Link A F L of_after of_formula of_link x) → PF (roll-Formula x)
      joint x y t e i k =
          seen x y t e i ∙ ap on_f k ∙ blind.formulas (map-Formula After Formula Link A F L of_after of_formula of_link x) ∙ sym (fold-roll-Formula A F L on_a on_f on_l x)

      on_formula : (x : Formula-F After Formula Link) → Below PA PF PL x → PF (roll-Formula x)
      on_formula (Formula-F.Number at n) h = joint (Formula-F.Number at n) (Formula-F.Number nowhere n) (formula.Number nowhere n) (formula.rolls-Number nowhere n) refl refl
      on_formula (Formula-F.Text at s) h = joint (Formula-F.Text at s) (Formula-F.Text nowhere s) (formula.Text nowhere s) (formula.rolls-Text nowhere s) refl refl
      on_formula (Formula-F.Name at s) h = joint (Formula-F.Name at s) (Formula-F.Name nowhere s) (formula.Name nowhere s) (formula.rolls-Name nowhere s) refl refl
      on_formula (Formula-F.Old at s) h = joint (Formula-F.Old at s) (Formula-F.Old nowhere s) (formula.Old nowhere s) (formula.rolls-Old nowhere s) refl refl
      on_formula (Formula-F.Constant at c) h = joint (Formula-F.Constant at c) (Formula-F.Constant nowhere c) (formula.Constant nowhere c) (formula.rolls-Constant nowhere c) refl refl
      on_formula (Formula-F.Negative at e) h =
          joint (Formula-F.Negative at e) (Formula-F.Negative nowhere (bare e)) (formula.Negative nowhere (bare e)) (formula.rolls-Negative nowhere (bare e)) refl (ap (λ (z : F). Formula-F.Negative nowhere z) h)
      on_formula (Formula-F.Chain e ls) h =
          joint (Formula-F.Chain e ls) (Formula-F.Chain (bare e) (map bare_link ls)) (formula.Chain (bare e) (map bare_link ls)) (formula.rolls-Chain (bare e) (map bare_link ls)) refl
          (ap (λ (z : F). Formula-F.Chain z (map of_link (map bare_link ls))) h.0 ∙ ap (λ (zs : List L). Formula-F.Chain (of_formula e) zs) (each of_link bare_link ls h.1))
      on_formula (Formula-F.Row e fs) h =
          joint (Formula-F.Row e fs) (Formula-F.Row (bare e) (map bare_after fs)) (formula.Row (bare e) (map bare_after fs)) (formula.rolls-Row (bare e) (map bare_after fs)) refl
          (ap (λ (z : F). Formula-F.Row z (map of_after (map bare_after fs))) h.0 ∙ ap (λ (zs : List A). Formula-F.Row (of_formula e) zs) (each of_after bare_after fs h.1))
      on_formula (Formula-F.Call at f us) h =
          joint (Formula-F.Call at f us) (Formula-F.Call nowhere f (map bare us)) (formula.Call nowhere f (map bare us)) (formula.rolls-Call nowhere f (map bare us)) refl
          (ap (λ (zs : List F). Formula-F.Call nowhere f zs) (each of_formula bare us h))
      on_formula (Formula-F.Set at us) h =
          joint (Formula-F.Set at us) (Formula-F.Set nowhere (map bare us)) (formula.Set nowhere (map bare us)) (formula.rolls-Set nowhere (map bare us)) refl (ap (λ (zs : List F). Formula-F.Set nowhere zs) (each of_formula bare us h))
      on_formula (Formula-F.Sequence at us) h =
          joint (Formula-F.Sequence at us) (Formula-F.Sequence nowhere (map bare us)) (formula.Sequence nowhere (map bare us)) (formula.rolls-Sequence nowhere (map bare us)) refl
          (ap (λ (zs : List F). Formula-F.Sequence nowhere zs) (each of_formula bare us h))
      on_formula (Formula-F.Comprehension at ns p) h =
          joint (Formula-F.Comprehension at ns p) (Formula-F.Comprehension nowhere (bare_bounds ns) (bare p)) (formula.Comprehension nowhere (bare_bounds ns) (bare p)) (formula.rolls-Comprehension nowhere (bare_bounds ns) (bare p)) refl
          (ap (λ (z : F). Formula-F.Comprehension nowhere (bare_bounds ns) z) h)
      on_formula (Formula-F.Quantified at q ns p) h =
          joint (Formula-F.Quantified at q ns p) (Formula-F.Quantified nowhere q (bare_bounds ns) (bare p)) (formula.Quantified nowhere q (bare_bounds ns) (bare p)) (formula.rolls-Quantified nowhere q (bare_bounds ns) (bare p)) refl
          (ap (λ (z : F). Formula-F.Quantified nowhere q (bare_bounds ns) z) h)
      on_formula (Formula-F.Collected at c ns p e) h =
          joint (Formula-F.Collected at c ns p e) (Formula-F.Collected nowhere c (bare_bounds ns) (bare p) (bare e)) (formula.Collected nowhere c (bare_bounds ns) (bare p) (bare e))
          (formula.rolls-Collected nowhere c (bare_bounds ns) (bare p) (bare e)) refl
          (ap (λ (z : F). Formula-F.Collected nowhere c (bare_bounds ns) z (of_formula (bare e))) h.0 ∙ ap (λ (z : F). Formula-F.Collected nowhere c (bare_bounds ns) (of_formula p) z) h.1)
      on_formula (Formula-F.If at p e f) h =
          joint (Formula-F.If at p e f) (Formula-F.If nowhere (bare p) (bare e) (bare f)) (formula.If nowhere (bare p) (bare e) (bare f)) (formula.rolls-If nowhere (bare p) (bare e) (bare f)) refl
          (ap (λ (z : F). Formula-F.If nowhere z (of_formula (bare e)) (of_formula (bare f))) h.0 ∙ ap (λ (z : F). Formula-F.If nowhere (of_formula p) z (of_formula (bare f))) h.1
          ∙ ap (λ (z : F). Formula-F.If nowhere (of_formula p) (of_formula e) z) h.2)

      joint_after : (x y : After-F After Formula Link) (a : After) → roll-After y ≡ a → places.after_step (map-After After Formula Link After Formula Link bare_after bare bare_link x) ≡ a
          → map-After After Formula Link A F L of_after of_formula of_link y ≡ unplaced_after (map-After After Formula Link A F L of_after of_formula of_link x) → PA (roll-After x)
      joint_after x y a e i k =
          ap of_after (fold-roll-After After Formula Link places.after_step places.formula_step places.link_step x ∙ i ∙ sym e) ∙ fold-roll-After A F L on_a on_f on_l y
          ∙ ap on_a k ∙ blind.afters (map-After After Formula Link A F L of_after of_formula of_link x) ∙ sym (fold-roll-After A F L on_a on_f on_l x)

      on_after : (x : After-F After Formula Link) → BelowAfter PA PF PL x → PA (roll-After x)
      on_after (After-F.Converse at) h = joint_after (After-F.Converse at) (After-F.Converse nowhere) (after.Converse nowhere) (after.rolls-Converse nowhere) refl refl
      on_after (After-F.Apply at e) h =
          joint_after (After-F.Apply at e) (After-F.Apply nowhere (bare e)) (after.Apply nowhere (bare e)) (after.rolls-Apply nowhere (bare e)) refl (ap (λ (z : F). After-F.Apply nowhere z) h)
      on_after (After-F.Image at e) h =
          joint_after (After-F.Image at e) (After-F.Image nowhere (bare e)) (after.Image nowhere (bare e)) (after.rolls-Image nowhere (bare e)) refl (ap (λ (z : F). After-F.Image nowhere z) h)

      on_link : (x : Link-F After Formula Link) → BelowLink PA PF PL x → PL (roll-Link x)
      on_link x h =
          ap of_link (fold-roll-Link After Formula Link places.after_step places.formula_step places.link_step x)
          ∙ fold-roll-Link A F L on_a on_f on_l (record { operator = x.operator; at = nowhere; operand = bare x.operand })
          ∙ ap (λ (z : F). on_l (record { operator = x.operator; at = nowhere; operand = z })) h
          ∙ blind.links (map-Link After Formula Link A F L of_after of_formula of_link x) ∙ sym (fold-roll-Link A F L on_a on_f on_l x)

      blind_bare : (t : Formula) → of_formula (bare t) ≡ of_formula t
      blind_bare t = by_layers PA PF PL on_after on_formula on_link t

      pub same_by_blind : (t u : Formula) → IsSameApartFromPlaces t u → of_formula t ≡ of_formula u
      same_by_blind t u e = sym (blind_bare t) ∙ ap of_formula e ∙ blind_bare u

-- ---- sorts

sorts_blind : IsBlind Bool sorts.Sorted (Operator × sorts.Sorted) sorts.after_step sorts.formula_step sorts.link_step
sorts_blind = record { afters = afters; formulas = formulas; links = λ x. refl }
  where
    afters : (x : After-F Bool sorts.Sorted (Operator × sorts.Sorted)) → sorts.after_step (unplaced_after Bool sorts.Sorted (Operator × sorts.Sorted) x) ≡ sorts.after_step x
    afters (After-F.Converse at) = refl
    afters x = refl

    formulas : (x : Formula-F Bool sorts.Sorted (Operator × sorts.Sorted)) → sorts.formula_step (unplaced Bool sorts.Sorted (Operator × sorts.Sorted) x) ≡ sorts.formula_step x
    formulas (Formula-F.Number at n) = refl
    formulas x = refl

pub same_sort : (t u : Formula) → IsSameApartFromPlaces t u → sorts.sort_of t ≡ sorts.sort_of u
same_sort t u e = same_by_blind Bool sorts.Sorted (Operator × sorts.Sorted) sorts.after_step sorts.formula_step sorts.link_step sorts_blind t u e

-- ---- canonical texts

same_commas : (ns : List Bound) → texts.comma_names (bare_bounds ns) ≡ texts.comma_names ns
same_commas [] = refl
same_commas (b ∷ ns) = ap (λ (l : List ℕ). 44 ∷ (b.name ++ l)) (same_commas ns)

same_names : (ns : List Bound) → texts.names (bare_bounds ns) ≡ texts.names ns
same_names [] = refl
same_names (b ∷ ns) = ap (λ (l : List ℕ). b.name ++ l) (same_commas ns)

same_binder : (ns : List Bound) → texts.binder_names (bare_bounds ns) ≡ texts.binder_names ns
same_binder [] = refl
same_binder (b ∷ []) = refl
same_binder (b ∷ c ∷ ns) = ap texts.round (same_names (b ∷ c ∷ ns))

same_collector : (c : Collector) (ns : List Bound) → texts.collector_names c (bare_bounds ns) ≡ texts.collector_names c ns
same_collector collector.Lambda ns = same_binder ns
same_collector c ns = ap texts.round (same_names ns)

texts_blind : IsBlind (List ℕ) texts.Written texts.Joined texts.after_step texts.formula_step texts.link_step
texts_blind = record { afters = afters; formulas = formulas; links = λ x. refl }
  where
    afters : (x : After-F (List ℕ) texts.Written texts.Joined) → texts.after_step (unplaced_after (List ℕ) texts.Written texts.Joined x) ≡ texts.after_step x
    afters (After-F.Converse at) = refl
    afters x = refl

    formulas : (x : Formula-F (List ℕ) texts.Written texts.Joined) → texts.formula_step (unplaced (List ℕ) texts.Written texts.Joined x) ≡ texts.formula_step x
    formulas (Formula-F.Comprehension at ns p) = ap {B = ℕ → List ℕ} (λ (l : List ℕ) (n : ℕ). ((123 ∷ (l ++ codes " | ")) ++ p 0) ++ codes "}") (same_names ns)
    formulas (Formula-F.Quantified at q ns p) = ap {B = ℕ → List ℕ} (λ (l : List ℕ) (n : ℕ). (((quantifier_sign q ++ l) ++ codes ".(") ++ p 0) ++ codes ")") (same_binder ns)
    formulas (Formula-F.Collected at c ns p e) =
        ap {B = ℕ → List ℕ} (λ (l : List ℕ) (n : ℕ). (((((collector_word c ++ l) ++ codes ".(") ++ p 0) ++ codes " | ") ++ e 0) ++ codes ")") (same_collector c ns)
    formulas x = refl

pub same_text : (t u : Formula) → IsSameApartFromPlaces t u → texts.text_of t ≡ texts.text_of u
same_text t u e = ap (λ (w : texts.Written). w 20) (same_by_blind (List ℕ) texts.Written texts.Joined texts.after_step texts.formula_step texts.link_step texts_blind t u e)
