-- A tree stands for the same under meanings that agree on the definitions that it uses.
use Rattle.std.proofs.Common.{◌≡◌, ◌==◌, ◌&&◌, ◌||◌, ℕ, Bool, true, false, not, cond, List, [], ◌∷◌, ◌++◌, length, map, Option, Some, None, refl, sym, ap, subst, ◌∙◌}
use Rattle.std.specs.Prelude.{option_and_then, option_map, is_some, position, bytes_eq}
use Rattle.std.specs.List.{AllByRecursion, list_all, list_any}
use Rattle.b_ast.specs.declared.Place.{Place}
use Rattle.b_ast.specs.declared.Bound.{Bound}
use Rattle.b_ast.specs.declared.machine.Def.{Def}
use Rattle.b_ast.specs.declared.Formula.{Formula, roll-Formula, map-Formula, fold-roll-Formula}
use Rattle.b_ast.specs.declared.Formula.TheVariants as formula
use Rattle.b_ast.specs.declared.Link.{Link, roll-Link, map-Link, fold-roll-Link}
use Rattle.b_ast.specs.declared.After.{After, roll-After, map-After, fold-roll-After}
use Rattle.b_ast.specs.declared.After.TheVariants as after
use Rattle.b_ast.specs.declared.After.TheOpen.{Formula-F, Link-F, After-F}
use Rattle.b_names.specs.Index.{place_of}
use Rattle.b_expand.specs.Places.{deeper_place, deeper_bound}
use Rattle.b_expand.specs.Expansion.{Scope, Meaning, Meanings, Reading, Form, Side, Expands, tree_of, both, all_three, used, named, called, row, row_of, applied, plain_row, forms, links, trees, chain, bound, expanded_operator, later_forms, first_arguments, plain, after_step, link_step, formula_step, reading, form_of, side_of, expanded}
use Rattle.b_expand.proofs.PuttingNames.{looks, stands_for}
use Rattle.b_expand.proofs.Layers.{Below, BelowAfter, BelowLink, by_layers}
use Rattle.b_definitions.specs.Uses as uses
use Rattle.b_definitions.specs.Uses.{joined, listed, used_in, used_in_link, used_in_form}

-- what holds of two lists holds of each
pub all_left : (P : ℕ → Type 0) (xs ys : List ℕ) → AllByRecursion P (xs ++ ys) → AllByRecursion P xs
all_left P [] ys h = tt
all_left P (x ∷ xs) ys h = (h.0, all_left P xs ys h.1)

pub all_right : (P : ℕ → Type 0) (xs ys : List ℕ) → AllByRecursion P (xs ++ ys) → AllByRecursion P ys
all_right P [] ys h = h
all_right P (x ∷ xs) ys h = all_right P xs ys h.1

-- a test that one fails, all don't pass
not_all : {X : Type 0} (q r : X → Bool) (xs : List X) → list_any q xs ≡ true → list_all (λ x. not (q x) && r x) xs ≡ false
not_all q r [] h = absurd (cc)
not_all q r (x ∷ xs) h = go (q x) (r x) h (not_all q r xs)
  where
    go : (a c : Bool) → (a || list_any q xs) ≡ true → (list_any q xs ≡ true → list_all (λ x. not (q x) && r x) xs ≡ false) → ((not a && c) && list_all (λ x. not (q x) && r x) xs) ≡ false
    go true c k again = refl
    go false true k again = again k
    go false false k again = refl

-- a definition's name can't be bound
none_bound : (table : List Def) (s : Scope) (xs : List Bound) → uses.binds table xs ≡ true → bound table s xs ≡ None
none_bound table s xs h =
    ap (λ (b : Bool). cond b (Some (map (deeper_bound s.round) xs)) None) (not_all (λ (x : Bound). is_some (place_of table x.name)) (λ (x : Bound). not (is_some (position (bytes_eq x.name) s.params))) xs h)

module _ (table : List Def) (means others : Meanings) (P : ℕ → Type 0) (agree : (x : List ℕ) → AllByRecursion P (listed (place_of table x)) → means x ≡ others x)
    (round : ℕ) (ps : List (List ℕ)) (ts : List Formula) (many : length ts ≡ length ps) where
  -- the scope
  abbrev s : Scope
  s = record { round = round; params = ps; trees = ts }

  -- what arguments are there
  abbrev there_all : List (Expands Formula) → List (Option Formula)
  there_all args = map (λ a. a s) args

  record Same (r q : Reading) : Type 0 where
    calls : called means s r.name ≡ called others s q.name
    tree : r.tree s ≡ q.tree s
    arguments : there_all r.arguments ≡ there_all q.arguments

  record SameForm (f g : Form) : Type 0 where
    arguments : option_map there_all f.arguments ≡ option_map there_all g.arguments
    form : f.form s ≡ g.form s

  record SameSide (l k : Side) : Type 0 where
    comma : l.comma ≡ k.comma
    operand : l.operand s ≡ k.operand s
    link : l.link s ≡ k.link s

  abbrev PF : Formula → Type 0
  PF t = AllByRecursion P (used_in table ps t) → Same (reading table means t) (reading table others t)

  abbrev PL : Link → Type 0
  PL l = AllByRecursion P (used_in_link table ps l) → SameSide (side_of table means l) (side_of table others l)

  abbrev PA : After → Type 0
  PA a = AllByRecursion P (used_in_form table ps a) → SameForm (form_of table means a) (form_of table others a)

  -- a tree that is no name
  alone_same : (e f : Expands Formula) → e s ≡ f s → Same (plain e) (plain f)
  alone_same e f h = record { calls = refl; tree = h; arguments = ap (λ (o : Option Formula). o ∷ []) h }

  -- ---- lists

  -- the first and the others
  put_same : {X : Type 0} (o p : Option X) (os ps : Option (List X)) → o ≡ p → os ≡ ps → both (λ x xs. x ∷ xs) o os ≡ both (λ x xs. x ∷ xs) p ps
  put_same o p os ps h k = ap (λ o. both (λ x xs. x ∷ xs) o os) h ∙ ap (λ os. both (λ x xs. x ∷ xs) p os) k

  each_tree : (us : List Formula) → AllByRecursion PF us → AllByRecursion P (joined (map (used_in table ps) us)) → trees (map (reading table means) us) s ≡ trees (map (reading table others) us) s
  each_tree [] h k = refl
  each_tree (u ∷ us) h k =
      put_same _ _ _ _ (h.0 (all_left P (used_in table ps u) (joined (map (used_in table ps) us)) k)).tree (each_tree us h.1 (all_right P (used_in table ps u) (joined (map (used_in table ps) us)) k))

  record SameSides (ls ks : List Side) : Type 0 where
    commas : list_all (λ l. l.comma) ls ≡ list_all (λ l. l.comma) ks
    operands : there_all (map (λ l. l.operand) ls) ≡ there_all (map (λ l. l.operand) ks)
    whole : links ls s ≡ links ks s

  two_tests : (a b c d : Bool) → a ≡ b → c ≡ d → (a && c) ≡ (b && d)
  two_tests a b c d h k = ap (λ a. a && c) h ∙ ap (λ c. b && c) k

  more_sides : (l k : Side) (ls ks : List Side) → SameSide l k → SameSides ls ks → SameSides (l ∷ ls) (k ∷ ks)
  more_sides l k ls ks h i = record {
    commas = two_tests l.comma k.comma _ _ h.comma i.commas;
    operands = ap (λ o. o ∷ there_all (map (λ l. l.operand) ls)) h.operand ∙ ap (λ os. k.operand s ∷ os) i.operands;
    whole = put_same _ _ _ _ h.link i.whole;
  }

  each_side : (ls : List Link) → AllByRecursion PL ls → AllByRecursion P (joined (map (used_in_link table ps) ls)) → SameSides (map (side_of table means) ls) (map (side_of table others) ls)
  each_side [] h k = record { commas = refl; operands = refl; whole = refl }
  each_side (l ∷ ls) h k =
      more_sides _ _ _ _ (h.0 (all_left P (used_in_link table ps l) (joined (map (used_in_link table ps) ls)) k)) (each_side ls h.1 (all_right P (used_in_link table ps l) (joined (map (used_in_link table ps) ls)) k))

  record SameForms (fs gs : List Form) : Type 0 where
    first : option_map there_all (first_arguments fs) ≡ option_map there_all (first_arguments gs)
    later : forms (later_forms fs) s ≡ forms (later_forms gs) s
    whole : forms fs s ≡ forms gs s

  more_forms : (f g : Form) (fs gs : List Form) → SameForm f g → SameForms fs gs → SameForms (f ∷ fs) (g ∷ gs)
  more_forms f g fs gs h i = record { first = h.arguments; later = i.whole; whole = put_same _ _ _ _ h.form i.whole }

  each_form : (fs : List After) → AllByRecursion PA fs → AllByRecursion P (joined (map (used_in_form table ps) fs)) → SameForms (map (form_of table means) fs) (map (form_of table others) fs)
  each_form [] h k = record { first = refl; later = refl; whole = refl }
  each_form (f ∷ fs) h k =
      more_forms _ _ _ _ (h.0 (all_left P (used_in_form table ps f) (joined (map (used_in_form table ps) fs)) k)) (each_form fs h.1 (all_right P (used_in_form table ps f) (joined (map (used_in_form table ps) fs)) k))

  -- ---- chains and rows

  two_same : {X Y Z : Type 0} (f : X → Y → Z) (o p : Option X) (os ps : Option Y) → o ≡ p → os ≡ ps → both f o os ≡ both f p ps
  two_same f o p os ps h k = ap (λ o. both f o os) h ∙ ap (λ os. both f p os) k

  three_same : {W X Y Z : Type 0} (f : W → X → Y → Z) (o p : Option W) (q r : Option X) (u v : Option Y) → o ≡ p → q ≡ r → u ≡ v → all_three f o q u ≡ all_three f p r v
  three_same f o p q r u v h k l = ap (λ o. all_three f o q u) h ∙ ap (λ q. all_three f p q u) k ∙ ap (λ u. all_three f p r u) l

  chain_is : (r q : Reading) (ls ks : List Side) → Same r q → SameSides ls ks → chain r ls s ≡ chain q ks s
  chain_is r q ls ks h i = two_same formula.Chain _ _ _ _ h.tree i.whole

  chain_arguments_are : (r q : Reading) (ls ks : List Side) → Same r q → SameSides ls ks → (b c : Bool) → b ≡ c
      → there_all (cond b (r.tree ∷ map (λ l. l.operand) ls) (chain r ls ∷ [])) ≡ there_all (cond c (q.tree ∷ map (λ l. l.operand) ks) (chain q ks ∷ []))
  chain_arguments_are r q ls ks h i true true e = ap (λ o. o ∷ there_all (map (λ l. l.operand) ls)) h.tree ∙ ap (λ os. q.tree s ∷ os) i.operands
  chain_arguments_are r q ls ks h i true false e = absurd (cc)
  chain_arguments_are r q ls ks h i false true e = absurd (cc)
  chain_arguments_are r q ls ks h i false false e = ap (λ (o : Option Formula). o ∷ []) (chain_is r q ls ks h i)

  chain_same : (r q : Reading) (ls ks : List Side) → Same r q → SameSides ls ks → Same (formula_step table means (Formula-F.Chain r ls)) (formula_step table others (Formula-F.Chain q ks))
  chain_same r q ls ks h i = record { calls = refl; tree = chain_is r q ls ks h i; arguments = chain_arguments_are r q ls ks h i _ _ i.commas }

  plain_row_is : (r q : Reading) (fs gs : List Form) → Same r q → SameForms fs gs → plain_row r fs s ≡ plain_row q gs s
  plain_row_is r q fs gs h i = two_same formula.Row _ _ _ _ h.tree i.whole

  applied_is : (m : ℕ × Meaning) (a b : Option (List (Expands Formula))) → option_map there_all a ≡ option_map there_all b → (r q : Reading) (fs gs : List Form) → Same r q → SameForms fs gs → applied m a r fs s ≡ applied m b q gs s
  applied_is m None None e r q fs gs h i = plain_row_is r q fs gs h i
  applied_is m None (Some b) e r q fs gs h i = absurd (cc)
  applied_is m (Some a) None e r q fs gs h i = absurd (cc)
  applied_is m (Some a) (Some b) e r q fs gs h i =
      let k : there_all a ≡ there_all b = cc in
      two_same row_of _ _ _ _ (ap (λ args. used m.0 m.1 s args) k) i.later

  row_is : (m : Option (ℕ × Meaning)) (r q : Reading) (fs gs : List Form) → Same r q → SameForms fs gs → row m r fs s ≡ row m q gs s
  row_is None r q fs gs h i = plain_row_is r q fs gs h i
  row_is (Some m) r q fs gs h i = applied_is m (first_arguments fs) (first_arguments gs) i.first r q fs gs h i

  row_same : (r q : Reading) (fs gs : List Form) → Same r q → SameForms fs gs → Same (formula_step table means (Formula-F.Row r fs)) (formula_step table others (Formula-F.Row q gs))
  row_same r q fs gs h i = alone_same _ _ (ap (λ m. row m r fs s) h.calls ∙ row_is (called others s q.name) r q fs gs h i)

  -- ---- layers

  abbrev layer_means : Formula-F After Formula Link → Reading
  layer_means x = formula_step table means (map-Formula After Formula Link Form Reading Side (form_of table means) (reading table means) (side_of table means) x)

  abbrev layer_others : Formula-F After Formula Link → Reading
  layer_others x = formula_step table others (map-Formula After Formula Link Form Reading Side (form_of table others) (reading table others) (side_of table others) x)

  abbrev layer_uses : Formula-F After Formula Link → List ℕ
  layer_uses x = uses.formula_step table ps (map-Formula After Formula Link (List ℕ) (List ℕ) (List ℕ) (used_in_form table ps) (used_in table ps) (used_in_link table ps) x)

  joint : (x : Formula-F After Formula Link) → (AllByRecursion P (layer_uses x) → Same (layer_means x) (layer_others x)) → PF (roll-Formula x)
  joint x k h =
      subst (λ (r : Reading). Same r (reading table others (roll-Formula x))) (sym (fold-roll-Formula Form Reading Side after_step (formula_step table means) link_step x))
      (subst (λ (r : Reading). Same (layer_means x) r) (sym (fold-roll-Formula Form Reading Side after_step (formula_step table others) link_step x))
      (k (subst (AllByRecursion P) (fold-roll-Formula (List ℕ) (List ℕ) (List ℕ) uses.after_step (uses.formula_step table ps) uses.link_step x) h)))

  joint_after : (x : After-F After Formula Link)
      → (AllByRecursion P (uses.after_step (map-After After Formula Link (List ℕ) (List ℕ) (List ℕ) (used_in_form table ps) (used_in table ps) (used_in_link table ps) x))
      → SameForm (after_step (map-After After Formula Link Form Reading Side (form_of table means) (reading table means) (side_of table means) x)) (after_step (map-After After Formula Link Form Reading Side (form_of table others) (reading table others) (side_of table others) x)))
      → PA (roll-After x)
  joint_after x k h =
      subst (λ (r : Form). SameForm r (form_of table others (roll-After x))) (sym (fold-roll-After Form Reading Side after_step (formula_step table means) link_step x))
      (subst (λ (r : Form). SameForm (after_step (map-After After Formula Link Form Reading Side (form_of table means) (reading table means) (side_of table means) x)) r) (sym (fold-roll-After Form Reading Side after_step (formula_step table others) link_step x))
      (k (subst (AllByRecursion P) (fold-roll-After (List ℕ) (List ℕ) (List ℕ) uses.after_step (uses.formula_step table ps) uses.link_step x) h)))

  -- ---- names

  abbrev name_as : Option Meaning → Place → List ℕ → Reading
  name_as m at x = record (plain (λ s. named m (tree_of s x) s at x)) { name = Some (at.depth, x) }

  parameter_named : (m w : Option Meaning) (o : Option Formula) → is_some o ≡ true → (at : Place) (x : List ℕ) → named m o s at x ≡ named w o s at x
  parameter_named m w None h at x = absurd (cc)
  parameter_named m w (Some e) h at x = refl

  name_tree : (at : Place) (x : List ℕ) → AllByRecursion P (listed (uses.meant table ps x)) → (b : Bool) → is_some (position (bytes_eq x) ps) ≡ b → named (means x) (tree_of s x) s at x ≡ named (others x) (tree_of s x) s at x
  name_tree at x h true e = parameter_named (means x) (others x) (tree_of s x) (ap is_some (looks ps ts x) ∙ (stands_for ps ts x many ∙ e)) at x
  name_tree at x h false e = ap (λ m. named m (tree_of s x) s at x) (agree x (subst (λ (b : Bool). AllByRecursion P (listed (cond b None (place_of table x)))) e h))

  name_called : (at : Place) (x : List ℕ) → AllByRecursion P (listed (uses.meant table ps x)) → (b : Bool) → is_some (position (bytes_eq x) ps) ≡ b → called means s (Some (at.depth, x)) ≡ called others s (Some (at.depth, x))
  name_called at x h true e =
      let k : is_some (tree_of s x) ≡ true = ap is_some (looks ps ts x) ∙ (stands_for ps ts x many ∙ e) in
      ap (λ (b : Bool). cond b None (option_and_then (λ (m : Meaning). cond (length m.params == 0) None (Some (at.depth, m))) (means x))) k
      ∙ sym (ap (λ (b : Bool). cond b None (option_and_then (λ (m : Meaning). cond (length m.params == 0) None (Some (at.depth, m))) (others x))) k)
  name_called at x h false e =
      ap (λ (w : Option Meaning). cond (is_some (tree_of s x)) None (option_and_then (λ (m : Meaning). cond (length m.params == 0) None (Some (at.depth, m))) w))
      (agree x (subst (λ (b : Bool). AllByRecursion P (listed (cond b None (place_of table x)))) e h))

  name_same : (at : Place) (x : List ℕ) → PF (roll-Formula (Formula-F.Name at x))
  name_same at x =
      joint (Formula-F.Name at x) (λ h.
      let k = name_tree at x h (is_some (position (bytes_eq x) ps)) refl in
      record { calls = name_called at x h (is_some (position (bytes_eq x) ps)) refl; tree = k; arguments = ap (λ (o : Option Formula). o ∷ []) k })

  -- ---- bound names

  -- where a definition's name is bound, no form is there
  one_bound : (f : List Bound → Formula → Formula) (xs : List Bound) (o p : Option Formula) (us : List ℕ) → (AllByRecursion P us → o ≡ p) → AllByRecursion P (uses.unless (uses.binds table xs) us)
      → (b : Bool) → uses.binds table xs ≡ b → both f (bound table s xs) o ≡ both f (bound table s xs) p
  one_bound f xs o p us h k true e =
      let none : bound table s xs ≡ None = none_bound table s xs e in
      ap (λ (z : Option (List Bound)). both f z o) none ∙ sym (ap (λ (z : Option (List Bound)). both f z p) none)
  one_bound f xs o p us h k false e = ap (λ (o : Option Formula). both f (bound table s xs) o) (h (subst (λ (b : Bool). AllByRecursion P (uses.unless b us)) e k))

  two_bound : (f : List Bound → Formula → Formula → Formula) (xs : List Bound) (o p q r : Option Formula) (us vs : List ℕ) → (AllByRecursion P us → o ≡ p) → (AllByRecursion P vs → q ≡ r)
      → AllByRecursion P (uses.unless (uses.binds table xs) (us ++ vs)) → (b : Bool) → uses.binds table xs ≡ b → all_three f (bound table s xs) o q ≡ all_three f (bound table s xs) p r
  two_bound f xs o p q r us vs h i k true e =
      let none : bound table s xs ≡ None = none_bound table s xs e in
      ap (λ (z : Option (List Bound)). all_three f z o q) none ∙ sym (ap (λ (z : Option (List Bound)). all_three f z p r) none)
  two_bound f xs o p q r us vs h i k false e =
      let all = subst (λ (b : Bool). AllByRecursion P (uses.unless b (us ++ vs))) e k in
      three_same f _ _ _ _ _ _ refl (h (all_left P us vs all)) (i (all_right P us vs all))

  -- ---- formulas, layer by layer

  on_formula : (x : Formula-F After Formula Link) → Below PA PF PL x → PF (roll-Formula x)
  on_formula (Formula-F.Number at n) h = joint (Formula-F.Number at n) (λ k. alone_same _ _ refl)
  on_formula (Formula-F.Text at x) h = joint (Formula-F.Text at x) (λ k. alone_same _ _ refl)
  on_formula (Formula-F.Name at x) h = name_same at x
  on_formula (Formula-F.Old at x) h = joint (Formula-F.Old at x) (λ k. alone_same _ _ refl)
  on_formula (Formula-F.Constant at c) h = joint (Formula-F.Constant at c) (λ k. alone_same _ _ refl)
  on_formula (Formula-F.Negative at e) h = joint (Formula-F.Negative at e) (λ k. alone_same _ _ (ap (option_map (formula.Negative (deeper_place round at))) (h k).tree))
  on_formula (Formula-F.Chain e ls) h =
      joint (Formula-F.Chain e ls) (λ k.
      chain_same _ _ _ _ (h.0 (all_left P (used_in table ps e) (joined (map (used_in_link table ps) ls)) k)) (each_side ls h.1 (all_right P (used_in table ps e) (joined (map (used_in_link table ps) ls)) k)))
  on_formula (Formula-F.Row e fs) h =
      joint (Formula-F.Row e fs) (λ k.
      row_same _ _ _ _ (h.0 (all_left P (used_in table ps e) (joined (map (used_in_form table ps) fs)) k)) (each_form fs h.1 (all_right P (used_in table ps e) (joined (map (used_in_form table ps) fs)) k)))
  on_formula (Formula-F.Call at f us) h = joint (Formula-F.Call at f us) (λ k. alone_same _ _ (ap (option_map (formula.Call (deeper_place round at) f)) (each_tree us h k)))
  on_formula (Formula-F.Set at us) h = joint (Formula-F.Set at us) (λ k. alone_same _ _ (ap (option_map (formula.Set (deeper_place round at))) (each_tree us h k)))
  on_formula (Formula-F.Sequence at us) h = joint (Formula-F.Sequence at us) (λ k. alone_same _ _ (ap (option_map (formula.Sequence (deeper_place round at))) (each_tree us h k)))
  on_formula (Formula-F.Comprehension at xs p) h =
      joint (Formula-F.Comprehension at xs p) (λ k.
      alone_same _ _ (one_bound (formula.Comprehension (deeper_place round at)) xs ((reading table means p).tree s) ((reading table others p).tree s) (used_in table ps p) (λ k. (h k).tree) k (uses.binds table xs) refl))
  on_formula (Formula-F.Quantified at q xs p) h =
      joint (Formula-F.Quantified at q xs p) (λ k.
      alone_same _ _ (one_bound (formula.Quantified (deeper_place round at) q) xs ((reading table means p).tree s) ((reading table others p).tree s) (used_in table ps p) (λ k. (h k).tree) k (uses.binds table xs) refl))
  on_formula (Formula-F.Collected at c xs p e) h =
      joint (Formula-F.Collected at c xs p e) (λ k.
      alone_same _ _ (two_bound (formula.Collected (deeper_place round at) c) xs
      ((reading table means p).tree s) ((reading table others p).tree s) ((reading table means e).tree s) ((reading table others e).tree s)
      (used_in table ps p) (used_in table ps e) (λ k. (h.0 k).tree) (λ k. (h.1 k).tree) k (uses.binds table xs) refl))
  on_formula (Formula-F.If at p e f) h =
      joint (Formula-F.If at p e f) (λ k.
      let rest = all_right P (used_in table ps p) (used_in table ps e ++ used_in table ps f) k in
      alone_same _ _ (three_same (formula.If (deeper_place round at)) _ _ _ _ _ _
      (h.0 (all_left P (used_in table ps p) (used_in table ps e ++ used_in table ps f) k)).tree
      (h.1 (all_left P (used_in table ps e) (used_in table ps f) rest)).tree
      (h.2 (all_right P (used_in table ps e) (used_in table ps f) rest)).tree))

  -- ---- links and forms

  on_link : (x : Link-F After Formula Link) → BelowLink PA PF PL x → PL (roll-Link x)
  on_link x h k =
      let r = h (subst (AllByRecursion P) (fold-roll-Link (List ℕ) (List ℕ) (List ℕ) uses.after_step (uses.formula_step table ps) uses.link_step x) k) in
      subst (λ (l : Side). SameSide l (side_of table others (roll-Link x))) (sym (fold-roll-Link Form Reading Side after_step (formula_step table means) link_step x))
      (subst (λ (l : Side). SameSide (link_step (map-Link After Formula Link Form Reading Side (form_of table means) (reading table means) (side_of table means) x)) l) (sym (fold-roll-Link Form Reading Side after_step (formula_step table others) link_step x))
      (record {
        comma = refl;
        operand = r.tree;
        link = ap (option_map (λ e. roll-Link (record { operator = expanded_operator x.operator; at = deeper_place round x.at; operand = e }))) r.tree;
      }))

  on_after : (x : After-F After Formula Link) → BelowAfter PA PF PL x → PA (roll-After x)
  on_after (After-F.Converse at) h = joint_after (After-F.Converse at) (λ k. record { arguments = refl; form = refl })
  on_after (After-F.Apply at e) h =
      joint_after (After-F.Apply at e) (λ k. record { arguments = ap (λ os. Some os) (h k).arguments; form = ap (option_map (after.Apply (deeper_place round at))) (h k).tree })
  on_after (After-F.Image at e) h = joint_after (After-F.Image at e) (λ k. record { arguments = refl; form = ap (option_map (after.Image (deeper_place round at))) (h k).tree })

  -- a tree that uses only what is the same stands for the same
  pub stands_same : (t : Formula) → AllByRecursion P (used_in table ps t) → expanded table means s t ≡ expanded table others s t
  stands_same t h = (by_layers PA PF PL on_after on_formula on_link t h).tree
