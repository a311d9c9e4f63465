-- The law of summaries for substitutions: what is added to the parts of a body is what the expanded substitution adds.
use Rattle.std.proofs.Common.{◌≡◌, ℕ, ◌==◌, Bool, true, false, cond, List, [], ◌∷◌, map, length, fold, Option, Some, None, refl, sym, ap, subst, ◌∙◌}
use Rattle.std.specs.Prelude.{option_map, option_and_then, is_some, bytes_eq}
use Rattle.std.specs.List.{AllByRecursion}
use Rattle.std.proofs.lemmas.Bool.{eqb-true}
use Rattle.b_ast.specs.declared.Place.{Place}
use Rattle.b_ast.specs.declared.Bound.{Bound}
use Rattle.b_ast.specs.declared.Sort.{Sort}
use Rattle.b_ast.specs.declared.Sort.TheVariants as sort
use Rattle.b_ast.specs.declared.Formula.{Formula}
use Rattle.b_ast.specs.declared.machine.Def.{Def}
use Rattle.b_ast.specs.declared.machine.DefBody.{DefBody}
use Rattle.b_ast.specs.declared.machine.DefBody.TheVariants as body
use Rattle.b_ast.specs.declared.machine.Subst.{Subst, roll-Subst, map-Subst, fold-roll-Subst}
use Rattle.b_ast.specs.declared.machine.Subst.TheVariants as form
use Rattle.b_ast.specs.declared.machine.Subst.TheOpen.{Subst-F, Branch-F, CaseBranch-F, Step-F}
use Rattle.b_ast.specs.declared.machine.Branch.{Branch, roll-Branch, fold-roll-Branch}
use Rattle.b_ast.specs.declared.machine.CaseBranch.{CaseBranch, roll-CaseBranch, fold-roll-CaseBranch}
use Rattle.b_ast.specs.declared.machine.Step.{Step, roll-Step, fold-roll-Step}
use Rattle.b_ast.specs.Sorts.{sort_of, fits}
use Rattle.b_expand.specs.Places.{brackets, deeper_place, deeper_bound, names_depth}
use Rattle.b_expand.specs.Expansion as formulas
use Rattle.b_expand.specs.Expansion.{Expands, both, all_three, all_of, of_sort, sorted, expanded, reading}
use Rattle.b_summaries.specs.declared.summary.Size.{Size}
use Rattle.b_summaries.specs.declared.summary.Facts.{Facts}
use Rattle.b_summaries.specs.declared.summary.Parts.{Parts}
use Rattle.b_summaries.specs.declared.summary.Summary.{Summary}
use Rattle.b_summaries.specs.declared.summary.Told.{Told}
use Rattle.b_summaries.specs.Sizes.{plus, together, under, nothing, nothing_asked, sized, size_of, facts_of, known}
use Rattle.b_summaries.specs.Values.{facts_from, summary_value, told_value}
use Rattle.b_summaries.specs.Making.{alone, place_size, fit, substituted, told_of}
use Rattle.b_summaries.specs.Summaries as summed
use Rattle.b_summaries.specs.Summaries.{with_place, formed, node, place_of, may_bind_all}
use Rattle.b_summaries.proofs.Using.{asked_facts, told_of_value, substituted_value}
use Rattle.b_summaries.proofs.Adding.{value_of, joined_value, fitted_value}
use Rattle.b_summaries.proofs.Trees.{adding, adding_none, sized_tree, given_size, placing}
use Rattle.b_summaries.proofs.DeeperFacts.{names_brackets}
use Rattle.b_summaries.proofs.TextParts.{Pairwise, Beside, valued, at_parts, Says, part_value, place_value, formed_value}
use Rattle.b_summaries.proofs.TextNames.{Agree, as_many, is_parameter, sorted_known, same_all, each_value, each_says}
use Rattle.b_summaries.proofs.Telling as telling
use Rattle.b_summaries.proofs.Telling.{summary_says, reading_says}
use Rattle.b_substitutions.specs.Expansion as tree
use Rattle.b_substitutions.specs.Expansion.{Meaning, Meanings, expanded_subst, expanded_branch, expanded_case, expanded_step, formula_in, expression, expressions, predicate, arguments, arguments_by, used_with, used, called, perhaps, all_at, targets}
use Rattle.b_substitutions.specs.Sizes as sizes
use Rattle.b_substitutions.specs.Sizes.{Grows, with_node, with_formula, with_formulas, with_subst, with_branch, with_case, with_step, size_of_subst}
use Rattle.b_substitutions.specs.Summaries as sums
use Rattle.b_substitutions.specs.Summaries.{Adds}
use Rattle.b_substitutions.proofs.Layers.{Perhaps, Below, BelowBranch, BelowCase, BelowStep, by_layers}
use Rattle.b_substitutions.proofs.Growing.{growing, growing_all, with_list, with_option, none_grows, one_grows, two_grow, three_grow, all_grow, listed, formulas_listed, optional, subst_added, tested}

-- ---- sizes of trees

abbrev grown : Subst-F Subst Branch CaseBranch Step → Subst-F Grows Grows Grows Grows
grown = map-Subst Subst Branch CaseBranch Step Grows Grows Grows Grows with_subst with_branch with_case with_step

-- the size of a substitution by its layer
size_layer : (u : Subst) (x : Subst-F Subst Branch CaseBranch Step) → roll-Subst x ≡ u → (z : Size) → with_subst u z ≡ sizes.subst_size (grown x) z
size_layer u x h z =
    sym (ap (λ (u : Subst). with_subst u z) h)
    ∙ ap (λ (f : Grows). f z) (fold-roll-Subst Grows Grows Grows Grows sizes.subst_size sizes.branch_size sizes.case_size sizes.step_size x)

-- branches and perhaps ELSE
if_size : (at : Place) (a : List Branch) (b : Option Subst) (z : Size) → with_subst (form.If at a b) z ≡ with_option with_subst b (with_list with_branch a (with_node at.depth z))
if_size at a None z = size_layer (form.If at a None) (Subst-F.If at a None) (form.rolls-If at a None) z ∙ listed with_branch a (with_node at.depth z)
if_size at a (Some u) z = size_layer (form.If at a (Some u)) (Subst-F.If at a (Some u)) (form.rolls-If at a (Some u)) z ∙ ap (with_subst u) (listed with_branch a (with_node at.depth z))

select_size : (at : Place) (a : List Branch) (b : Option Subst) (z : Size) → with_subst (form.Select at a b) z ≡ with_option with_subst b (with_list with_branch a (with_node at.depth z))
select_size at a None z = size_layer (form.Select at a None) (Subst-F.Select at a None) (form.rolls-Select at a None) z ∙ listed with_branch a (with_node at.depth z)
select_size at a (Some u) z = size_layer (form.Select at a (Some u)) (Subst-F.Select at a (Some u)) (form.rolls-Select at a (Some u)) z ∙ ap (with_subst u) (listed with_branch a (with_node at.depth z))

case_size : (at : Place) (e : Formula) (a : List CaseBranch) (b : Option Subst) (z : Size) → with_subst (form.Case at e a b) z ≡ with_option with_subst b (with_list with_case a (with_formula e (with_node at.depth z)))
case_size at e a None z = size_layer (form.Case at e a None) (Subst-F.Case at e a None) (form.rolls-Case at e a None) z ∙ listed with_case a (with_formula e (with_node at.depth z))
case_size at e a (Some u) z = size_layer (form.Case at e a (Some u)) (Subst-F.Case at e a (Some u)) (form.rolls-Case at e a (Some u)) z ∙ ap (with_subst u) (listed with_case a (with_formula e (with_node at.depth z)))

branch_layer : (p : Formula) (u : Subst) (z : Size) → with_branch (roll-Branch (record { guard = p; body = u })) z ≡ with_subst u (with_formula p z)
branch_layer p u z = ap (λ (f : Grows). f z) (fold-roll-Branch Grows Grows Grows Grows sizes.subst_size sizes.branch_size sizes.case_size sizes.step_size (record { guard = p; body = u }))

case_layer : (es : List Formula) (u : Subst) (z : Size) → with_case (roll-CaseBranch (record { labels = es; body = u })) z ≡ with_subst u (with_formulas es z)
case_layer es u z = ap (λ (f : Grows). f z) (fold-roll-CaseBranch Grows Grows Grows Grows sizes.subst_size sizes.branch_size sizes.case_size sizes.step_size (record { labels = es; body = u }))

step_layer : (x : Step-F Subst Branch CaseBranch Step) (z : Size) → with_step (roll-Step x) z ≡ with_subst x.body (plus z (place_size 0 x.at.depth))
step_layer x z = ap (λ (f : Grows). f z) (fold-roll-Step Grows Grows Grows Grows sizes.subst_size sizes.branch_size sizes.case_size sizes.step_size x)

-- ---- meanings of one definition

abbrev pub sizes_of : Option Facts → Option Size
sizes_of o = option_map (λ f. f.size) o

pub record IsMeaning (m : Meaning) (t : Option Told) : Type 0 where
  pub body : (r : ℕ) (es : List Formula) (fs : List Facts) → all_of (map facts_of es) ≡ Some fs
      → sizes_of (option_and_then (λ t. told_value t r fs) t) ≡ option_map size_of_subst (cond (length es == length m.params) (m.body (record { round = r; params = m.params; trees = es })) None)

abbrev pub AgreeUses : Meanings → sums.Meanings → Type 0
AgreeUses uses told = (x : List ℕ) → Beside IsMeaning (uses x) (told x)

-- a definition that is called, if any
abbrev IsCalled : Option Meaning → Option Told → Type 0
IsCalled None None = Unit {0}
IsCalled None (Some t) = ⊥
IsCalled (Some m) t = IsMeaning m t

-- ---- small steps

-- a size is added where it is there
added_size : (c : Size) (z : Option Size) → together z (Some c) ≡ option_map (λ z. plus z c) z
added_size c None = refl
added_size c (Some z) = refl

sized_nothing : (o : Option Facts) → sized nothing_asked o ≡ sizes_of o
sized_nothing None = refl
sized_nothing (Some f) = refl

-- a tree of the wanted sort grows a size
adding_grows : (w : Sort) (o : Option Formula) (z : Option Size) → adding w o z ≡ growing with_formula (of_sort w o) z
adding_grows w None z = adding_none w z ∙ sym (none_grows with_formula z)
adding_grows w (Some e) None = refl
adding_grows w (Some e) (Some z) = ap (together (Some z)) (sized_tree w e) ∙ go (fits w (sort_of e))
  where
    go : (b : Bool) → together (Some z) (given_size b (size_of e)) ≡ growing with_formula (cond b (Some e) None) (Some z)
    go true = refl
    go false = refl

kept : (z : Option Size) → z ≡ option_map (λ z. z) z
kept None = refl
kept (Some z) = refl

-- a substitution's own size is added
together_grows : (o : Option Subst) (z : Option Size) → together z (option_map size_of_subst o) ≡ growing with_subst o z
together_grows None None = refl
together_grows None (Some z) = refl
together_grows (Some u) None = refl
together_grows (Some u) (Some z) = ap Some (sym (subst_added u z))

alone_grows : (o : Option Subst) → growing with_subst o (Some nothing) ≡ option_map size_of_subst o
alone_grows None = refl
alone_grows (Some u) = refl

absent_grows : {X : Type 0} (m : X → Grows) (z : Option Size) → z ≡ growing (with_option m) (Some None) z
absent_grows m None = refl
absent_grows m (Some z) = refl

present_grows : {X : Type 0} (m : X → Grows) (o : Option X) (z : Option Size) → growing m o z ≡ growing (with_option m) (option_map Some o) z
present_grows m None None = refl
present_grows m None (Some z) = refl
present_grows m (Some x) None = refl
present_grows m (Some x) (Some z) = refl

module _ (table : List Def) (means : formulas.Meanings) (others : summed.Meanings) (agree : Agree means others) (uses : Meanings) (told : sums.Meanings) (same : AgreeUses uses told)
    (r : ℕ) (ps : List (List ℕ)) (es : List Formula) (fs : List Facts) (all : all_of (map facts_of es) ≡ Some fs) (many : length es ≡ length ps) where
  -- where the text stands
  abbrev here : formulas.Scope
  here = record { round = r; params = ps; trees = es }

  abbrev at_here : Option Parts → Option Size
  at_here = at_parts here fs

  -- what is shown of a substitution
  abbrev PS : Subst → Type 0
  PS u = (o : Option Parts) → at_here (sums.with_subst table ps others told u o) ≡ growing with_subst (expanded_subst table means uses u here) (at_here o)

  abbrev PB : Branch → Type 0
  PB b = (o : Option Parts) → at_here (sums.with_branch table ps others told b o) ≡ growing with_branch (expanded_branch table means uses b here) (at_here o)

  abbrev PC : CaseBranch → Type 0
  PC b = (o : Option Parts) → at_here (sums.with_case table ps others told b o) ≡ growing with_case (expanded_case table means uses b here) (at_here o)

  abbrev PK : Step → Type 0
  PK k = (o : Option Parts) → at_here (sums.with_step table ps others told k o) ≡ growing with_step (expanded_step table means uses k here) (at_here o)

  -- ---- parts

  node_value : (d : ℕ) (o : Option Parts) → at_here (sums.with_node d o) ≡ option_map (with_node (brackets r d)) (at_here o)
  node_value d o = joined_value o (Some (alone (place_size 1 d))) r fs ∙ added_size (place_size 1 (brackets r d)) (at_here o)

  -- a node with bound names or names that are written to
  names_value : (at : Place) (xs : List Bound) (o : Option Parts) → at_here (sums.with_node (names_depth at xs) o) ≡ option_map (with_node (names_depth (deeper_place r at) (map (deeper_bound r) xs))) (at_here o)
  names_value at xs o = node_value (names_depth at xs) o ∙ ap (λ (d : ℕ). option_map (with_node d) (at_here o)) (sym (names_brackets r at xs))

  chain_value : (o : Option Parts) → at_here (sums.with_size node o) ≡ option_map (λ z. plus z node) (at_here o)
  chain_value o = joined_value o (Some (alone node)) r fs ∙ added_size node (at_here o)

  formula_value : (w : Sort) (e : Formula) (o : Option Parts) → at_here (sums.with_formula table ps others told w e o) ≡ growing with_formula (formula_in table means uses w here e) (at_here o)
  formula_value w e o =
      part_value here fs w (summed.summary table ps others e) (expanded table means here e) (summary_says table means others agree r ps es fs all many e) o
      ∙ adding_grows w (expanded table means here e) (at_here o)

  each_value_of : (us : List Formula) (o : Option Parts) → at_here (sums.with_expressions table ps others told us o) ≡ growing_all with_formula (map (expression table means uses here) us) (at_here o)
  each_value_of [] o = refl
  each_value_of (e ∷ us) o =
      each_value_of us (sums.with_formula table ps others told sort.Expression e o)
      ∙ ap (growing_all with_formula (map (expression table means uses here) us)) (formula_value sort.Expression e o)

  expressions_value : (us : List Formula) (o : Option Parts) → at_here (sums.with_expressions table ps others told us o) ≡ growing (with_list with_formula) (expressions table means uses here us) (at_here o)
  expressions_value us o = each_value_of us o ∙ all_grow with_formula (map (expression table means uses here) us) (at_here o)

  module _ {X : Type 0} (f : X → Adds) (g : X → Expands X) (m : X → Grows) where
    -- what is shown of a part
    abbrev Shown : X → Type 0
    Shown x = (o : Option Parts) → at_here (f x o) ≡ growing m (g x here) (at_here o)

    each_part : (xs : List X) → AllByRecursion Shown xs → (o : Option Parts) → at_here (sums.with_all (map f xs) o) ≡ growing_all m (map (λ (e : Expands X). e here) (map g xs)) (at_here o)
    each_part [] h o = refl
    each_part (x ∷ xs) h o = each_part xs h.1 (f x o) ∙ ap (growing_all m (map (λ (e : Expands X). e here) (map g xs))) (h.0 o)

    all_parts : (xs : List X) → AllByRecursion Shown xs → (o : Option Parts) → at_here (sums.with_all (map f xs) o) ≡ growing (with_list m) (all_at (map g xs) here) (at_here o)
    all_parts xs h o = each_part xs h o ∙ all_grow m (map (λ (e : Expands X). e here) (map g xs)) (at_here o)

    perhaps_part : (p : Option X) → Perhaps Shown p → (o : Option Parts) → at_here (sums.with_perhaps (option_map f p) o) ≡ growing (with_option m) (perhaps (option_map g p) here) (at_here o)
    perhaps_part None h o = absent_grows m (at_here o)
    perhaps_part (Some x) h o = h o ∙ present_grows m (g x here) (at_here o)

  -- ---- uses

  fit_nothing : (u : Option Summary) → at_here (fit nothing_asked u) ≡ sizes_of (valued here fs u)
  fit_nothing None = refl
  fit_nothing (Some u) = fitted_value nothing_asked u.kind u.parts r fs ∙ sized_nothing (summary_value u r fs)

  told_used : (depth : ℕ) (t : Option Told) (w : Option (List Summary))
      → valued here fs (sums.used depth t w) ≡ option_and_then (λ t. option_and_then (λ gs. told_value t (brackets (brackets r depth) 1) gs) (each_value here fs w)) t
  told_used depth None w = refl
  told_used depth (Some t) None = refl
  told_used depth (Some t) (Some us) = substituted_value us r fs t depth

  arguments_say : (us : List Formula) → Pairwise (Says here fs) (arguments_by (λ e. (reading table means e).arguments) us) (arguments_by (λ e. (summed.reading table ps others e).arguments) us)
  arguments_say [] = tt
  arguments_say (e ∷ us) = (reading_says table means others agree r ps es fs all many e).arguments

  called_says : (x : List ℕ) → IsCalled (called uses here x) (sums.called ps told x)
  called_says x =
      subst (λ (b : Bool). IsCalled (cond b None (uses x)) (sums.called ps told x)) (sym (is_parameter r ps es fs all many x)) (go (is_some (place_of ps x)) (uses x) (told x) (same x))
    where
      go : (b : Bool) (m : Option Meaning) (t : Option (Option Told)) → Beside IsMeaning m t → IsCalled (cond b None m) (option_and_then (λ t. t) (cond b None t))
      go true m t h = tt
      go false None None h = tt
      go false None (Some t) h = absurd h
      go false (Some m) None h = absurd h
      go false (Some m) (Some t) h = h

  use_says : (depth : ℕ) (m : Option Meaning) (t : Option Told) → IsCalled m t → (us : List Formula)
      → sizes_of (valued here fs (sums.used depth t (sums.arguments table ps others told us))) ≡ option_map size_of_subst (used depth m here (arguments table means uses here us))
  use_says depth m t h us =
      let xs : List (Expands Formula) = arguments_by (λ e. (reading table means e).arguments) us in
      let os : List (Option Formula) = map (λ (a : Expands Formula). a here) xs in
      let vs : List (Option Summary) = arguments_by (λ e. (summed.reading table ps others e).arguments) us in
      ap sizes_of (told_used depth t (all_of vs))
      ∙ (ap (λ (w : Option (List Facts)). sizes_of (option_and_then (λ t. option_and_then (λ gs. told_value t (brackets (brackets r depth) 1) gs) w) t)) (each_says here fs vs ∙ same_all here fs xs vs (arguments_say us))
      ∙ go m t h (all_of (map sorted os)) (all_of (map known os)) (sorted_known os))
    where
      go : (m : Option Meaning) (t : Option Told) → IsCalled m t → (a : Option (List Formula)) (b : Option (List Facts)) → Beside (λ es gs. all_of (map facts_of es) ≡ Some gs) a b
          → sizes_of (option_and_then (λ t. option_and_then (λ gs. told_value t (brackets (brackets r depth) 1) gs) b) t) ≡ option_map size_of_subst (option_and_then (λ m. option_and_then (used_with depth m here) a) m)
      go None None h a b k = refl
      go None (Some t) h a b k = absurd h
      go (Some m) None h None None k = refl
      go (Some m) (Some t) h None None k = refl
      go (Some m) t h None (Some gs) k = absurd k
      go (Some m) t h (Some us) None k = absurd k
      go (Some m) None h (Some us) (Some gs) k = h.body (brackets (brackets r depth) 1) us gs k
      go (Some m) (Some t) h (Some us) (Some gs) k = h.body (brackets (brackets r depth) 1) us gs k

  use_value : (depth : ℕ) (x : List ℕ) (us : List Formula) (o : Option Parts)
      → at_here (sums.with_use (sums.used depth (sums.called ps told x) (sums.arguments table ps others told us)) o) ≡ growing with_subst (used depth (called uses here x) here (arguments table means uses here us)) (at_here o)
  use_value depth x us o =
      let u : Option Summary = sums.used depth (sums.called ps told x) (sums.arguments table ps others told us) in
      joined_value o (fit nothing_asked u) r fs
      ∙ (ap (together (at_here o)) (fit_nothing u ∙ use_says depth (called uses here x) (sums.called ps told x) (called_says x) us)
      ∙ together_grows (used depth (called uses here x) here (arguments table means uses here us)) (at_here o))

  -- ---- layers

  -- what the parts of a layer give, as trees and as parts
  abbrev read : Subst-F Subst Branch CaseBranch Step → Subst-F (Expands Subst) (Expands Branch) (Expands CaseBranch) (Expands Step)
  read = map-Subst Subst Branch CaseBranch Step (Expands Subst) (Expands Branch) (Expands CaseBranch) (Expands Step) (expanded_subst table means uses) (expanded_branch table means uses) (expanded_case table means uses) (expanded_step table means uses)

  abbrev summed_up : Subst-F Subst Branch CaseBranch Step → Subst-F Adds Adds Adds Adds
  summed_up = map-Subst Subst Branch CaseBranch Step Adds Adds Adds Adds (sums.with_subst table ps others told) (sums.with_branch table ps others told) (sums.with_case table ps others told) (sums.with_step table ps others told)

  -- branches and perhaps ELSE
  branches_say : (at : Place) (c : List Branch → Option Subst → Subst) → ((a : List Branch) (b : Option Subst) (z : Size) → with_subst (c a b) z ≡ with_option with_subst b (with_list with_branch a (with_node (deeper_place r at).depth z)))
      → (bs : List Branch) → AllByRecursion PB bs → (u : Option Subst) → Perhaps PS u → (o : Option Parts)
      → at_here (sums.with_perhaps (option_map (sums.with_subst table ps others told) u) (sums.with_all (map (sums.with_branch table ps others told) bs) (sums.with_node at.depth o)))
      ≡ growing with_subst (both c (all_at (map (expanded_branch table means uses) bs) here) (perhaps (option_map (expanded_subst table means uses) u) here)) (at_here o)
  branches_say at c k bs h u i o =
      let v : Option (List Branch) = all_at (map (expanded_branch table means uses) bs) here in
      let w : Option (Option Subst) = perhaps (option_map (expanded_subst table means uses) u) here in
      perhaps_part (sums.with_subst table ps others told) (expanded_subst table means uses) with_subst u i (sums.with_all (map (sums.with_branch table ps others told) bs) (sums.with_node at.depth o))
      ∙ (ap (growing (with_option with_subst) w) (all_parts (sums.with_branch table ps others told) (expanded_branch table means uses) with_branch bs h (sums.with_node at.depth o) ∙ ap (growing (with_list with_branch) v) (node_value at.depth o))
      ∙ two_grow with_subst (with_list with_branch) (with_option with_subst) with_subst (with_node (deeper_place r at).depth) c k v w (at_here o))

  case_says : (at : Place) (e : Formula) (bs : List CaseBranch) → AllByRecursion PC bs → (u : Option Subst) → Perhaps PS u → (o : Option Parts)
      → at_here (sums.with_perhaps (option_map (sums.with_subst table ps others told) u) (sums.with_all (map (sums.with_case table ps others told) bs) (sums.with_formula table ps others told sort.Expression e (sums.with_node at.depth o))))
      ≡ growing with_subst (all_three (form.Case (deeper_place r at)) (expression table means uses here e) (all_at (map (expanded_case table means uses) bs) here) (perhaps (option_map (expanded_subst table means uses) u) here)) (at_here o)
  case_says at e bs h u i o =
      let a : Option Formula = expression table means uses here e in
      let v : Option (List CaseBranch) = all_at (map (expanded_case table means uses) bs) here in
      let w : Option (Option Subst) = perhaps (option_map (expanded_subst table means uses) u) here in
      let p : Option Parts = sums.with_formula table ps others told sort.Expression e (sums.with_node at.depth o) in
      perhaps_part (sums.with_subst table ps others told) (expanded_subst table means uses) with_subst u i (sums.with_all (map (sums.with_case table ps others told) bs) p)
      ∙ (ap (growing (with_option with_subst) w)
      (all_parts (sums.with_case table ps others told) (expanded_case table means uses) with_case bs h p
      ∙ ap (growing (with_list with_case) v) (formula_value sort.Expression e (sums.with_node at.depth o) ∙ ap (growing with_formula a) (node_value at.depth o)))
      ∙ three_grow with_subst with_formula (with_list with_case) (with_option with_subst) (with_node (deeper_place r at).depth) (form.Case (deeper_place r at)) (case_size (deeper_place r at)) a v w (at_here o))

  -- what stands before a substitution, and it
  held_say : {A : Type 0} (m : A → Grows) (d e : ℕ) (a : Option A) (f : Adds) (c : A → Subst → Subst) → ((p : A) (u : Subst) (z : Size) → with_subst (c p u) z ≡ with_subst u (m p (with_node e z)))
      → ((o : Option Parts) → at_here (f o) ≡ growing m a (at_here o)) → (o : Option Parts) → at_here (sums.with_node d o) ≡ option_map (with_node e) (at_here o) → (u : Subst) → PS u
      → at_here (sums.with_subst table ps others told u (f (sums.with_node d o))) ≡ growing with_subst (both c a (expanded_subst table means uses u here)) (at_here o)
  held_say m d e a f c k fh o dh u h =
      let v : Option Subst = expanded_subst table means uses u here in
      h (f (sums.with_node d o))
      ∙ (ap (growing with_subst v) (fh (sums.with_node d o) ∙ ap (growing m a) dh)
      ∙ two_grow with_subst m with_subst with_subst (with_node e) c k a v (at_here o))

  with_names : {A : Type 0} (c : List Bound → A → Subst → Subst) (ys : List Bound) (a : Option A) (u : Option Subst) → both (c ys) a u ≡ all_three c (Some ys) a u
  with_names c ys None u = refl
  with_names c ys (Some a) None = refl
  with_names c ys (Some a) (Some u) = refl

  -- under bound names
  bound_says : {A : Type 0} (c : List Bound → A → Subst → Subst) (ys : List Bound) (a : Option A) (u : Option Subst) (p : Option Parts) (z : Option Size) → at_here p ≡ growing with_subst (both (c ys) a u) z
      → (b : Bool) → at_here (cond b p None) ≡ growing with_subst (all_three c (cond b (Some ys) None) a u) z
  bound_says c ys a u p z h true = h ∙ ap (λ (o : Option Subst). growing with_subst o z) (with_names c ys a u)
  bound_says c ys a u p z h false = sym (none_grows with_subst z)

  layer_says : (x : Subst-F Subst Branch CaseBranch Step) → Below PB PC PK PS x → (o : Option Parts)
      → at_here (sums.subst_step table ps others told (summed_up x) o) ≡ growing with_subst (tree.subst_step table means uses (read x) here) (at_here o)
  layer_says (Subst-F.Skip at) h o = node_value at.depth o ∙ go (at_here o)
    where
      go : (z : Option Size) → option_map (with_node (brackets r at.depth)) z ≡ growing with_subst (Some (form.Skip (deeper_place r at))) z
      go None = refl
      go (Some z) = ap Some (sym (size_layer (form.Skip (deeper_place r at)) (Subst-F.Skip (deeper_place r at)) (form.rolls-Skip (deeper_place r at)) z))
  layer_says (Subst-F.Block at u) h o =
      h (sums.with_node at.depth o)
      ∙ (ap (growing with_subst (expanded_subst table means uses u here)) (node_value at.depth o)
      ∙ one_grows with_subst with_subst with_subst with_subst (with_node (deeper_place r at).depth) (form.Block (deeper_place r at))
      (λ v z. size_layer (form.Block (deeper_place r at) v) (Subst-F.Block (deeper_place r at) v) (form.rolls-Block (deeper_place r at) v) z) (expanded_subst table means uses u here) (at_here o))
  layer_says (Subst-F.Assign at xs us) h o =
      let ys : List Bound = map (deeper_bound r) xs in
      expressions_value us (sums.with_node (names_depth at xs) o)
      ∙ (ap (growing (with_list with_formula) (expressions table means uses here us)) (names_value at xs o)
      ∙ one_grows with_subst (with_list with_formula) with_subst with_subst (with_node (names_depth (deeper_place r at) ys)) (form.Assign (deeper_place r at) ys)
      (λ vs z. size_layer (form.Assign (deeper_place r at) ys vs) (Subst-F.Assign (deeper_place r at) ys vs) (form.rolls-Assign (deeper_place r at) ys vs) z ∙ formulas_listed vs (with_node (names_depth (deeper_place r at) ys) z))
      (expressions table means uses here us) (at_here o))
  layer_says (Subst-F.Update at x e f) h o =
      let a : Option Formula = expression table means uses here e in
      let b : Option Formula = expression table means uses here f in
      let y : Bound = deeper_bound r x in
      formula_value sort.Expression f (sums.with_formula table ps others told sort.Expression e (sums.with_node (names_depth at (x ∷ [])) o))
      ∙ (ap (growing with_formula b) (formula_value sort.Expression e (sums.with_node (names_depth at (x ∷ [])) o) ∙ ap (growing with_formula a) (names_value at (x ∷ []) o))
      ∙ two_grow with_subst with_formula with_formula with_subst (with_node (names_depth (deeper_place r at) (y ∷ []))) (form.Update (deeper_place r at) y)
      (λ v w z. size_layer (form.Update (deeper_place r at) y v w) (Subst-F.Update (deeper_place r at) y v w) (form.rolls-Update (deeper_place r at) y v w) z) a b (at_here o))
  layer_says (Subst-F.ChooseFrom at x e) h o =
      let y : Bound = deeper_bound r x in
      formula_value sort.Expression e (sums.with_node (names_depth at (x ∷ [])) o)
      ∙ (ap (growing with_formula (expression table means uses here e)) (names_value at (x ∷ []) o)
      ∙ one_grows with_subst with_formula with_subst with_subst (with_node (names_depth (deeper_place r at) (y ∷ []))) (form.ChooseFrom (deeper_place r at) y)
      (λ v z. size_layer (form.ChooseFrom (deeper_place r at) y v) (Subst-F.ChooseFrom (deeper_place r at) y v) (form.rolls-ChooseFrom (deeper_place r at) y v) z) (expression table means uses here e) (at_here o))
  layer_says (Subst-F.ChooseSuch at xs p) h o =
      let ys : List Bound = map (deeper_bound r) xs in
      formula_value sort.Predicate p (sums.with_node (names_depth at xs) o)
      ∙ (ap (growing with_formula (predicate table means uses here p)) (names_value at xs o)
      ∙ one_grows with_subst with_formula with_subst with_subst (with_node (names_depth (deeper_place r at) ys)) (form.ChooseSuch (deeper_place r at) ys)
      (λ v z. size_layer (form.ChooseSuch (deeper_place r at) ys v) (Subst-F.ChooseSuch (deeper_place r at) ys v) (form.rolls-ChooseSuch (deeper_place r at) ys v) z) (predicate table means uses here p) (at_here o))
  layer_says (Subst-F.Guarded at g p u) h o =
      held_say with_formula at.depth (deeper_place r at).depth (predicate table means uses here p) (sums.with_formula table ps others told sort.Predicate p) (form.Guarded (deeper_place r at) g)
      (λ p u z. size_layer (form.Guarded (deeper_place r at) g p u) (Subst-F.Guarded (deeper_place r at) g p u) (form.rolls-Guarded (deeper_place r at) g p u) z)
      (formula_value sort.Predicate p) o (node_value at.depth o) u h
  layer_says (Subst-F.If at bs None) h o = branches_say at (form.If (deeper_place r at)) (if_size (deeper_place r at)) bs h.0 None tt o
  layer_says (Subst-F.If at bs (Some u)) h o = branches_say at (form.If (deeper_place r at)) (if_size (deeper_place r at)) bs h.0 (Some u) h.1 o
  layer_says (Subst-F.Select at bs None) h o = branches_say at (form.Select (deeper_place r at)) (select_size (deeper_place r at)) bs h.0 None tt o
  layer_says (Subst-F.Select at bs (Some u)) h o = branches_say at (form.Select (deeper_place r at)) (select_size (deeper_place r at)) bs h.0 (Some u) h.1 o
  layer_says (Subst-F.Choice at us) h o =
      all_parts (sums.with_subst table ps others told) (expanded_subst table means uses) with_subst us h (sums.with_node at.depth o)
      ∙ (ap (growing (with_list with_subst) (all_at (map (expanded_subst table means uses) us) here)) (node_value at.depth o)
      ∙ one_grows with_subst (with_list with_subst) with_subst with_subst (with_node (deeper_place r at).depth) (form.Choice (deeper_place r at))
      (λ vs z. size_layer (form.Choice (deeper_place r at) vs) (Subst-F.Choice (deeper_place r at) vs) (form.rolls-Choice (deeper_place r at) vs) z ∙ listed with_subst vs (with_node (deeper_place r at).depth z))
      (all_at (map (expanded_subst table means uses) us) here) (at_here o))
  layer_says (Subst-F.Case at e bs None) h o = case_says at e bs h.0 None tt o
  layer_says (Subst-F.Case at e bs (Some u)) h o = case_says at e bs h.0 (Some u) h.1 o
  layer_says (Subst-F.Any at xs p u) h o =
      let ys : List Bound = map (deeper_bound r) xs in
      bound_says (form.Any (deeper_place r at)) ys (predicate table means uses here p) (expanded_subst table means uses u here)
      (sums.with_subst table ps others told u (sums.with_formula table ps others told sort.Predicate p (sums.with_node (names_depth at xs) o))) (at_here o)
      (held_say with_formula (names_depth at xs) (names_depth (deeper_place r at) ys) (predicate table means uses here p) (sums.with_formula table ps others told sort.Predicate p) (form.Any (deeper_place r at) ys)
      (λ p u z. size_layer (form.Any (deeper_place r at) ys p u) (Subst-F.Any (deeper_place r at) ys p u) (form.rolls-Any (deeper_place r at) ys p u) z)
      (formula_value sort.Predicate p) o (names_value at xs o) u h)
      (may_bind_all table ps xs)
  layer_says (Subst-F.Let at xs us u) h o =
      let ys : List Bound = map (deeper_bound r) xs in
      bound_says (form.Let (deeper_place r at)) ys (expressions table means uses here us) (expanded_subst table means uses u here)
      (sums.with_subst table ps others told u (sums.with_expressions table ps others told us (sums.with_node (names_depth at xs) o))) (at_here o)
      (held_say (with_list with_formula) (names_depth at xs) (names_depth (deeper_place r at) ys) (expressions table means uses here us) (sums.with_expressions table ps others told us) (form.Let (deeper_place r at) ys)
      (λ vs u z. size_layer (form.Let (deeper_place r at) ys vs u) (Subst-F.Let (deeper_place r at) ys vs u) (form.rolls-Let (deeper_place r at) ys vs u) z
      ∙ ap (with_subst u) (formulas_listed vs (with_node (names_depth (deeper_place r at) ys) z)))
      (expressions_value us) o (names_value at xs o) u h)
      (may_bind_all table ps xs)
  layer_says (Subst-F.Chain u ks) h o =
      let v : Option Subst = expanded_subst table means uses u here in
      let w : Option (List Step) = all_at (map (expanded_step table means uses) ks) here in
      all_parts (sums.with_step table ps others told) (expanded_step table means uses) with_step ks h.1 (sums.with_subst table ps others told u (sums.with_size node o))
      ∙ (ap (growing (with_list with_step) w) (h.0 (sums.with_size node o) ∙ ap (growing with_subst v) (chain_value o))
      ∙ two_grow with_subst with_subst (with_list with_step) with_subst (λ z. plus z node) form.Chain
      (λ a b z. size_layer (form.Chain a b) (Subst-F.Chain a b) (form.rolls-Chain a b) z ∙ listed with_step b (with_subst a (plus z node))) v w (at_here o))
  layer_says (Subst-F.Use at x us) h o = use_value at.depth x us o

  -- ---- substitutions

  on_subst : (x : Subst-F Subst Branch CaseBranch Step) → Below PB PC PK PS x → PS (roll-Subst x)
  on_subst x h o =
      ap (λ (f : Adds). at_here (f o)) (fold-roll-Subst Adds Adds Adds Adds (sums.subst_step table ps others told) (sums.branch_step table ps others told) (sums.case_step table ps others told) (sums.step_step table ps others told) x)
      ∙ (layer_says x h o
      ∙ sym (ap (λ (e : Expands Subst). growing with_subst (e here) (at_here o)) (fold-roll-Subst (Expands Subst) (Expands Branch) (Expands CaseBranch) (Expands Step) (tree.subst_step table means uses) (tree.branch_step table means uses) (tree.case_branch_step table means uses) (tree.step_step table means uses) x)))

  on_branch : (x : Branch-F Subst Branch CaseBranch Step) → BelowBranch PB PC PK PS x → PB (roll-Branch x)
  on_branch x h o =
      let a : Option Formula = predicate table means uses here x.guard in
      let v : Option Subst = expanded_subst table means uses x.body here in
      ap (λ (f : Adds). at_here (f o)) (fold-roll-Branch Adds Adds Adds Adds (sums.subst_step table ps others told) (sums.branch_step table ps others told) (sums.case_step table ps others told) (sums.step_step table ps others told) x)
      ∙ (h (sums.with_formula table ps others told sort.Predicate x.guard o)
      ∙ (ap (growing with_subst v) (formula_value sort.Predicate x.guard o)
      ∙ (ap (λ (z : Option Size). growing with_subst v (growing with_formula a z)) (kept (at_here o))
      ∙ (two_grow with_branch with_formula with_subst with_subst (λ z. z) (λ p u. roll-Branch (record { guard = p; body = u })) branch_layer a v (at_here o)
      ∙ sym (ap (λ (e : Expands Branch). growing with_branch (e here) (at_here o)) (fold-roll-Branch (Expands Subst) (Expands Branch) (Expands CaseBranch) (Expands Step) (tree.subst_step table means uses) (tree.branch_step table means uses) (tree.case_branch_step table means uses) (tree.step_step table means uses) x))))))

  on_case : (x : CaseBranch-F Subst Branch CaseBranch Step) → BelowCase PB PC PK PS x → PC (roll-CaseBranch x)
  on_case x h o =
      let a : Option (List Formula) = expressions table means uses here x.labels in
      let v : Option Subst = expanded_subst table means uses x.body here in
      ap (λ (f : Adds). at_here (f o)) (fold-roll-CaseBranch Adds Adds Adds Adds (sums.subst_step table ps others told) (sums.branch_step table ps others told) (sums.case_step table ps others told) (sums.step_step table ps others told) x)
      ∙ (h (sums.with_expressions table ps others told x.labels o)
      ∙ (ap (growing with_subst v) (expressions_value x.labels o)
      ∙ (ap (λ (z : Option Size). growing with_subst v (growing (with_list with_formula) a z)) (kept (at_here o))
      ∙ (two_grow with_case (with_list with_formula) with_subst with_subst (λ z. z) (λ es u. roll-CaseBranch (record { labels = es; body = u }))
      (λ es u z. case_layer es u z ∙ ap (with_subst u) (formulas_listed es z)) a v (at_here o)
      ∙ sym (ap (λ (e : Expands CaseBranch). growing with_case (e here) (at_here o)) (fold-roll-CaseBranch (Expands Subst) (Expands Branch) (Expands CaseBranch) (Expands Step) (tree.subst_step table means uses) (tree.branch_step table means uses) (tree.case_branch_step table means uses) (tree.step_step table means uses) x))))))

  on_step : (x : Step-F Subst Branch CaseBranch Step) → BelowStep PB PC PK PS x → PK (roll-Step x)
  on_step x h o =
      let v : Option Subst = expanded_subst table means uses x.body here in
      ap (λ (f : Adds). at_here (f o)) (fold-roll-Step Adds Adds Adds Adds (sums.subst_step table ps others told) (sums.branch_step table ps others told) (sums.case_step table ps others told) (sums.step_step table ps others told) x)
      ∙ (h (with_place x.at.depth o)
      ∙ (ap (growing with_subst v) (place_value here fs x.at.depth o ∙ added_size (place_size 0 (brackets r x.at.depth)) (at_here o))
      ∙ (one_grows with_step with_subst with_subst with_subst (λ z. plus z (place_size 0 (brackets r x.at.depth))) (λ u. roll-Step (record { joint = x.joint; at = deeper_place r x.at; body = u }))
      (λ u z. step_layer (record { joint = x.joint; at = deeper_place r x.at; body = u }) z) v (at_here o)
      ∙ sym (ap (λ (e : Expands Step). growing with_step (e here) (at_here o)) (fold-roll-Step (Expands Subst) (Expands Branch) (Expands CaseBranch) (Expands Step) (tree.subst_step table means uses) (tree.branch_step table means uses) (tree.case_branch_step table means uses) (tree.step_step table means uses) x)))))

  -- what is added to parts is what the expanded substitution adds
  pub adds_says : (u : Subst) (o : Option Parts) → at_here (sums.with_subst table ps others told u o) ≡ growing with_subst (expanded_subst table means uses u here) (at_here o)
  adds_says = by_layers PB PC PK PS on_branch on_case on_step on_subst

  -- the parts of a body say how wide and deep the expanded substitution is
  pub parts_say : (u : Subst) → at_here (sums.parts_of table ps others told u) ≡ option_map size_of_subst (expanded_subst table means uses u here)
  parts_say u = adds_says u (Some (alone nothing)) ∙ alone_grows (expanded_subst table means uses u here)

-- ---- definitions

module _ (table : List Def) (means : formulas.Meanings) (others : summed.Meanings) (agree : Agree means others) (uses : Meanings) (told : sums.Meanings) (same : AgreeUses uses told) where
  asked_sizes : (k : Sort) (z : Option Size) → sizes_of (asked_facts nothing_asked (option_map (facts_from k) z)) ≡ z
  asked_sizes k None = refl
  asked_sizes k (Some z) = refl

  subst_body : (ps : List (List ℕ)) (u : Subst) (r : ℕ) (es : List Formula) (fs : List Facts) → all_of (map facts_of es) ≡ Some fs
      → sizes_of (option_and_then (λ t. told_value t r fs) (sums.told_subst ps (sums.parts_of table ps others told u))) ≡ option_map size_of_subst (cond (length es == length ps) (expanded_subst table means uses u (record { round = r; params = ps; trees = es })) None)
  subst_body ps u r es fs all =
      let o : Option Parts = sums.parts_of table ps others told u in
      ap sizes_of (told_of_value ps nothing_asked (formed sort.Expression o) r fs)
      ∙ (ap (λ (n : ℕ). sizes_of (cond (n == length ps) (asked_facts nothing_asked (option_and_then (λ u. summary_value u r fs) (formed sort.Expression o))) None)) (as_many es fs all)
      ∙ go (length es == length ps) refl)
    where
      go : (b : Bool) → (length es == length ps) ≡ b
          → sizes_of (cond b (asked_facts nothing_asked (option_and_then (λ u. summary_value u r fs) (formed sort.Expression (sums.parts_of table ps others told u)))) None)
          ≡ option_map size_of_subst (cond b (expanded_subst table means uses u (record { round = r; params = ps; trees = es })) None)
      go true i =
          ap (λ (f : Option Facts). sizes_of (asked_facts nothing_asked f)) (formed_value (record { round = r; params = ps; trees = es }) fs sort.Expression (sums.parts_of table ps others told u))
          ∙ (asked_sizes sort.Expression (value_of r fs (sums.parts_of table ps others told u))
          ∙ parts_say table means others agree uses told same r ps es fs all (eqb-true (length es) (length ps) i) u)
      go false i = refl

  no_subst : (b : Bool) → ◌≡◌ {A = Option Size} None (option_map size_of_subst (cond b None None))
  no_subst true = refl
  no_subst false = refl

  same_body : (ps : List (List ℕ)) (b : DefBody) → IsMeaning (tree.meaning_of table (record { formulas = means; uses = uses }) ps b) (sums.told_body table (record { formulas = others; uses = told }) ps b)
  same_body ps (body.Expr e) = record { body = λ r es fs all. no_subst (length es == length ps) }
  same_body ps (body.Pred p) = record { body = λ r es fs all. no_subst (length es == length ps) }
  same_body ps (body.Subst u) = record { body = λ r es fs all. subst_body ps u r es fs all }

  same_first : (m : Option Meaning) (t : Option (Option Told)) → Beside IsMeaning m t → (o : Option Meaning) (p : Option (Option Told)) → Beside IsMeaning o p → Beside IsMeaning (tree.first_of m o) (sums.first_of t p)
  same_first None None h o p k = k
  same_first None (Some t) h o p k = absurd h
  same_first (Some m) None h o p k = absurd h
  same_first (Some m) (Some t) h o p k = h

  same_if : (m : Meaning) (t : Option Told) → IsMeaning m t → (b : Bool) → Beside IsMeaning (cond b (Some m) None) (cond b (Some t) None)
  same_if m t h true = h
  same_if m t h false = tt

  -- one more definition
  same_with : (d : Def) → AgreeUses (tree.with_definition table (record { formulas = means; uses = uses }) d).uses (sums.with_definition table (record { formulas = others; uses = told }) d).uses
  same_with d x =
      same_first (uses x) (told x) (same x) (cond (bytes_eq x d.name) (Some (tree.meaning_of table (record { formulas = means; uses = uses }) d.params d.body)) None) (cond (bytes_eq x d.name) (Some (sums.told_body table (record { formulas = others; uses = told }) d.params d.body)) None)
      (same_if (tree.meaning_of table (record { formulas = means; uses = uses }) d.params d.body) (sums.told_body table (record { formulas = others; uses = told }) d.params d.body) (same_body d.params d.body) (bytes_eq x d.name))

-- what is known on both sides is the same
pub record AreAlike (k : tree.Known) (l : sums.Known) : Type 0 where
  pub formulas : Agree k.formulas l.formulas
  pub uses : AgreeUses k.uses l.uses

-- the definitions one after the other
alike_all : (table : List Def) (k : tree.Known) (l : sums.Known) → AreAlike k l → (ds : List Def) → AreAlike (fold (tree.with_definition table) k ds) (fold (sums.with_definition table) l ds)
alike_all table k l h [] = h
alike_all table k l h (d ∷ ds) =
    alike_all table (tree.with_definition table k d) (sums.with_definition table l d)
    (record { formulas = telling.same_with table k.formulas l.formulas h.formulas d; uses = same_with table k.formulas l.formulas h.formulas k.uses l.uses h.uses d }) ds

pub alike_known : (table ds : List Def) → AreAlike (tree.known table ds) (sums.known table ds)
alike_known table ds = alike_all table tree.nothing_known sums.nothing_known (record { formulas = λ x. tt; uses = λ x. tt }) ds

-- the parts of a substitution say how wide and deep the substitution is that it stands for
pub subst_says : (table : List Def) (u : Subst) → value_of 0 [] (sums.parts_of table [] (sums.known table table).formulas (sums.known table table).uses u) ≡ option_map size_of_subst (tree.subst_expansion table u)
subst_says table u =
    let h : AreAlike (tree.known table table) (sums.known table table) = alike_known table table in
    parts_say table (tree.known table table).formulas (sums.known table table).formulas h.formulas (tree.known table table).uses (sums.known table table).uses h.uses 0 [] [] [] refl refl u
