-- The law of summaries: what a summary says of a text, in each scope whose trees are known, is what is known of the expanded tree.
use Rattle.std.proofs.Common.{◌≡◌, ℕ, ◌==◌, Bool, true, false, cond, List, [], ◌∷◌, map, length, fold, Option, Some, None, refl, sym, ap, subst, ◌∙◌}
use Rattle.std.specs.Prelude.{option_map, option_and_then, bytes_eq}
use Rattle.std.specs.List.{AllByRecursion}
use Rattle.std.proofs.lemmas.Bool.{eqb-true}
use Rattle.b_ast.specs.declared.Place.{Place}
use Rattle.b_ast.specs.declared.Bound.{Bound}
use Rattle.b_ast.specs.declared.Sort.{Sort}
use Rattle.b_ast.specs.declared.Sort.TheVariants as sort
use Rattle.b_ast.specs.declared.machine.Def.{Def}
use Rattle.b_ast.specs.declared.machine.DefBody.{DefBody}
use Rattle.b_ast.specs.declared.machine.DefBody.TheVariants as body
use Rattle.b_ast.specs.declared.Formula.{Formula, roll-Formula, map-Formula, fold-roll-Formula}
use Rattle.b_ast.specs.declared.Formula.TheVariants as formula
use Rattle.b_ast.specs.declared.Link.{Link, roll-Link, fold-roll-Link}
use Rattle.b_ast.specs.declared.After.{After, roll-After, map-After, fold-roll-After}
use Rattle.b_ast.specs.declared.After.TheVariants as after
use Rattle.b_ast.specs.declared.After.TheOpen.{Formula-F, Link-F, After-F}
use Rattle.b_ast.specs.Sorts.{Sorted, sort_of, fits, operand_sort, argument_sort, call_sort, body_sort}
use Rattle.b_expand.specs.Places.{brackets, deeper_place, deeper_bound, names_depth}
use Rattle.b_expand.specs.Expansion as tree
use Rattle.b_expand.specs.Expansion.{both, all_of, all_three, expanded_operator, expansion}
use Rattle.b_expand.proofs.Layers.{Below, BelowAfter, BelowLink, by_layers}
use Rattle.b_summaries.specs.declared.summary.Size.{Size}
use Rattle.b_summaries.specs.declared.summary.Facts.{Facts}
use Rattle.b_summaries.specs.declared.summary.Parts.{Parts}
use Rattle.b_summaries.specs.declared.summary.Summary.{Summary}
use Rattle.b_summaries.specs.Sizes.{asking, size_of, facts_of, known}
use Rattle.b_summaries.specs.Values.{facts_from, summary_value, told_value}
use Rattle.b_summaries.specs.Making.{place_size, told_of}
use Rattle.b_summaries.specs.Summaries as summed
use Rattle.b_summaries.specs.Summaries.{with_place, with_part, with_all, formed, start, may_bind_all}
use Rattle.b_summaries.proofs.Using.{asked_facts, told_of_value}
use Rattle.b_summaries.proofs.Trees.{met_asking, adding, placing, adds}
use Rattle.b_summaries.proofs.TreeLayers.{facts-Number, facts-Text, facts-Old, facts-Constant, known-Negative, known-Comprehension, known-Quantified, known-Collected, known-If, known-Call, known-Set, known-Sequence}
use Rattle.b_summaries.proofs.TreeRows.{add_form, side_added, converse_added, apply_added, image_added}
use Rattle.b_summaries.proofs.DeeperFacts.{names_brackets}
use Rattle.b_summaries.proofs.TextParts.{Beside, pairs_of, valued, at_parts, Says, IsReading, IsForm, IsSide, part_value, place_value, formed_value, all_value, chain_says, arguments_say}
use Rattle.b_summaries.proofs.TextNames.{IsMeaning, Agree, by_sort, as_many, named_says, called_says, called_row}

module _ (table : List Def) (means : tree.Meanings) (others : summed.Meanings) (agree : Agree means others)
    (r : ℕ) (ps : List (List ℕ)) (es : List Formula) (fs : List Facts) (all : all_of (map facts_of es) ≡ Some fs) (many : length es ≡ length ps) where
  -- where the text stands
  abbrev here : tree.Scope
  here = record { round = r; params = ps; trees = es }

  -- what is shown of a tree
  abbrev PF : Formula → Type 0
  PF t = IsReading here fs (tree.reading table means t) (summed.reading table ps others t)

  -- of a form after an operand
  abbrev PA : After → Type 0
  PA f = IsForm here fs (tree.form_of table means f) (summed.form_of table ps others f)

  -- of a link
  abbrev PL : Link → Type 0
  PL l = IsSide here fs (tree.side_of table means l) (summed.side_of table ps others l)

  -- what the parts of a layer give, as trees and as summaries
  abbrev read : Formula-F After Formula Link → Formula-F tree.Form tree.Reading tree.Side
  read = map-Formula After Formula Link tree.Form tree.Reading tree.Side (tree.form_of table means) (tree.reading table means) (tree.side_of table means)

  -- the like as summaries
  abbrev summed_up : Formula-F After Formula Link → Formula-F summed.Form summed.Reading summed.Side
  summed_up = map-Formula After Formula Link summed.Form summed.Reading summed.Side (summed.form_of table ps others) (summed.reading table ps others) (summed.side_of table ps others)

  abbrev read_after : After-F After Formula Link → After-F tree.Form tree.Reading tree.Side
  read_after = map-After After Formula Link tree.Form tree.Reading tree.Side (tree.form_of table means) (tree.reading table means) (tree.side_of table means)

  abbrev summed_after : After-F After Formula Link → After-F summed.Form summed.Reading summed.Side
  summed_after = map-After After Formula Link summed.Form summed.Reading summed.Side (summed.form_of table ps others) (summed.reading table ps others) (summed.side_of table ps others)

  -- a tree that is no name and no list of arguments
  plain_says : (e : tree.Expands Formula) (u : Option Summary) → Says here fs e u → IsReading here fs (tree.plain e) (summed.plain u)
  plain_says e u h = record { name = refl; tree = h; arguments = (h, tt) }

  -- ---- bound names

  with_names : {X : Type 0} (c : X → Formula → Formula) (ys : X) (o : Option Formula) → option_map (c ys) o ≡ both c (Some ys) o
  with_names c ys None = refl
  with_names c ys (Some e) = refl

  with_names_two : {X : Type 0} (c : X → Formula → Formula → Formula) (ys : X) (o p : Option Formula) → both (c ys) o p ≡ all_three c (Some ys) o p
  with_names_two c ys None p = refl
  with_names_two c ys (Some e) None = refl
  with_names_two c ys (Some e) (Some f) = refl

  -- one tree under bound names
  bound_one : (xs : List Bound) (c : List Bound → Formula → Formula) (k w : Sort) (d : ℕ) (t : tree.Reading) (q : summed.Reading) → IsReading here fs t q
      → ((o : Option Formula) → known (option_map (c (map (deeper_bound r) xs)) o) ≡ option_map (facts_from k) (adding w o (Some (place_size 1 (brackets r d)))))
      → (b : Bool) → valued here fs (cond b (formed k (with_part w q.tree (start (place_size 1 d)))) None) ≡ known (both c (cond b (Some (map (deeper_bound r) xs)) None) (t.tree here))
  bound_one xs c k w d t q h i true =
      formed_value here fs k (with_part w q.tree (start (place_size 1 d)))
      ∙ (ap (option_map (facts_from k)) (part_value here fs w q.tree (t.tree here) h.tree (start (place_size 1 d)))
      ∙ (sym (i (t.tree here)) ∙ ap known (with_names c (map (deeper_bound r) xs) (t.tree here))))
  bound_one xs c k w d t q h i false = refl

  -- two trees under bound names
  bound_two : (xs : List Bound) (c : List Bound → Formula → Formula → Formula) (k v w : Sort) (d : ℕ) (t u : tree.Reading) (q p : summed.Reading) → IsReading here fs t q → IsReading here fs u p
      → ((o a : Option Formula) → known (both (c (map (deeper_bound r) xs)) o a) ≡ option_map (facts_from k) (adding w a (adding v o (Some (place_size 1 (brackets r d))))))
      → (b : Bool) → valued here fs (cond b (formed k (with_part w p.tree (with_part v q.tree (start (place_size 1 d))))) None) ≡ known (all_three c (cond b (Some (map (deeper_bound r) xs)) None) (t.tree here) (u.tree here))
  bound_two xs c k v w d t u q p h g i true =
      formed_value here fs k (with_part w p.tree (with_part v q.tree (start (place_size 1 d))))
      ∙ (ap (option_map (facts_from k)) (part_value here fs w p.tree (u.tree here) g.tree (with_part v q.tree (start (place_size 1 d))) ∙ ap (adding w (u.tree here)) (part_value here fs v q.tree (t.tree here) h.tree (start (place_size 1 d))))
      ∙ (sym (i (t.tree here) (u.tree here)) ∙ ap known (with_names_two c (map (deeper_bound r) xs) (t.tree here) (u.tree here))))
  bound_two xs c k v w d t u q p h g i false = refl

  -- where the names stand
  names_at : (at : Place) (xs : List Bound) → names_depth (deeper_place r at) (map (deeper_bound r) xs) ≡ brackets r (names_depth at xs)
  names_at at xs = names_brackets r at xs

  -- ---- layers

  -- trees round trees
  list_says : (k w : Sort) (d : ℕ) (c : List Formula → Formula) (us : List Formula) → AllByRecursion PF us
      → ((os : List (Option Formula)) → known (option_map c (all_of os)) ≡ option_map (facts_from k) (adds (adding w) os (Some (place_size 1 (brackets r d)))))
      → valued here fs (formed k (with_all w (summed.trees (map (summed.reading table ps others) us)) (start (place_size 1 d)))) ≡ known (option_map c (tree.trees (map (tree.reading table means) us) here))
  list_says k w d c us h i =
      formed_value here fs k (with_all w (summed.trees (map (summed.reading table ps others) us)) (start (place_size 1 d)))
      ∙ (ap (option_map (facts_from k)) (all_value here fs w (map (tree.reading table means) us) (map (summed.reading table ps others) us) (pairs_of (IsReading here fs) (tree.reading table means) (summed.reading table ps others) us h) (start (place_size 1 d)))
      ∙ sym (i (map (λ (t : tree.Reading). t.tree here) (map (tree.reading table means) us))))

  layer_says : (x : Formula-F After Formula Link) → Below PA PF PL x → IsReading here fs (tree.formula_step table means (read x)) (summed.formula_step table ps others (summed_up x))
  layer_says (Formula-F.Number at k) h = plain_says _ _ (sym (facts-Number (deeper_place r at) k))
  layer_says (Formula-F.Text at x) h = plain_says _ _ (sym (facts-Text (deeper_place r at) x))
  layer_says (Formula-F.Name at x) h =
      let e : valued here fs (summed.named (summed.place_of ps x) (others x) at.depth) ≡ known (tree.named (means x) (tree.tree_of here x) here at x) = named_says r ps es fs all many (means x) (others x) (agree x) at x in
      record { name = refl; tree = e; arguments = (e, tt) }
  layer_says (Formula-F.Old at x) h = plain_says _ _ (sym (facts-Old (deeper_place r at) x))
  layer_says (Formula-F.Constant at c) h = plain_says _ _ (sym (facts-Constant (deeper_place r at) c))
  layer_says (Formula-F.Negative at e) h =
      plain_says _ _
      (formed_value here fs sort.Expression (with_part sort.Expression (summed.reading table ps others e).tree (start (place_size 1 at.depth)))
      ∙ (ap (option_map (facts_from sort.Expression)) (part_value here fs sort.Expression (summed.reading table ps others e).tree ((tree.reading table means e).tree here) h.tree (start (place_size 1 at.depth)))
      ∙ sym (known-Negative (deeper_place r at) ((tree.reading table means e).tree here))))
  layer_says (Formula-F.Chain e ls) h =
      let sides = pairs_of (IsSide here fs) (tree.side_of table means) (summed.side_of table ps others) ls h.1 in
      record {
        name = refl;
        tree = chain_says here fs (tree.reading table means e) (summed.reading table ps others e) h.0 (map (tree.side_of table means) ls) (map (summed.side_of table ps others) ls) sides;
        arguments = arguments_say here fs (tree.reading table means e) (summed.reading table ps others e) h.0 (map (tree.side_of table means) ls) (map (summed.side_of table ps others) ls) sides;
      }
  layer_says (Formula-F.Row e gs) h =
      plain_says _ _
      (ap (λ (o : Option (ℕ × List ℕ)). valued here fs (summed.row (summed.called ps others o) (summed.reading table ps others e) (map (summed.form_of table ps others) gs))) h.0.name
      ∙ called_row r ps es fs all many (tree.reading table means e) (summed.reading table ps others e) h.0 (map (tree.form_of table means) gs) (map (summed.form_of table ps others) gs)
      (pairs_of (IsForm here fs) (tree.form_of table means) (summed.form_of table ps others) gs h.1)
      (tree.called means here (tree.reading table means e).name) (summed.called ps others (tree.reading table means e).name) (called_says r ps es fs all many means others agree (tree.reading table means e).name))
  layer_says (Formula-F.Call at f us) h = plain_says _ _ (list_says (call_sort f) (argument_sort f) at.depth (formula.Call (deeper_place r at) f) us h (known-Call (deeper_place r at) f))
  layer_says (Formula-F.Set at us) h = plain_says _ _ (list_says sort.Expression sort.Expression at.depth (formula.Set (deeper_place r at)) us h (known-Set (deeper_place r at)))
  layer_says (Formula-F.Sequence at us) h = plain_says _ _ (list_says sort.Expression sort.Expression at.depth (formula.Sequence (deeper_place r at)) us h (known-Sequence (deeper_place r at)))
  layer_says (Formula-F.Comprehension at xs p) h =
      plain_says _ _
      (bound_one xs (formula.Comprehension (deeper_place r at)) sort.Expression sort.Predicate (names_depth at xs) (tree.reading table means p) (summed.reading table ps others p) h
      (λ o. known-Comprehension (deeper_place r at) (map (deeper_bound r) xs) o ∙ ap (λ (d : ℕ). option_map (facts_from sort.Expression) (adding sort.Predicate o (Some (place_size 1 d)))) (names_at at xs)) (may_bind_all table ps xs))
  layer_says (Formula-F.Quantified at q xs p) h =
      plain_says _ _
      (bound_one xs (formula.Quantified (deeper_place r at) q) sort.Predicate (body_sort q) (names_depth at xs) (tree.reading table means p) (summed.reading table ps others p) h
      (λ o. known-Quantified (deeper_place r at) q (map (deeper_bound r) xs) o ∙ ap (λ (d : ℕ). option_map (facts_from sort.Predicate) (adding (body_sort q) o (Some (place_size 1 d)))) (names_at at xs)) (may_bind_all table ps xs))
  layer_says (Formula-F.Collected at c xs p e) h =
      plain_says _ _
      (bound_two xs (formula.Collected (deeper_place r at) c) sort.Expression sort.Predicate sort.Expression (names_depth at xs) (tree.reading table means p) (tree.reading table means e) (summed.reading table ps others p) (summed.reading table ps others e) h.0 h.1
      (λ o a. known-Collected (deeper_place r at) c (map (deeper_bound r) xs) o a ∙ ap (λ (d : ℕ). option_map (facts_from sort.Expression) (adding sort.Expression a (adding sort.Predicate o (Some (place_size 1 d))))) (names_at at xs)) (may_bind_all table ps xs))
  layer_says (Formula-F.If at p e f) h =
      let q : summed.Reading = summed.reading table ps others p in
      let u : summed.Reading = summed.reading table ps others e in
      let v : summed.Reading = summed.reading table ps others f in
      let a : Option Parts = with_part sort.Predicate q.tree (start (place_size 1 at.depth)) in
      let b : Option Parts = with_part sort.Expression u.tree a in
      plain_says _ _
      (formed_value here fs sort.Expression (with_part sort.Expression v.tree b)
      ∙ (ap (option_map (facts_from sort.Expression))
      (part_value here fs sort.Expression v.tree ((tree.reading table means f).tree here) h.2.tree b
      ∙ ap (adding sort.Expression ((tree.reading table means f).tree here))
      (part_value here fs sort.Expression u.tree ((tree.reading table means e).tree here) h.1.tree a
      ∙ ap (adding sort.Expression ((tree.reading table means e).tree here)) (part_value here fs sort.Predicate q.tree ((tree.reading table means p).tree here) h.0.tree (start (place_size 1 at.depth)))))
      ∙ sym (known-If (deeper_place r at) ((tree.reading table means p).tree here) ((tree.reading table means e).tree here) ((tree.reading table means f).tree here))))

  -- a form with an argument
  form_says : (c : Formula → After) (at : Place) (t : tree.Reading) (q : summed.Reading) → IsReading here fs t q → ((o : Option Formula) (z : Option Size) → adding sort.Expression o (placing (brackets r at.depth) z) ≡ add_form (option_map c o) z)
      → (z : Option Parts) → at_parts here fs (with_part sort.Expression q.tree (with_place at.depth z)) ≡ add_form (option_map c (t.tree here)) (at_parts here fs z)
  form_says c at t q h i z =
      part_value here fs sort.Expression q.tree (t.tree here) h.tree (with_place at.depth z)
      ∙ (ap (adding sort.Expression (t.tree here)) (place_value here fs at.depth z) ∙ i (t.tree here) (at_parts here fs z))

  after_says : (x : After-F After Formula Link) → BelowAfter PA PF PL x → IsForm here fs (tree.after_step (read_after x)) (summed.after_step (summed_after x))
  after_says (After-F.Converse at) h = record { arguments = tt; added = λ z. place_value here fs at.depth z ∙ converse_added (deeper_place r at) (at_parts here fs z) }
  after_says (After-F.Apply at e) h = record { arguments = h.arguments; added = form_says (after.Apply (deeper_place r at)) at (tree.reading table means e) (summed.reading table ps others e) h (apply_added (deeper_place r at)) }
  after_says (After-F.Image at e) h = record { arguments = tt; added = form_says (after.Image (deeper_place r at)) at (tree.reading table means e) (summed.reading table ps others e) h (image_added (deeper_place r at)) }

  link_says : (x : Link-F After Formula Link) → BelowLink PA PF PL x
      → IsSide here fs (tree.link_step (record { operator = x.operator; at = x.at; operand = tree.reading table means x.operand })) (summed.link_step (record { operator = x.operator; at = x.at; operand = summed.reading table ps others x.operand }))
  link_says x h = record {
    comma = refl;
    operand = h.tree;
    at = deeper_place r x.at;
    link = refl;
    added = λ z.
        part_value here fs (operand_sort (expanded_operator x.operator)) (summed.reading table ps others x.operand).tree ((tree.reading table means x.operand).tree here) h.tree (with_place x.at.depth z)
        ∙ (ap (adding (operand_sort (expanded_operator x.operator)) ((tree.reading table means x.operand).tree here)) (place_value here fs x.at.depth z)
        ∙ side_added (expanded_operator x.operator) (deeper_place r x.at) ((tree.reading table means x.operand).tree here) (at_parts here fs z));
  }

  -- ---- trees

  on_formula : (x : Formula-F After Formula Link) → Below PA PF PL x → PF (roll-Formula x)
  on_formula x h =
      subst (λ (t : tree.Reading). IsReading here fs t (summed.reading table ps others (roll-Formula x))) (sym (fold-roll-Formula tree.Form tree.Reading tree.Side tree.after_step (tree.formula_step table means) tree.link_step x))
      (subst (λ (q : summed.Reading). IsReading here fs (tree.formula_step table means (read x)) q) (sym (fold-roll-Formula summed.Form summed.Reading summed.Side summed.after_step (summed.formula_step table ps others) summed.link_step x))
      (layer_says x h))

  on_after : (x : After-F After Formula Link) → BelowAfter PA PF PL x → PA (roll-After x)
  on_after x h =
      subst (λ (t : tree.Form). IsForm here fs t (summed.form_of table ps others (roll-After x))) (sym (fold-roll-After tree.Form tree.Reading tree.Side tree.after_step (tree.formula_step table means) tree.link_step x))
      (subst (λ (q : summed.Form). IsForm here fs (tree.after_step (read_after x)) q) (sym (fold-roll-After summed.Form summed.Reading summed.Side summed.after_step (summed.formula_step table ps others) summed.link_step x))
      (after_says x h))

  on_link : (x : Link-F After Formula Link) → BelowLink PA PF PL x → PL (roll-Link x)
  on_link x h =
      subst (λ (t : tree.Side). IsSide here fs t (summed.side_of table ps others (roll-Link x))) (sym (fold-roll-Link tree.Form tree.Reading tree.Side tree.after_step (tree.formula_step table means) tree.link_step x))
      (subst (λ (q : summed.Side). IsSide here fs (tree.link_step (record { operator = x.operator; at = x.at; operand = tree.reading table means x.operand })) q) (sym (fold-roll-Link summed.Form summed.Reading summed.Side summed.after_step (summed.formula_step table ps others) summed.link_step x))
      (link_says x h))

  -- a reading by summaries says what is known of the trees of a reading
  pub reading_says : (t : Formula) → IsReading here fs (tree.reading table means t) (summed.reading table ps others t)
  reading_says t = by_layers PA PF PL on_after on_formula on_link t

  -- a summary says what is known of the tree that a text stands for
  pub summary_says : (t : Formula) → option_and_then (λ u. summary_value u r fs) (summed.summary table ps others t) ≡ known (tree.expanded table means (record { round = r; params = ps; trees = es }) t)
  summary_says t = (by_layers PA PF PL on_after on_formula on_link t).tree

-- ---- definitions

-- trees of the wanted sort are what is asked for
asked_known : (w : Sort) (o : Option Formula) → asked_facts (asking w) (known o) ≡ known (tree.of_sort w o)
asked_known w None = refl
asked_known w (Some e) = go (sort_of e) refl
  where
    passed : (s : Sort) → sort_of e ≡ Some s → (b : Bool) → cond b (Some (facts_from s (size_of e))) None ≡ known (cond b (Some e) None)
    passed s i true = sym (ap (by_sort e) i)
    passed s i false = refl

    missing : (w : Sort) → None ≡ known (cond (fits w None) (Some e) None)
    missing sort.Expression = refl
    missing sort.Predicate = refl
    missing sort.Implication = refl

    go : (o : Sorted) → sort_of e ≡ o → asked_facts (asking w) (by_sort e o) ≡ known (cond (fits w o) (Some e) None)
    go None i = missing w
    go (Some s) i = ap (λ (b : Bool). cond b (Some (facts_from s (size_of e))) None) (met_asking w s) ∙ passed s i (fits w (Some s))

module _ (table : List Def) (means : tree.Meanings) (others : summed.Meanings) (agree : Agree means others) where
  -- a formula that is a body
  formula_body : (ps : List (List ℕ)) (w : Sort) (t : Formula) (r : ℕ) (es : List Formula) (fs : List Facts) → all_of (map facts_of es) ≡ Some fs
      → option_and_then (λ t. told_value t r fs) (told_of ps (asking w) (summed.summary table ps others t)) ≡ known (cond (length es == length ps) (tree.of_sort w (tree.expanded table means (record { round = r; params = ps; trees = es }) t)) None)
  formula_body ps w t r es fs all =
      told_of_value ps (asking w) (summed.summary table ps others t) r fs
      ∙ (ap (λ (n : ℕ). cond (n == length ps) (asked_facts (asking w) (option_and_then (λ u. summary_value u r fs) (summed.summary table ps others t))) None) (as_many es fs all)
      ∙ go (length es == length ps) refl)
    where
      go : (b : Bool) → (length es == length ps) ≡ b
          → cond b (asked_facts (asking w) (option_and_then (λ u. summary_value u r fs) (summed.summary table ps others t))) None
          ≡ known (cond b (tree.of_sort w (tree.expanded table means (record { round = r; params = ps; trees = es }) t)) None)
      go true i =
          ap (asked_facts (asking w)) (summary_says table means others agree r ps es fs all (eqb-true (length es) (length ps) i) t)
          ∙ asked_known w (tree.expanded table means (record { round = r; params = ps; trees = es }) t)
      go false i = refl

  none_known : (b : Bool) (w : Sort) → None ≡ known (cond b (tree.of_sort w None) None)
  none_known true w = refl
  none_known false w = refl

  same_body : (ps : List (List ℕ)) (b : DefBody) → IsMeaning (tree.meaning_of table means ps b) (summed.meaning_of table others ps b)
  same_body ps (body.Expr e) = record { arity = refl; body = formula_body ps sort.Expression e.formula }
  same_body ps (body.Pred p) = record { arity = refl; body = formula_body ps sort.Predicate p.formula }
  same_body ps (body.Subst u) = record { arity = refl; body = λ r es fs all. none_known (length es == length ps) sort.Expression }

  same_first : (m : Option tree.Meaning) (n : Option summed.Meaning) → Beside IsMeaning m n → (o : Option tree.Meaning) (p : Option summed.Meaning) → Beside IsMeaning o p → Beside IsMeaning (tree.first_of m o) (summed.first_of n p)
  same_first None None h o p k = k
  same_first None (Some n) h o p k = absurd h
  same_first (Some m) None h o p k = absurd h
  same_first (Some m) (Some n) h o p k = h

  same_if : (m : tree.Meaning) (n : summed.Meaning) → IsMeaning m n → (b : Bool) → Beside IsMeaning (cond b (Some m) None) (cond b (Some n) None)
  same_if m n h true = h
  same_if m n h false = tt

  -- one more definition
  pub same_with : (d : Def) → Agree (tree.with_definition table means d) (summed.with_definition table others d)
  same_with d x =
      same_first (means x) (others x) (agree x) (cond (bytes_eq x d.name) (Some (tree.meaning_of table means d.params d.body)) None) (cond (bytes_eq x d.name) (Some (summed.meaning_of table others d.params d.body)) None)
      (same_if (tree.meaning_of table means d.params d.body) (summed.meaning_of table others d.params d.body) (same_body d.params d.body) (bytes_eq x d.name))

-- the definitions one after the other
same_all : (table : List Def) (means : tree.Meanings) (others : summed.Meanings) → Agree means others → (ds : List Def) → Agree (fold (tree.with_definition table) means ds) (fold (summed.with_definition table) others ds)
same_all table means others h [] = h
same_all table means others h (d ∷ ds) = same_all table (tree.with_definition table means d) (summed.with_definition table others d) (same_with table means others h d) ds

-- the summary of a formula says what is known of the tree that it stands for
pub formula_says : (table : List Def) (t : Formula) → option_and_then (λ u. summary_value u 0 []) (summed.summary table [] (summed.meanings table table) t) ≡ known (expansion table t)
formula_says table t =
    summary_says table (tree.meanings table table) (summed.meanings table table) (same_all table (λ x. None) (λ x. None) (λ x. tt) table) 0 [] [] [] refl refl t
