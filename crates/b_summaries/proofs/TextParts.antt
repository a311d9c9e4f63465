-- What is said of a text at its parts: that a reading by summaries says what is known of the trees.
use Rattle.std.proofs.Common.{◌≡◌, ℕ, Bool, true, false, cond, List, [], ◌∷◌, map, Option, Some, None, refl, sym, ap, subst, ◌∙◌}
use Rattle.std.specs.Prelude.{option_map, option_and_then, ◌&&◌}
use Rattle.std.specs.List.{AllByRecursion, list_all}
use Rattle.b_ast.specs.declared.Place.{Place}
use Rattle.b_ast.specs.declared.Sort.{Sort}
use Rattle.b_ast.specs.declared.Sort.TheVariants as sort
use Rattle.b_ast.specs.declared.Formula.{Formula}
use Rattle.b_ast.specs.declared.Formula.TheVariants as formula
use Rattle.b_ast.specs.declared.Link.{Link}
use Rattle.b_ast.specs.Sorts.{operand_sort, chain_sort}
use Rattle.b_expand.specs.Places.{brackets}
use Rattle.b_expand.specs.Expansion as tree
use Rattle.b_expand.specs.Expansion.{both, all_of}
use Rattle.b_summaries.specs.declared.summary.Size.{Size}
use Rattle.b_summaries.specs.declared.summary.Facts.{Facts}
use Rattle.b_summaries.specs.declared.summary.Parts.{Parts}
use Rattle.b_summaries.specs.declared.summary.Summary.{Summary}
use Rattle.b_summaries.specs.Sizes.{together, asking, sized, known}
use Rattle.b_summaries.specs.Values.{parts_value, facts_from, summary_value}
use Rattle.b_summaries.specs.Making.{alone, place_size, fit}
use Rattle.b_summaries.specs.Summaries as summed
use Rattle.b_summaries.specs.Summaries.{with_place, with_part, with_all, formed, node, start, leaf}
use Rattle.b_summaries.proofs.Adding.{value_of, joined_value, fitted_value}
use Rattle.b_summaries.proofs.Trees.{adding, placing, adds}
use Rattle.b_summaries.proofs.TreeRows.{add_link, add_form, link_at, no_links, known-Chain, known-Row}

-- two lists of one length, pair by pair
abbrev pub Pairwise : {X Y : Type 0} → (X → Y → Type 0) → List X → List Y → Type 0
Pairwise P [] [] = Unit {0}
Pairwise P (x ∷ xs) (y ∷ ys) = P x y × Pairwise P xs ys
Pairwise P xs ys = ⊥

-- both missing, or both there
abbrev pub Beside : {X Y : Type 0} → (X → Y → Type 0) → Option X → Option Y → Type 0
Beside P None None = Unit {0}
Beside P (Some x) (Some y) = P x y
Beside P o p = ⊥

pub pairs_of : {A X Y : Type 0} (P : X → Y → Type 0) (f : A → X) (g : A → Y) (us : List A) → AllByRecursion (λ u. P (f u) (g u)) us → Pairwise P (map f us) (map g us)
pairs_of P f g [] h = tt
pairs_of P f g (u ∷ us) h = (h.0, pairs_of P f g us h.1)

module _ (s : tree.Scope) (fs : List Facts) where
  -- what a summary says here, if there is one
  abbrev pub valued : Option Summary → Option Facts
  valued o = option_and_then (λ u. summary_value u s.round fs) o

  -- what parts say here
  abbrev pub at_parts : Option Parts → Option Size
  at_parts o = value_of s.round fs o

  -- a summary says what is known of a tree
  abbrev pub Says : tree.Expands Formula → Option Summary → Type 0
  Says e u = valued u ≡ known (e s)

  -- readings of one tree
  pub record IsReading (r : tree.Reading) (q : summed.Reading) : Type 0 where
    pub name : q.name ≡ r.name
    pub tree : Says r.tree q.tree
    pub arguments : Pairwise Says r.arguments q.arguments

  -- readings of one form after an operand
  pub record IsForm (f : tree.Form) (g : summed.Form) : Type 0 where
    pub arguments : Beside (Pairwise Says) f.arguments g.arguments
    pub added : (z : Option Parts) → at_parts (summed.with_form g z) ≡ add_form (f.form s) (at_parts z)

  -- readings of one link
  pub record IsSide (l : tree.Side) (k : summed.Side) : Type 0 where
    pub comma : k.comma ≡ l.comma
    pub operand : Says l.operand k.operand
    pub at : Place
    pub link : l.link s ≡ option_map (link_at k.operator at) (l.operand s)
    pub added : (z : Option Parts) → at_parts (summed.with_side k z) ≡ add_link (l.link s) (at_parts z)

  -- ---- parts

  fit_value : (w : Sort) (u : Option Summary) → at_parts (fit (asking w) u) ≡ sized (asking w) (valued u)
  fit_value w None = refl
  fit_value w (Some u) = fitted_value (asking w) u.kind u.parts s.round fs

  -- with one more tree
  pub part_value : (w : Sort) (u : Option Summary) (o : Option Formula) → valued u ≡ known o → (z : Option Parts) → at_parts (with_part w u z) ≡ adding w o (at_parts z)
  part_value w u o h z =
      joined_value z (fit (asking w) u) s.round fs
      ∙ ap (together (at_parts z)) (fit_value w u ∙ ap (sized (asking w)) h)

  -- with one more place
  pub place_value : (d : ℕ) (z : Option Parts) → at_parts (with_place d z) ≡ placing (brackets s.round d) (at_parts z)
  place_value d z = joined_value z (Some (alone (place_size 0 d))) s.round fs

  -- a tree of a sort
  pub formed_value : (k : Sort) (z : Option Parts) → valued (formed k z) ≡ option_map (facts_from k) (at_parts z)
  formed_value k None = refl
  formed_value k (Some p) = go (parts_value p s.round fs)
    where
      go : (z : Option Size) → both facts_from (Some k) z ≡ option_map (facts_from k) z
      go None = refl
      go (Some z) = refl

  -- with some more trees
  pub all_value : (w : Sort) (rs : List tree.Reading) (qs : List summed.Reading) → Pairwise IsReading rs qs → (z : Option Parts)
      → at_parts (with_all w (summed.trees qs) z) ≡ adds (adding w) (map (λ (r : tree.Reading). r.tree s) rs) (at_parts z)
  all_value w [] [] h z = refl
  all_value w [] (q ∷ qs) h z = absurd h
  all_value w (r ∷ rs) [] h z = absurd h
  all_value w (r ∷ rs) (q ∷ qs) h z =
      all_value w rs qs h.1 (with_part w q.tree z) ∙ ap (adds (adding w) (map (λ (r : tree.Reading). r.tree s) rs)) (part_value w q.tree (r.tree s) h.0.tree z)

  -- with some more links
  pub sides_value : (ls : List tree.Side) (ks : List summed.Side) → Pairwise IsSide ls ks → (z : Option Parts)
      → at_parts (summed.with_sides ks z) ≡ adds add_link (map (λ (l : tree.Side). l.link s) ls) (at_parts z)
  sides_value [] [] h z = refl
  sides_value [] (k ∷ ks) h z = absurd h
  sides_value (l ∷ ls) [] h z = absurd h
  sides_value (l ∷ ls) (k ∷ ks) h z = sides_value ls ks h.1 (summed.with_side k z) ∙ ap (adds add_link (map (λ (l : tree.Side). l.link s) ls)) (h.0.added z)

  -- with some more forms
  pub forms_value : (hs : List tree.Form) (gs : List summed.Form) → Pairwise IsForm hs gs → (z : Option Parts)
      → at_parts (summed.with_forms gs z) ≡ adds add_form (map (λ (f : tree.Form). f.form s) hs) (at_parts z)
  forms_value [] [] h z = refl
  forms_value [] (g ∷ gs) h z = absurd h
  forms_value (f ∷ hs) [] h z = absurd h
  forms_value (f ∷ hs) (g ∷ gs) h z = forms_value hs gs h.1 (summed.with_form g z) ∙ ap (adds add_form (map (λ (f : tree.Form). f.form s) hs)) (h.0.added z)

  -- ---- chains

  -- a chain
  pub chain_says : (r : tree.Reading) (q : summed.Reading) → IsReading r q → (ls : List tree.Side) (ks : List summed.Side) → Pairwise IsSide ls ks → valued (summed.chain q.tree ks) ≡ known (tree.chain r ls s)
  chain_says r q h [] [] i = go (r.tree s)
    where
      go : (o : Option Formula) → None ≡ known (both formula.Chain o (Some []))
      go None = refl
      go (Some e) = no_links e
  chain_says r q h [] (k ∷ ks) i = absurd i
  chain_says r q h (l ∷ ls) [] i = absurd i
  chain_says r q h (l ∷ ls) (k ∷ ks) i =
      formed_value (chain_sort k.operator) (summed.with_sides (k ∷ ks) (with_part (operand_sort k.operator) q.tree (start node)))
      ∙ (ap (option_map (facts_from (chain_sort k.operator)))
      (sides_value (l ∷ ls) (k ∷ ks) i (with_part (operand_sort k.operator) q.tree (start node))
      ∙ ap (adds add_link (map (λ (l : tree.Side). l.link s) (l ∷ ls))) (part_value (operand_sort k.operator) q.tree (r.tree s) h.tree (start node)))
      ∙ (ap (λ (o : Option Link). option_map (facts_from (chain_sort k.operator)) (adds add_link (o ∷ map (λ (l : tree.Side). l.link s) ls) (adding (operand_sort k.operator) (r.tree s) (Some node)))) i.0.link
      ∙ (sym (known-Chain k.operator i.0.at (r.tree s) (l.operand s) (map (λ (l : tree.Side). l.link s) ls))
      ∙ ap (λ (o : Option Link). known (both formula.Chain (r.tree s) (all_of (o ∷ map (λ (l : tree.Side). l.link s) ls)))) (sym i.0.link))))

  commas : (ls : List tree.Side) (ks : List summed.Side) → Pairwise IsSide ls ks → list_all (λ (k : summed.Side). k.comma) ks ≡ list_all (λ (l : tree.Side). l.comma) ls
  commas [] [] h = refl
  commas [] (k ∷ ks) h = absurd h
  commas (l ∷ ls) [] h = absurd h
  commas (l ∷ ls) (k ∷ ks) h = ap (λ (b : Bool). b && list_all (λ (k : summed.Side). k.comma) ks) h.0.comma ∙ ap (λ (b : Bool). l.comma && b) (commas ls ks h.1)

  operands : (ls : List tree.Side) (ks : List summed.Side) → Pairwise IsSide ls ks → Pairwise Says (map (λ (l : tree.Side). l.operand) ls) (map (λ (k : summed.Side). k.operand) ks)
  operands [] [] h = tt
  operands [] (k ∷ ks) h = absurd h
  operands (l ∷ ls) [] h = absurd h
  operands (l ∷ ls) (k ∷ ks) h = (h.0.operand, operands ls ks h.1)

  -- the arguments of a chain
  pub arguments_say : (r : tree.Reading) (q : summed.Reading) → IsReading r q → (ls : List tree.Side) (ks : List summed.Side) → Pairwise IsSide ls ks → Pairwise Says (tree.chain_arguments r ls) (summed.chain_arguments q ks)
  arguments_say r q h ls ks i =
      subst (λ (b : Bool). Pairwise Says (tree.chain_arguments r ls) (cond b (q.tree ∷ map (λ (k : summed.Side). k.operand) ks) (summed.chain q.tree ks ∷ []))) (sym (commas ls ks i)) (go (list_all (λ (l : tree.Side). l.comma) ls))
    where
      go : (b : Bool) → Pairwise Says (cond b (r.tree ∷ map (λ (l : tree.Side). l.operand) ls) (tree.chain r ls ∷ [])) (cond b (q.tree ∷ map (λ (k : summed.Side). k.operand) ks) (summed.chain q.tree ks ∷ []))
      go true = (h.tree, operands ls ks i)
      go false = (chain_says r q h ls ks i, tt)

  -- ---- rows

  -- an operand with the forms after it
  pub row_says : (o : Option Formula) (u : Option Summary) → valued u ≡ known o → (hs : List tree.Form) (gs : List summed.Form) → Pairwise IsForm hs gs → valued (summed.plain_row u gs) ≡ known (both formula.Row o (tree.forms hs s))
  row_says o u h hs gs i =
      formed_value sort.Expression (summed.with_forms gs (with_part sort.Expression u (start node)))
      ∙ (ap (option_map (facts_from sort.Expression))
      (forms_value hs gs i (with_part sort.Expression u (start node))
      ∙ ap (adds add_form (map (λ (f : tree.Form). f.form s) hs)) (part_value sort.Expression u o h (start node)))
      ∙ sym (known-Row o (map (λ (f : tree.Form). f.form s) hs)))
