-- What is said of names and of uses of definitions.
use Rattle.std.proofs.Common.{◌≡◌, ℕ, zero, suc, ◌+◌, ◌*◌, ◌<◌, ◌==◌, Bool, true, false, cond, List, [], ◌∷◌, map, length, Option, Some, None, refl, sym, ap, subst, ◌∙◌, arith}
use Rattle.std.specs.Prelude.{option_map, option_and_then, is_some, slice_get, position, bytes_eq, nat_lt, IfSome}
use Rattle.std.proofs.Math.Nat.{one-mul}
use Rattle.std.specs.List.{position_or_len}
use Rattle.std.proofs.lemmas.Bool.{ltb-true}
use Rattle.b_ast.specs.declared.Place.{Place}
use Rattle.b_ast.specs.declared.Formula.{Formula}
use Rattle.b_ast.specs.declared.Formula.TheVariants as formula
use Rattle.b_ast.specs.declared.After.{After}
use Rattle.b_ast.specs.Sorts.{Sorted, sort_of}
use Rattle.b_expand.specs.Places.{node_total, deepest, brackets, deeper_place, deeper}
use Rattle.b_expand.specs.Expansion as tree
use Rattle.b_expand.specs.Expansion.{both, all_of}
use Rattle.b_summaries.specs.declared.summary.Size.{Size}
use Rattle.b_summaries.specs.declared.summary.Facts.{Facts}
use Rattle.b_summaries.specs.declared.summary.Summary.{Summary}
use Rattle.b_summaries.specs.declared.summary.Told.{Told}
use Rattle.b_summaries.specs.Sizes.{counted, raised, nothing, plus, times, size_of, facts_of, known}
use Rattle.b_summaries.specs.Values.{facts_from, summary_value, told_value}
use Rattle.b_summaries.specs.Making.{substituted}
use Rattle.b_summaries.specs.Summaries as summed
use Rattle.b_summaries.specs.Summaries.{leaf, parameter, place_of}
use Rattle.b_summaries.proofs.Sums.{size_by, deeper_none}
use Rattle.b_summaries.proofs.Using.{substituted_value}
use Rattle.b_summaries.proofs.TreeLayers.{facts-Name}
use Rattle.b_summaries.proofs.LayerFacts as parts
use Rattle.b_summaries.proofs.DeeperFacts.{facts_deeper}
use Rattle.b_summaries.proofs.TextParts.{Pairwise, Beside, valued, Says, IsReading, IsForm, row_says}

-- ---- trees under more brackets

-- what is known of a tree under more brackets
facts_under : (n : ℕ) (e : Formula) (f : Facts) → facts_of e ≡ Some f → facts_of (deeper n e) ≡ Some (facts_from f.sort (record { nodes = f.size.nodes; depth = raised (Some n) f.size.depth }))
facts_under n e f h =
    ap (λ (p : parts.Facts). option_map (λ s. facts_from s (record { nodes = p.nodes; depth = Some p.depth })) p.sort) (facts_deeper n e) ∙ go (sort_of e) h
  where
    go : (o : Sorted) → option_map (λ s. facts_from s (size_of e)) o ≡ Some f
        → option_map (λ s. facts_from s (record { nodes = counted (node_total e); depth = Some (brackets n (deepest e)) })) o ≡ Some (facts_from f.sort (record { nodes = f.size.nodes; depth = raised (Some n) f.size.depth }))
    go None i = absurd (cc)
    go (Some s) i = let k : facts_from s (size_of e) ≡ f = cc in ap (λ (f : Facts). Some (facts_from f.sort (record { nodes = f.size.nodes; depth = raised (Some n) f.size.depth }))) k

-- numbers of nodes are counted
nodes_counted : (e : Formula) (f : Facts) → facts_of e ≡ Some f → counted f.size.nodes ≡ f.size.nodes
nodes_counted e f h = go (sort_of e) h
  where
    go : (o : Sorted) → option_map (λ s. facts_from s (size_of e)) o ≡ Some f → counted f.size.nodes ≡ f.size.nodes
    go None i = absurd (cc)
    go (Some s) i = let k : facts_from s (size_of e) ≡ f = cc in subst (λ (f : Facts). counted f.size.nodes ≡ f.size.nodes) k (omega arith)

-- ---- places of parameters

-- where a place is found in one list, it is within a list of as many
place_within : (ps : List (List ℕ)) (x : List ℕ) → IfSome (position (bytes_eq x) ps) (λ p. p < length ps)
place_within ps x = go (nat_lt (position_or_len (bytes_eq x) ps) (length ps)) refl
  where
    go : (b : Bool) → nat_lt (position_or_len (bytes_eq x) ps) (length ps) ≡ b → IfSome (cond b (Some (position_or_len (bytes_eq x) ps)) None) (λ p. p < length ps)
    go true e = ltb-true (position_or_len (bytes_eq x) ps) (length ps) e
    go false e = tt

-- what stands at a place within
found : {X : Type 0} (xs : List X) (p : ℕ) → p < length xs → (x : X) × (slice_get xs p ≡ Some x)
found [] p h = absurd (omega arith)
found (x ∷ xs) zero h = (x, refl)
found (x ∷ xs) (suc p) h = found xs p (omega arith)

-- the facts at the place of a tree
facts_first : (es : List Formula) (fs : List Facts) (again : (gs : List Facts) → all_of (map facts_of es) ≡ Some gs → (p : ℕ) (x : Formula) → slice_get es p ≡ Some x → (f : Facts) × (slice_get gs p ≡ Some f) × (facts_of x ≡ Some f))
    → (e : Formula) (o : Option Facts) (w : Option (List Facts)) → facts_of e ≡ o → all_of (map facts_of es) ≡ w → both (λ x xs. x ∷ xs) o w ≡ Some fs
    → (p : ℕ) (x : Formula) → slice_get (e ∷ es) p ≡ Some x → (f : Facts) × (slice_get fs p ≡ Some f) × (facts_of x ≡ Some f)
facts_first es fs again e None w i j k p x h = absurd (cc)
facts_first es fs again e (Some f) None i j k p x h = absurd (cc)
facts_first es fs again e (Some f) (Some gs) i j k zero x h =
    let same : f ∷ gs ≡ fs = cc in
    let there : e ≡ x = cc in
    (f, ap (λ (fs : List Facts). slice_get fs zero) (sym same), ap facts_of (sym there) ∙ i)
facts_first es fs again e (Some f) (Some gs) i j k (suc p) x h =
    let same : f ∷ gs ≡ fs = cc in
    let r = again gs j p x h in
    (r.0, ap (λ (fs : List Facts). slice_get fs (suc p)) (sym same) ∙ r.1, r.2)

facts_there : (es : List Formula) (fs : List Facts) → all_of (map facts_of es) ≡ Some fs → (p : ℕ) (x : Formula) → slice_get es p ≡ Some x → (f : Facts) × (slice_get fs p ≡ Some f) × (facts_of x ≡ Some f)
facts_there [] fs h zero x i = absurd (cc)
facts_there [] fs h (suc p) x i = absurd (cc)
facts_there (e ∷ es) fs h p x i = facts_first es fs (facts_there es) e (facts_of e) (all_of (map facts_of es)) refl refl h p x i

-- as many facts as trees
pub as_many : (es : List Formula) (fs : List Facts) → all_of (map facts_of es) ≡ Some fs → length fs ≡ length es
as_many [] fs h = let e : ◌≡◌ {A = List Facts} [] fs = cc in ap length (sym e)
as_many (e ∷ es) fs h = go (as_many es) (facts_of e) (all_of (map facts_of es)) refl h
  where
    go : ((gs : List Facts) → all_of (map facts_of es) ≡ Some gs → length gs ≡ length es) → (o : Option Facts) (w : Option (List Facts)) → all_of (map facts_of es) ≡ w → both (λ x xs. x ∷ xs) o w ≡ Some fs → length fs ≡ length (e ∷ es)
    go again None w j k = absurd (cc)
    go again (Some f) None j k = absurd (cc)
    go again (Some f) (Some gs) j k = let same : f ∷ gs ≡ fs = cc in ap length (sym same) ∙ ap (λ n. suc n) (again gs j)

-- ---- meanings

-- meanings of one definition
pub record IsMeaning (m : tree.Meaning) (n : summed.Meaning) : Type 0 where
  pub arity : n.arity ≡ length m.params
  pub body : (r : ℕ) (es : List Formula) (fs : List Facts) → all_of (map facts_of es) ≡ Some fs
      → option_and_then (λ t. told_value t r fs) n.told ≡ known (cond (length es == length m.params) (tree.of_sort m.sort (m.body (record { round = r; params = m.params; trees = es }))) None)

abbrev pub Agree : tree.Meanings → summed.Meanings → Type 0
Agree means others = (x : List ℕ) → Beside IsMeaning (means x) (others x)

-- ---- uses

-- what is known of a tree by its sort
abbrev pub by_sort : Formula → Sorted → Option Facts
by_sort e o = option_map (λ s. facts_from s (size_of e)) o

-- the trees with a sort, and what is known of them
pub sorted_known : (os : List (Option Formula)) → Beside (λ es fs. all_of (map facts_of es) ≡ Some fs) (all_of (map tree.sorted os)) (all_of (map known os))
sorted_known [] = refl
sorted_known (None ∷ os) = tt
sorted_known (Some e ∷ os) = go (sort_of e) refl (all_of (map tree.sorted os)) (all_of (map known os)) (sorted_known os)
  where
    go : (o : Sorted) → sort_of e ≡ o → (a : Option (List Formula)) (b : Option (List Facts)) → Beside (λ es fs. all_of (map facts_of es) ≡ Some fs) a b
        → Beside (λ es fs. all_of (map facts_of es) ≡ Some fs) (both (λ x xs. x ∷ xs) (cond (is_some o) (Some e) None) a) (both (λ x xs. x ∷ xs) (by_sort e o) b)
    go None i a b h = tt
    go (Some s) i None None h = tt
    go (Some s) i None (Some fs) h = absurd h
    go (Some s) i (Some es) None h = absurd h
    go (Some s) i (Some es) (Some fs) h = ap (λ o. both (λ x xs. x ∷ xs) (by_sort e o) (all_of (map facts_of es))) i ∙ ap (both (λ x xs. x ∷ xs) (by_sort e (Some s))) h

module _ (s : tree.Scope) (fs : List Facts) where
  -- what is known of all
  pub same_all : (xs : List (tree.Expands Formula)) (us : List (Option Summary)) → Pairwise (Says s fs) xs us → all_of (map (valued s fs) us) ≡ all_of (map known (map (λ (a : tree.Expands Formula). a s) xs))
  same_all [] [] h = refl
  same_all [] (u ∷ us) h = absurd h
  same_all (a ∷ xs) [] h = absurd h
  same_all (a ∷ xs) (u ∷ us) h = ap (λ (o : Option Facts). both (λ x xs. x ∷ xs) o (all_of (map (valued s fs) us))) h.0 ∙ ap (both (λ x xs. x ∷ xs) (known (a s))) (same_all xs us h.1)

  -- what summaries say, one by one
  abbrev pub each_value : Option (List Summary) → Option (List Facts)
  each_value o = option_and_then (λ us. all_of (map (λ u. summary_value u s.round fs) us)) o

  pub each_says : (us : List (Option Summary)) → each_value (all_of us) ≡ all_of (map (valued s fs) us)
  each_says [] = refl
  each_says (None ∷ us) = refl
  each_says (Some u ∷ us) = go (all_of us) ∙ ap (both (λ x xs. x ∷ xs) (summary_value u s.round fs)) (each_says us)
    where
      go : (w : Option (List Summary)) → each_value (both (λ x xs. x ∷ xs) (Some u) w) ≡ both (λ x xs. x ∷ xs) (summary_value u s.round fs) (each_value w)
      go None = last (summary_value u s.round fs)
        where
          last : (o : Option Facts) → None ≡ both (λ x xs. x ∷ xs) o None
          last None = refl
          last (Some f) = refl
      go (Some w) = refl

  -- what a use says by what its arguments say
  abbrev use_says : ℕ → Option Told → List Facts → Option Facts
  use_says depth t gs = option_and_then (λ t. told_value t (brackets (brackets s.round depth) 1) gs) t

  told_used : (depth : ℕ) (t : Option Told) (w : Option (List Summary)) → valued s fs (option_and_then (λ us. option_and_then (λ t. substituted t depth us) t) w) ≡ option_and_then (use_says depth t) (each_value w)
  told_used depth t None = refl
  told_used depth None (Some us) = go (all_of (map (λ u. summary_value u s.round fs) us))
    where
      go : (w : Option (List Facts)) → None ≡ option_and_then (use_says depth None) w
      go None = refl
      go (Some gs) = refl
  told_used depth (Some t) (Some us) = substituted_value us s.round fs t depth

  -- a use says what is known of the tree that it stands for
  used_says : (depth : ℕ) (m : tree.Meaning) (n : summed.Meaning) → IsMeaning m n → (xs : List (tree.Expands Formula)) (us : List (Option Summary)) → Pairwise (Says s fs) xs us
      → valued s fs (summed.used depth n us) ≡ known (tree.used depth m s (map (λ (a : tree.Expands Formula). a s) xs))
  used_says depth m n h xs us i =
      told_used depth n.told (all_of us)
      ∙ (ap (option_and_then (use_says depth n.told)) (each_says us ∙ same_all xs us i)
      ∙ go (all_of (map tree.sorted (map (λ (a : tree.Expands Formula). a s) xs))) (all_of (map known (map (λ (a : tree.Expands Formula). a s) xs))) (sorted_known (map (λ (a : tree.Expands Formula). a s) xs)))
    where
      go : (a : Option (List Formula)) (b : Option (List Facts)) → Beside (λ es gs. all_of (map facts_of es) ≡ Some gs) a b → option_and_then (use_says depth n.told) b ≡ known (option_and_then (tree.used_with depth m s) a)
      go None None k = refl
      go None (Some gs) k = absurd k
      go (Some es) None k = absurd k
      go (Some es) (Some gs) k = h.body (brackets (brackets s.round depth) 1) es gs k

-- ---- names

module _ (r : ℕ) (ps : List (List ℕ)) (es : List Formula) (fs : List Facts) (all : all_of (map facts_of es) ≡ Some fs) (many : length es ≡ length ps) where
  -- where the text stands
  abbrev scope : tree.Scope
  scope = record { round = r; params = ps; trees = es }

  -- the place of a parameter has a tree
  tree_there : (x : List ℕ) (o : Option ℕ) → IfSome o (λ p. p < length ps) → is_some (option_and_then (slice_get es) o) ≡ is_some o
  tree_there x None h = refl
  tree_there x (Some p) h = let t = found es p (omega arith) in ap is_some t.1

  pub is_parameter : (x : List ℕ) → is_some (tree.tree_of scope x) ≡ is_some (place_of ps x)
  is_parameter x = tree_there x (place_of ps x) (place_within ps x)

  -- the argument for a parameter
  parameter_value : (p d : ℕ) (e : Formula) (f : Facts) → slice_get fs p ≡ Some f → facts_of e ≡ Some f → valued scope fs (Some (parameter p d)) ≡ facts_of (deeper (brackets 1 d) e)
  parameter_value p d e f i j =
      ap (λ (o : Option Facts). both facts_from (option_map (λ f. f.sort) o) (both plus (Some (record { nodes = 0; depth = raised (Some r) None })) (both plus (option_and_then (λ f. Some (times 1 (Some (brackets 1 d)) f.size)) o) (Some nothing)))) i
      ∙ (ap (λ (z : Size). Some (facts_from f.sort z)) (size_by _ _ _ _ nodes (deeper_none (raised (Some (brackets 1 d)) f.size.depth)))
      ∙ sym (facts_under (brackets 1 d) e f j))
    where
      nodes : counted (0 + counted (counted (1 * f.size.nodes) + 0)) ≡ f.size.nodes
      nodes = let k = nodes_counted e f j in let o = one-mul f.size.nodes in let l = ap counted o in omega arith

  named_there : (m : Option tree.Meaning) (n : Option summed.Meaning) (p : ℕ) → p < length ps → (at : Place) (x : List ℕ) → valued scope fs (summed.named (Some p) n at.depth) ≡ known (tree.named m (slice_get es p) scope at x)
  named_there m n p h at x =
      let t = found es p (omega arith) in
      let f = facts_there es fs all p t.0 t.1 in
      parameter_value p at.depth t.0 f.0 f.1 f.2 ∙ sym (ap (λ (o : Option Formula). known (tree.named m o scope at x)) t.1)

  -- what a name stands for
  pub named_says : (m : Option tree.Meaning) (n : Option summed.Meaning) → Beside IsMeaning m n → (at : Place) (x : List ℕ)
      → valued scope fs (summed.named (place_of ps x) n at.depth) ≡ known (tree.named m (tree.tree_of scope x) scope at x)
  named_says m n h at x = go m n h (place_of ps x) (place_within ps x)
    where
      go : (m : Option tree.Meaning) (n : Option summed.Meaning) → Beside IsMeaning m n → (o : Option ℕ) → IfSome o (λ p. p < length ps)
          → valued scope fs (summed.named o n at.depth) ≡ known (tree.named m (option_and_then (slice_get es) o) scope at x)
      go m n h (Some p) k = named_there m n p k at x
      go None None h None k = sym (facts-Name (deeper_place r at) x)
      go None (Some n) h None k = absurd h
      go (Some m) None h None k = absurd h
      go (Some m) (Some n) h None k = used_says scope fs at.depth m n h [] [] tt

  -- ---- rows

  -- definitions that are called
  abbrev pub IsCalled : ℕ × tree.Meaning → ℕ × summed.Meaning → Type 0
  IsCalled m n = (n.0 ≡ m.0) × IsMeaning m.1 n.1

  meaning_called : (depth : ℕ) (m : tree.Meaning) (n : summed.Meaning) → IsMeaning m n → Beside IsCalled (cond (length m.params == 0) None (Some (depth, m))) (cond (n.arity == 0) None (Some (depth, n)))
  meaning_called depth m n h = subst (λ (k : ℕ). Beside IsCalled (cond (length m.params == 0) None (Some (depth, m))) (cond (k == 0) None (Some (depth, n)))) (sym h.arity) (go (length m.params == 0))
    where
      go : (b : Bool) → Beside IsCalled (cond b None (Some (depth, m))) (cond b None (Some (depth, n)))
      go true = tt
      go false = (refl, h)

  name_called : (depth : ℕ) (m : Option tree.Meaning) (n : Option summed.Meaning) → Beside IsMeaning m n → (b : Bool)
      → Beside IsCalled (cond b None (option_and_then (λ (m : tree.Meaning). cond (length m.params == 0) None (Some (depth, m))) m)) (cond b None (option_and_then (λ (n : summed.Meaning). cond (n.arity == 0) None (Some (depth, n))) n))
  name_called depth m n h true = tt
  name_called depth None None h false = tt
  name_called depth None (Some n) h false = absurd h
  name_called depth (Some m) None h false = absurd h
  name_called depth (Some m) (Some n) h false = meaning_called depth m n h

  -- what is called by a name
  pub called_says : (means : tree.Meanings) (others : summed.Meanings) → Agree means others → (o : Option (ℕ × List ℕ)) → Beside IsCalled (tree.called means scope o) (summed.called ps others o)
  called_says means others h None = tt
  called_says means others h (Some x) =
      subst (λ (b : Bool). Beside IsCalled (cond b None (option_and_then (λ (m : tree.Meaning). cond (length m.params == 0) None (Some (x.0, m))) (means x.1))) (summed.called ps others (Some x))) (sym (is_parameter x.1))
      (name_called x.0 (means x.1) (others x.1) (h x.1) (is_some (place_of ps x.1)))

  first_says : (hs : List tree.Form) (gs : List summed.Form) → Pairwise (IsForm scope fs) hs gs → Beside (Pairwise (Says scope fs)) (tree.first_arguments hs) (summed.first_arguments gs)
  first_says [] [] h = tt
  first_says [] (g ∷ gs) h = absurd h
  first_says (f ∷ hs) [] h = absurd h
  first_says (f ∷ hs) (g ∷ gs) h = h.0.arguments

  later_says : (hs : List tree.Form) (gs : List summed.Form) → Pairwise (IsForm scope fs) hs gs → Pairwise (IsForm scope fs) (tree.later_forms hs) (summed.later_forms gs)
  later_says [] [] h = tt
  later_says [] (g ∷ gs) h = absurd h
  later_says (f ∷ hs) [] h = absurd h
  later_says (f ∷ hs) (g ∷ gs) h = h.1

  -- a use with the forms after its arguments: none
  alone_row : (o : Option Formula) → o ≡ both tree.row_of o (Some [])
  alone_row None = refl
  alone_row (Some e) = refl

  -- some
  forms_row : (o : Option Formula) (f : tree.Form) (hs : List tree.Form) → both formula.Row o (tree.forms (f ∷ hs) scope) ≡ both tree.row_of o (tree.forms (f ∷ hs) scope)
  forms_row None f hs = refl
  forms_row (Some e) f hs = go (f.form scope) (tree.forms hs scope)
    where
      go : (a : Option After) (b : Option (List After)) → both formula.Row (Some e) (both (λ x xs. x ∷ xs) a b) ≡ both tree.row_of (Some e) (both (λ x xs. x ∷ xs) a b)
      go None b = refl
      go (Some a) None = refl
      go (Some a) (Some b) = refl

  use_row : (o : Option Formula) (u : Option Summary) → valued scope fs u ≡ known o → (hs : List tree.Form) (gs : List summed.Form) → Pairwise (IsForm scope fs) hs gs → valued scope fs (summed.row_of u gs) ≡ known (both tree.row_of o (tree.forms hs scope))
  use_row o u h [] [] i = h ∙ ap known (alone_row o)
  use_row o u h [] (g ∷ gs) i = absurd i
  use_row o u h (f ∷ hs) [] i = absurd i
  use_row o u h (f ∷ hs) (g ∷ gs) i = row_says scope fs o u h (f ∷ hs) (g ∷ gs) i ∙ ap known (forms_row o f hs)

  module _ (t : tree.Reading) (q : summed.Reading) (h : IsReading scope fs t q) (hs : List tree.Form) (gs : List summed.Form) (i : Pairwise (IsForm scope fs) hs gs) where
    applied_says : (m : ℕ × tree.Meaning) (n : ℕ × summed.Meaning) → IsCalled m n → (xs : Option (List (tree.Expands Formula))) (us : Option (List (Option Summary))) → Beside (Pairwise (Says scope fs)) xs us
        → valued scope fs (summed.applied n us q gs) ≡ known (tree.applied m xs t hs scope)
    applied_says m n c None None k = row_says scope fs (t.tree scope) q.tree h.tree hs gs i
    applied_says m n c None (Some us) k = absurd k
    applied_says m n c (Some xs) None k = absurd k
    applied_says m n c (Some xs) (Some us) k =
        ap (λ (depth : ℕ). valued scope fs (summed.row_of (summed.used depth n.1 us) (summed.later_forms gs))) c.0
        ∙ use_row (tree.used m.0 m.1 scope (map (λ a. a scope) xs)) (summed.used m.0 n.1 us) (used_says scope fs m.0 m.1 n.1 c.1 xs us k) (tree.later_forms hs) (summed.later_forms gs) (later_says hs gs i)

    -- a row
    pub called_row : (m : Option (ℕ × tree.Meaning)) (n : Option (ℕ × summed.Meaning)) → Beside IsCalled m n → valued scope fs (summed.row n q gs) ≡ known (tree.row m t hs scope)
    called_row None None c = row_says scope fs (t.tree scope) q.tree h.tree hs gs i
    called_row None (Some n) c = absurd c
    called_row (Some m) None c = absurd c
    called_row (Some m) (Some n) c = applied_says m n c (tree.first_arguments hs) (summed.first_arguments gs) (first_says hs gs i)
