-- Layers of trees, with and without looking whether all is in order.
use Rattle.std.proofs.Common.{◌≡◌, ℕ, Bool, true, false, ◌&&◌, cond, List, [], ◌∷◌, map, length, Option, Some, None, refl, ap, ◌∙◌, subst}
use Rattle.std.specs.Prelude.{option_map}
use Rattle.std.specs.List.{AllByRecursion, list_all}
use Rattle.b_ast.specs.declared.machine.Def.{Def}
use Rattle.b_ast.specs.declared.Bound.{Bound}
use Rattle.b_ast.specs.declared.Formula.{Formula}
use Rattle.b_ast.specs.declared.Formula.TheVariants as formula
use Rattle.b_expand.specs.Places.{deeper_bound}
use Rattle.b_expand.specs.Expansion as expansion
use Rattle.b_expand.specs.Expansion.{Scope, Meaning, Reading, Expands, both, all_three, may_bind, used, row_of}
use Rattle.b_expand.specs.Filling as filling
use Rattle.b_expand.specs.Filling.{Part, Insert, Filling}
use Rattle.b_expand.proofs.PuttingNames.{Gives, gives_some, gives_map, gives_both, gives_three}
use Rattle.b_expand.proofs.PuttingUses.{scope, Puts, PutsPart, Pairwise, Reads, gives_used, SameMeaning, SameCalled}

-- ---- lists

-- lists that are made of one list
pub pairs_of : {A X Y : Type 0} (P : X → Y → Type 0) (f : A → X) (g : A → Y) (us : List A) → AllByRecursion (λ u. P (f u) (g u)) us → Pairwise P (map f us) (map g us)
pairs_of P f g [] h = tt
pairs_of P f g (u ∷ us) h = (h.0, pairs_of P f g us h.1)

-- a tree that is no name and no list of arguments
pub alone_reads : (e : Expands Formula) (p : Part) → PutsPart e p → Reads (expansion.plain e) (filling.alone p)
alone_reads e p h = record { name = refl; tree = h; arguments = (h, tt) }

-- trees one after the other
gives_trees : (rs : List Reading) (fs : List Filling) → Pairwise Reads rs fs → (n : ℕ) (ps : List (List ℕ)) (ts : List Formula) → length ts ≡ length ps
    → Gives (expansion.trees rs (scope n ps ts)) (filling.trees fs (scope n ps ts))
gives_trees [] [] h n ps ts l = gives_some []
gives_trees [] (f ∷ fs) h n ps ts l = absurd h
gives_trees (r ∷ rs) [] h n ps ts l = absurd h
gives_trees (r ∷ rs) (f ∷ fs) h n ps ts l =
    gives_both (λ x xs. x ∷ xs) (r.tree (scope n ps ts)) (expansion.trees rs (scope n ps ts)) (f.part.tree (scope n ps ts)) (filling.trees fs (scope n ps ts))
    (h.0.tree.gives n ps ts l) (gives_trees rs fs h.1 n ps ts l)

-- bound names
gives_bound : (table : List Def) (n : ℕ) (ps : List (List ℕ)) (ts : List Formula) (xs : List Bound) → Gives (expansion.bound table (scope n ps ts) xs) (filling.bound (scope n ps ts) xs)
gives_bound table n ps ts xs t e = go (list_all (may_bind table (scope n ps ts)) xs) e
  where
    go : (b : Bool) → cond b (Some (map (deeper_bound n) xs)) None ≡ Some t → map (deeper_bound n) xs ≡ t
    go true e = gives_some (map (deeper_bound n) xs) t e
    go false e = absurd (cc)

-- ---- layers of trees

-- a tree that is made of no other
pub none_puts : (c : ℕ → Formula) → Puts (λ s. Some (c s.round)) (λ s. c s.round)
none_puts c = record { gives = λ n ps ts l. gives_some (c n) }

-- of one
pub one_puts : (c : ℕ → Formula → Formula) (r : Reading) (f : Filling) → Reads r f → Puts (λ s. option_map (c s.round) (r.tree s)) (λ s. c s.round (f.part.tree s))
one_puts c r f h = record { gives = λ n ps ts l. gives_map (c n) (r.tree (scope n ps ts)) (f.part.tree (scope n ps ts)) (h.tree.gives n ps ts l) }

-- of a list
pub list_puts : (c : ℕ → List Formula → Formula) (rs : List Reading) (fs : List Filling) → Pairwise Reads rs fs
    → Puts (λ s. option_map (c s.round) (expansion.trees rs s)) (λ s. c s.round (filling.trees fs s))
list_puts c rs fs h =
    record { gives = λ n ps ts l. gives_map (c n) (expansion.trees rs (scope n ps ts)) (filling.trees fs (scope n ps ts)) (gives_trees rs fs h n ps ts l) }

-- of bound names and one tree
pub bound_puts : (table : List Def) (c : ℕ → List Bound → Formula → Formula) (xs : List Bound) (r : Reading) (f : Filling) → Reads r f
    → Puts (λ s. both (c s.round) (expansion.bound table s xs) (r.tree s)) (λ s. c s.round (filling.bound s xs) (f.part.tree s))
bound_puts table c xs r f h = record {
  gives = λ n ps ts l. gives_both (c n) (expansion.bound table (scope n ps ts) xs) (r.tree (scope n ps ts)) (filling.bound (scope n ps ts) xs) (f.part.tree (scope n ps ts))
      (gives_bound table n ps ts xs) (h.tree.gives n ps ts l);
}

-- of bound names and two trees
pub bound_two_puts : (table : List Def) (c : ℕ → List Bound → Formula → Formula → Formula) (xs : List Bound) (q r : Reading) (f g : Filling) → Reads q f → Reads r g
    → Puts (λ s. all_three (c s.round) (expansion.bound table s xs) (q.tree s) (r.tree s)) (λ s. c s.round (filling.bound s xs) (f.part.tree s) (g.part.tree s))
bound_two_puts table c xs q r f g h k = record {
  gives = λ n ps ts l. gives_three (c n) (expansion.bound table (scope n ps ts) xs) (q.tree (scope n ps ts)) (r.tree (scope n ps ts))
      (filling.bound (scope n ps ts) xs) (f.part.tree (scope n ps ts)) (g.part.tree (scope n ps ts))
      (gives_bound table n ps ts xs) (h.tree.gives n ps ts l) (k.tree.gives n ps ts l);
}

-- of three trees
pub three_puts : (c : ℕ → Formula → Formula → Formula → Formula) (p q r : Reading) (e f g : Filling) → Reads p e → Reads q f → Reads r g
    → Puts (λ s. all_three (c s.round) (p.tree s) (q.tree s) (r.tree s)) (λ s. c s.round (e.part.tree s) (f.part.tree s) (g.part.tree s))
three_puts c p q r e f g h k m = record {
  gives = λ n ps ts l. gives_three (c n) (p.tree (scope n ps ts)) (q.tree (scope n ps ts)) (r.tree (scope n ps ts)) (e.part.tree (scope n ps ts)) (f.part.tree (scope n ps ts)) (g.part.tree (scope n ps ts))
      (h.tree.gives n ps ts l) (k.tree.gives n ps ts l) (m.tree.gives n ps ts l);
}

-- ---- chains

-- a link reads the same
pub record SidePuts (l : expansion.Side) (g : filling.Side) : Type 0 where
  pub comma : l.comma ≡ g.comma
  pub operand : PutsPart l.operand g.operand
  pub link : Puts l.link g.link

-- links one after the other
gives_links : (ls : List expansion.Side) (gs : List filling.Side) → Pairwise SidePuts ls gs → (n : ℕ) (ps : List (List ℕ)) (ts : List Formula) → length ts ≡ length ps
    → Gives (expansion.links ls (scope n ps ts)) (filling.links gs (scope n ps ts))
gives_links [] [] h n ps ts w = gives_some []
gives_links [] (g ∷ gs) h n ps ts w = absurd h
gives_links (l ∷ ls) [] h n ps ts w = absurd h
gives_links (l ∷ ls) (g ∷ gs) h n ps ts w =
    gives_both (λ x xs. x ∷ xs) (l.link (scope n ps ts)) (expansion.links ls (scope n ps ts)) (g.link (scope n ps ts)) (filling.links gs (scope n ps ts))
    (h.0.link.gives n ps ts w) (gives_links ls gs h.1 n ps ts w)

-- a chain's tree
chain_puts : (r : Reading) (f : Filling) (ls : List expansion.Side) (gs : List filling.Side) → Reads r f → Pairwise SidePuts ls gs → PutsPart (expansion.chain r ls) (filling.chain f gs)
chain_puts r f ls gs h k = record {
  gives = λ n ps ts w. gives_both formula.Chain (r.tree (scope n ps ts)) (expansion.links ls (scope n ps ts)) (f.part.tree (scope n ps ts)) (filling.links gs (scope n ps ts))
      (h.tree.gives n ps ts w) (gives_links ls gs k n ps ts w);
}

-- the same links are commas
same_commas : (ls : List expansion.Side) (gs : List filling.Side) → Pairwise SidePuts ls gs → list_all (λ (l : expansion.Side). l.comma) ls ≡ list_all (λ (g : filling.Side). g.comma) gs
same_commas [] [] h = refl
same_commas [] (g ∷ gs) h = absurd h
same_commas (l ∷ ls) [] h = absurd h
same_commas (l ∷ ls) (g ∷ gs) h =
    ap (λ (b : Bool). b && list_all (λ (l : expansion.Side). l.comma) ls) h.0.comma ∙ ap (λ (b : Bool). g.comma && b) (same_commas ls gs h.1)

-- the operands of links
operands : (ls : List expansion.Side) (gs : List filling.Side) → Pairwise SidePuts ls gs → Pairwise PutsPart (map (λ (l : expansion.Side). l.operand) ls) (filling.sides gs)
operands [] [] h = tt
operands [] (g ∷ gs) h = absurd h
operands (l ∷ ls) [] h = absurd h
operands (l ∷ ls) (g ∷ gs) h = (h.0.operand, operands ls gs h.1)

-- a chain
pub chain_reads : (r : Reading) (f : Filling) (ls : List expansion.Side) (gs : List filling.Side) → Reads r f → Pairwise SidePuts ls gs
    → Reads (record (expansion.plain (expansion.chain r ls)) { arguments = expansion.chain_arguments r ls }) (record (filling.alone (filling.chain f gs)) { arguments = filling.chain_arguments f gs })
chain_reads r f ls gs h k = record {
  name = refl;
  tree = chain_puts r f ls gs h k;
  arguments = subst (λ (b : Bool). Pairwise PutsPart (expansion.chain_arguments r ls) (cond b (f.part ∷ filling.sides gs) (filling.chain f gs ∷ []))) (same_commas ls gs k)
      (either (list_all (λ (l : expansion.Side). l.comma) ls));
}
  where
    either : (b : Bool) → Pairwise PutsPart (cond b (r.tree ∷ map (λ (l : expansion.Side). l.operand) ls) (expansion.chain r ls ∷ [])) (cond b (f.part ∷ filling.sides gs) (filling.chain f gs ∷ []))
    either true = (h.tree, operands ls gs k)
    either false = (chain_puts r f ls gs h k, tt)

-- ---- rows

-- arguments are the same, where there are any
abbrev pub SameArguments : Option (List (Expands Formula)) → Option (List Part) → Type 0
SameArguments None None = Unit {0}
SameArguments None (Some parts) = ⊥
SameArguments (Some args) None = ⊥
SameArguments (Some args) (Some parts) = Pairwise PutsPart args parts

-- a form reads the same
pub record FormPuts (f : expansion.Form) (g : filling.Form) : Type 0 where
  pub arguments : SameArguments f.arguments g.arguments
  pub form : Puts f.form g.form

-- forms one after the other
gives_forms : (fs : List expansion.Form) (gs : List filling.Form) → Pairwise FormPuts fs gs → (n : ℕ) (ps : List (List ℕ)) (ts : List Formula) → length ts ≡ length ps
    → Gives (expansion.forms fs (scope n ps ts)) (filling.forms gs (scope n ps ts))
gives_forms [] [] h n ps ts w = gives_some []
gives_forms [] (g ∷ gs) h n ps ts w = absurd h
gives_forms (f ∷ fs) [] h n ps ts w = absurd h
gives_forms (f ∷ fs) (g ∷ gs) h n ps ts w =
    gives_both (λ x xs. x ∷ xs) (f.form (scope n ps ts)) (expansion.forms fs (scope n ps ts)) (g.form (scope n ps ts)) (filling.forms gs (scope n ps ts))
    (h.0.form.gives n ps ts w) (gives_forms fs gs h.1 n ps ts w)

-- the arguments in the first form
first_same : (fs : List expansion.Form) (gs : List filling.Form) → Pairwise FormPuts fs gs → SameArguments (expansion.first_arguments fs) (filling.first_arguments gs)
first_same [] [] h = tt
first_same [] (g ∷ gs) h = absurd h
first_same (f ∷ fs) [] h = absurd h
first_same (f ∷ fs) (g ∷ gs) h = h.0.arguments

-- the forms after the first
later_same : (fs : List expansion.Form) (gs : List filling.Form) → Pairwise FormPuts fs gs → Pairwise FormPuts (expansion.later_forms fs) (filling.later_forms gs)
later_same [] [] h = tt
later_same [] (g ∷ gs) h = absurd h
later_same (f ∷ fs) [] h = absurd h
later_same (f ∷ fs) (g ∷ gs) h = h.1

module _ (r : Reading) (f : Filling) (fs : List expansion.Form) (gs : List filling.Form) (h : Reads r f) (k : Pairwise FormPuts fs gs) (n : ℕ) (ps : List (List ℕ)) (ts : List Formula) (w : length ts ≡ length ps) where
  -- a row that is no use
  gives_plain_row : Gives (expansion.plain_row r fs (scope n ps ts)) (filling.plain_row f gs (scope n ps ts))
  gives_plain_row =
      gives_both formula.Row (r.tree (scope n ps ts)) (expansion.forms fs (scope n ps ts)) (f.part.tree (scope n ps ts)) (filling.forms gs (scope n ps ts))
      (h.tree.gives n ps ts w) (gives_forms fs gs k n ps ts w)

  -- a row whose head is called
  gives_applied : (m : ℕ × Meaning) (i : ℕ × Insert) → m.0 ≡ i.0 → SameMeaning m.1 i.1 → (args : Option (List (Expands Formula))) (parts : Option (List Part)) → SameArguments args parts
      → Gives (expansion.applied m args r fs (scope n ps ts)) (filling.applied i parts f gs (scope n ps ts))
  gives_applied m i d s None None c = gives_plain_row
  gives_applied m i d s None (Some parts) c = absurd c
  gives_applied m i d s (Some args) None c = absurd c
  gives_applied m i d s (Some args) (Some parts) c =
      subst (λ (depth : ℕ). Gives (both row_of (used m.0 m.1 (scope n ps ts) (map (λ a. a (scope n ps ts)) args)) (expansion.forms (expansion.later_forms fs) (scope n ps ts)))
      (row_of (filling.used depth i.1 (scope n ps ts) parts) (filling.forms (filling.later_forms gs) (scope n ps ts)))) d
      (gives_both row_of (used m.0 m.1 (scope n ps ts) (map (λ a. a (scope n ps ts)) args)) (expansion.forms (expansion.later_forms fs) (scope n ps ts))
      (filling.used m.0 i.1 (scope n ps ts) parts) (filling.forms (filling.later_forms gs) (scope n ps ts))
      (gives_used m.1 i.1 s m.0 n ps ts w args parts c)
      (gives_forms (expansion.later_forms fs) (filling.later_forms gs) (later_same fs gs k) n ps ts w))

  -- a row
  pub gives_row : (m : Option (ℕ × Meaning)) (i : Option (ℕ × Insert)) → SameCalled m i → Gives (expansion.row m r fs (scope n ps ts)) (filling.row i f gs (scope n ps ts))
  gives_row None None c = gives_plain_row
  gives_row None (Some i) c = absurd c
  gives_row (Some m) None c = absurd c
  gives_row (Some m) (Some i) c = gives_applied m i c.0 c.1 (expansion.first_arguments fs) (filling.first_arguments gs) (first_same fs gs k)
