-- A written tree with written definitions expands to a printable one.
use Rattle.std.proofs.Common.{◌≡◌, ◌≢◌, ℕ, ◌==◌, Bool, true, false, cond, List, [], ◌∷◌, map, length, fold, Option, Some, None, refl, sym, ap, ◌∙◌, subst}
use Rattle.std.specs.Prelude.{IfSome, is_some, slice_get, option_map, option_and_then, bytes_eq, position, if◌then◌else◌}
use Rattle.std.specs.List.{AllByRecursion, list_all}
use Rattle.b_ast.specs.declared.Place.{Place}
use Rattle.b_ast.specs.declared.Bound.{Bound}
use Rattle.b_ast.specs.declared.Sort.{Sort}
use Rattle.b_ast.specs.declared.Operator.{Operator}
use Rattle.b_ast.specs.declared.machine.Def.{Def}
use Rattle.b_ast.specs.declared.machine.DefBody.{DefBody}
use Rattle.b_ast.specs.declared.machine.DefBody.TheVariants as body
use Rattle.b_ast.specs.declared.Formula.{Formula, roll-Formula, map-Formula, fold-roll-Formula}
use Rattle.b_ast.specs.declared.Formula.TheVariants as formula
use Rattle.b_ast.specs.declared.Link.{Link, roll-Link, out-Link, map-Link, fold-roll-Link, out-roll-Link}
use Rattle.b_ast.specs.declared.After.{After, roll-After, map-After, fold-roll-After}
use Rattle.b_ast.specs.declared.After.TheVariants as after
use Rattle.b_ast.specs.declared.After.TheOpen.{Formula-F, Link-F, After-F}
use Rattle.b_ast.specs.Sorts.{sort_of, fits}
use Rattle.b_expand.specs.Places.{brackets, deeper_place, deeper_bound}
use Rattle.b_expand.specs.Expansion.{Scope, tree_of, Meaning, Meanings, may_bind, bound, of_sort, sorted, used_with, used, named, row_of, expanded_operator, both, all_three, all_of, Expands, Reading, Form, Side, plain, trees, forms, links, chain, called, first_arguments, later_forms, plain_row, applied, row, after_step, link_step, formula_step, reading, form_of, side_of, meaning_of, first_of, with_definition, meanings, alone}
use Rattle.b_reading_back.specs.Printable.{IsName, AreNames, MayChain, operators, LayerIsPrintable, IsPrintable, IsPrintableLink, IsPrintableAfter}
use Rattle.b_expand.proofs.Layers.{Below, BelowLink, BelowAfter, by_layers}
use Rattle.b_printable.specs.Written.{MayStand, LayerIsWritten, IsWritten, IsWrittenLink, IsWrittenAfter, BodyIsWritten, AreWritten}
use Rattle.b_printable.specs.Laws.{IsExpandedPrintable}
use Rattle.b_printable.proofs.Every.{here, held, held_link, held_after, made, made_link, made_after}
use Rattle.b_printable.proofs.Under.{bounds_deeper, printable_deeper}
use Rattle.b_printable.proofs.Parts.{mapped_if, then_if, both_if, three_if, tested_if, refused_if, AreAll, all_if, at_if, each_if, many_mapped, each_image}
use Rattle.b_printable.proofs.Commas.{may_chain_expanded}

-- ---- what readings of written trees give

-- the trees of the parameters are printable
abbrev AreGood : Scope → Type 0
AreGood s = AllByRecursion IsPrintable s.trees

-- a printable tree in each scope of printable trees, if there is one
abbrev Prints : Expands Formula → Type 0
Prints a = (s : Scope) → AreGood s → IfSome (a s) IsPrintable

-- a reading with printable trees
record ReadsWell (r : Reading) : Type 0 where
  pub tree : Prints r.tree
  pub arguments : AllByRecursion Prints r.arguments

-- a form with printable arguments, which is printable
record FormsWell (f : Form) : Type 0 where
  pub arguments : IfSome f.arguments (AllByRecursion Prints)
  pub form : (s : Scope) → AreGood s → IfSome (f.form s) IsPrintableAfter

-- a printable link with this operator, expanded
abbrev IsLinkOf : Operator → Link → Type 0
IsLinkOf o k = IsPrintableLink k × ((out-Link k).operator ≡ expanded_operator o)

-- a link with a printable operand, which is printable
record LinksWell (o : Operator) (l : Side) : Type 0 where
  pub operand : Prints l.operand
  pub link : (s : Scope) → AreGood s → IfSome (l.link s) (IsLinkOf o)

-- what names mean gives printable trees
abbrev MeansWell : Meanings → Type 0
MeansWell means = (x : List ℕ) → IfSome (means x) (λ m. Prints m.body)

-- ---- uses of definitions

-- nothing is to be proved
anything : {X : Type 0} (o : Option X) → IfSome o (λ x. Unit {0})
anything None = tt
anything (Some x) = tt

-- the tree of a parameter
tree_good : (s : Scope) → AreGood s → (x : List ℕ) → IfSome (tree_of s x) IsPrintable
tree_good s g x = then_if (λ i. Unit {0}) IsPrintable (slice_get s.trees) (λ i k. at_if IsPrintable s.trees i g) (position (bytes_eq x) s.params) (anything (position (bytes_eq x) s.params))

-- a tree that has a sort
sorted_good : (o : Option Formula) → IfSome o IsPrintable → IfSome (sorted o) IsPrintable
sorted_good o h = then_if IsPrintable IsPrintable (λ e. if is_some (sort_of e) then Some e else None) (λ e k. tested_if IsPrintable (is_some (sort_of e)) (Some e) k) o h

-- a tree of the wanted sort
of_sort_good : (wanted : Sort) (o : Option Formula) → IfSome o IsPrintable → IfSome (of_sort wanted o) IsPrintable
of_sort_good wanted o h =
    then_if IsPrintable IsPrintable (λ e. if fits wanted (sort_of e) then Some e else None) (λ e k. tested_if IsPrintable (fits wanted (sort_of e)) (Some e) k) o h

-- a use with trees for the parameters
used_with_good : (depth : ℕ) (m : Meaning) → Prints m.body → (s : Scope) (es : List Formula) → AllByRecursion IsPrintable es → IfSome (used_with depth m s es) IsPrintable
used_with_good depth m p s es h =
    let inside : Scope = record { round = brackets (brackets s.round depth) 1; params = m.params; trees = es } in
    tested_if IsPrintable (length es == length m.params) (of_sort m.sort (m.body inside)) (of_sort_good m.sort (m.body inside) (p inside h))

-- the tree is printable, if there is one
abbrev OfOption : Option Formula → Type 0
OfOption o = IfSome o IsPrintable

-- a use with its arguments
used_good : (depth : ℕ) (m : Meaning) → Prints m.body → (s : Scope) (args : List (Option Formula)) → AllByRecursion OfOption args → IfSome (used depth m s args) IsPrintable
used_good depth m p s args h =
    then_if (AreAll IsPrintable (length (map sorted args))) IsPrintable (used_with depth m s) (λ es k. used_with_good depth m p s es k.0) (all_of (map sorted args))
    (all_if IsPrintable (map sorted args) (each_if OfOption OfOption sorted sorted_good args h))

-- a name that stands for itself
printable_name : (at : Place) (x : List ℕ) → IsName x → IsPrintable (formula.Name at x)
printable_name at x n = made LayerIsPrintable (Formula-F.Name at x) (formula.Name at x) (formula.rolls-Name at x) n tt

-- what a name stands for
named_good : (m : Option Meaning) (e : Option Formula) (s : Scope) (at : Place) (x : List ℕ) → IfSome m (λ m. Prints m.body) → IfSome e IsPrintable → IsName x → IfSome (named m e s at x) IsPrintable
named_good m (Some e) s at x k h n = printable_deeper (brackets 1 at.depth) e h
named_good (Some m) None s at x k h n = used_good at.depth m k s [] tt
named_good None None s at x k h n = printable_name (deeper_place s.round at) x n

-- ---- rows

-- an operand with forms after it
printable_row : (e : Formula) (fs : List After) → IsPrintable e → AllByRecursion IsPrintableAfter fs → fs ≢ [] → IsPrintable (formula.Row e fs)
printable_row e fs h k some = made LayerIsPrintable (Formula-F.Row e fs) (formula.Row e fs) (formula.rolls-Row e fs) some (h, k)

-- a use with the forms after its arguments
row_of_good : (e : Formula) (fs : List After) → IsPrintable e → AllByRecursion IsPrintableAfter fs → IsPrintable (row_of e fs)
row_of_good e [] h k = h
row_of_good e (f ∷ fs) h k = printable_row e (f ∷ fs) h k (λ i. absurd (cc))

-- as many as some are some
some_left : {X Y : Type 0} (xs : List X) (ys : List Y) → length ys ≡ length xs → xs ≢ [] → ys ≢ []
some_left [] ys e some i = some refl
some_left (x ∷ xs) [] e some i = absurd (cc)
some_left (x ∷ xs) (y ∷ ys) e some i = absurd (cc)

-- the forms of a row
forms_good : (fs : List Form) → AllByRecursion FormsWell fs → (s : Scope) → AreGood s → IfSome (forms fs s) (AreAll IsPrintableAfter (length (map (λ (f : Form). f.form s) fs)))
forms_good fs h s g =
    all_if IsPrintableAfter (map (λ (f : Form). f.form s) fs) (each_if FormsWell (λ o. IfSome o IsPrintableAfter) (λ (f : Form). f.form s) (λ f k. k.form s g) fs h)

-- a row that is no use
plain_row_good : (r : Reading) (fs : List Form) → ReadsWell r → AllByRecursion FormsWell fs → fs ≢ [] → (s : Scope) → AreGood s → IfSome (plain_row r fs s) IsPrintable
plain_row_good r fs h k some s g =
    both_if IsPrintable (AreAll IsPrintableAfter (length (map (λ (f : Form). f.form s) fs))) IsPrintable formula.Row
    (λ e ks i j. printable_row e ks i j.0 (some_left fs ks (j.1 ∙ many_mapped (λ (f : Form). f.form s) fs) some)) (r.tree s) (forms fs s) (h.tree s g) (forms_good fs k s g)

-- the arguments of the first form
first_good : (fs : List Form) → AllByRecursion FormsWell fs → IfSome (first_arguments fs) (AllByRecursion Prints)
first_good [] h = tt
first_good (f ∷ fs) h = h.0.arguments

-- the other forms
later_good : (fs : List Form) → AllByRecursion FormsWell fs → AllByRecursion FormsWell (later_forms fs)
later_good [] h = tt
later_good (f ∷ fs) h = h.1

-- a row whose head is called
applied_good : (m : ℕ × Meaning) → Prints m.1.body → (args : Option (List (Expands Formula))) → IfSome args (AllByRecursion Prints) → (r : Reading) (fs : List Form) → ReadsWell r → AllByRecursion FormsWell fs → fs ≢ [] → (s : Scope) → AreGood s
    → IfSome (applied m args r fs s) IsPrintable
applied_good m p (Some args) a r fs h k some s g =
    both_if IsPrintable (AreAll IsPrintableAfter (length (map (λ (f : Form). f.form s) (later_forms fs)))) IsPrintable row_of (λ e ks i j. row_of_good e ks i j.0)
    (used m.0 m.1 s (map (λ (a : Expands Formula). a s) args)) (forms (later_forms fs) s)
    (used_good m.0 m.1 p s (map (λ (a : Expands Formula). a s) args) (each_if Prints OfOption (λ (a : Expands Formula). a s) (λ a q. q s g) args a))
    (forms_good (later_forms fs) (later_good fs k) s g)
applied_good m p None a r fs h k some s g = plain_row_good r fs h k some s g

-- every row
row_good : (m : Option (ℕ × Meaning)) → IfSome m (λ m. Prints m.1.body) → (r : Reading) (fs : List Form) → ReadsWell r → AllByRecursion FormsWell fs → fs ≢ [] → (s : Scope) → AreGood s → IfSome (row m r fs s) IsPrintable
row_good (Some m) p r fs h k some s g = applied_good m p (first_arguments fs) (first_good fs k) r fs h k some s g
row_good None p r fs h k some s g = plain_row_good r fs h k some s g

-- ---- parts

-- a tree that is its one argument
plain_well : (a : Expands Formula) → Prints a → ReadsWell (plain a)
plain_well a p = record { tree = p; arguments = (p, tt) }

-- of one list and of the other
either_all : (b : Bool) (xs ys : List (Expands Formula)) → AllByRecursion Prints xs → AllByRecursion Prints ys → AllByRecursion Prints (cond b xs ys)
either_all true xs ys h k = h
either_all false xs ys h k = k

-- the trees of a list
trees_good : (rs : List Reading) → AllByRecursion ReadsWell rs → (s : Scope) → AreGood s → IfSome (trees rs s) (AreAll IsPrintable (length (map (λ (r : Reading). r.tree s) rs)))
trees_good rs h s g = all_if IsPrintable (map (λ (r : Reading). r.tree s) rs) (each_if ReadsWell OfOption (λ (r : Reading). r.tree s) (λ r k. k.tree s g) rs h)

-- the names of a binder, under the brackets of the text
bound_good : (table : List Def) (s : Scope) (xs : List Bound) → AreNames xs → IfSome (bound table s xs) AreNames
bound_good table s xs h = tested_if AreNames (list_all (may_bind table s) xs) (Some (map (deeper_bound s.round) xs)) (bounds_deeper s.round xs h)

-- ---- layer by layer

module _ (table : List Def) (means : Meanings) (well : MeansWell means) where
  -- the readings by the table and what names mean
  abbrev reads : Formula → Reading
  reads = reading table means

  abbrev sides : Link → Side
  sides = side_of table means

  abbrev formed : After → Form
  formed = form_of table means

  -- the definition that a name calls
  called_good : (s : Scope) (n : Option (ℕ × List ℕ)) → IfSome (called means s n) (λ m. Prints m.1.body)
  called_good s n =
      then_if (λ n. Unit {0}) (λ (m : ℕ × Meaning). Prints m.1.body)
      (λ n. if is_some (tree_of s n.1) then None else option_and_then (λ m. if length m.params == 0 then None else Some (n.0, m)) (means n.1))
      (λ n k.
      refused_if (λ (m : ℕ × Meaning). Prints m.1.body) (is_some (tree_of s n.1)) (option_and_then (λ m. if length m.params == 0 then None else Some (n.0, m)) (means n.1))
      (then_if (λ (m : Meaning). Prints m.body) (λ (m : ℕ × Meaning). Prints m.1.body) (λ m. if length m.params == 0 then None else Some (n.0, m))
      (λ m h. refused_if (λ (m : ℕ × Meaning). Prints m.1.body) (length m.params == 0) (Some (n.0, m)) h) (means n.1) (well n.1)))
      n (anything n)

  -- what is to be proved of a formula, of a link and of a form after an operand
  abbrev PF : Formula → Type 0
  PF t = IsWritten t → ReadsWell (reads t)

  abbrev PL : Link → Type 0
  PL l = IsWrittenLink l → LinksWell (out-Link l).operator (sides l)

  abbrev PA : After → Type 0
  PA f = IsWrittenAfter f → FormsWell (formed f)

  -- printable links with the operators of these, expanded
  abbrev AreLinksOf : List Link → List Link → Type 0
  AreLinksOf ls ks = AllByRecursion IsPrintableLink ks × (operators ks ≡ map expanded_operator (operators ls))

  -- the links of a chain
  links_good : (ls : List Link) → AllByRecursion IsWrittenLink ls → AllByRecursion PL ls → (s : Scope) → AreGood s → IfSome (links (map sides ls) s) (AreLinksOf ls)
  links_good [] h k s g = (tt, refl)
  links_good (l ∷ ls) h k s g =
      both_if (IsLinkOf (out-Link l).operator) (AreLinksOf ls) (AreLinksOf (l ∷ ls)) (λ x xs. x ∷ xs)
      (λ x xs one more. (
        (one.0, more.0),
        ap (λ (o : Operator). o ∷ operators xs) one.1 ∙ ap (λ (os : List Operator). expanded_operator (out-Link l).operator ∷ os) more.1,
      ))
      ((sides l).link s) (links (map sides ls) s) ((k.0 h.0).link s g) (links_good ls h.1 k.1 s g)

  -- its operands, as arguments
  operands_good : (ls : List Link) → AllByRecursion IsWrittenLink ls → AllByRecursion PL ls → AllByRecursion Prints (map (λ (l : Side). l.operand) (map sides ls))
  operands_good [] h k = tt
  operands_good (l ∷ ls) h k = ((k.0 h.0).operand, operands_good ls h.1 k.1)

  -- the chain
  chain_good : (e : Formula) (ls : List Link) → MayStand (operators ls) → ReadsWell (reads e) → AllByRecursion IsWrittenLink ls → AllByRecursion PL ls → Prints (chain (reads e) (map sides ls))
  chain_good e ls may r h k s g =
      both_if IsPrintable (AreLinksOf ls) IsPrintable formula.Chain
      (λ d ks i j. made LayerIsPrintable (Formula-F.Chain d ks) (formula.Chain d ks) (formula.rolls-Chain d ks) (subst MayChain (sym j.1) (may_chain_expanded (operators ls) may)) (i, j.0))
      ((reads e).tree s) (links (map sides ls) s) (r.tree s g) (links_good ls h k s g)

  -- its reading
  chain_well : (e : Formula) (ls : List Link) → MayStand (operators ls) → ReadsWell (reads e) → AllByRecursion IsWrittenLink ls → AllByRecursion PL ls
      → ReadsWell (formula_step table means (Formula-F.Chain (reads e) (map sides ls)))
  chain_well e ls may r h k = record {
    tree = chain_good e ls may r h k;
    arguments =
        either_all (list_all (λ (l : Side). l.comma) (map sides ls)) ((reads e).tree ∷ map (λ (l : Side). l.operand) (map sides ls)) (chain (reads e) (map sides ls) ∷ [])
        (r.tree, operands_good ls h k) (chain_good e ls may r h k, tt);
  }

  -- the reading of a layer
  abbrev step : Formula-F After Formula Link → Reading
  step x = formula_step table means (map-Formula After Formula Link Form Reading Side formed reads sides x)

  -- the trees of a list, as many as are written
  list_well : (us : List Formula) → AllByRecursion IsWritten us → AllByRecursion PF us → (s : Scope) → AreGood s → IfSome (trees (map reads us) s) (AreAll IsPrintable (length us))
  list_well us h k s g =
      subst (λ (n : ℕ). IfSome (trees (map reads us) s) (AreAll IsPrintable n)) (many_mapped (λ (r : Reading). r.tree s) (map reads us) ∙ many_mapped reads us)
      (trees_good (map reads us) (each_image IsWritten ReadsWell reads us h k) s g)

  -- the reading of a layer whose parts read well
  layer_well : (x : Formula-F After Formula Link) → LayerIsWritten x → Below IsWrittenAfter IsWritten IsWrittenLink x → Below PA PF PL x → ReadsWell (step x)
  layer_well (Formula-F.Number at n) is held below =
      plain_well (λ s. Some (formula.Number (deeper_place s.round at) n))
      (λ s g. made LayerIsPrintable (Formula-F.Number (deeper_place s.round at) n) (formula.Number (deeper_place s.round at) n) (formula.rolls-Number (deeper_place s.round at) n) is tt)
  layer_well (Formula-F.Text at x) is held below =
      plain_well (λ s. Some (formula.Text (deeper_place s.round at) x))
      (λ s g. made LayerIsPrintable (Formula-F.Text (deeper_place s.round at) x) (formula.Text (deeper_place s.round at) x) (formula.rolls-Text (deeper_place s.round at) x) is tt)
  layer_well (Formula-F.Name at x) is held below =
      let p : Prints (λ s. named (means x) (tree_of s x) s at x) = λ s g. named_good (means x) (tree_of s x) s at x (well x) (tree_good s g x) is in
      record { tree = p; arguments = (p, tt) }
  layer_well (Formula-F.Old at x) is held below =
      plain_well (λ s. Some (formula.Old (deeper_place s.round at) x))
      (λ s g. made LayerIsPrintable (Formula-F.Old (deeper_place s.round at) x) (formula.Old (deeper_place s.round at) x) (formula.rolls-Old (deeper_place s.round at) x) is tt)
  layer_well (Formula-F.Constant at c) is held below =
      plain_well (λ s. Some (formula.Constant (deeper_place s.round at) c))
      (λ s g. made LayerIsPrintable (Formula-F.Constant (deeper_place s.round at) c) (formula.Constant (deeper_place s.round at) c) (formula.rolls-Constant (deeper_place s.round at) c) tt tt)
  layer_well (Formula-F.Negative at e) is held below =
      plain_well (λ s. option_map (formula.Negative (deeper_place s.round at)) ((reads e).tree s))
      (λ s g.
      mapped_if IsPrintable IsPrintable (formula.Negative (deeper_place s.round at))
      (λ d h. made LayerIsPrintable (Formula-F.Negative (deeper_place s.round at) d) (formula.Negative (deeper_place s.round at) d) (formula.rolls-Negative (deeper_place s.round at) d) tt h) ((reads e).tree s) ((below held).tree s g))
  layer_well (Formula-F.Chain e ls) is held below = chain_well e ls is (below.0 held.0) held.1 below.1
  layer_well (Formula-F.Row e fs) is held below =
      plain_well (λ s. row (called means s (reads e).name) (reads e) (map formed fs) s)
      (λ s g.
      row_good (called means s (reads e).name) (called_good s (reads e).name) (reads e) (map formed fs) (below.0 held.0) (each_image IsWrittenAfter FormsWell formed fs held.1 below.1)
      (some_left fs (map formed fs) (many_mapped formed fs) is) s g)
  layer_well (Formula-F.Call at f us) is held below =
      plain_well (λ s. option_map (formula.Call (deeper_place s.round at) f) (trees (map reads us) s))
      (λ s g.
      mapped_if (AreAll IsPrintable (length us)) IsPrintable (formula.Call (deeper_place s.round at) f)
      (λ ds h. made LayerIsPrintable (Formula-F.Call (deeper_place s.round at) f ds) (formula.Call (deeper_place s.round at) f ds) (formula.rolls-Call (deeper_place s.round at) f ds) (h.1 ∙ is) h.0) (trees (map reads us) s)
      (list_well us held below s g))
  layer_well (Formula-F.Set at us) is held below =
      plain_well (λ s. option_map (formula.Set (deeper_place s.round at)) (trees (map reads us) s))
      (λ s g.
      mapped_if (AreAll IsPrintable (length us)) IsPrintable (formula.Set (deeper_place s.round at))
      (λ ds h. made LayerIsPrintable (Formula-F.Set (deeper_place s.round at) ds) (formula.Set (deeper_place s.round at) ds) (formula.rolls-Set (deeper_place s.round at) ds) tt h.0) (trees (map reads us) s)
      (list_well us held below s g))
  layer_well (Formula-F.Sequence at us) is held below =
      plain_well (λ s. option_map (formula.Sequence (deeper_place s.round at)) (trees (map reads us) s))
      (λ s g.
      mapped_if (AreAll IsPrintable (length us)) IsPrintable (formula.Sequence (deeper_place s.round at))
      (λ ds h. made LayerIsPrintable (Formula-F.Sequence (deeper_place s.round at) ds) (formula.Sequence (deeper_place s.round at) ds) (formula.rolls-Sequence (deeper_place s.round at) ds) tt h.0) (trees (map reads us) s)
      (list_well us held below s g))
  layer_well (Formula-F.Comprehension at xs p) is held below =
      plain_well (λ s. both (formula.Comprehension (deeper_place s.round at)) (bound table s xs) ((reads p).tree s))
      (λ s g.
      both_if AreNames IsPrintable IsPrintable (formula.Comprehension (deeper_place s.round at))
      (λ ns d h k. made LayerIsPrintable (Formula-F.Comprehension (deeper_place s.round at) ns d) (formula.Comprehension (deeper_place s.round at) ns d) (formula.rolls-Comprehension (deeper_place s.round at) ns d) h k)
      (bound table s xs) ((reads p).tree s) (bound_good table s xs is) ((below held).tree s g))
  layer_well (Formula-F.Quantified at q xs p) is held below =
      plain_well (λ s. both (formula.Quantified (deeper_place s.round at) q) (bound table s xs) ((reads p).tree s))
      (λ s g.
      both_if AreNames IsPrintable IsPrintable (formula.Quantified (deeper_place s.round at) q)
      (λ ns d h k. made LayerIsPrintable (Formula-F.Quantified (deeper_place s.round at) q ns d) (formula.Quantified (deeper_place s.round at) q ns d) (formula.rolls-Quantified (deeper_place s.round at) q ns d) h k)
      (bound table s xs) ((reads p).tree s) (bound_good table s xs is) ((below held).tree s g))
  layer_well (Formula-F.Collected at c xs p e) is held below =
      plain_well (λ s. all_three (formula.Collected (deeper_place s.round at) c) (bound table s xs) ((reads p).tree s) ((reads e).tree s))
      (λ s g.
      three_if AreNames IsPrintable IsPrintable IsPrintable (formula.Collected (deeper_place s.round at) c)
      (λ ns d f h k l.
      made LayerIsPrintable (Formula-F.Collected (deeper_place s.round at) c ns d f) (formula.Collected (deeper_place s.round at) c ns d f) (formula.rolls-Collected (deeper_place s.round at) c ns d f) h (k, l))
      (bound table s xs) ((reads p).tree s) ((reads e).tree s) (bound_good table s xs is) ((below.0 held.0).tree s g) ((below.1 held.1).tree s g))
  layer_well (Formula-F.If at p e f) is held below =
      plain_well (λ s. all_three (formula.If (deeper_place s.round at)) ((reads p).tree s) ((reads e).tree s) ((reads f).tree s))
      (λ s g.
      three_if IsPrintable IsPrintable IsPrintable IsPrintable (formula.If (deeper_place s.round at))
      (λ b c d h k l. made LayerIsPrintable (Formula-F.If (deeper_place s.round at) b c d) (formula.If (deeper_place s.round at) b c d) (formula.rolls-If (deeper_place s.round at) b c d) tt (h, k, l))
      ((reads p).tree s) ((reads e).tree s) ((reads f).tree s) ((below.0 held.0).tree s g) ((below.1 held.1).tree s g) ((below.2 held.2).tree s g))

  -- of a formula, by its layer
  on_formula : (x : Formula-F After Formula Link) → Below PA PF PL x → PF (roll-Formula x)
  on_formula x below h =
      subst ReadsWell (sym (fold-roll-Formula Form Reading Side after_step (formula_step table means) link_step x)) (layer_well x (here LayerIsWritten x h) (held LayerIsWritten x h) below)

  -- the reading of a link
  link_well : (x : Link-F After Formula Link) → ReadsWell (reads x.operand) → LinksWell x.operator (link_step (map-Link After Formula Link Form Reading Side formed reads sides x))
  link_well x r = record {
    operand = r.tree;
    link = λ s g.
        mapped_if IsPrintable (IsLinkOf x.operator) (λ e. roll-Link (record { operator = expanded_operator x.operator; at = deeper_place s.round x.at; operand = e }))
        (λ e h.
        let y : Link-F After Formula Link = record { operator = expanded_operator x.operator; at = deeper_place s.round x.at; operand = e } in
        (made_link LayerIsPrintable y h, ap (λ (z : Link-F After Formula Link). z.operator) (out-roll-Link y)))
        ((reads x.operand).tree s) (r.tree s g);
  }

  -- of a link
  on_link : (x : Link-F After Formula Link) → BelowLink PA PF PL x → PL (roll-Link x)
  on_link x below h =
      subst (LinksWell (out-Link (roll-Link x)).operator) (sym (fold-roll-Link Form Reading Side after_step (formula_step table means) link_step x))
      (subst (λ (o : Operator). LinksWell o (link_step (map-Link After Formula Link Form Reading Side formed reads sides x))) (sym (ap (λ (z : Link-F After Formula Link). z.operator) (out-roll-Link x)))
      (link_well x (below (held_link LayerIsWritten x h))))

  -- the reading of a form after an operand
  form_well : (x : After-F After Formula Link) → BelowAfter IsWrittenAfter IsWritten IsWrittenLink x → BelowAfter PA PF PL x → FormsWell (after_step (map-After After Formula Link Form Reading Side formed reads sides x))
  form_well (After-F.Converse at) held below = record {
    arguments = tt;
    form = λ s g. made_after LayerIsPrintable (After-F.Converse (deeper_place s.round at)) (after.Converse (deeper_place s.round at)) (after.rolls-Converse (deeper_place s.round at)) tt;
  }
  form_well (After-F.Apply at e) held below = record {
    arguments = (below held).arguments;
    form = λ s g.
        mapped_if IsPrintable IsPrintableAfter (after.Apply (deeper_place s.round at))
        (λ d h. made_after LayerIsPrintable (After-F.Apply (deeper_place s.round at) d) (after.Apply (deeper_place s.round at) d) (after.rolls-Apply (deeper_place s.round at) d) h) ((reads e).tree s) ((below held).tree s g);
  }
  form_well (After-F.Image at e) held below = record {
    arguments = tt;
    form = λ s g.
        mapped_if IsPrintable IsPrintableAfter (after.Image (deeper_place s.round at))
        (λ d h. made_after LayerIsPrintable (After-F.Image (deeper_place s.round at) d) (after.Image (deeper_place s.round at) d) (after.rolls-Image (deeper_place s.round at) d) h) ((reads e).tree s) ((below held).tree s g);
  }

  -- of a form after an operand, by its layer
  on_after : (x : After-F After Formula Link) → BelowAfter PA PF PL x → PA (roll-After x)
  on_after x below h = subst FormsWell (sym (fold-roll-After Form Reading Side after_step (formula_step table means) link_step x)) (form_well x (held_after LayerIsWritten x h) below)

  -- a written tree gives printable trees
  read_well : (t : Formula) → IsWritten t → ReadsWell (reads t)
  read_well = by_layers PA PF PL on_after on_formula on_link

  -- the body of a definition gives printable trees
  body_well : (ps : List (List ℕ)) (b : DefBody) → BodyIsWritten b → Prints (meaning_of table means ps b).body
  body_well ps (body.Expr e) h = (read_well e.formula h).tree
  body_well ps (body.Pred p) h = (read_well p.formula h).tree
  body_well ps (body.Subst u) h = λ s g. tt

-- ---- the table

-- of the first of two
first_if : (P : Meaning → Type 0) (o q : Option Meaning) → IfSome o P → IfSome q P → IfSome (first_of o q) P
first_if P (Some m) q h k = h
first_if P None q h k = k

-- after one more definition
with_well : (table : List Def) (means : Meanings) → MeansWell means → (d : Def) → BodyIsWritten d.body → MeansWell (with_definition table means d)
with_well table means well d h x =
    first_if (λ m. Prints m.body) (means x) (if bytes_eq x d.name then Some (meaning_of table means d.params d.body) else None) (well x)
    (tested_if (λ m. Prints m.body) (bytes_eq x d.name) (Some (meaning_of table means d.params d.body)) (body_well table means well d.params d.body h))

-- after some definitions
table_well : (table : List Def) (means : Meanings) → MeansWell means → (ds : List Def) → AreWritten ds → MeansWell (fold (with_definition table) means ds)
table_well table means well [] h = well
table_well table means well (d ∷ ds) h = table_well table (with_definition table means d) (with_well table means well d h.0) ds h.1

-- a written tree with written definitions expands to a printable one
pub expanded_printable : IsExpandedPrintable
expanded_printable ds t e h w is =
    let well : MeansWell (meanings ds ds) = table_well ds (λ x. None) (λ x. tt) ds h in
    subst (λ (o : Option Formula). IfSome o IsPrintable) is ((read_well ds (meanings ds ds) well t w).tree alone tt)
