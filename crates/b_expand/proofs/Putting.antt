-- Where a formula expands, what it expands to is the formula with its definitions put in.
use Rattle.std.proofs.Common.{◌≡◌, ℕ, Bool, true, false, cond, List, [], ◌∷◌, map, length, fold, Option, Some, None, Result, Ok, Err, refl, sym, ap, subst, ◌∙◌}
use Rattle.std.specs.Prelude.{bytes_eq, IfOk, IfSome}
use Rattle.b_ast.specs.declared.Place.{Place}
use Rattle.b_ast.specs.declared.machine.Def.{Def}
use Rattle.b_ast.specs.declared.machine.DefBody.{DefBody}
use Rattle.b_ast.specs.declared.machine.DefBody.TheVariants as body
use Rattle.b_ast.specs.declared.Formula.{Formula, roll-Formula, map-Formula, fold-roll-Formula}
use Rattle.b_ast.specs.declared.Formula.TheVariants as formula
use Rattle.b_ast.specs.declared.Link.{Link, roll-Link, map-Link, fold-roll-Link}
use Rattle.b_ast.specs.declared.After.{After, roll-After, map-After, fold-roll-After}
use Rattle.b_ast.specs.declared.After.TheVariants as after
use Rattle.b_ast.specs.declared.After.TheOpen.{Formula-F, Link-F, After-F}
use Rattle.b_expand.specs.Places.{deeper_place}
use Rattle.b_expand.specs.Expansion as expansion
use Rattle.b_expand.specs.Expansion.{Scope, Meaning, Meanings, Reading, reading, form_of, side_of, meaning_of, meanings, expanded_operator}
use Rattle.b_expand.specs.Filling as filling
use Rattle.b_expand.specs.Filling.{Insert, Inserts, Filling, insert_of, inserts, filled}
use Rattle.b_expand.proofs.PuttingNames.{Gives, gives_map}
use Rattle.b_expand.proofs.PuttingUses.{scope, Puts, Pairwise, Reads, SameMeaning, SameMeant, SameNames, name_puts, same_called}
use Rattle.b_expand.proofs.PuttingLayers.{pairs_of, alone_reads, none_puts, one_puts, list_puts, bound_puts, bound_two_puts, three_puts, SidePuts, chain_reads, FormPuts, gives_row}
use Rattle.b_expand.proofs.Layers.{Below, BelowAfter, BelowLink, by_layers}

module _ (table : List Def) (means : Meanings) (ins : Inserts) (same : SameNames means ins) where
  -- a formula reads the same with and without looking whether all is in order
  abbrev PF : Formula → Type 0
  PF t = Reads (reading table means t) (filling.filling ins t)

  -- a form after an operand reads the same
  abbrev PA : After → Type 0
  PA a = FormPuts (form_of table means a) (filling.form_of ins a)

  -- a link reads the same
  abbrev PL : Link → Type 0
  PL l = SidePuts (side_of table means l) (filling.side_of ins l)

  -- a formula reads the same, once its steps do
  joint : (x : Formula-F After Formula Link)
      → Reads (expansion.formula_step table means (map-Formula After Formula Link expansion.Form Reading expansion.Side (form_of table means) (reading table means) (side_of table means) x))
      (filling.formula_step ins (map-Formula After Formula Link filling.Form Filling filling.Side (filling.form_of ins) (filling.filling ins) (filling.side_of ins) x))
      → PF (roll-Formula x)
  joint x h =
      subst (λ (r : Reading). Reads r (filling.filling ins (roll-Formula x))) (sym (fold-roll-Formula expansion.Form Reading expansion.Side expansion.after_step (expansion.formula_step table means) expansion.link_step x))
      (subst (λ (f : Filling). Reads (expansion.formula_step table means (map-Formula After Formula Link expansion.Form Reading expansion.Side (form_of table means) (reading table means) (side_of table means) x)) f)
      (sym (fold-roll-Formula filling.Form Filling filling.Side filling.after_step (filling.formula_step ins) filling.link_step x)) h)

  -- a form reads the same, once its steps do
  joint_after : (x : After-F After Formula Link)
      → FormPuts (expansion.after_step (map-After After Formula Link expansion.Form Reading expansion.Side (form_of table means) (reading table means) (side_of table means) x))
      (filling.after_step (map-After After Formula Link filling.Form Filling filling.Side (filling.form_of ins) (filling.filling ins) (filling.side_of ins) x))
      → PA (roll-After x)
  joint_after x h =
      subst (λ (r : expansion.Form). FormPuts r (filling.form_of ins (roll-After x))) (sym (fold-roll-After expansion.Form Reading expansion.Side expansion.after_step (expansion.formula_step table means) expansion.link_step x))
      (subst (λ (f : filling.Form). FormPuts (expansion.after_step (map-After After Formula Link expansion.Form Reading expansion.Side (form_of table means) (reading table means) (side_of table means) x)) f)
      (sym (fold-roll-After filling.Form Filling filling.Side filling.after_step (filling.formula_step ins) filling.link_step x)) h)

  -- a link reads the same, once its steps do
  joint_link : (x : Link-F After Formula Link)
      → SidePuts (expansion.link_step (map-Link After Formula Link expansion.Form Reading expansion.Side (form_of table means) (reading table means) (side_of table means) x))
      (filling.link_step (map-Link After Formula Link filling.Form Filling filling.Side (filling.form_of ins) (filling.filling ins) (filling.side_of ins) x))
      → PL (roll-Link x)
  joint_link x h =
      subst (λ (r : expansion.Side). SidePuts r (filling.side_of ins (roll-Link x))) (sym (fold-roll-Link expansion.Form Reading expansion.Side expansion.after_step (expansion.formula_step table means) expansion.link_step x))
      (subst (λ (f : filling.Side). SidePuts (expansion.link_step (map-Link After Formula Link expansion.Form Reading expansion.Side (form_of table means) (reading table means) (side_of table means) x)) f)
      (sym (fold-roll-Link filling.Form Filling filling.Side filling.after_step (filling.formula_step ins) filling.link_step x)) h)

  -- forms, layer by layer
  on_after : (x : After-F After Formula Link) → BelowAfter PA PF PL x → PA (roll-After x)
  on_after (After-F.Converse at) h = joint_after (After-F.Converse at) (record { arguments = tt; form = record { gives = λ n ps ts w t e. cc } })
  on_after (After-F.Apply at x) h =
      joint_after (After-F.Apply at x) (record {
        arguments = h.arguments;
        form = record { gives = λ n ps ts w. gives_map (after.Apply (deeper_place n at)) ((reading table means x).tree (scope n ps ts)) ((filling.filling ins x).part.tree (scope n ps ts)) (h.tree.gives n ps ts w) };
      })
  on_after (After-F.Image at x) h =
      joint_after (After-F.Image at x) (record {
        arguments = tt;
        form = record { gives = λ n ps ts w. gives_map (after.Image (deeper_place n at)) ((reading table means x).tree (scope n ps ts)) ((filling.filling ins x).part.tree (scope n ps ts)) (h.tree.gives n ps ts w) };
      })

  -- links, layer by layer
  on_link : (x : Link-F After Formula Link) → BelowLink PA PF PL x → PL (roll-Link x)
  on_link x h =
      joint_link x (record {
        comma = refl;
        operand = h.tree;
        link = record {
          gives = λ n ps ts w. gives_map (λ e. roll-Link (record { operator = expanded_operator x.operator; at = deeper_place n x.at; operand = e }))
              ((reading table means x.operand).tree (scope n ps ts)) ((filling.filling ins x.operand).part.tree (scope n ps ts)) (h.tree.gives n ps ts w);
        };
      })

  -- a name
  name_reads : (at : Place) (x : List ℕ) → PF (roll-Formula (Formula-F.Name at x))
  name_reads at x = joint (Formula-F.Name at x) (record { name = refl; tree = name_puts means ins same at x; arguments = (name_puts means ins same at x, tt) })

  -- a row
  row_puts : (r : Reading) (f : Filling) (fs : List expansion.Form) (gs : List filling.Form) → Reads r f → Pairwise FormPuts fs gs
      → Puts (λ s. expansion.row (expansion.called means s r.name) r fs s) (λ s. filling.row (filling.called ins s.params f.name) f gs s)
  row_puts r f fs gs h k = record { gives = go }
    where
      go : (n : ℕ) (ps : List (List ℕ)) (ts : List Formula) → length ts ≡ length ps
          → Gives (expansion.row (expansion.called means (scope n ps ts) r.name) r fs (scope n ps ts)) (filling.row (filling.called ins ps f.name) f gs (scope n ps ts))
      go n ps ts w =
          subst (λ (name : Option (ℕ × List ℕ)). Gives (expansion.row (expansion.called means (scope n ps ts) name) r fs (scope n ps ts)) (filling.row (filling.called ins ps f.name) f gs (scope n ps ts))) (sym h.name)
          (gives_row r f fs gs h k n ps ts w (expansion.called means (scope n ps ts) f.name) (filling.called ins ps f.name) (same_called means ins same n ps ts w f.name))

  -- formulas, layer by layer
  on_formula : (x : Formula-F After Formula Link) → Below PA PF PL x → PF (roll-Formula x)
  on_formula (Formula-F.Number at k) h = joint (Formula-F.Number at k) (alone_reads _ _ (none_puts (λ n. formula.Number (deeper_place n at) k)))
  on_formula (Formula-F.Text at x) h = joint (Formula-F.Text at x) (alone_reads _ _ (none_puts (λ n. formula.Text (deeper_place n at) x)))
  on_formula (Formula-F.Name at x) h = name_reads at x
  on_formula (Formula-F.Old at x) h = joint (Formula-F.Old at x) (alone_reads _ _ (none_puts (λ n. formula.Old (deeper_place n at) x)))
  on_formula (Formula-F.Constant at c) h = joint (Formula-F.Constant at c) (alone_reads _ _ (none_puts (λ n. formula.Constant (deeper_place n at) c)))
  on_formula (Formula-F.Negative at x) h = joint (Formula-F.Negative at x) (alone_reads _ _ (one_puts (λ n. formula.Negative (deeper_place n at)) (reading table means x) (filling.filling ins x) h))
  on_formula (Formula-F.Chain x ls) h =
      joint (Formula-F.Chain x ls)
      (chain_reads (reading table means x) (filling.filling ins x) (map (side_of table means) ls) (map (filling.side_of ins) ls) h.0 (pairs_of SidePuts (side_of table means) (filling.side_of ins) ls h.1))
  on_formula (Formula-F.Row x fs) h =
      joint (Formula-F.Row x fs)
      (alone_reads _ _ (row_puts (reading table means x) (filling.filling ins x) (map (form_of table means) fs) (map (filling.form_of ins) fs) h.0 (pairs_of FormPuts (form_of table means) (filling.form_of ins) fs h.1)))
  on_formula (Formula-F.Call at f us) h = joint (Formula-F.Call at f us) (alone_reads _ _ (list_puts (λ n. formula.Call (deeper_place n at) f) (map (reading table means) us) (map (filling.filling ins) us) (pairs_of Reads (reading table means) (filling.filling ins) us h)))
  on_formula (Formula-F.Set at us) h = joint (Formula-F.Set at us) (alone_reads _ _ (list_puts (λ n. formula.Set (deeper_place n at)) (map (reading table means) us) (map (filling.filling ins) us) (pairs_of Reads (reading table means) (filling.filling ins) us h)))
  on_formula (Formula-F.Sequence at us) h = joint (Formula-F.Sequence at us) (alone_reads _ _ (list_puts (λ n. formula.Sequence (deeper_place n at)) (map (reading table means) us) (map (filling.filling ins) us) (pairs_of Reads (reading table means) (filling.filling ins) us h)))
  on_formula (Formula-F.Comprehension at xs x) h = joint (Formula-F.Comprehension at xs x) (alone_reads _ _ (bound_puts table (λ n. formula.Comprehension (deeper_place n at)) xs (reading table means x) (filling.filling ins x) h))
  on_formula (Formula-F.Quantified at q xs x) h = joint (Formula-F.Quantified at q xs x) (alone_reads _ _ (bound_puts table (λ n. formula.Quantified (deeper_place n at) q) xs (reading table means x) (filling.filling ins x) h))
  on_formula (Formula-F.Collected at c xs x y) h = joint (Formula-F.Collected at c xs x y) (alone_reads _ _ (bound_two_puts table (λ n. formula.Collected (deeper_place n at) c) xs (reading table means x) (reading table means y) (filling.filling ins x) (filling.filling ins y) h.0 h.1))
  on_formula (Formula-F.If at x y z) h = joint (Formula-F.If at x y z) (alone_reads _ _ (three_puts (λ n. formula.If (deeper_place n at)) (reading table means x) (reading table means y) (reading table means z) (filling.filling ins x) (filling.filling ins y) (filling.filling ins z) h.0 h.1 h.2))

  -- a formula reads the same
  pub reads : (t : Formula) → Reads (reading table means t) (filling.filling ins t)
  reads t = by_layers PA PF PL on_after on_formula on_link t

  -- ---- the table

  -- a definition's body means the same
  same_of : (ps : List (List ℕ)) (b : DefBody) → SameMeaning (meaning_of table means ps b) (insert_of ins ps b)
  same_of ps (body.Expr e) = record { params = refl; body = λ n ts w. (reads e.formula).tree.gives n ps ts w }
  same_of ps (body.Pred p) = record { params = refl; body = λ n ts w. (reads p.formula).tree.gives n ps ts w }
  same_of ps (body.Subst u) = record { params = refl; body = λ n ts w t e. absurd (cc) }

  -- of two definitions the first counts
  same_first : (m : Option Meaning) (i : Option Insert) → SameMeant m i → (o : Option Meaning) (p : Option Insert) → SameMeant o p → SameMeant (expansion.first_of m o) (filling.first_of i p)
  same_first None None h o p k = k
  same_first None (Some i) h o p k = absurd h
  same_first (Some m) None h o p k = absurd h
  same_first (Some m) (Some i) h o p k = h

  -- a definition of a name, or none
  same_if : (m : Meaning) (i : Insert) → SameMeaning m i → (b : Bool) → SameMeant (cond b (Some m) None) (cond b (Some i) None)
  same_if m i h true = h
  same_if m i h false = tt

  -- one more definition
  same_with : (d : Def) → SameNames (expansion.with_definition table means d) (filling.with_definition ins d)
  same_with d = record {
    at = λ x. same_first (means x) (ins x) (same.at x) (cond (bytes_eq x d.name) (Some (meaning_of table means d.params d.body)) None) (cond (bytes_eq x d.name) (Some (insert_of ins d.params d.body)) None)
        (same_if (meaning_of table means d.params d.body) (insert_of ins d.params d.body) (same_of d.params d.body) (bytes_eq x d.name));
  }

-- the definitions one after the other
pub same_all : (table : List Def) (means : Meanings) (ins : Inserts) → SameNames means ins → (ds : List Def) → SameNames (fold (expansion.with_definition table) means ds) (fold filling.with_definition ins ds)
same_all table means ins h [] = h
same_all table means ins h (d ∷ ds) = same_all table (expansion.with_definition table means d) (filling.with_definition ins d) (same_with table means ins h d) ds

-- where a formula expands, what it expands to is the formula with its definitions put in
pub filled_is_expanded : (ds : List Def) (t e : Formula) → expansion.expansion ds t ≡ Some e → filled ds t ≡ e
filled_is_expanded ds t e h =
    let means : SameNames (meanings ds ds) (inserts ds) = same_all ds (λ x. None) (λ x. None) (record { at = λ x. tt }) ds in
    (reads ds (meanings ds ds) (inserts ds) means t).tree.gives 0 [] [] refl e h

-- the formula with its definitions put in is what it expands to, where it expands
pub expands_to : (ds : List Def) (t e : Formula) → e ≡ filled ds t → IfSome (expansion.expansion ds t) (λ wanted. e ≡ wanted)
expands_to ds t e h = go (expansion.expansion ds t) refl
  where
    go : (o : Option Formula) → expansion.expansion ds t ≡ o → IfSome o (λ wanted. e ≡ wanted)
    go None k = tt
    go (Some wanted) k = h ∙ filled_is_expanded ds t wanted k

-- the same of an answer, from the definitions in another place
pub expands_if_ok : {E : Type 0} (ds table : List Def) (t : Formula) (res : Result Formula E) → table ≡ ds → IfOk res (λ e. e ≡ filled table t) → IfOk res (λ e. IfSome (expansion.expansion ds t) (λ wanted. e ≡ wanted))
expands_if_ok ds table t (Ok e) b h = expands_to ds t e (h ∙ ap (λ (table : List Def). filled table t) b)
expands_if_ok ds table t (Err f) b h = tt
