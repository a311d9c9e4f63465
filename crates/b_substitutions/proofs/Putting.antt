-- Where a substitution expands, what it expands to is the substitution with its definitions put in.
use Rattle.std.proofs.Common.{◌≡◌, ℕ, ◌==◌, Bool, true, false, cond, List, [], ◌∷◌, map, length, fold, Option, Some, None, Result, Ok, Err, refl, sym, ap, subst, ◌∙◌}
use Rattle.std.specs.Prelude.{IfOk, option_map, option_and_then, is_some, bytes_eq, position, slice_get}
use Rattle.std.specs.List.{AllByRecursion, list_all}
use Rattle.std.proofs.lemmas.Bool.{eqb-true}
use Rattle.b_ast.specs.declared.Bound.{Bound}
use Rattle.b_ast.specs.declared.Sort.{Sort}
use Rattle.b_ast.specs.declared.Sort.TheVariants as sort
use Rattle.b_ast.specs.declared.Formula.{Formula}
use Rattle.b_ast.specs.declared.machine.Def.{Def}
use Rattle.b_ast.specs.declared.machine.DefBody.{DefBody}
use Rattle.b_ast.specs.declared.machine.DefBody.TheVariants as body
use Rattle.b_ast.specs.declared.machine.Subst.{Subst, roll-Subst, map-Subst, fold-roll-Subst}
use Rattle.b_ast.specs.declared.machine.Subst.TheVariants as form
use Rattle.b_ast.specs.declared.machine.Subst.TheOpen.{Subst-F, Branch-F, CaseBranch-F, Step-F}
use Rattle.b_ast.specs.declared.machine.Branch.{Branch, roll-Branch, fold-roll-Branch}
use Rattle.b_ast.specs.declared.machine.CaseBranch.{CaseBranch, roll-CaseBranch, fold-roll-CaseBranch}
use Rattle.b_ast.specs.declared.machine.Step.{Step, roll-Step, fold-roll-Step}
use Rattle.b_expand.specs.Places.{brackets, deeper_place, deeper_bound}
use Rattle.b_expand.specs.Expansion as formulas
use Rattle.b_expand.specs.Expansion.{Expands, Scope, both, all_of, of_sort, sorted, expanded, reading, may_bind}
use Rattle.b_expand.specs.Filling as filling
use Rattle.b_expand.proofs.PuttingNames.{Gives, gives_some, gives_map, gives_both, gives_three, looks, stands_for}
use Rattle.b_expand.proofs.PuttingUses.{scope, PutsPart, Pairwise, SameNames, Fed, fed, tested, of_sort_is, arguments_same}
use Rattle.b_expand.proofs.Putting as formula_puts
use Rattle.b_substitutions.specs.Expansion as tree
use Rattle.b_substitutions.specs.Expansion.{Meaning, Meanings, expanded_subst, expanded_branch, expanded_case, expanded_step, formula_in, expressions, arguments_by, used_with}
use Rattle.b_substitutions.specs.Filling as fill
use Rattle.b_substitutions.specs.Filling.{Insert, Inserts, Fills, filled_subst, filled_branch, filled_case, filled_step}
use Rattle.b_substitutions.specs.Limits.{IsWithin, IsWithinLimits}
use Rattle.b_substitutions.proofs.Layers.{Perhaps, Below, BelowBranch, BelowCase, BelowStep, by_layers}

-- ---- the same meanings

-- what a definition means is the same
pub record SameMeaning (m : Meaning) (i : Insert) : Type 0 where
  pub params : m.params ≡ i.params
  pub body : (n : ℕ) (ts : List Formula) → length ts ≡ length m.params → Gives (m.body (scope n m.params ts)) (i.body (scope n m.params ts))

-- what a name means is the same
abbrev pub SameMeant : Option Meaning → Option Insert → Type 0
SameMeant None None = Unit {0}
SameMeant None (Some i) = ⊥
SameMeant (Some m) None = ⊥
SameMeant (Some m) (Some i) = SameMeaning m i

-- what names mean is the same
pub record SameUses (others : Meanings) (uses : Inserts) : Type 0 where
  pub at : (x : List ℕ) → SameMeant (others x) (uses x)

same_unless : (m : Option Meaning) (i : Option Insert) → SameMeant m i → (b : Bool) → SameMeant (cond b None m) (cond b None i)
same_unless m i h true = tt
same_unless m i h false = h

module _ (table : List Def) (means : formulas.Meanings) (ins : filling.Inserts) (same : SameNames means ins) (others : Meanings) (uses : Inserts) (alike : SameUses others uses)
    (n : ℕ) (ps : List (List ℕ)) (ts : List Formula) (many : length ts ≡ length ps) where
  -- where the text stands
  abbrev here : Scope
  here = scope n ps ts

  abbrev PS : Subst → Type 0
  PS u = Gives (expanded_subst table means others u here) (filled_subst ins uses u here)

  abbrev PB : Branch → Type 0
  PB b = Gives (expanded_branch table means others b here) (filled_branch ins uses b here)

  abbrev PC : CaseBranch → Type 0
  PC b = Gives (expanded_case table means others b here) (filled_case ins uses b here)

  abbrev PK : Step → Type 0
  PK k = Gives (expanded_step table means others k here) (filled_step ins uses k here)

  -- ---- parts

  formula_gives : (w : Sort) (e : Formula) → Gives (formula_in table means others w here e) (fill.formula ins uses here e)
  formula_gives w e t h = (formula_puts.reads table means ins same e).tree.gives n ps ts many t (of_sort_is w (expanded table means here e) t h)

  expressions_give : (es : List Formula) → Gives (expressions table means others here es) (fill.all_formulas ins uses here es)
  expressions_give [] = gives_some []
  expressions_give (e ∷ es) =
      gives_both (λ x xs. x ∷ xs) (formula_in table means others sort.Expression here e) (expressions table means others here es) (fill.formula ins uses here e) (fill.all_formulas ins uses here es)
      (formula_gives sort.Expression e) (expressions_give es)

  bound_gives : (xs : List Bound) → Gives (formulas.bound table here xs) (tree.targets here xs)
  bound_gives xs t e = go (list_all (may_bind table here) xs) e
    where
      go : (b : Bool) → cond b (Some (map (deeper_bound n) xs)) None ≡ Some t → map (deeper_bound n) xs ≡ t
      go true e = gives_some (map (deeper_bound n) xs) t e
      go false e = absurd (cc)

  module _ {X Y : Type 0} (f : X → Expands Y) (g : X → Fills Y) where
    all_give : (xs : List X) → AllByRecursion (λ x. Gives (f x here) (g x here)) xs → Gives (tree.all_at (map f xs) here) (fill.all_at (map g xs) here)
    all_give [] h = gives_some []
    all_give (x ∷ xs) h =
        gives_both (λ y ys. y ∷ ys) (f x here) (tree.all_at (map f xs) here) (g x here) (fill.all_at (map g xs) here) h.0 (all_give xs h.1)

  -- ---- uses

  arguments_pair : (es : List Formula) → Pairwise PutsPart (arguments_by (λ e. (reading table means e).arguments) es) (arguments_by (λ e. (filling.filling ins e).arguments) es)
  arguments_pair [] = tt
  arguments_pair (e ∷ es) = (formula_puts.reads table means ins same e).arguments

  called_same : (x : List ℕ) → SameMeant (tree.called others here x) (fill.called uses ps x)
  called_same x =
      let p : is_some (position (bytes_eq x) ps) ≡ is_some (option_and_then (slice_get ts) (position (bytes_eq x) ps)) = sym (stands_for ps ts x many) ∙ sym (ap is_some (looks ps ts x)) in
      subst (λ (b : Bool). SameMeant (tree.called others here x) (cond b None (uses x))) (sym p)
      (same_unless (others x) (uses x) (alike.at x) (is_some (option_and_then (slice_get ts) (position (bytes_eq x) ps))))

  use_gives : (depth : ℕ) (m : Option Meaning) (i : Option Insert) → SameMeant m i → (es : List Formula)
      → Gives (tree.used depth m here (tree.arguments table means others here es)) (fill.used depth i here (fill.arguments ins uses here es))
  use_gives depth None None h es t e = absurd (cc)
  use_gives depth None (Some i) h es t e = absurd h
  use_gives depth (Some m) None h es t e = absurd h
  use_gives depth (Some m) (Some i) h es t e = by (fed (used_with depth m here) (all_of (map sorted (tree.arguments table means others here es))) t e)
    where
      by : Fed (used_with depth m here) (all_of (map sorted (tree.arguments table means others here es))) t → fill.used depth (Some i) here (fill.arguments ins uses here es) ≡ t
      by k =
          let w = tested (length k.from == length m.params) (m.body (scope (brackets (brackets n depth) 1) m.params k.from)) t k.gave in
          let long : length k.from ≡ length m.params = eqb-true (length k.from) (length m.params) w.0 in
          ap (λ (us : List Formula). i.body (scope (brackets (brackets n depth) 1) i.params us))
          (arguments_same n ps ts many (arguments_by (λ e. (reading table means e).arguments) es) (arguments_by (λ e. (filling.filling ins e).arguments) es) (arguments_pair es) k.from k.is)
          ∙ (ap (λ (qs : List (List ℕ)). i.body (scope (brackets (brackets n depth) 1) qs k.from)) (sym h.params)
          ∙ h.body (brackets (brackets n depth) 1) k.from long t w.1)

  -- ---- layers

  abbrev read : Subst-F Subst Branch CaseBranch Step → Subst-F (Expands Subst) (Expands Branch) (Expands CaseBranch) (Expands Step)
  read = map-Subst Subst Branch CaseBranch Step (Expands Subst) (Expands Branch) (Expands CaseBranch) (Expands Step) (expanded_subst table means others) (expanded_branch table means others) (expanded_case table means others) (expanded_step table means others)

  abbrev put : Subst-F Subst Branch CaseBranch Step → Subst-F (Fills Subst) (Fills Branch) (Fills CaseBranch) (Fills Step)
  put = map-Subst Subst Branch CaseBranch Step (Fills Subst) (Fills Branch) (Fills CaseBranch) (Fills Step) (filled_subst ins uses) (filled_branch ins uses) (filled_case ins uses) (filled_step ins uses)

  -- branches and perhaps ELSE
  branches_give : (c : List Branch → Option Subst → Subst) (bs : List Branch) → AllByRecursion PB bs → (o : Option Subst) → Perhaps PS o
      → Gives (both c (tree.all_at (map (expanded_branch table means others) bs) here) (tree.perhaps (option_map (expanded_subst table means others) o) here))
      (c (fill.all_at (map (filled_branch ins uses) bs) here) (fill.perhaps (option_map (filled_subst ins uses) o) here))
  branches_give c bs h None k =
      gives_both c (tree.all_at (map (expanded_branch table means others) bs) here) (Some None) (fill.all_at (map (filled_branch ins uses) bs) here) None
      (all_give (expanded_branch table means others) (filled_branch ins uses) bs h) (gives_some None)
  branches_give c bs h (Some u) k =
      gives_both c (tree.all_at (map (expanded_branch table means others) bs) here) (option_map Some (expanded_subst table means others u here)) (fill.all_at (map (filled_branch ins uses) bs) here) (Some (filled_subst ins uses u here))
      (all_give (expanded_branch table means others) (filled_branch ins uses) bs h) (gives_map Some (expanded_subst table means others u here) (filled_subst ins uses u here) k)

  cases_give : (c : Formula → List CaseBranch → Option Subst → Subst) (e : Formula) (bs : List CaseBranch) → AllByRecursion PC bs → (o : Option Subst) → Perhaps PS o
      → Gives (formulas.all_three c (tree.expression table means others here e) (tree.all_at (map (expanded_case table means others) bs) here) (tree.perhaps (option_map (expanded_subst table means others) o) here))
      (c (fill.formula ins uses here e) (fill.all_at (map (filled_case ins uses) bs) here) (fill.perhaps (option_map (filled_subst ins uses) o) here))
  cases_give c e bs h None k =
      gives_three c (tree.expression table means others here e) (tree.all_at (map (expanded_case table means others) bs) here) (Some None) (fill.formula ins uses here e) (fill.all_at (map (filled_case ins uses) bs) here) None
      (formula_gives sort.Expression e) (all_give (expanded_case table means others) (filled_case ins uses) bs h) (gives_some None)
  cases_give c e bs h (Some u) k =
      gives_three c (tree.expression table means others here e) (tree.all_at (map (expanded_case table means others) bs) here) (option_map Some (expanded_subst table means others u here))
      (fill.formula ins uses here e) (fill.all_at (map (filled_case ins uses) bs) here) (Some (filled_subst ins uses u here))
      (formula_gives sort.Expression e) (all_give (expanded_case table means others) (filled_case ins uses) bs h) (gives_map Some (expanded_subst table means others u here) (filled_subst ins uses u here) k)

  layer_gives : (x : Subst-F Subst Branch CaseBranch Step) → Below PB PC PK PS x → Gives (tree.subst_step table means others (read x) here) (fill.subst_step ins uses (put x) here)
  layer_gives (Subst-F.Skip at) h = gives_some (form.Skip (deeper_place n at))
  layer_gives (Subst-F.Block at u) h = gives_map (form.Block (deeper_place n at)) (expanded_subst table means others u here) (filled_subst ins uses u here) h
  layer_gives (Subst-F.Assign at xs es) h = gives_map (form.Assign (deeper_place n at) (tree.targets here xs)) (expressions table means others here es) (fill.all_formulas ins uses here es) (expressions_give es)
  layer_gives (Subst-F.Update at x e f) h =
      gives_both (form.Update (deeper_place n at) (deeper_bound n x)) (tree.expression table means others here e) (tree.expression table means others here f) (fill.formula ins uses here e) (fill.formula ins uses here f)
      (formula_gives sort.Expression e) (formula_gives sort.Expression f)
  layer_gives (Subst-F.ChooseFrom at x e) h = gives_map (form.ChooseFrom (deeper_place n at) (deeper_bound n x)) (tree.expression table means others here e) (fill.formula ins uses here e) (formula_gives sort.Expression e)
  layer_gives (Subst-F.ChooseSuch at xs p) h = gives_map (form.ChooseSuch (deeper_place n at) (tree.targets here xs)) (tree.predicate table means others here p) (fill.formula ins uses here p) (formula_gives sort.Predicate p)
  layer_gives (Subst-F.Guarded at g p u) h =
      gives_both (form.Guarded (deeper_place n at) g) (tree.predicate table means others here p) (expanded_subst table means others u here) (fill.formula ins uses here p) (filled_subst ins uses u here)
      (formula_gives sort.Predicate p) h
  layer_gives (Subst-F.If at bs None) h = branches_give (form.If (deeper_place n at)) bs h.0 None tt
  layer_gives (Subst-F.If at bs (Some u)) h = branches_give (form.If (deeper_place n at)) bs h.0 (Some u) h.1
  layer_gives (Subst-F.Select at bs None) h = branches_give (form.Select (deeper_place n at)) bs h.0 None tt
  layer_gives (Subst-F.Select at bs (Some u)) h = branches_give (form.Select (deeper_place n at)) bs h.0 (Some u) h.1
  layer_gives (Subst-F.Choice at us) h =
      gives_map (form.Choice (deeper_place n at)) (tree.all_at (map (expanded_subst table means others) us) here) (fill.all_at (map (filled_subst ins uses) us) here)
      (all_give (expanded_subst table means others) (filled_subst ins uses) us h)
  layer_gives (Subst-F.Case at e bs None) h = cases_give (form.Case (deeper_place n at)) e bs h.0 None tt
  layer_gives (Subst-F.Case at e bs (Some u)) h = cases_give (form.Case (deeper_place n at)) e bs h.0 (Some u) h.1
  layer_gives (Subst-F.Any at xs p u) h =
      gives_three (form.Any (deeper_place n at)) (formulas.bound table here xs) (tree.predicate table means others here p) (expanded_subst table means others u here)
      (tree.targets here xs) (fill.formula ins uses here p) (filled_subst ins uses u here) (bound_gives xs) (formula_gives sort.Predicate p) h
  layer_gives (Subst-F.Let at xs es u) h =
      gives_three (form.Let (deeper_place n at)) (formulas.bound table here xs) (expressions table means others here es) (expanded_subst table means others u here)
      (tree.targets here xs) (fill.all_formulas ins uses here es) (filled_subst ins uses u here) (bound_gives xs) (expressions_give es) h
  layer_gives (Subst-F.Chain u ks) h =
      gives_both form.Chain (expanded_subst table means others u here) (tree.all_at (map (expanded_step table means others) ks) here) (filled_subst ins uses u here) (fill.all_at (map (filled_step ins uses) ks) here)
      h.0 (all_give (expanded_step table means others) (filled_step ins uses) ks h.1)
  layer_gives (Subst-F.Use at x es) h = use_gives at.depth (tree.called others here x) (fill.called uses ps x) (called_same x) es

  on_subst : (x : Subst-F Subst Branch CaseBranch Step) → Below PB PC PK PS x → PS (roll-Subst x)
  on_subst x h t e =
      ap (λ (f : Fills Subst). f here) (fold-roll-Subst (Fills Subst) (Fills Branch) (Fills CaseBranch) (Fills Step) (fill.subst_step ins uses) (fill.branch_step ins uses) (fill.case_step ins uses) (fill.step_step ins uses) x)
      ∙ layer_gives x h t
      (sym (ap (λ (f : Expands Subst). f here) (fold-roll-Subst (Expands Subst) (Expands Branch) (Expands CaseBranch) (Expands Step) (tree.subst_step table means others) (tree.branch_step table means others) (tree.case_branch_step table means others) (tree.step_step table means others) x)) ∙ e)

  on_branch : (x : Branch-F Subst Branch CaseBranch Step) → BelowBranch PB PC PK PS x → PB (roll-Branch x)
  on_branch x h t e =
      ap (λ (f : Fills Branch). f here) (fold-roll-Branch (Fills Subst) (Fills Branch) (Fills CaseBranch) (Fills Step) (fill.subst_step ins uses) (fill.branch_step ins uses) (fill.case_step ins uses) (fill.step_step ins uses) x)
      ∙ gives_both (λ p u. roll-Branch (record { guard = p; body = u })) (tree.predicate table means others here x.guard) (expanded_subst table means others x.body here) (fill.formula ins uses here x.guard) (filled_subst ins uses x.body here)
      (formula_gives sort.Predicate x.guard) h t
      (sym (ap (λ (f : Expands Branch). f here) (fold-roll-Branch (Expands Subst) (Expands Branch) (Expands CaseBranch) (Expands Step) (tree.subst_step table means others) (tree.branch_step table means others) (tree.case_branch_step table means others) (tree.step_step table means others) x)) ∙ e)

  on_case : (x : CaseBranch-F Subst Branch CaseBranch Step) → BelowCase PB PC PK PS x → PC (roll-CaseBranch x)
  on_case x h t e =
      ap (λ (f : Fills CaseBranch). f here) (fold-roll-CaseBranch (Fills Subst) (Fills Branch) (Fills CaseBranch) (Fills Step) (fill.subst_step ins uses) (fill.branch_step ins uses) (fill.case_step ins uses) (fill.step_step ins uses) x)
      ∙ gives_both (λ es u. roll-CaseBranch (record { labels = es; body = u })) (expressions table means others here x.labels) (expanded_subst table means others x.body here) (fill.all_formulas ins uses here x.labels) (filled_subst ins uses x.body here)
      (expressions_give x.labels) h t
      (sym (ap (λ (f : Expands CaseBranch). f here) (fold-roll-CaseBranch (Expands Subst) (Expands Branch) (Expands CaseBranch) (Expands Step) (tree.subst_step table means others) (tree.branch_step table means others) (tree.case_branch_step table means others) (tree.step_step table means others) x)) ∙ e)

  on_step : (x : Step-F Subst Branch CaseBranch Step) → BelowStep PB PC PK PS x → PK (roll-Step x)
  on_step x h t e =
      ap (λ (f : Fills Step). f here) (fold-roll-Step (Fills Subst) (Fills Branch) (Fills CaseBranch) (Fills Step) (fill.subst_step ins uses) (fill.branch_step ins uses) (fill.case_step ins uses) (fill.step_step ins uses) x)
      ∙ gives_map (λ u. roll-Step (record { joint = x.joint; at = deeper_place n x.at; body = u })) (expanded_subst table means others x.body here) (filled_subst ins uses x.body here) h t
      (sym (ap (λ (f : Expands Step). f here) (fold-roll-Step (Expands Subst) (Expands Branch) (Expands CaseBranch) (Expands Step) (tree.subst_step table means others) (tree.branch_step table means others) (tree.case_branch_step table means others) (tree.step_step table means others) x)) ∙ e)

  -- a substitution becomes what it expands to
  pub subst_gives : (u : Subst) → PS u
  subst_gives = by_layers PB PC PK PS on_branch on_case on_step on_subst

-- ---- definitions

module _ (table : List Def) (means : formulas.Meanings) (ins : filling.Inserts) (same : SameNames means ins) (others : Meanings) (uses : Inserts) (alike : SameUses others uses) where
  same_body : (ps : List (List ℕ)) (b : DefBody) → SameMeaning (tree.meaning_of table (record { formulas = means; uses = others }) ps b) (fill.insert_of ins uses ps b)
  same_body ps (body.Expr e) = record { params = refl; body = λ n ts w t h. absurd (cc) }
  same_body ps (body.Pred p) = record { params = refl; body = λ n ts w t h. absurd (cc) }
  same_body ps (body.Subst u) = record { params = refl; body = λ n ts w. subst_gives table means ins same others uses alike n ps ts w u }

  same_first : (m : Option Meaning) (i : Option Insert) → SameMeant m i → (o : Option Meaning) (p : Option Insert) → SameMeant o p → SameMeant (tree.first_of m o) (fill.first_of i p)
  same_first None None h o p k = k
  same_first None (Some i) h o p k = absurd h
  same_first (Some m) None h o p k = absurd h
  same_first (Some m) (Some i) h o p k = h

  same_if : (m : Meaning) (i : Insert) → SameMeaning m i → (b : Bool) → SameMeant (cond b (Some m) None) (cond b (Some i) None)
  same_if m i h true = h
  same_if m i h false = tt

  -- one more definition
  same_with : (d : Def) → SameUses (tree.with_definition table (record { formulas = means; uses = others }) d).uses (fill.with_definition (record { formulas = ins; uses = uses }) d).uses
  same_with d = record {
    at = λ x. same_first (others x) (uses x) (alike.at x) (cond (bytes_eq x d.name) (Some (tree.meaning_of table (record { formulas = means; uses = others }) d.params d.body)) None) (cond (bytes_eq x d.name) (Some (fill.insert_of ins uses d.params d.body)) None)
        (same_if (tree.meaning_of table (record { formulas = means; uses = others }) d.params d.body) (fill.insert_of ins uses d.params d.body) (same_body d.params d.body) (bytes_eq x d.name));
  }

-- what is known on both sides is the same
record AreAlike (k : tree.Known) (l : fill.Known) : Type 0 where
  formulas : SameNames k.formulas l.formulas
  uses : SameUses k.uses l.uses

-- the definitions one after the other
alike_all : (table : List Def) (k : tree.Known) (l : fill.Known) → AreAlike k l → (ds : List Def) → AreAlike (fold (tree.with_definition table) k ds) (fold fill.with_definition l ds)
alike_all table k l h [] = h
alike_all table k l h (d ∷ ds) =
    alike_all table (tree.with_definition table k d) (fill.with_definition l d)
    (record { formulas = formula_puts.same_all table k.formulas l.formulas h.formulas (d ∷ []); uses = same_with table k.formulas l.formulas h.formulas k.uses l.uses h.uses d }) ds

-- where a substitution expands, what it expands to is the substitution with its definitions put in
pub filled_is_expanded : (ds : List Def) (u v : Subst) → tree.subst_expansion ds u ≡ Some v → fill.filled ds u ≡ v
filled_is_expanded ds u v h =
    let a : AreAlike (tree.known ds ds) (fill.known ds) = alike_all ds tree.nothing_known fill.nothing_known (record { formulas = record { at = λ x. tt }; uses = record { at = λ x. tt } }) ds in
    subst_gives ds (tree.known ds ds).formulas (fill.known ds).formulas a.formulas (tree.known ds ds).uses (fill.known ds).uses a.uses 0 [] [] refl u v h

-- the substitution with its definitions put in is what it expands to, where it expands
pub expands_if_ok : {E : Type 0} (ds table : List Def) (u : Subst) → IsWithinLimits ds u → table ≡ ds → (res : Result Subst E) → IfOk res (λ v. v ≡ fill.filled table u) → IfOk res (λ v. tree.subst_expansion ds u ≡ Some v)
expands_if_ok ds table u w same (Err e) h = tt
expands_if_ok ds table u w same (Ok v) h = go (tree.subst_expansion ds u) refl w.within
  where
    go : (o : Option Subst) → tree.subst_expansion ds u ≡ o → IsWithin o → tree.subst_expansion ds u ≡ Some v
    go None e w = absurd w
    go (Some t) e w = e ∙ ap (λ (v : Subst). Some v) (sym (h ∙ (ap (λ (ds : List Def). fill.filled ds u) same ∙ filled_is_expanded ds u t e)))
