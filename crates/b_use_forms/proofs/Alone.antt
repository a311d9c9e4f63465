-- What a text with its table and its parameters says.
use Rattle.std.proofs.Common.{◌≡◌, ℕ, List, ap, ◌∙◌}
use Rattle.b_ast.specs.declared.Formula.{Formula}
use Rattle.b_ast.specs.declared.Sort.{Sort}
use Rattle.b_ast.specs.declared.machine.Def.{Def}
use Rattle.b_ast.specs.declared.machine.DefBody.{DefBody}
use Rattle.b_ast.specs.declared.machine.Subst.{Subst}
use Rattle.b_use_forms.specs.declared.texts.Text.{Text}
use Rattle.b_use_forms.specs.Forms.{is_formula, subst_fits, body_fits}
use Rattle.b_use_forms.specs.Standing.{fits_in, subst_in}

-- what holds of a table, a number of first definitions and parameters, by those of a text
by_parts : {X : Type 0} (f : List Def → ℕ → List (List ℕ) → X) (ds es : List Def) (n m : ℕ) (ps qs : List (List ℕ)) → ds ≡ es → n ≡ m → ps ≡ qs → f ds n ps ≡ f es m qs
by_parts f ds es n m ps qs d e p = ap (λ (ds : List Def). f ds n ps) d ∙ (ap (λ (n : ℕ). f es n ps) e ∙ ap (λ (ps : List (List ℕ)). f es m ps) p)

module _ (t : Text) (ds : List Def) (n : ℕ) (ps : List (List ℕ)) (d : t.formulas.table.now ≡ ds) (p : t.formulas.params.now ≡ ps) (e : t.front ≡ n) where
  pub formula_alone : (s : Sort) (f : Formula) → fits_in t s f ≡ is_formula ds n ps s f
  formula_alone s f = by_parts (λ ds n ps. is_formula ds n ps s f) t.formulas.table.now ds t.front n t.formulas.params.now ps d e p

  pub subst_alone : (u : Subst) → subst_in t u ≡ subst_fits ds n ps u
  subst_alone u = by_parts (λ ds n ps. subst_fits ds n ps u) t.formulas.table.now ds t.front n t.formulas.params.now ps d e p

  pub body_alone : (b : DefBody) → body_fits t.formulas.table.now t.front t.formulas.params.now b ≡ body_fits ds n ps b
  body_alone b = by_parts (λ ds n ps. body_fits ds n ps b) t.formulas.table.now ds t.front n t.formulas.params.now ps d e p
