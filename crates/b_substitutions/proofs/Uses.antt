-- What is told of the definitions of a table as substitutions.
use Rattle.std.proofs.Common.{◌≡◌, ℕ, zero, suc, ◌+◌, ◌++◌, ◌<◌, ◌≤◌, ◌⊎◌, inl, inr, Bool, true, false, cond, List, [], ◌∷◌, take, length, get_or, fold, Option, Some, None, Result, refl, sym, ap, ◌∙◌, subst, arith}
use Rattle.std.specs.Prelude.{IfOk, IfSome, slice_get, is_some, option_map, option_and_then, bytes_eq, position}
use Rattle.std.proofs.lemmas.List.{length-take-le}
use Rattle.b_ast.specs.declared.machine.Def.{Def}
use Rattle.b_ast.specs.declared.machine.DefBody.{DefBody}
use Rattle.b_ast.specs.declared.machine.Subst.{Subst}
use Rattle.b_summaries.specs.declared.summary.Size.{Size}
use Rattle.b_summaries.specs.declared.summary.Parts.{Parts}
use Rattle.b_summaries.specs.declared.summary.Told.{Told}
use Rattle.b_summaries.specs.Standing.{place_below}
use Rattle.b_summaries.specs.Sizes.{nothing}
use Rattle.b_summaries.specs.Making.{alone}
use Rattle.b_summaries.specs.Summaries as formulas
use Rattle.b_summaries.specs.Summaries.{place_of}
use Rattle.b_summaries.proofs.Adding.{value_of}
use Rattle.b_substitutions.specs.Expansion.{subst_expansion}
use Rattle.b_substitutions.specs.Sizes.{size_of_subst}
use Rattle.b_substitutions.specs.Summaries.{Known, Meanings, told_body, with_definition, nothing_known, known, first_of, with_subst, parts_of}
use Rattle.b_substitutions.specs.Standing.{AreTold, use_in}
use Rattle.b_substitutions.proofs.Naming.{means_where, at_last, get_there, take_all}
use Rattle.b_substitutions.proofs.Telling.{subst_says}

-- ---- what is known after some definitions

-- what is known by its two sides
abbrev pub known_of : formulas.Meanings → Meanings → Known
known_of m u = record { formulas = m; uses = u }

formulas_from : (table : List Def) (k : Known) (ds : List Def) → (fold (with_definition table) k ds).formulas ≡ fold (formulas.with_definition table) k.formulas ds
formulas_from table k [] = refl
formulas_from table k (d ∷ ds) = formulas_from table (with_definition table k d) ds

-- of formulas
pub known_formulas : (table ds : List Def) → (known table ds).formulas ≡ formulas.meanings table ds
known_formulas table ds = formulas_from table nothing_known ds

-- what a name means as a substitution, and what a use of a definition gives
abbrev pub use_of_name : Known → List ℕ → Option (Option Told)
use_of_name k x = k.uses x

abbrev pub told_def : List Def → Known → Def → Option Told
told_def table k d = told_body table k d.params d.body

module _ (table : List Def) where
  stays : (k : Known) (d : Def) (x : List ℕ) (u : Option Told) → use_of_name k x ≡ Some u → use_of_name (with_definition table k d) x ≡ Some u
  stays k d x u h = ap (λ (o : Option (Option Told)). first_of o (cond (bytes_eq x d.name) (Some (told_def table k d)) None)) h

  next : (k : Known) (d : Def) (x : List ℕ) → use_of_name k x ≡ None → use_of_name (with_definition table k d) x ≡ cond (bytes_eq x d.name) (Some (told_def table k d)) None
  next k d x h = ap (λ (o : Option (Option Told)). first_of o (cond (bytes_eq x d.name) (Some (told_def table k d)) None)) h

  -- a name means the definition at its place
  pub used_where : (k : ℕ) (x : List ℕ) (o : Option ℕ) → o ≡ position (λ d. bytes_eq x d.name) table → (r : Option ℕ) → r ≡ place_below k o → option_and_then (use_in table) r ≡ (known table (take k table)).uses x
  used_where k x o e r h = means_where use_of_name (told_def table) (with_definition table) stays next nothing_known (λ x. refl) table k x o e r h

  -- no definition is told yet
  pub none_told : AreTold table []
  unfolding AreTold
  none_told zero u k = absurd (cc)
  none_told (suc i) u k = absurd (cc)

  told_there : (i : ℕ) (d : Def) → slice_get table i ≡ Some d → use_in table i ≡ Some (told_body table (known table (take i table)) d.params d.body)
  told_there i d h = ap (option_map (told_def table (known table (take i table)))) h

  -- one more definition is told
  pub told_more : (uses : List (Option Told)) → AreTold table uses → (d : Def) → slice_get table (length uses) ≡ Some d → (t : Option Told) → t ≡ told_body table (known table (take (length uses) table)) d.params d.body → AreTold table (uses ++ t ∷ [])
  unfolding AreTold
  told_more uses h d at t e i u k = elim (at_last uses t u i k) [ inl j ↦ h i u j | inr j ↦ last j ]
    where
      last : (i ≡ length uses) × (t ≡ u) → use_in table i ≡ Some u
      last j = ap (use_in table) j.0 ∙ (told_there (length uses) d at ∙ ap (λ (t : Option Told). Some t) (sym e ∙ j.1))

  -- what is told of a body in a text with the first definitions
  pub told_same : (n m : ℕ) → n ≡ m → (ps : List (List ℕ)) (b : DefBody) → told_body table (known_of (formulas.meanings table (take n table)) (known table (take m table)).uses) ps b ≡ told_body table (known table (take m table)) ps b
  told_same n m many ps b =
      ap (λ (n : ℕ). told_body table (known_of (formulas.meanings table (take n table)) (known table (take m table)).uses) ps b) many
      ∙ ap (λ (means : formulas.Meanings). told_body table (known_of means (known table (take m table)).uses) ps b) (sym (known_formulas table (take m table)))

  -- the answer to a body in such a text
  pub told_answer : {E : Type 0} (n m : ℕ) → n ≡ m → (ps qs : List (List ℕ)) → qs ≡ ps → (b : DefBody) (res : Result (Option Told) E) → IfOk res (λ o. o ≡ told_body table (known_of (formulas.meanings table (take n table)) (known table (take m table)).uses) qs b)
      → IfOk res (λ o. o ≡ told_body table (known table (take m table)) ps b)
  told_answer n m many ps qs same b res h =
      subst (λ (z : Option Told). IfOk res (λ o. o ≡ z)) (ap (λ (qs : List (List ℕ)). told_body table (known_of (formulas.meanings table (take n table)) (known table (take m table)).uses) qs b) same ∙ told_same n m many ps b) h

  -- a place that has a definition is within the table
  pub place_there : (ds : List Def) (i : ℕ) (d : Def) → slice_get ds i ≡ Some d → i < length ds
  place_there [] zero d h = absurd (cc)
  place_there [] (suc i) d h = absurd (cc)
  place_there (e ∷ ds) zero d h = omega arith
  place_there (e ∷ ds) (suc i) d h = let k = place_there ds i d h in omega arith

  -- what is told at a place
  pub told_at : (uses : List (Option Told)) → AreTold table uses → (i : ℕ) (t : Option Told) → i < length uses → t ≡ get_or uses i t → use_in table i ≡ Some t
  unfolding AreTold
  told_at uses h i t w e = h i t (get_there uses i t w e)

-- the first formulas that are told are as many as the substitutions
pub front_many : (told : List (Option Told)) (table : List Def) (uses : List (Option Told)) (d : Def) → length told ≡ length table → slice_get table (length uses) ≡ Some d → (n : ℕ) → n ≡ length uses
    → (front : List (Option Told)) → front ≡ take n told → length front ≡ length uses
front_many told table uses d all at n many front e =
    let w = place_there table table (length uses) d at in
    let l : length (take n told) ≡ n = length-take-le n told (omega arith) in
    ap length e ∙ (l ∙ many)

-- a name that is no parameter means the definition at its place
pub called_where : (table : List Def) (ps : List (List ℕ)) (x : List ℕ) → None ≡ place_of ps x → (k : ℕ) (o : Option ℕ) → o ≡ position (λ d. bytes_eq x d.name) table → (r : Option ℕ) → r ≡ place_below k o
    → option_and_then (use_in table) r ≡ cond (is_some (place_of ps x)) None ((known table (take k table)).uses x)
called_where table ps x n k o e r h = used_where table k x o e r h ∙ ap (λ (p : Option ℕ). cond (is_some p) None ((known table (take k table)).uses x)) n

-- ---- a substitution under a table of which each definition is told

subst_there : (ds table : List Def) → table ≡ ds → (u : Subst) (ps : List (List ℕ)) → ps ≡ [] → (m n : ℕ) → m ≡ length ds → n ≡ length ds → (s : Option Parts) → s ≡ Some (alone nothing)
    → with_subst table ps (formulas.meanings table (take m table)) (known table (take n table)).uses u s ≡ parts_of ds [] (known ds ds).formulas (known ds ds).uses u
subst_there ds table same u ps p m n i j s f =
    ap (λ (table : List Def). with_subst table ps (formulas.meanings table (take m table)) (known table (take n table)).uses u s) same
    ∙ (ap (λ (ps : List (List ℕ)). with_subst ds ps (formulas.meanings ds (take m ds)) (known ds (take n ds)).uses u s) p
    ∙ (ap (λ (m : ℕ). with_subst ds [] (formulas.meanings ds (take m ds)) (known ds (take n ds)).uses u s) i
    ∙ (ap (λ (es : List Def). with_subst ds [] (formulas.meanings ds es) (known ds (take n ds)).uses u s) (take_all ds)
    ∙ (ap (λ (n : ℕ). with_subst ds [] (formulas.meanings ds ds) (known ds (take n ds)).uses u s) j
    ∙ (ap (λ (es : List Def). with_subst ds [] (formulas.meanings ds ds) (known ds es).uses u s) (take_all ds)
    ∙ (ap (λ (means : formulas.Meanings). with_subst ds [] means (known ds ds).uses u s) (sym (known_formulas ds ds))
    ∙ ap (with_subst ds [] (known ds ds).formulas (known ds ds).uses u) f))))))

-- what the parts of a substitution say is how wide and deep the substitution is that it stands for
pub subst_known : (ds table : List Def) → table ≡ ds → (u : Subst) (ps : List (List ℕ)) → ps ≡ [] → (m n : ℕ) → m ≡ length ds → n ≡ length ds → (s : Option Parts) → s ≡ Some (alone nothing)
    → (o : Option Parts) → o ≡ with_subst table ps (formulas.meanings table (take m table)) (known table (take n table)).uses u s
    → (z : Option Size) → z ≡ value_of 0 [] o → z ≡ option_map size_of_subst (subst_expansion ds u)
subst_known ds table same u ps p m n i j s f o h z e = e ∙ (ap (value_of 0 []) (h ∙ subst_there ds table same u ps p m n i j s f) ∙ subst_says ds u)
