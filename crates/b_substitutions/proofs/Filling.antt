-- Substitutions that are put in part by part.
use Rattle.std.proofs.Common.{◌≡◌, ℕ, zero, suc, ◌+◌, ◌++◌, ◌<◌, ◌≤◌, cond, List, [], ◌∷◌, map, take, length, get_or, fold, Option, Some, None, Result, refl, sym, ap, subst, ◌∙◌, arith}
use Rattle.std.specs.Prelude.{IfOk, slice_get, is_some, option_map, option_and_then, bytes_eq, position}
use Rattle.std.proofs.lemmas.List.{take_all}
use Rattle.b_ast.specs.declared.Formula.{Formula}
use Rattle.b_ast.specs.declared.machine.Def.{Def}
use Rattle.b_ast.specs.declared.machine.DefBody.{DefBody}
use Rattle.b_ast.specs.declared.machine.DefBody.TheVariants as body
use Rattle.b_ast.specs.declared.machine.Subst.{Subst}
use Rattle.b_expand.specs.declared.standing.Frame.{Frame}
use Rattle.b_expand.specs.Places.{brackets, moved, raised_place}
use Rattle.b_expand.specs.Expansion.{Scope, alone}
use Rattle.b_expand.specs.Filling as formulas
use Rattle.b_expand.specs.Filling.{params_of, trees_of}
use Rattle.b_expand.specs.Standing.{means_at, params_at, trees_at, parts_in}
use Rattle.b_expand.proofs.Indexing.{past_end}
use Rattle.b_expand.proofs.Moving.{not_raised}
use Rattle.b_expand.proofs.Texts.{ok_along, one_more}
use Rattle.b_substitutions.specs.Filling.{Insert, Inserts, Fills, Known, all_at, called, used, total, insert_of, first_of, with_definition, nothing_known, known, filled, filled_subst}
use Rattle.b_substitutions.specs.Filled.{use_of_first}
use Rattle.b_substitutions.proofs.Naming.{means_known, known_within}

-- ---- lists

fused : {X Y : Type 0} (f : X → Fills Y) (s : Scope) (xs : List X) → all_at (map f xs) s ≡ map (λ x. f x s) xs
fused f s [] = refl
fused {X} {Y} f s (x ∷ xs) = ap (λ (ys : List Y). f x s ∷ ys) (fused f s xs)

-- one more part
pub next_part : {X Y : Type 0} (f : X → Fills Y) (s : Scope) (xs : List X) (i : ℕ) (x : X) → i < length xs → x ≡ get_or xs i x → (ys : List Y) → ys ≡ all_at (map f (take i xs)) s → (y : Y) → y ≡ f x s
    → (new : List Y) → new ≡ ys ++ y ∷ [] → new ≡ all_at (map f (take (i + 1) xs)) s
next_part {X} {Y} f s xs i x k e ys so y is new n =
    let on : suc i ≡ i + 1 = omega arith in
    n
    ∙ (ap (λ (ys : List Y). ys ++ y ∷ []) (so ∙ fused f s (take i xs))
    ∙ (ap (λ (y : Y). map (λ x. f x s) (take i xs) ++ y ∷ []) is
    ∙ (one_more (λ (x : X). f x s) xs i x k e ∙ (sym (fused f s (take (suc i) xs)) ∙ ap (λ (n : ℕ). all_at (map f (take n xs)) s) on))))

-- a part has at most the steps of all
pub part_of_sum : {X : Type 0} (f : X → ℕ) (xs : List X) (i : ℕ) (x : X) → i < length xs → x ≡ get_or xs i x → f x ≤ total (map f xs)
part_of_sum f [] i x h e = absurd (omega arith)
part_of_sum {X} f (y ∷ xs) zero x h e = let k : f x ≡ f y = ap f e in omega arith
part_of_sum f (y ∷ xs) (suc i) x h e = let k = part_of_sum f xs i x (omega arith) e in omega arith

-- ---- formulas

-- a formula under no others
pub level_tree : {E : Type 0} (o : Option ℕ) → o ≡ None → (e : Formula) (res : Result Formula E) → IfOk res (λ r. r ≡ moved (raised_place o) e) → IfOk res (λ r. r ≡ e)
level_tree o h e res k = ok_along res (moved (raised_place o) e) e (ap (λ (o : Option ℕ). moved (raised_place o) e) h ∙ not_raised e) k

-- ---- what names mean

formulas_from : (k : Known) (ds : List Def) → (fold with_definition k ds).formulas ≡ fold formulas.with_definition k.formulas ds
formulas_from k [] = refl
formulas_from k (d ∷ ds) = formulas_from (with_definition k d) ds

pub known_formulas : (ds : List Def) → (known ds).formulas ≡ formulas.inserts ds
known_formulas ds = formulas_from nothing_known ds

-- what a name means after some definitions, and what a definition means after them
abbrev look : Known → List ℕ → Option Insert
look k x = k.uses x

abbrev meant : Known → Def → Insert
meant k d = insert_of k.formulas k.uses d.params d.body

stays : (k : Known) (d : Def) (x : List ℕ) (u : Insert) → look k x ≡ Some u → look (with_definition k d) x ≡ Some u
stays k d x u h = ap (λ (o : Option Insert). first_of o (cond (bytes_eq x d.name) (Some (meant k d)) None)) h

next : (k : Known) (d : Def) (x : List ℕ) → look k x ≡ None → look (with_definition k d) x ≡ cond (bytes_eq x d.name) (Some (meant k d)) None
next k d x h = ap (λ (o : Option Insert). first_of o (cond (bytes_eq x d.name) (Some (meant k d)) None)) h

first_same : (ds : List Def) (i : ℕ) → use_of_first ds i ≡ option_map (λ d. meant (known (take i ds)) d) (slice_get ds i)
first_same ds i = ap (λ (m : formulas.Inserts). option_map (λ d. insert_of m (known (take i ds)).uses d.params d.body) (slice_get ds i)) (sym (known_formulas (take i ds)))

first_at : (ds : List Def) (r : Option ℕ) → option_and_then (use_of_first ds) r ≡ option_and_then (λ i. option_map (λ d. meant (known (take i ds)) d) (slice_get ds i)) r
first_at ds None = refl
first_at ds (Some i) = first_same ds i

-- a name that is no parameter means the definition at its place
pub called_where : (ds : List Def) (k : ℕ) (ps : List (List ℕ)) (x : List ℕ) → None ≡ position (bytes_eq x) ps → (r : Option ℕ) → r ≡ position (λ d. bytes_eq x d.name) (take k ds)
    → option_and_then (use_of_first ds) r ≡ called (known (take k ds)).uses ps x
called_where ds k ps x n r h =
    first_at ds r
    ∙ (means_known look meant with_definition stays next nothing_known (λ x. refl) ds k x r h (known_within ds k x r h)
    ∙ ap (λ (o : Option ℕ). cond (is_some o) None ((known (take k ds)).uses x)) n)

-- a parameter means none
pub parameter_means : (uses : Inserts) (ps : List (List ℕ)) (x : List ℕ) (p : ℕ) → Some p ≡ position (bytes_eq x) ps → None ≡ called uses ps x
parameter_means uses ps x p h = ap (λ (o : Option ℕ). cond (is_some o) None (uses x)) h

-- ---- uses

params_of_insert : (means : formulas.Inserts) (uses : Inserts) (ps : List (List ℕ)) (b : DefBody) → (insert_of means uses ps b).params ≡ ps
params_of_insert means uses ps (body.Expr e) = refl
params_of_insert means uses ps (body.Pred p) = refl
params_of_insert means uses ps (body.Subst u) = refl

use_known : (ds : List Def) (i : ℕ) (d : Def) → Some d ≡ slice_get ds i → use_of_first ds i ≡ Some (insert_of (formulas.inserts (take i ds)) (known (take i ds)).uses d.params d.body)
use_known ds i d at = sym (ap (option_map (λ d. insert_of (formulas.inserts (take i ds)) (known (take i ds)).uses d.params d.body)) at)

-- the substitution of a use is that of the body
pub use_tree : (ds : List Def) (g f : Frame) (gs fs : List Frame) (i : ℕ) (d : Def) → Some d ≡ slice_get ds i → fs ≡ g ∷ gs → (depth here : ℕ) → here ≡ brackets (brackets g.round depth) 1
    → (insert_of (means_at ds i) (known (take i ds)).uses (params_at ds i) d.body).body (record { round = here; params = params_at ds i; trees = trees_at ds f fs })
    ≡ used depth (use_of_first ds i) (record { round = g.round; params = params_at ds g.place; trees = trees_at ds g gs }) (trees_of (parts_in (means_at ds g.place) f.arguments) (record { round = g.round; params = params_at ds g.place; trees = trees_at ds g gs }))
use_tree ds g f gs fs i d at q depth here r =
    let m : formulas.Inserts = means_at ds i in
    let u : Inserts = (known (take i ds)).uses in
    let n : ℕ = brackets (brackets g.round depth) 1 in
    ap (λ (n : ℕ). (insert_of m u (params_at ds i) d.body).body (record { round = n; params = params_at ds i; trees = trees_at ds f fs })) r
    ∙ (ap (λ (fs : List Frame). (insert_of m u (params_at ds i) d.body).body (record { round = n; params = params_at ds i; trees = trees_at ds f fs })) q
    ∙ (ap (λ (o : Option Def). (insert_of m u (params_of o) d.body).body (record { round = n; params = params_of o; trees = trees_at ds f (g ∷ gs) })) (sym at)
    ∙ (ap (λ (ps : List (List ℕ)). (insert_of m u d.params d.body).body (record { round = n; params = ps; trees = trees_at ds f (g ∷ gs) })) (sym (params_of_insert m u d.params d.body))
    ∙ ap (λ (o : Option Insert). used depth o (record { round = g.round; params = params_at ds g.place; trees = trees_at ds g gs }) (trees_at ds f (g ∷ gs))) (sym (use_known ds i d at)))))

-- the answer of a call along an equation
pub subst_along : {E : Type 0} (res : Result Subst E) (x y : Subst) → x ≡ y → IfOk res (λ u. u ≡ x) → IfOk res (λ u. u ≡ y)
subst_along res x y e h = subst (λ (z : Subst). IfOk res (λ o. o ≡ z)) e h

-- ---- a substitution outside

pub at_top : (ds : List Def) (u : Subst) → filled_subst (means_at ds (length ds)) (known (take (length ds) ds)).uses u (record { round = 0; params = params_at ds (length ds); trees = [] }) ≡ filled ds u
at_top ds u =
    ap (λ (es : List Def). filled_subst (formulas.inserts es) (known es).uses u (record { round = 0; params = params_at ds (length ds); trees = [] })) (take_all (length ds) ds (omega arith))
    ∙ (ap (λ (o : Option Def). filled_subst (formulas.inserts ds) (known ds).uses u (record { round = 0; params = params_of o; trees = [] })) (past_end ds (length ds) (omega arith))
    ∙ ap (λ (m : formulas.Inserts). filled_subst m (known ds).uses u alone) (sym (known_formulas ds)))
