-- Where there are no definitions, a tree without commas in which few brackets are open expands to itself.
use Rattle.std.proofs.Common.{◌≡◌, ◌≤◌, ◌+◌, ℕ, Bool, true, false, ◌&&◌, not, min, max, List, [], ◌∷◌, map, Option, Some, None, arith, refl, sym, ap, ◌∙◌, subst}
use Rattle.std.specs.Prelude.{if◌then◌else◌, option_map}
use Rattle.std.specs.List.{AllByRecursion, list_all}
use Rattle.b_ast.specs.declared.Place.{Place}
use Rattle.b_ast.specs.declared.Bound.{Bound}
use Rattle.b_ast.specs.declared.Operator.{Operator}
use Rattle.b_ast.specs.declared.Operator.TheVariants as operator
use Rattle.b_ast.specs.declared.machine.Def.{Def}
use Rattle.b_ast.specs.declared.Formula.{Formula, fold-roll-Formula, roll-Formula}
use Rattle.b_ast.specs.declared.Formula.TheVariants as formula
use Rattle.b_ast.specs.declared.Link.{Link, fold-roll-Link, roll-Link}
use Rattle.b_ast.specs.declared.After.{After, fold-roll-After, roll-After}
use Rattle.b_ast.specs.declared.After.TheVariants as after
use Rattle.b_ast.specs.declared.After.TheOpen.{Formula-F, Link-F, After-F}
use Rattle.b_expand.specs.Places.{deepest, depth_of_link, depth_of_after, greatest, names_depth, after_depth, formula_depth, link_depth, deeper_place, deeper_bound}
use Rattle.b_expand.specs.Expansion.{Meaning, Meanings, Reading, Form, Side, meanings, reading, form_of, side_of, after_step, link_step, formula_step, alone, expansion, both, all_three, all_of, bound, may_bind, called, row, is_comma, expanded_operator, links, forms}
use Rattle.b_expand.proofs.Layers as layers
use Rattle.b_reading_back.proofs.Shallow.{IsShallow}
use Rattle.b_reading_back.proofs.Apart.{after_free, link_free, all_free, formula_free, is_free, is_free_link, is_free_after}

abbrev no_defs : List Def
no_defs = []

-- no name means anything
abbrev nothing : Meanings
nothing = meanings no_defs no_defs

abbrev read : Formula → Reading
read = reading no_defs nothing

abbrev read_link : Link → Side
read_link = side_of no_defs nothing

abbrev read_after : After → Form
read_after = form_of no_defs nothing

-- ---- places and names

same_place : (at : Place) → at.depth ≤ 100 → deeper_place 0 at ≡ at
same_place at h = let e : min 101 (0 + at.depth) ≡ at.depth = omega arith in ap (λ (d : ℕ). record at { depth = d }) e

same_bounds : (ns : List Bound) → AllByRecursion (λ (b : Bound). b.at.depth ≤ 100) ns → map (deeper_bound 0) ns ≡ ns
same_bounds [] k = refl
same_bounds (n ∷ ns) k =
    let one : deeper_bound 0 n ≡ n = ap (λ (p : Place). record n { at = p }) (same_place n.at k.0) in
    let more = same_bounds ns k.1 in
    cc

all_bind : (ns : List Bound) → list_all (may_bind no_defs alone) ns ≡ true
all_bind [] = refl
all_bind (n ∷ ns) = all_bind ns

same_names : (ns : List Bound) → AllByRecursion (λ (b : Bound). b.at.depth ≤ 100) ns → bound no_defs alone ns ≡ Some ns
same_names ns k = ap (λ (b : Bool). if b then Some (map (deeper_bound 0) ns) else None) (all_bind ns) ∙ ap Some (same_bounds ns k)

not_called : (n : Option (ℕ × List ℕ)) → called nothing alone n ≡ None
not_called None = refl
not_called (Some p) = refl

same_operator : (o : Operator) → is_comma o ≡ false → expanded_operator o ≡ o
same_operator operator.Comma e = absurd (cc)
same_operator o e = refl

-- ---- tests and depths of parts

and_true : (a b : Bool) → (a && b) ≡ true → (a ≡ true) × (b ≡ true)
and_true true b e = (refl, e)
and_true false b e = absurd (cc)

not_true : (a : Bool) → not a ≡ true → a ≡ false
not_true true e = absurd (cc)
not_true false e = refl

parts_within : (m : ℕ) (ns : List ℕ) → greatest m ns ≤ 100 → (m ≤ 100) × AllByRecursion (λ (n : ℕ). n ≤ 100) ns
parts_within m [] h = (h, tt)
parts_within m (n ∷ ns) h =
    let r = parts_within (max m n) ns h in
    let l : max m n ≤ 100 = r.0 in
    let left : m ≤ 100 = omega arith in
    let right : n ≤ 100 = omega arith in
    (left, (right, r.1))

left_within : (m n : ℕ) → max m n ≤ 100 → m ≤ 100
left_within m n h = omega arith

right_within : (m n : ℕ) → max m n ≤ 100 → n ≤ 100
right_within m n h = omega arith

names_of_map : (ns : List Bound) → AllByRecursion (λ (n : ℕ). n ≤ 100) (map (λ (b : Bound). b.at.depth) ns) → AllByRecursion (λ (b : Bound). b.at.depth ≤ 100) ns
names_of_map [] k = tt
names_of_map (n ∷ ns) k = (k.0, names_of_map ns k.1)

-- all of a list, where each is there
all_there : {X R : Type 0} (r : X → R) (t : R → Option X) (xs : List X) → AllByRecursion (λ x. t (r x) ≡ Some x) xs → all_of (map t (map r xs)) ≡ Some xs
all_there {X} {R} r t [] k = refl
all_there {X} {R} r t (x ∷ xs) k =
    ap (λ (o : Option X). both (λ y ys. y ∷ ys) o (all_of (map t (map r xs)))) k.0 ∙ ap (both (λ y ys. y ∷ ys) (Some x)) (all_there r t xs k.1)

-- what holds of each that passes a test and is shallow
each_there : {X : Type 0} (test : X → Bool) (depth : X → ℕ) (G : X → Type 0) (xs : List X) → AllByRecursion (λ x. test x ≡ true → depth x ≤ 100 → G x) xs
    → all_free (map test xs) ≡ true → AllByRecursion (λ (n : ℕ). n ≤ 100) (map depth xs) → AllByRecursion G xs
each_there test depth G [] k e h = tt
each_there test depth G (x ∷ xs) k e h = let p = and_true (test x) (all_free (map test xs)) e in (k.0 p.0 h.0, each_there test depth G xs k.1 p.1 h.1)

-- ---- layer by layer

abbrev StandsFor : Formula → Type 0
StandsFor t = (read t).tree alone ≡ Some t

abbrev StandsForLink : Link → Type 0
StandsForLink l = (read_link l).link alone ≡ Some l

abbrev StandsForAfter : After → Type 0
StandsForAfter f = (read_after f).form alone ≡ Some f

abbrev Itself : Formula → Type 0
Itself t = is_free t ≡ true → deepest t ≤ 100 → StandsFor t

abbrev ItselfLink : Link → Type 0
ItselfLink l = is_free_link l ≡ true → depth_of_link l ≤ 100 → StandsForLink l

abbrev ItselfAfter : After → Type 0
ItselfAfter f = is_free_after f ≡ true → depth_of_after f ≤ 100 → StandsForAfter f

abbrev tree_alone : Reading → Option Formula
tree_alone r = r.tree alone

on_formula : (x : Formula-F After Formula Link) → layers.Below ItselfAfter Itself ItselfLink x → Itself (roll-Formula x)
on_formula (Formula-F.Number at n) k e h =
    let d : at.depth ≤ 100 = subst (λ (k : ℕ). k ≤ 100) (fold-roll-Formula ℕ ℕ ℕ after_depth formula_depth link_depth (Formula-F.Number at n)) h in
    ap tree_alone (fold-roll-Formula Form Reading Side after_step (formula_step no_defs nothing) link_step (Formula-F.Number at n)) ∙ ap (λ (p : Place). Some (formula.Number p n)) (same_place at d) ∙ ap Some (sym (formula.rolls-Number at n))
on_formula (Formula-F.Text at s) k e h =
    let d : at.depth ≤ 100 = subst (λ (k : ℕ). k ≤ 100) (fold-roll-Formula ℕ ℕ ℕ after_depth formula_depth link_depth (Formula-F.Text at s)) h in
    ap tree_alone (fold-roll-Formula Form Reading Side after_step (formula_step no_defs nothing) link_step (Formula-F.Text at s)) ∙ ap (λ (p : Place). Some (formula.Text p s)) (same_place at d) ∙ ap Some (sym (formula.rolls-Text at s))
on_formula (Formula-F.Name at y) k e h =
    let d : at.depth ≤ 100 = subst (λ (k : ℕ). k ≤ 100) (fold-roll-Formula ℕ ℕ ℕ after_depth formula_depth link_depth (Formula-F.Name at y)) h in
    ap tree_alone (fold-roll-Formula Form Reading Side after_step (formula_step no_defs nothing) link_step (Formula-F.Name at y)) ∙ ap (λ (p : Place). Some (formula.Name p y)) (same_place at d) ∙ ap Some (sym (formula.rolls-Name at y))
on_formula (Formula-F.Old at y) k e h =
    let d : at.depth ≤ 100 = subst (λ (k : ℕ). k ≤ 100) (fold-roll-Formula ℕ ℕ ℕ after_depth formula_depth link_depth (Formula-F.Old at y)) h in
    ap tree_alone (fold-roll-Formula Form Reading Side after_step (formula_step no_defs nothing) link_step (Formula-F.Old at y)) ∙ ap (λ (p : Place). Some (formula.Old p y)) (same_place at d) ∙ ap Some (sym (formula.rolls-Old at y))
on_formula (Formula-F.Constant at c) k e h =
    let d : at.depth ≤ 100 = subst (λ (k : ℕ). k ≤ 100) (fold-roll-Formula ℕ ℕ ℕ after_depth formula_depth link_depth (Formula-F.Constant at c)) h in
    ap tree_alone (fold-roll-Formula Form Reading Side after_step (formula_step no_defs nothing) link_step (Formula-F.Constant at c)) ∙ ap (λ (p : Place). Some (formula.Constant p c)) (same_place at d) ∙ ap Some (sym (formula.rolls-Constant at c))
on_formula (Formula-F.Negative at t) k e h =
    let free : is_free t ≡ true = sym (fold-roll-Formula Bool Bool Bool after_free formula_free link_free (Formula-F.Negative at t)) ∙ e in
    let d : max at.depth (deepest t) ≤ 100 = subst (λ (k : ℕ). k ≤ 100) (fold-roll-Formula ℕ ℕ ℕ after_depth formula_depth link_depth (Formula-F.Negative at t)) h in
    ap tree_alone (fold-roll-Formula Form Reading Side after_step (formula_step no_defs nothing) link_step (Formula-F.Negative at t)) ∙ ap (option_map (formula.Negative (deeper_place 0 at))) (k free (right_within _ _ d))
    ∙ ap (λ (p : Place). Some (formula.Negative p t)) (same_place at (left_within _ _ d)) ∙ ap Some (sym (formula.rolls-Negative at t))
on_formula (Formula-F.Chain t ls) k e h =
    let free : (is_free t && all_free (map is_free_link ls)) ≡ true = sym (fold-roll-Formula Bool Bool Bool after_free formula_free link_free (Formula-F.Chain t ls)) ∙ e in
    let d : greatest (deepest t) (map depth_of_link ls) ≤ 100 = subst (λ (k : ℕ). k ≤ 100) (fold-roll-Formula ℕ ℕ ℕ after_depth formula_depth link_depth (Formula-F.Chain t ls)) h in
    let f = and_true (is_free t) (all_free (map is_free_link ls)) free in
    let w = parts_within (deepest t) (map depth_of_link ls) d in
    ap tree_alone (fold-roll-Formula Form Reading Side after_step (formula_step no_defs nothing) link_step (Formula-F.Chain t ls)) ∙ ap (λ (o : Option Formula). both formula.Chain o (links (map read_link ls) alone)) (k.0 f.0 w.0)
    ∙ ap (both formula.Chain (Some t)) (all_there read_link (λ (s : Side). s.link alone) ls (each_there is_free_link depth_of_link StandsForLink ls k.1 f.1 w.1)) ∙ ap Some (sym (formula.rolls-Chain t ls))
on_formula (Formula-F.Row t fs) k e h =
    let free : (is_free t && all_free (map is_free_after fs)) ≡ true = sym (fold-roll-Formula Bool Bool Bool after_free formula_free link_free (Formula-F.Row t fs)) ∙ e in
    let d : greatest (deepest t) (map depth_of_after fs) ≤ 100 = subst (λ (k : ℕ). k ≤ 100) (fold-roll-Formula ℕ ℕ ℕ after_depth formula_depth link_depth (Formula-F.Row t fs)) h in
    let f = and_true (is_free t) (all_free (map is_free_after fs)) free in
    let w = parts_within (deepest t) (map depth_of_after fs) d in
    ap tree_alone (fold-roll-Formula Form Reading Side after_step (formula_step no_defs nothing) link_step (Formula-F.Row t fs)) ∙ ap (λ (c : Option (ℕ × Meaning)). row c (read t) (map read_after fs) alone) (not_called (read t).name)
    ∙ ap (λ (o : Option Formula). both formula.Row o (forms (map read_after fs) alone)) (k.0 f.0 w.0)
    ∙ ap (both formula.Row (Some t)) (all_there read_after (λ (s : Form). s.form alone) fs (each_there is_free_after depth_of_after StandsForAfter fs k.1 f.1 w.1)) ∙ ap Some (sym (formula.rolls-Row t fs))
on_formula (Formula-F.Call at g us) k e h =
    let free : all_free (map is_free us) ≡ true = sym (fold-roll-Formula Bool Bool Bool after_free formula_free link_free (Formula-F.Call at g us)) ∙ e in
    let d : greatest at.depth (map deepest us) ≤ 100 = subst (λ (k : ℕ). k ≤ 100) (fold-roll-Formula ℕ ℕ ℕ after_depth formula_depth link_depth (Formula-F.Call at g us)) h in
    let w = parts_within at.depth (map deepest us) d in
    ap tree_alone (fold-roll-Formula Form Reading Side after_step (formula_step no_defs nothing) link_step (Formula-F.Call at g us)) ∙ ap (option_map (formula.Call (deeper_place 0 at) g)) (all_there read tree_alone us (each_there is_free deepest StandsFor us k free w.1))
    ∙ ap (λ (p : Place). Some (formula.Call p g us)) (same_place at w.0) ∙ ap Some (sym (formula.rolls-Call at g us))
on_formula (Formula-F.Set at us) k e h =
    let free : all_free (map is_free us) ≡ true = sym (fold-roll-Formula Bool Bool Bool after_free formula_free link_free (Formula-F.Set at us)) ∙ e in
    let d : greatest at.depth (map deepest us) ≤ 100 = subst (λ (k : ℕ). k ≤ 100) (fold-roll-Formula ℕ ℕ ℕ after_depth formula_depth link_depth (Formula-F.Set at us)) h in
    let w = parts_within at.depth (map deepest us) d in
    ap tree_alone (fold-roll-Formula Form Reading Side after_step (formula_step no_defs nothing) link_step (Formula-F.Set at us)) ∙ ap (option_map (formula.Set (deeper_place 0 at))) (all_there read tree_alone us (each_there is_free deepest StandsFor us k free w.1))
    ∙ ap (λ (p : Place). Some (formula.Set p us)) (same_place at w.0) ∙ ap Some (sym (formula.rolls-Set at us))
on_formula (Formula-F.Sequence at us) k e h =
    let free : all_free (map is_free us) ≡ true = sym (fold-roll-Formula Bool Bool Bool after_free formula_free link_free (Formula-F.Sequence at us)) ∙ e in
    let d : greatest at.depth (map deepest us) ≤ 100 = subst (λ (k : ℕ). k ≤ 100) (fold-roll-Formula ℕ ℕ ℕ after_depth formula_depth link_depth (Formula-F.Sequence at us)) h in
    let w = parts_within at.depth (map deepest us) d in
    ap tree_alone (fold-roll-Formula Form Reading Side after_step (formula_step no_defs nothing) link_step (Formula-F.Sequence at us)) ∙ ap (option_map (formula.Sequence (deeper_place 0 at))) (all_there read tree_alone us (each_there is_free deepest StandsFor us k free w.1))
    ∙ ap (λ (p : Place). Some (formula.Sequence p us)) (same_place at w.0) ∙ ap Some (sym (formula.rolls-Sequence at us))
on_formula (Formula-F.Comprehension at ns t) k e h =
    let free : is_free t ≡ true = sym (fold-roll-Formula Bool Bool Bool after_free formula_free link_free (Formula-F.Comprehension at ns t)) ∙ e in
    let d : max (names_depth at ns) (deepest t) ≤ 100 = subst (λ (k : ℕ). k ≤ 100) (fold-roll-Formula ℕ ℕ ℕ after_depth formula_depth link_depth (Formula-F.Comprehension at ns t)) h in
    let w = parts_within at.depth (map (λ (b : Bound). b.at.depth) ns) (left_within _ _ d) in
    ap tree_alone (fold-roll-Formula Form Reading Side after_step (formula_step no_defs nothing) link_step (Formula-F.Comprehension at ns t)) ∙ ap (λ (o : Option (List Bound)). both (formula.Comprehension (deeper_place 0 at)) o ((read t).tree alone)) (same_names ns (names_of_map ns w.1))
    ∙ ap (both (formula.Comprehension (deeper_place 0 at)) (Some ns)) (k free (right_within _ _ d)) ∙ ap (λ (p : Place). Some (formula.Comprehension p ns t)) (same_place at w.0) ∙ ap Some (sym (formula.rolls-Comprehension at ns t))
on_formula (Formula-F.Quantified at q ns t) k e h =
    let free : is_free t ≡ true = sym (fold-roll-Formula Bool Bool Bool after_free formula_free link_free (Formula-F.Quantified at q ns t)) ∙ e in
    let d : max (names_depth at ns) (deepest t) ≤ 100 = subst (λ (k : ℕ). k ≤ 100) (fold-roll-Formula ℕ ℕ ℕ after_depth formula_depth link_depth (Formula-F.Quantified at q ns t)) h in
    let w = parts_within at.depth (map (λ (b : Bound). b.at.depth) ns) (left_within _ _ d) in
    ap tree_alone (fold-roll-Formula Form Reading Side after_step (formula_step no_defs nothing) link_step (Formula-F.Quantified at q ns t)) ∙ ap (λ (o : Option (List Bound)). both (formula.Quantified (deeper_place 0 at) q) o ((read t).tree alone)) (same_names ns (names_of_map ns w.1))
    ∙ ap (both (formula.Quantified (deeper_place 0 at) q) (Some ns)) (k free (right_within _ _ d)) ∙ ap (λ (p : Place). Some (formula.Quantified p q ns t)) (same_place at w.0) ∙ ap Some (sym (formula.rolls-Quantified at q ns t))
on_formula (Formula-F.Collected at c ns t u) k e h =
    let free : (is_free t && is_free u) ≡ true = sym (fold-roll-Formula Bool Bool Bool after_free formula_free link_free (Formula-F.Collected at c ns t u)) ∙ e in
    let d : max (names_depth at ns) (max (deepest t) (deepest u)) ≤ 100 = subst (λ (k : ℕ). k ≤ 100) (fold-roll-Formula ℕ ℕ ℕ after_depth formula_depth link_depth (Formula-F.Collected at c ns t u)) h in
    let f = and_true (is_free t) (is_free u) free in
    let w = parts_within at.depth (map (λ (b : Bound). b.at.depth) ns) (left_within _ _ d) in
    let v : max (deepest t) (deepest u) ≤ 100 = right_within _ _ d in
    ap tree_alone (fold-roll-Formula Form Reading Side after_step (formula_step no_defs nothing) link_step (Formula-F.Collected at c ns t u)) ∙ ap (λ (o : Option (List Bound)). all_three (formula.Collected (deeper_place 0 at) c) o ((read t).tree alone) ((read u).tree alone)) (same_names ns (names_of_map ns w.1))
    ∙ ap (λ (o : Option Formula). all_three (formula.Collected (deeper_place 0 at) c) (Some ns) o ((read u).tree alone)) (k.0 f.0 (left_within _ _ v))
    ∙ ap (all_three (formula.Collected (deeper_place 0 at) c) (Some ns) (Some t)) (k.1 f.1 (right_within _ _ v))
    ∙ ap (λ (p : Place). Some (formula.Collected p c ns t u)) (same_place at w.0) ∙ ap Some (sym (formula.rolls-Collected at c ns t u))
on_formula (Formula-F.If at p t u) k e h =
    let free : (is_free p && (is_free t && is_free u)) ≡ true = sym (fold-roll-Formula Bool Bool Bool after_free formula_free link_free (Formula-F.If at p t u)) ∙ e in
    let d : max at.depth (max (deepest p) (max (deepest t) (deepest u))) ≤ 100 = subst (λ (k : ℕ). k ≤ 100) (fold-roll-Formula ℕ ℕ ℕ after_depth formula_depth link_depth (Formula-F.If at p t u)) h in
    let f = and_true (is_free p) (is_free t && is_free u) free in
    let g = and_true (is_free t) (is_free u) f.1 in
    let v : max (deepest p) (max (deepest t) (deepest u)) ≤ 100 = right_within _ _ d in
    let w : max (deepest t) (deepest u) ≤ 100 = right_within _ _ v in
    ap tree_alone (fold-roll-Formula Form Reading Side after_step (formula_step no_defs nothing) link_step (Formula-F.If at p t u)) ∙ ap (λ (o : Option Formula). all_three (formula.If (deeper_place 0 at)) o ((read t).tree alone) ((read u).tree alone)) (k.0 f.0 (left_within _ _ v))
    ∙ ap (λ (o : Option Formula). all_three (formula.If (deeper_place 0 at)) (Some p) o ((read u).tree alone)) (k.1 g.0 (left_within _ _ w))
    ∙ ap (all_three (formula.If (deeper_place 0 at)) (Some p) (Some t)) (k.2 g.1 (right_within _ _ w))
    ∙ ap (λ (here : Place). Some (formula.If here p t u)) (same_place at (left_within _ _ d)) ∙ ap Some (sym (formula.rolls-If at p t u))

on_link : (x : Link-F After Formula Link) → layers.BelowLink ItselfAfter Itself ItselfLink x → ItselfLink (roll-Link x)
on_link x k e h =
    let free : (not (is_comma x.operator) && is_free x.operand) ≡ true = sym (fold-roll-Link Bool Bool Bool after_free formula_free link_free x) ∙ e in
    let d : max x.at.depth (deepest x.operand) ≤ 100 = subst (λ (n : ℕ). n ≤ 100) (fold-roll-Link ℕ ℕ ℕ after_depth formula_depth link_depth x) h in
    let f = and_true (not (is_comma x.operator)) (is_free x.operand) free in
    ap (λ (s : Side). s.link alone) (fold-roll-Link Form Reading Side after_step (formula_step no_defs nothing) link_step x)
    ∙ ap (option_map (λ (u : Formula). roll-Link (record { operator = expanded_operator x.operator; at = deeper_place 0 x.at; operand = u }))) (k f.1 (right_within _ _ d))
    ∙ ap (λ (o : Operator). Some (roll-Link (record { operator = o; at = deeper_place 0 x.at; operand = x.operand }))) (same_operator x.operator (not_true (is_comma x.operator) f.0))
    ∙ ap (λ (p : Place). Some (roll-Link (record { operator = x.operator; at = p; operand = x.operand }))) (same_place x.at (left_within _ _ d))

on_after : (x : After-F After Formula Link) → layers.BelowAfter ItselfAfter Itself ItselfLink x → ItselfAfter (roll-After x)
on_after (After-F.Converse at) k e h =
    let d : at.depth ≤ 100 = subst (λ (n : ℕ). n ≤ 100) (fold-roll-After ℕ ℕ ℕ after_depth formula_depth link_depth (After-F.Converse at)) h in
    ap (λ (s : Form). s.form alone) (fold-roll-After Form Reading Side after_step (formula_step no_defs nothing) link_step (After-F.Converse at))
    ∙ ap (λ (p : Place). Some (after.Converse p)) (same_place at d) ∙ ap Some (sym (after.rolls-Converse at))
on_after (After-F.Apply at t) k e h =
    let free : is_free t ≡ true = sym (fold-roll-After Bool Bool Bool after_free formula_free link_free (After-F.Apply at t)) ∙ e in
    let d : max at.depth (deepest t) ≤ 100 = subst (λ (n : ℕ). n ≤ 100) (fold-roll-After ℕ ℕ ℕ after_depth formula_depth link_depth (After-F.Apply at t)) h in
    ap (λ (s : Form). s.form alone) (fold-roll-After Form Reading Side after_step (formula_step no_defs nothing) link_step (After-F.Apply at t))
    ∙ ap (option_map (after.Apply (deeper_place 0 at))) (k free (right_within _ _ d)) ∙ ap (λ (p : Place). Some (after.Apply p t)) (same_place at (left_within _ _ d)) ∙ ap Some (sym (after.rolls-Apply at t))
on_after (After-F.Image at t) k e h =
    let free : is_free t ≡ true = sym (fold-roll-After Bool Bool Bool after_free formula_free link_free (After-F.Image at t)) ∙ e in
    let d : max at.depth (deepest t) ≤ 100 = subst (λ (n : ℕ). n ≤ 100) (fold-roll-After ℕ ℕ ℕ after_depth formula_depth link_depth (After-F.Image at t)) h in
    ap (λ (s : Form). s.form alone) (fold-roll-After Form Reading Side after_step (formula_step no_defs nothing) link_step (After-F.Image at t))
    ∙ ap (option_map (after.Image (deeper_place 0 at))) (k free (right_within _ _ d)) ∙ ap (λ (p : Place). Some (after.Image p t)) (same_place at (left_within _ _ d)) ∙ ap Some (sym (after.rolls-Image at t))

-- without definitions, a tree without commas in which few brackets are open stands for itself
pub stands_alone : (t : Formula) → is_free t ≡ true → IsShallow t → expansion no_defs t ≡ Some t
stands_alone = layers.by_layers ItselfAfter Itself ItselfLink on_after on_formula on_link
