-- A tree that has a canonical text has no commas between operands.
use Rattle.std.proofs.Common.{◌≡◌, ◌≢◌, Bool, true, false, ◌&&◌, not, List, [], ◌∷◌, map, arith, refl, sym, ap, ◌∙◌, subst}
use Rattle.std.specs.List.{AllByRecursion}
use Rattle.b_ast.specs.declared.Operator.{Operator}
use Rattle.b_ast.specs.declared.Operator.TheVariants as operator
use Rattle.b_ast.specs.declared.Formula.{Formula, roll-Formula, out-Formula, fold-roll-Formula, out-roll-Formula, every_here-Formula, every_held-Formula}
use Rattle.b_ast.specs.declared.Link.{Link, roll-Link, out-Link, fold-roll-Link, out-roll-Link, every_held-Link}
use Rattle.b_ast.specs.declared.After.{After, roll-After, out-After, fold-roll-After, out-roll-After, every_held-After}
use Rattle.b_ast.specs.declared.After.TheOpen.{Formula-F, Link-F, After-F}
use Rattle.b_expand.specs.Expansion.{is_comma}
use Rattle.b_grammar.specs.Grammar.{priority}
use Rattle.b_reading_back.specs.Printable.{Anything, LayerIsPrintable, MayChain, operators, IsPrintable, IsPrintableLink, IsPrintableAfter}
use Rattle.b_expand.proofs.Layers.{Below, BelowLink, BelowAfter, by_layers, unlift, unlift_link, unlift_after}
use Rattle.b_reading_back.proofs.Apart.{after_free, link_free, all_free, formula_free, is_free, is_free_link, is_free_after}

-- ---- operators

not_comma : (o : Operator) → o ≢ operator.Comma → is_comma o ≡ false
not_comma operator.Comma n = absurd (n refl)
not_comma o n = refl

some_priority : (o : Operator) → o ≢ operator.Comma → priority o ≡ 0 → ⊥
some_priority operator.Comma n e = n refl
some_priority o n e = omega arith

like_no_comma : (q o : Operator) → o ≢ operator.Comma → priority q ≡ priority o → is_comma q ≡ false
like_no_comma operator.Comma o n e = absurd (some_priority o n (sym e))
like_no_comma q o n e = refl

none_among : (o : Operator) (os : List Operator) → o ≢ operator.Comma → AllByRecursion (λ q. priority q ≡ priority o) os → AllByRecursion (λ q. is_comma q ≡ false) os
none_among o [] n k = tt
none_among o (q ∷ os) n k = (like_no_comma q o n k.0, none_among o os n k.1)

no_commas : (os : List Operator) → MayChain os → AllByRecursion (λ q. is_comma q ≡ false) os
no_commas [] m = absurd m
no_commas (o ∷ os) m = (not_comma o m.0, none_among o os m.0 m.1)

-- ---- tests

both_true : (a b : Bool) → a ≡ true → b ≡ true → (a && b) ≡ true
both_true a b e f = ap (λ (c : Bool). c && b) e ∙ f

all_true : {X : Type 0} (test : X → Bool) (xs : List X) → AllByRecursion (λ x. test x ≡ true) xs → all_free (map test xs) ≡ true
all_true test [] k = refl
all_true test (x ∷ xs) k = both_true (test x) (all_free (map test xs)) k.0 (all_true test xs k.1)

use_all : {X : Type 0} (P G : X → Type 0) (xs : List X) → AllByRecursion P xs → AllByRecursion (λ x. P x → G x) xs → AllByRecursion G xs
use_all P G [] h k = tt
use_all P G (x ∷ xs) h k = (k.0 h.0, use_all P G xs h.1 k.1)

-- ---- layer by layer

abbrev PF : Formula → Type 0
PF t = IsPrintable t → is_free t ≡ true

abbrev PL : Link → Type 0
PL l = IsPrintableLink l → is_comma (out-Link l).operator ≡ false → is_free_link l ≡ true

abbrev PA : After → Type 0
PA f = IsPrintableAfter f → is_free_after f ≡ true

free_links : (ls : List Link) → AllByRecursion IsPrintableLink ls → AllByRecursion PL ls → AllByRecursion (λ q. is_comma q ≡ false) (operators ls) → AllByRecursion (λ l. is_free_link l ≡ true) ls
free_links [] h k c = tt
free_links (l ∷ ls) h k c = (k.0 h.0 c.0, free_links ls h.1 k.1 c.1)

layer_free : (x : Formula-F After Formula Link) → LayerIsPrintable x → Below IsPrintableAfter IsPrintable IsPrintableLink x → Below PA PF PL x → is_free (roll-Formula x) ≡ true
layer_free (Formula-F.Number at n) here held below = fold-roll-Formula Bool Bool Bool after_free formula_free link_free (Formula-F.Number at n)
layer_free (Formula-F.Text at s) here held below = fold-roll-Formula Bool Bool Bool after_free formula_free link_free (Formula-F.Text at s)
layer_free (Formula-F.Name at y) here held below = fold-roll-Formula Bool Bool Bool after_free formula_free link_free (Formula-F.Name at y)
layer_free (Formula-F.Old at y) here held below = fold-roll-Formula Bool Bool Bool after_free formula_free link_free (Formula-F.Old at y)
layer_free (Formula-F.Constant at c) here held below = fold-roll-Formula Bool Bool Bool after_free formula_free link_free (Formula-F.Constant at c)
layer_free (Formula-F.Negative at e) here held below = fold-roll-Formula Bool Bool Bool after_free formula_free link_free (Formula-F.Negative at e) ∙ below held
layer_free (Formula-F.Chain e ls) here held below =
    fold-roll-Formula Bool Bool Bool after_free formula_free link_free (Formula-F.Chain e ls)
    ∙ both_true (is_free e) (all_free (map is_free_link ls)) (below.0 held.0) (all_true is_free_link ls (free_links ls held.1 below.1 (no_commas (operators ls) here)))
layer_free (Formula-F.Row e fs) here held below =
    fold-roll-Formula Bool Bool Bool after_free formula_free link_free (Formula-F.Row e fs)
    ∙ both_true (is_free e) (all_free (map is_free_after fs)) (below.0 held.0) (all_true is_free_after fs (use_all IsPrintableAfter (λ f. is_free_after f ≡ true) fs held.1 below.1))
layer_free (Formula-F.Call at f us) here held below =
    fold-roll-Formula Bool Bool Bool after_free formula_free link_free (Formula-F.Call at f us) ∙ all_true is_free us (use_all IsPrintable (λ u. is_free u ≡ true) us held below)
layer_free (Formula-F.Set at us) here held below =
    fold-roll-Formula Bool Bool Bool after_free formula_free link_free (Formula-F.Set at us) ∙ all_true is_free us (use_all IsPrintable (λ u. is_free u ≡ true) us held below)
layer_free (Formula-F.Sequence at us) here held below =
    fold-roll-Formula Bool Bool Bool after_free formula_free link_free (Formula-F.Sequence at us) ∙ all_true is_free us (use_all IsPrintable (λ u. is_free u ≡ true) us held below)
layer_free (Formula-F.Comprehension at ns p) here held below = fold-roll-Formula Bool Bool Bool after_free formula_free link_free (Formula-F.Comprehension at ns p) ∙ below held
layer_free (Formula-F.Quantified at q ns p) here held below = fold-roll-Formula Bool Bool Bool after_free formula_free link_free (Formula-F.Quantified at q ns p) ∙ below held
layer_free (Formula-F.Collected at c ns p e) here held below =
    fold-roll-Formula Bool Bool Bool after_free formula_free link_free (Formula-F.Collected at c ns p e) ∙ both_true (is_free p) (is_free e) (below.0 held.0) (below.1 held.1)
layer_free (Formula-F.If at p e f) here held below =
    fold-roll-Formula Bool Bool Bool after_free formula_free link_free (Formula-F.If at p e f)
    ∙ both_true (is_free p) (is_free e && is_free f) (below.0 held.0) (both_true (is_free e) (is_free f) (below.1 held.1) (below.2 held.2))

on_formula : (x : Formula-F After Formula Link) → Below PA PF PL x → PF (roll-Formula x)
on_formula x below h =
    let here : LayerIsPrintable x = subst LayerIsPrintable (out-roll-Formula x) (every_here-Formula Anything LayerIsPrintable Anything (roll-Formula x) h) in
    let out = unlift IsPrintableAfter IsPrintable IsPrintableLink (out-Formula (roll-Formula x)) (every_held-Formula Anything LayerIsPrintable Anything (roll-Formula x) h) in
    let held : Below IsPrintableAfter IsPrintable IsPrintableLink x = subst (λ (y : Formula-F After Formula Link). Below IsPrintableAfter IsPrintable IsPrintableLink y) (out-roll-Formula x) out in
    layer_free x here held below

on_link : (x : Link-F After Formula Link) → BelowLink PA PF PL x → PL (roll-Link x)
on_link x below h c =
    let out = unlift_link IsPrintableAfter IsPrintable IsPrintableLink (out-Link (roll-Link x)) (every_held-Link Anything LayerIsPrintable Anything (roll-Link x) h) in
    let held : BelowLink IsPrintableAfter IsPrintable IsPrintableLink x = subst (λ (y : Link-F After Formula Link). BelowLink IsPrintableAfter IsPrintable IsPrintableLink y) (out-roll-Link x) out in
    let plain : is_comma x.operator ≡ false = subst (λ (y : Link-F After Formula Link). is_comma y.operator ≡ false) (out-roll-Link x) c in
    fold-roll-Link Bool Bool Bool after_free formula_free link_free x ∙ both_true (not (is_comma x.operator)) (is_free x.operand) (ap not plain) (below held)

after_layer_free : (x : After-F After Formula Link) → BelowAfter IsPrintableAfter IsPrintable IsPrintableLink x → BelowAfter PA PF PL x → is_free_after (roll-After x) ≡ true
after_layer_free (After-F.Converse at) held below = fold-roll-After Bool Bool Bool after_free formula_free link_free (After-F.Converse at)
after_layer_free (After-F.Apply at e) held below = fold-roll-After Bool Bool Bool after_free formula_free link_free (After-F.Apply at e) ∙ below held
after_layer_free (After-F.Image at e) held below = fold-roll-After Bool Bool Bool after_free formula_free link_free (After-F.Image at e) ∙ below held

on_after : (x : After-F After Formula Link) → BelowAfter PA PF PL x → PA (roll-After x)
on_after x below h =
    let out = unlift_after IsPrintableAfter IsPrintable IsPrintableLink (out-After (roll-After x)) (every_held-After Anything LayerIsPrintable Anything (roll-After x) h) in
    let held : BelowAfter IsPrintableAfter IsPrintable IsPrintableLink x = subst (λ (y : After-F After Formula Link). BelowAfter IsPrintableAfter IsPrintable IsPrintableLink y) (out-roll-After x) out in
    after_layer_free x held below

pub printable_free : (t : Formula) → IsPrintable t → is_free t ≡ true
printable_free = by_layers PA PF PL on_after on_formula on_link
