-- The symbols of a tree's canonical text are read as the tree.
use borrow.Author.Tests.{ltb-true}
use Rattle.std.proofs.Common.{◌≡◌, ◌≢◌, ◌<◌, ◌≤◌, ◌+◌, ℕ, zero, suc, Bool, true, false, cond, List, [], ◌∷◌, ◌++◌, map, refl, sym, ap, ◌∙◌, subst, arith, nat_le, nat_lt, eq-eqb}
use Rattle.std.proofs.lemmas.Bool.Decides.{nat_tests}
use Rattle.std.specs.List.{AllByRecursion}
use Rattle.b_ast.specs.declared.Operator.{Operator}
use Rattle.b_ast.specs.declared.Operator.TheVariants as operator
use Rattle.b_ast.specs.declared.Formula.{Formula, roll-Formula, out-Formula, map-Formula, fold-roll-Formula, out-roll-Formula, every_here-Formula, every_held-Formula}
use Rattle.b_ast.specs.declared.Formula.TheVariants as formula
use Rattle.b_ast.specs.declared.Link.{Link, roll-Link, out-Link, fold-roll-Link, out-roll-Link, every_held-Link}
use Rattle.b_ast.specs.declared.After.{After, roll-After, out-After, map-After, fold-roll-After, out-roll-After, every_held-After}
use Rattle.b_ast.specs.declared.After.TheOpen.{Formula-F, Link-F, After-F}
use Rattle.b_grammar.specs.declared.Mark.TheVariants as sign
use Rattle.b_grammar.specs.declared.Symbol.TheVariants as symbol
use Rattle.b_grammar.specs.Cuts.{IsHeaded}
use Rattle.b_grammar.specs.Grammar.{priority, plain, bracketed, IsCutAt, IsForm, IsAfter, IsRow, IsOperand, IsFormula}
use Rattle.b_print.specs.Spellings as print
use Rattle.b_reading_back.specs.Laws.{StandsForItself}
use Rattle.b_reading_back.specs.Places as places
use Rattle.b_reading_back.specs.Places.{nowhere, bare, bare_link, bare_after, bare_bounds}
use Rattle.b_reading_back.specs.Printable.{Anything, LayerIsPrintable, MayChain, operators, IsPrintable, IsPrintableLink, IsPrintableAfter}
use Rattle.b_reading_back.specs.Symbols as written
use Rattle.b_reading_back.specs.Symbols.{Row, Written, Joined, round, guarded, links, chain_binds, afters, symbols_at, after_symbols, link_symbols}
use Rattle.b_expand.proofs.Layers.{Below, BelowAfter, BelowLink, by_layers, unlift, unlift_link, unlift_after}
use Rattle.b_reading_back.proofs.Ways.{IsRead, within}
use Rattle.b_reading_back.proofs.Climbing.{row_alone, operand_alone, cut_alone, above, is_level, climb}
use Rattle.b_reading_back.proofs.Bare.{joined_link}
use Rattle.b_reading_back.proofs.Chains.{LinkIs, may_same, chain_read}
use Rattle.b_reading_back.proofs.Pieces as piece

-- ---- priorities

pub same_priority : (o : Operator) → print.priority o ≡ priority o
same_priority operator.Power = refl
same_priority o = refl

level_of : (o : Operator) → o ≢ operator.Comma → is_level (priority o) bracketed ≡ true
level_of operator.Comma e = absurd (e refl)
level_of o e = refl

above_none : (o : Operator) → o ≢ operator.Comma → nat_lt 0 (priority o) ≡ true
above_none operator.Comma e = absurd (e refl)
above_none o e = refl

same_list : (os : List Operator) → map (λ (x : Operator). x) os ≡ os
same_list [] = refl
same_list (o ∷ os) = ap (λ (l : List Operator). o ∷ l) (same_list os)

below_minus : (o : Operator) → nat_lt (print.priority o) 210 ≡ true
below_minus operator.Power = refl
below_minus o = refl

-- ---- one tree beside each neighbour

-- where so many brackets may be open, a tree is read beside each neighbour: in a chain, before forms and behind a minus
pub record ReadsAt (k : ℕ) (ss : Written) (b : Formula) : Type 0 where
  pub at_cut : (n : ℕ) → n < 210 → IsRead (IsCutAt (above n bracketed) (IsOperand (IsFormula k))) bare (ss n) b
  pub at_row : IsRead (IsRow (IsFormula k)) bare (ss 210) b
  pub at_form : IsRead (IsHeaded (IsForm (IsFormula k))) bare (ss 250) b

-- where enough brackets may be open
abbrev pub Good : Written → Formula → Type 0
Good ss b = (d : ℕ) × ((k : ℕ) → d ≤ k → ReadsAt k ss b)

pub inner_of : (k : ℕ) (ss : Written) (b : Formula) → ReadsAt k ss b → IsRead (IsFormula (suc k) bracketed) bare (ss 0) b
unfolding IsFormula
inner_of k ss b r = r.at_cut 0 (omega arith)

pub plain_of : (k : ℕ) (ss : Written) (b : Formula) → ReadsAt k ss b → IsRead (IsFormula (suc k) plain) bare (ss 20) b
unfolding IsFormula
plain_of k ss b r = r.at_cut 20 (omega arith)

round_of : (k : ℕ) (ss : Row) (b : Formula) → IsRead (IsCutAt bracketed (IsOperand (IsFormula k))) bare ss b → IsRead (IsHeaded (IsForm (IsFormula (suc k)))) bare (round ss) b
unfolding IsFormula
round_of k ss b r = piece.in_round (IsFormula (suc k)) ss b r

-- an operand is a row, and a piece at each level
form_in_row : (k : ℕ) (ss : Row) (b : Formula) → IsRead (IsHeaded (IsForm (IsFormula k))) bare ss b → IsRead (IsRow (IsFormula k)) bare ss b
form_in_row k ss b r = within (IsHeaded (IsForm (IsFormula k))) (IsRow (IsFormula k)) bare ss b (row_alone (IsFormula k)) r

row_in_operand : (k : ℕ) (ss : Row) (b : Formula) → IsRead (IsRow (IsFormula k)) bare ss b → IsRead (IsOperand (IsFormula k)) bare ss b
row_in_operand k ss b r = within (IsRow (IsFormula k)) (IsOperand (IsFormula k)) bare ss b (operand_alone (IsFormula k)) r

operand_in_cut : (k : ℕ) (levels : List ℕ) (ss : Row) (b : Formula) → IsRead (IsOperand (IsFormula k)) bare ss b → IsRead (IsCutAt levels (IsOperand (IsFormula k))) bare ss b
operand_in_cut k levels ss b r = within (IsOperand (IsFormula k)) (IsCutAt levels (IsOperand (IsFormula k))) bare ss b (cut_alone levels (IsOperand (IsFormula k))) r

form_in_cut : (k : ℕ) (levels : List ℕ) (ss : Row) (b : Formula) → IsRead (IsHeaded (IsForm (IsFormula k))) bare ss b → IsRead (IsCutAt levels (IsOperand (IsFormula k))) bare ss b
form_in_cut k levels ss b r = operand_in_cut k levels ss b (row_in_operand k ss b (form_in_row k ss b r))

-- ---- trees by what is outermost

from_forms : (d : ℕ) (ss : Row) (b : Formula) → ((k : ℕ) → d ≤ k → IsRead (IsHeaded (IsForm (IsFormula k))) bare ss b) → Good (λ n. ss) b
from_forms d ss b f = (d, λ k h. record { at_cut = λ n small. form_in_cut k (above n bracketed) ss b (f k h); at_row = form_in_row k ss b (f k h); at_form = f k h })

open_at : (own n : ℕ) (ss : Row) → n < own → guarded own ss n ≡ ss
open_at own n ss h = let no : nat_le own n ≡ false = grind (arith, nat_tests) in ap (λ (t : Bool). cond t (round ss) ss) no

shut_at : (own n : ℕ) (ss : Row) → own ≤ n → guarded own ss n ≡ round ss
shut_at own n ss h = let yes : nat_le own n ≡ true = grind (arith, nat_tests) in ap (λ (t : Bool). cond t (round ss) ss) yes

from_rows : (d : ℕ) (ss : Row) (b : Formula) → ((k : ℕ) → d ≤ k → IsRead (IsRow (IsFormula k)) bare ss b) → Good (guarded 250 ss) b
from_rows d ss b f = (suc d, go)
  where
    go : (k : ℕ) → suc d ≤ k → ReadsAt k (guarded 250 ss) b
    go zero h = absurd (omega arith)
    go (suc k) h = record {
      at_cut = λ n small. subst (λ (l : Row). IsRead (IsCutAt (above n bracketed) (IsOperand (IsFormula (suc k)))) bare l b) (sym (open_at 250 n ss (omega arith))) (operand_in_cut (suc k) (above n bracketed) ss b (row_in_operand (suc k) ss b (f (suc k) (omega arith))));
      at_row = f (suc k) (omega arith);
      at_form = round_of k ss b (operand_in_cut k bracketed ss b (row_in_operand k ss b (f k (omega arith))));
    }

from_operands : (d : ℕ) (ss : Row) (b : Formula) → ((k : ℕ) → d ≤ k → IsRead (IsOperand (IsFormula k)) bare ss b) → Good (guarded 210 ss) b
from_operands d ss b f = (suc d, go)
  where
    go : (k : ℕ) → suc d ≤ k → ReadsAt k (guarded 210 ss) b
    go zero h = absurd (omega arith)
    go (suc k) h =
        let in_round : IsRead (IsHeaded (IsForm (IsFormula (suc k)))) bare (round ss) b = round_of k ss b (operand_in_cut k bracketed ss b (f k (omega arith))) in
        record {
          at_cut = λ n small. subst (λ (l : Row). IsRead (IsCutAt (above n bracketed) (IsOperand (IsFormula (suc k)))) bare l b) (sym (open_at 210 n ss small)) (operand_in_cut (suc k) (above n bracketed) ss b (f (suc k) (omega arith)));
          at_row = form_in_row (suc k) (round ss) b in_round;
          at_form = in_round;
        }

from_cuts : (p d : ℕ) (ss : Row) (b : Formula) → is_level p bracketed ≡ true → 0 < p → p < 210
    → ((k : ℕ) → d ≤ k → IsRead (IsCutAt (p ∷ above p bracketed) (IsOperand (IsFormula k))) bare ss b) → Good (guarded p ss) b
from_cuts p d ss b level positive small f = (suc d, go)
  where
    go : (k : ℕ) → suc d ≤ k → ReadsAt k (guarded p ss) b
    go zero h = absurd (omega arith)
    go (suc k) h =
        let inside : IsRead (IsCutAt bracketed (IsOperand (IsFormula k))) bare ss b =
        within (IsCutAt (p ∷ above p bracketed) (IsOperand (IsFormula k))) (IsCutAt bracketed (IsOperand (IsFormula k))) bare ss b (climb bracketed p 0 (IsOperand (IsFormula k)) refl level positive) (f k (omega arith)) in
        let in_round : IsRead (IsHeaded (IsForm (IsFormula (suc k)))) bare (round ss) b = round_of k ss b inside in
        record {
          at_cut = λ n less. cut n (nat_lt n p) refl in_round;
          at_row = subst (λ (l : Row). IsRead (IsRow (IsFormula (suc k))) bare l b) (sym (shut_at p 210 ss (omega arith))) (form_in_row (suc k) (round ss) b in_round);
          at_form = subst (λ (l : Row). IsRead (IsHeaded (IsForm (IsFormula (suc k)))) bare l b) (sym (shut_at p 250 ss (omega arith))) in_round;
        }
      where
        cut : (n : ℕ) (t : Bool) → nat_lt n p ≡ t → IsRead (IsHeaded (IsForm (IsFormula (suc k)))) bare (round ss) b → IsRead (IsCutAt (above n bracketed) (IsOperand (IsFormula (suc k)))) bare (guarded p ss n) b
        cut n true e r =
            let less : n < p = ltb-true n p e in
            subst (λ (l : Row). IsRead (IsCutAt (above n bracketed) (IsOperand (IsFormula (suc k)))) bare l b) (sym (open_at p n ss less))
            (within (IsCutAt (p ∷ above p bracketed) (IsOperand (IsFormula (suc k)))) (IsCutAt (above n bracketed) (IsOperand (IsFormula (suc k)))) bare ss b (climb bracketed p n (IsOperand (IsFormula (suc k))) refl level less) (f (suc k) (omega arith)))
        cut n false e r =
            let more : p ≤ n = grind (arith, nat_tests) in
            subst (λ (l : Row). IsRead (IsCutAt (above n bracketed) (IsOperand (IsFormula (suc k)))) bare l b) (sym (shut_at p n ss more)) (form_in_cut (suc k) (above n bracketed) (round ss) b r)

-- ---- lists of parts

common : {A : Type 0} (Q : ℕ → A → Type 0) (xs : List A) → AllByRecursion (λ x. (d : ℕ) × ((k : ℕ) → d ≤ k → Q k x)) xs → (d : ℕ) × ((k : ℕ) → d ≤ k → AllByRecursion (Q k) xs)
common Q [] h = (0, λ k less. tt)
common Q (x ∷ xs) h =
    let r = common Q xs h.1 in
    let a = h.0 in
    (a.0 + r.0, λ k less. (a.1 k (omega arith), r.1 k (omega arith)))

abbrev PF : Formula → Type 0
PF t = IsPrintable t → Good (symbols_at t) (bare t)

abbrev PA : After → Type 0
PA a = IsPrintableAfter a → (d : ℕ) × ((k : ℕ) → d ≤ k → IsRead (IsHeaded (IsAfter (IsFormula k))) bare_after (after_symbols a) (bare_after a))

record LinkGood (k : ℕ) (l : Link) : Type 0 where
  operand : Formula
  operator_is : (link_symbols l).0 ≡ (out-Link l).operator
  is : bare_link l ≡ joined_link (link_symbols l).0 operand
  reads : IsRead (IsCutAt (above (print.priority (link_symbols l).0) bracketed) (IsOperand (IsFormula k))) bare (link_symbols l).1 operand

abbrev PL : Link → Type 0
PL l = IsPrintableLink l → (d : ℕ) × ((k : ℕ) → d ≤ k → LinkGood k l)

-- what holds of each part that is printable holds of each part of a printable list
use_all : {A : Type 0} (P Q : A → Type 0) (xs : List A) → AllByRecursion P xs → AllByRecursion (λ x. P x → Q x) xs → AllByRecursion Q xs
use_all P Q [] p q = tt
use_all P Q (x ∷ xs) p q = (q.0 p.0, use_all P Q xs p.1 q.1)

abbrev InnerAt : ℕ → Formula → Type 0
InnerAt k u = IsRead (IsFormula k bracketed) bare (symbols_at u 0) (bare u)

inner_good : (u : Formula) → Good (symbols_at u) (bare u) → (d : ℕ) × ((k : ℕ) → d ≤ k → InnerAt k u)
inner_good u g = (suc g.0, go)
  where
    go : (k : ℕ) → suc g.0 ≤ k → InnerAt k u
    go zero h = absurd (omega arith)
    go (suc k) h = inner_of k (symbols_at u) (bare u) (g.1 k (omega arith))

plain_good : (u : Formula) → Good (symbols_at u) (bare u) → (d : ℕ) × ((k : ℕ) → d ≤ k → IsRead (IsFormula k plain) bare (symbols_at u 20) (bare u))
plain_good u g = (suc g.0, go)
  where
    go : (k : ℕ) → suc g.0 ≤ k → IsRead (IsFormula k plain) bare (symbols_at u 20) (bare u)
    go zero h = absurd (omega arith)
    go (suc k) h = plain_of k (symbols_at u) (bare u) (g.1 k (omega arith))

each_inner : (us : List Formula) → AllByRecursion (λ u. Good (symbols_at u) (bare u)) us → AllByRecursion (λ u. (d : ℕ) × ((k : ℕ) → d ≤ k → InnerAt k u)) us
each_inner [] h = tt
each_inner (u ∷ us) h = (inner_good u h.0, each_inner us h.1)

list_good : (us : List Formula) → AllByRecursion IsPrintable us → AllByRecursion PF us → (d : ℕ) × ((k : ℕ) → d ≤ k → AllByRecursion (InnerAt k) us)
list_good us p h = common InnerAt us (each_inner us (use_all IsPrintable (λ u. Good (symbols_at u) (bare u)) us p h))

-- ---- layers

abbrev symbols_step : Formula-F After Formula Link → Written
symbols_step x = written.formula_step (map-Formula After Formula Link Row Written Joined after_symbols symbols_at link_symbols x)

abbrev bare_step : Formula-F After Formula Link → Formula
bare_step x = places.formula_step (map-Formula After Formula Link After Formula Link bare_after bare bare_link x)

on_link : (x : Link-F After Formula Link) → BelowLink PA PF PL x → PL (roll-Link x)
on_link x below h = (g.0, go)
  where
    part : IsPrintable x.operand
    part =
        let held = unlift_link IsPrintableAfter IsPrintable IsPrintableLink (out-Link (roll-Link x)) (every_held-Link Anything LayerIsPrintable Anything (roll-Link x) h) in
        subst (λ (y : Link-F After Formula Link). BelowLink IsPrintableAfter IsPrintable IsPrintableLink y) (out-roll-Link x) held

    g : Good (symbols_at x.operand) (bare x.operand)
    g = below part

    wrote : link_symbols (roll-Link x) ≡ (x.operator, symbols_at x.operand (print.priority x.operator))
    wrote = fold-roll-Link Row Written Joined written.after_step written.formula_step written.link_step x

    looks : bare_link (roll-Link x) ≡ joined_link x.operator (bare x.operand)
    looks = fold-roll-Link After Formula Link places.after_step places.formula_step places.link_step x

    go : (k : ℕ) → g.0 ≤ k → LinkGood k (roll-Link x)
    go k less = record {
      operand = bare x.operand;
      operator_is = ap (λ (j : Joined). j.0) wrote ∙ ap (λ (y : Link-F After Formula Link). y.operator) (sym (out-roll-Link x));
      is = looks ∙ ap (λ (j : Joined). joined_link j.0 (bare x.operand)) (sym wrote);
      reads = subst (λ (j : Joined). IsRead (IsCutAt (above (print.priority j.0) bracketed) (IsOperand (IsFormula k))) bare j.1 (bare x.operand)) (sym wrote)
          ((g.1 k less).at_cut (print.priority x.operator) (ltb-true (print.priority x.operator) 210 (below_minus x.operator)));
    }

abbrev AfterGood : Row → After → Type 0
AfterGood ss a = (d : ℕ) × ((k : ℕ) → d ≤ k → IsRead (IsHeaded (IsAfter (IsFormula k))) bare_after ss a)

on_after : (x : After-F After Formula Link) → BelowAfter PA PF PL x → PA (roll-After x)
on_after x below h =
    let out = unlift_after IsPrintableAfter IsPrintable IsPrintableLink (out-After (roll-After x)) (every_held-After Anything LayerIsPrintable Anything (roll-After x) h) in
    let held = subst (λ (y : After-F After Formula Link). BelowAfter IsPrintableAfter IsPrintable IsPrintableLink y) (out-roll-After x) out in
    subst (λ (ss : Row). AfterGood ss (bare_after (roll-After x))) (sym (fold-roll-After Row Written Joined written.after_step written.formula_step written.link_step x))
    (subst (λ (a : After). AfterGood (written.after_step (map-After After Formula Link Row Written Joined after_symbols symbols_at link_symbols x)) a)
    (sym (fold-roll-After After Formula Link places.after_step places.formula_step places.link_step x))
    (go x held below))
  where
    go : (x : After-F After Formula Link) → BelowAfter IsPrintableAfter IsPrintable IsPrintableLink x → BelowAfter PA PF PL x
        → AfterGood (written.after_step (map-After After Formula Link Row Written Joined after_symbols symbols_at link_symbols x)) (places.after_step (map-After After Formula Link After Formula Link bare_after bare bare_link x))
    go (After-F.Converse at) held below = (0, λ k less. piece.converse (IsFormula k))
    go (After-F.Apply at e) held below = let g = inner_good e (below held) in (g.0, λ k less. piece.apply (IsFormula k) (symbols_at e 0) (bare e) (g.1 k less))
    go (After-F.Image at e) held below = let g = inner_good e (below held) in (g.0, λ k less. piece.image (IsFormula k) (symbols_at e 0) (bare e) (g.1 k less))

-- ---- chains

abbrev ChainIs : ℕ → Written → List Link → Formula → Type 0
ChainIs q e ls b = Good (guarded q (e q ++ links (map link_symbols ls))) b

-- the operators of links with the priority of the first
levels_same : (o : Operator) (k : ℕ) (ls : List Link) → AllByRecursion (λ q. priority q ≡ priority o) (operators ls) → AllByRecursion (LinkGood k) ls
    → AllByRecursion (LinkIs (priority o) (IsCutAt (above (priority o) bracketed) (IsOperand (IsFormula k)))) ls
levels_same o k [] h g = tt
levels_same o k (l ∷ ls) h g =
    let same : priority (link_symbols l).0 ≡ priority o = ap priority g.0.operator_is ∙ h.0 in
    let as_printed : print.priority (link_symbols l).0 ≡ priority o = same_priority (link_symbols l).0 ∙ same in (
      record {
        operand = g.0.operand;
        level = eq-eqb (priority (link_symbols l).0) (priority o) same;
        is = g.0.is;
        reads = subst (λ (n : ℕ). IsRead (IsCutAt (above n bracketed) (IsOperand (IsFormula k))) bare (link_symbols l).1 g.0.operand) as_printed g.0.reads;
      },
      levels_same o k ls h.1 g.1,
    )

chain_good : (e : Formula) (l : Link) (ls : List Link) → MayChain (operators (l ∷ ls)) → Good (symbols_at e) (bare e) → (d : ℕ) × ((k : ℕ) → d ≤ k → AllByRecursion (LinkGood k) (l ∷ ls))
    → Good (written.chain (symbols_at e) (map link_symbols (l ∷ ls))) (formula.Chain (bare e) (map bare_link (l ∷ ls)))
chain_good e l ls may g r =
    subst (λ (q : ℕ). ChainIs q (symbols_at e) (l ∷ ls) (formula.Chain (bare e) (map bare_link (l ∷ ls)))) (sym printed)
    (from_cuts (priority (out-Link l).operator) (g.0 + r.0) (symbols_at e (priority (out-Link l).operator) ++ links (map link_symbols (l ∷ ls))) (formula.Chain (bare e) (map bare_link (l ∷ ls))) level positive small chained)
  where
    operator_is : (link_symbols l).0 ≡ (out-Link l).operator
    operator_is = (r.1 r.0 (omega arith)).0.operator_is

    printed : print.priority (link_symbols l).0 ≡ priority (out-Link l).operator
    printed = same_priority (link_symbols l).0 ∙ ap priority operator_is

    level : is_level (priority (out-Link l).operator) bracketed ≡ true
    level = level_of (out-Link l).operator may.0

    small : priority (out-Link l).operator < 210
    small = subst (λ (n : ℕ). n < 210) (same_priority (out-Link l).operator) (ltb-true (print.priority (out-Link l).operator) 210 (below_minus (out-Link l).operator))

    positive : 0 < priority (out-Link l).operator
    positive = ltb-true 0 (priority (out-Link l).operator) (above_none (out-Link l).operator may.0)

    chained : (k : ℕ) → g.0 + r.0 ≤ k
        → IsRead (IsCutAt (priority (out-Link l).operator ∷ above (priority (out-Link l).operator) bracketed) (IsOperand (IsFormula k))) bare (symbols_at e (priority (out-Link l).operator) ++ links (map link_symbols (l ∷ ls))) (formula.Chain (bare e) (map bare_link (l ∷ ls)))
    chained k less =
        let q = priority (out-Link l).operator in
        let small_q : q < 210 = small in
        chain_read q (IsCutAt (above q bracketed) (IsOperand (IsFormula k))) (symbols_at e q) (bare e) (l ∷ ls) (λ i. absurd (cc))
        (may_same (λ (m : Link). (out-Link m).operator) (λ (x : Operator). x) q (l ∷ ls) (operators (l ∷ ls)) (sym (same_list (operators (l ∷ ls)))) may.2)
        ((g.1 k (omega arith)).at_cut q small_q)
        (levels_same (out-Link l).operator k (l ∷ ls) (refl, may.1) (r.1 k (omega arith)))

chain_of_links : (e : Formula) (ls : List Link) → MayChain (operators ls) → Good (symbols_at e) (bare e) → (d : ℕ) × ((k : ℕ) → d ≤ k → AllByRecursion (LinkGood k) ls)
    → Good (written.chain (symbols_at e) (map link_symbols ls)) (formula.Chain (bare e) (map bare_link ls))
chain_of_links e [] may g r = absurd may
chain_of_links e (l ∷ ls) may g r = chain_good e l ls may g r

-- ---- the induction

abbrev LayerGood : Formula-F After Formula Link → Type 0
LayerGood x = Good (symbols_step x) (bare_step x)

layer_good : (x : Formula-F After Formula Link) → LayerIsPrintable x → Below IsPrintableAfter IsPrintable IsPrintableLink x → Below PA PF PL x → LayerGood x
layer_good (Formula-F.Number at n) here held below = from_forms 0 (symbol.Number n ∷ []) (formula.Number nowhere n) (λ k less. piece.number (IsFormula k) n)
layer_good (Formula-F.Text at s) here held below = from_forms 0 (symbol.Text s ∷ []) (formula.Text nowhere s) (λ k less. piece.text (IsFormula k) s)
layer_good (Formula-F.Name at x) here held below = from_forms 0 (symbol.Name x ∷ []) (formula.Name nowhere x) (λ k less. piece.name (IsFormula k) x)
layer_good (Formula-F.Old at x) here held below = from_forms 0 (symbol.Name x ∷ symbol.Mark sign.Old ∷ []) (formula.Old nowhere x) (λ k less. piece.old (IsFormula k) x)
layer_good (Formula-F.Constant at c) here held below = from_forms 0 (symbol.Constant c ∷ []) (formula.Constant nowhere c) (λ k less. piece.constant (IsFormula k) c)
layer_good (Formula-F.Negative at e) here held below =
    let g : Good (symbols_at e) (bare e) = below held in
    from_operands g.0 (symbol.Operator operator.Minus ∷ symbols_at e 210) (formula.Negative nowhere (bare e)) (λ k less. piece.negative (IsFormula k) (symbols_at e 210) (bare e) (g.1 k less).at_row)
layer_good (Formula-F.Chain e ls) here held below =
    chain_of_links e ls here (below.0 held.0) (common LinkGood ls (use_all IsPrintableLink (λ l. (d : ℕ) × ((k : ℕ) → d ≤ k → LinkGood k l)) ls held.1 below.1))
layer_good (Formula-F.Row e fs) here held below =
    let g : Good (symbols_at e) (bare e) = below.0 held.0 in
    let r = common (λ k a. IsRead (IsHeaded (IsAfter (IsFormula k))) bare_after (after_symbols a) (bare_after a)) fs
    (use_all IsPrintableAfter (λ a. (d : ℕ) × ((k : ℕ) → d ≤ k → IsRead (IsHeaded (IsAfter (IsFormula k))) bare_after (after_symbols a) (bare_after a))) fs held.1 below.1) in
    from_rows (g.0 + r.0) (symbols_at e 250 ++ afters (map after_symbols fs)) (formula.Row (bare e) (map bare_after fs))
    (λ k less. piece.with_forms (IsFormula k) (symbols_at e 250) (bare e) fs here (g.1 k (omega arith)).at_form (r.1 k (omega arith)))
layer_good (Formula-F.Call at f us) here held below =
    let r = list_good us held below in
    from_forms r.0 (symbol.Function f ∷ symbol.Mark sign.RoundOpen ∷ written.ended (written.commas (map symbols_at us)) sign.RoundClose) (formula.Call nowhere f (map bare us)) (λ k less. piece.call (IsFormula k) f us here (r.1 k less))
layer_good (Formula-F.Set at us) here held below =
    let r = list_good us held below in
    from_forms r.0 (symbol.Mark sign.CurlyOpen ∷ written.ended (written.commas (map symbols_at us)) sign.CurlyClose) (formula.Set nowhere (map bare us)) (λ k less. piece.set (IsFormula k) us (r.1 k less))
layer_good (Formula-F.Sequence at us) here held below =
    let r = list_good us held below in
    from_forms r.0 (symbol.Mark sign.SquareOpen ∷ written.ended (written.commas (map symbols_at us)) sign.SquareClose) (formula.Sequence nowhere (map bare us)) (λ k less. piece.sequence (IsFormula k) us (r.1 k less))
layer_good (Formula-F.Comprehension at ns p) here held below =
    let r = inner_good p (below held) in
    from_forms r.0 (symbol.Mark sign.CurlyOpen ∷ (written.names_to sign.Bar ns ++ written.ended (symbols_at p 0) sign.CurlyClose)) (formula.Comprehension nowhere (bare_bounds ns) (bare p))
    (λ k less. piece.comprehension (IsFormula k) ns (symbols_at p 0) (bare p) here.0 (r.1 k less))
layer_good (Formula-F.Quantified at q ns p) here held below =
    let r = inner_good p (below held) in
    from_forms r.0 (symbol.Quantifier q ∷ (written.binder_names ns ++ written.ended (symbols_at p 0) sign.RoundClose)) (formula.Quantified nowhere q (bare_bounds ns) (bare p))
    (λ k less. piece.quantified (IsFormula k) q ns (symbols_at p 0) (bare p) here.0 (r.1 k less))
layer_good (Formula-F.Collected at c ns p e) here held below =
    let r = inner_good p (below.0 held.0) in
    let s = inner_good e (below.1 held.1) in
    from_forms (r.0 + s.0) (symbol.Collector c ∷ (written.collector_names c ns ++ (written.ended (symbols_at p 0) sign.Bar ++ written.ended (symbols_at e 0) sign.RoundClose))) (formula.Collected nowhere c (bare_bounds ns) (bare p) (bare e))
    (λ k less. piece.collected (IsFormula k) c ns (symbols_at p 0) (symbols_at e 0) (bare p) (bare e) here.0 (r.1 k (omega arith)) (s.1 k (omega arith)))
layer_good (Formula-F.If at p e f) here held below =
    let r = plain_good p (below.0 held.0) in
    let s = plain_good e (below.1 held.1) in
    let q = plain_good f (below.2 held.2) in
    from_forms (r.0 + s.0 + q.0) (symbol.Mark sign.If ∷ (written.ended (symbols_at p 20) sign.Then ++ (written.ended (symbols_at e 20) sign.Else ++ written.ended (symbols_at f 20) sign.End))) (formula.If nowhere (bare p) (bare e) (bare f))
    (λ k less. piece.conditional (IsFormula k) (symbols_at p 20) (symbols_at e 20) (symbols_at f 20) (bare p) (bare e) (bare f) (r.1 k (omega arith)) (s.1 k (omega arith)) (q.1 k (omega arith)))

on_formula : (x : Formula-F After Formula Link) → Below PA PF PL x → PF (roll-Formula x)
on_formula x below h =
    let here : LayerIsPrintable x = subst LayerIsPrintable (out-roll-Formula x) (every_here-Formula Anything LayerIsPrintable Anything (roll-Formula x) h) in
    let out = unlift IsPrintableAfter IsPrintable IsPrintableLink (out-Formula (roll-Formula x)) (every_held-Formula Anything LayerIsPrintable Anything (roll-Formula x) h) in
    let held : Below IsPrintableAfter IsPrintable IsPrintableLink x = subst (λ (y : Formula-F After Formula Link). Below IsPrintableAfter IsPrintable IsPrintableLink y) (out-roll-Formula x) out in
    subst (λ (ss : Written). Good ss (bare (roll-Formula x))) (sym (fold-roll-Formula Row Written Joined written.after_step written.formula_step written.link_step x))
    (subst (λ (b : Formula). Good (symbols_step x) b) (sym (fold-roll-Formula After Formula Link places.after_step places.formula_step places.link_step x)) (layer_good x here held below))

pub is_good : (t : Formula) → IsPrintable t → Good (symbols_at t) (bare t)
is_good t = by_layers PA PF PL on_after on_formula on_link t

pub itself : StandsForItself
itself t h ts e =
    let g = is_good t h in
    let x = (plain_of g.0 (symbols_at t) (bare t) (g.1 g.0 (omega arith))).read ts e in
    (x.0, (suc g.0, x.1), x.2)
