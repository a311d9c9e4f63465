-- The places of a formula are those of its lexemes. So where no lexeme has more than 100 open brackets behind it, no
-- place of the formula has.
use Rattle.std.proofs.Common.{◌≡◌, inl, inr, ◌≤◌, ◌==◌, ℕ, zero, suc, Bool, true, false, ◌||◌, List, [], ◌∷◌, ◌++◌, map, max, length, Option, Some, None, arith, refl, sym, ap, ◌∙◌, subst}
use Rattle.std.specs.Prelude.{nat_lt}
use Rattle.std.specs.List.{AllByRecursion}
use Rattle.b_ast.specs.declared.Place.{Place}
use Rattle.b_ast.specs.declared.Bound.{Bound}
use Rattle.b_ast.specs.declared.Constant.{Constant}
use Rattle.b_ast.specs.declared.Function.{Function}
use Rattle.b_ast.specs.declared.Quantifier.{Quantifier}
use Rattle.b_ast.specs.declared.Collector.{Collector}
use Rattle.b_ast.specs.declared.Operator.{Operator}
use Rattle.b_ast.specs.declared.Operator.TheVariants as operator
use Rattle.b_ast.specs.declared.Formula.{Formula, fold-roll-Formula}
use Rattle.b_ast.specs.declared.Formula.TheVariants as formula
use Rattle.b_ast.specs.declared.Link.{Link, fold-roll-Link}
use Rattle.b_ast.specs.declared.After.{After, fold-roll-After}
use Rattle.b_ast.specs.declared.After.TheVariants as after
use Rattle.b_ast.specs.declared.After.TheOpen.{Formula-F, After-F}
use Rattle.b_expand.specs.Places.{deepest, depth_of_link, depth_of_after, greatest, names_depth, after_depth, formula_depth, link_depth}
use Rattle.b_grammar.specs.declared.Mark.{Mark}
use Rattle.b_grammar.specs.declared.Mark.TheVariants as sign
use Rattle.b_grammar.specs.declared.Symbol.{Symbol}
use Rattle.b_grammar.specs.declared.Symbol.TheVariants as symbol
use Rattle.b_grammar.specs.declared.Lexeme.{Lexeme}
use Rattle.b_grammar.specs.Cuts.{Stands, mark, IsNever, IsDone, IsHeaded, IsEnded, IsPair, IsEach, IsMade, IsSuch}
use Rattle.b_grammar.specs.Grammar.{priority, plain, bracketed, may_chain, arity, Part, link, chain, row, Listed, items, joined, Names, names_to_bar, names_to_dot, after_dot, named, and_name, bound_names, is_minus, IsAfterNames, IsPart, IsChain, IsCutAt, IsNext, IsList, IsListing, IsCurlyBy, IsCurly, IsConditional, IsMarked, IsCall, IsOld, IsForm, IsAfter, IsRow, IsSigned, IsOperand, IsFormula, IsFormulaText}
use Rattle.b_parse_expr.specs.Parsing.{is_deep}

-- ---- what is shallow

abbrev pub AreShallow : List Lexeme → Type 0
AreShallow ts = AllByRecursion (λ (s : Lexeme). s.at.depth ≤ 100) ts

abbrev pub IsShallow : Formula → Type 0
IsShallow t = deepest t ≤ 100

abbrev pub IsShallowLink : Link → Type 0
IsShallowLink l = depth_of_link l ≤ 100

abbrev pub IsShallowAfter : After → Type 0
IsShallowAfter f = depth_of_after f ≤ 100

abbrev IsShallowPart : Part → Type 0
IsShallowPart l = (l.1.depth ≤ 100) × IsShallow l.2

abbrev IsShallowItem : Place × Formula → Type 0
IsShallowItem u = (u.0.depth ≤ 100) × IsShallow u.1

abbrev AreShallowListed : Listed → Type 0
AreShallowListed us = IsShallow us.0 × AllByRecursion IsShallowItem us.1

abbrev AreShallowNames : List Bound → Type 0
AreShallowNames bs = AllByRecursion (λ (b : Bound). b.at.depth ≤ 100) bs

front_of : (xs ys : List Lexeme) → AreShallow (xs ++ ys) → AreShallow xs
front_of [] ys h = tt
front_of (x ∷ xs) ys h = (h.0, front_of xs ys h.1)

back_of : (xs ys : List Lexeme) → AreShallow (xs ++ ys) → AreShallow ys
back_of [] ys h = h
back_of (x ∷ xs) ys h = back_of xs ys h.1

pub shallow_lexemes : (ts : List Lexeme) → is_deep ts ≡ false → AreShallow ts
shallow_lexemes [] e = tt
shallow_lexemes (s ∷ ts) e = go (nat_lt 100 s.at.depth) refl e (shallow_lexemes ts)
  where
    few : (n : ℕ) → nat_lt 100 n ≡ false → n ≤ 100
    few n f = grind arith

    go : (b : Bool) → nat_lt 100 s.at.depth ≡ b → (b || is_deep ts) ≡ false → (is_deep ts ≡ false → AreShallow ts) → AreShallow (s ∷ ts)
    go true f g more = absurd (cc)
    go false f g more = (few s.at.depth f, more g)

-- ---- depths of trees from those of their parts

pub greatest_within : (m : ℕ) (ns : List ℕ) → m ≤ 100 → AllByRecursion (λ (n : ℕ). n ≤ 100) ns → greatest m ns ≤ 100
greatest_within m [] h k = h
greatest_within m (n ∷ ns) h k = let both : max m n ≤ 100 = (let l = k.0 in omega arith) in greatest_within (max m n) ns both k.1

depths_within : {X : Type 0} (d : X → ℕ) (xs : List X) → AllByRecursion (λ x. d x ≤ 100) xs → AllByRecursion (λ (n : ℕ). n ≤ 100) (map d xs)
depths_within d [] k = tt
depths_within d (x ∷ xs) k = (k.0, depths_within d xs k.1)

within : (m n : ℕ) → m ≡ n → n ≤ 100 → m ≤ 100
within m n e h = subst (λ (k : ℕ). k ≤ 100) (sym e) h

pub deepest-Number : (at : Place) (n : ℕ) → deepest (formula.Number at n) ≡ at.depth
deepest-Number at n = ap deepest (sym (formula.rolls-Number at n)) ∙ fold-roll-Formula ℕ ℕ ℕ after_depth formula_depth link_depth (Formula-F.Number at n)

pub deepest-Text : (at : Place) (s : List ℕ) → deepest (formula.Text at s) ≡ at.depth
deepest-Text at s = ap deepest (sym (formula.rolls-Text at s)) ∙ fold-roll-Formula ℕ ℕ ℕ after_depth formula_depth link_depth (Formula-F.Text at s)

pub deepest-Name : (at : Place) (s : List ℕ) → deepest (formula.Name at s) ≡ at.depth
deepest-Name at s = ap deepest (sym (formula.rolls-Name at s)) ∙ fold-roll-Formula ℕ ℕ ℕ after_depth formula_depth link_depth (Formula-F.Name at s)

pub deepest-Old : (at : Place) (s : List ℕ) → deepest (formula.Old at s) ≡ at.depth
deepest-Old at s = ap deepest (sym (formula.rolls-Old at s)) ∙ fold-roll-Formula ℕ ℕ ℕ after_depth formula_depth link_depth (Formula-F.Old at s)

pub deepest-Constant : (at : Place) (c : Constant) → deepest (formula.Constant at c) ≡ at.depth
deepest-Constant at c = ap deepest (sym (formula.rolls-Constant at c)) ∙ fold-roll-Formula ℕ ℕ ℕ after_depth formula_depth link_depth (Formula-F.Constant at c)

pub deepest-Negative : (at : Place) (e : Formula) → deepest (formula.Negative at e) ≡ max at.depth (deepest e)
deepest-Negative at e = ap deepest (sym (formula.rolls-Negative at e)) ∙ fold-roll-Formula ℕ ℕ ℕ after_depth formula_depth link_depth (Formula-F.Negative at e)

pub deepest-Chain : (e : Formula) (ls : List Link) → deepest (formula.Chain e ls) ≡ greatest (deepest e) (map depth_of_link ls)
deepest-Chain e ls = ap deepest (sym (formula.rolls-Chain e ls)) ∙ fold-roll-Formula ℕ ℕ ℕ after_depth formula_depth link_depth (Formula-F.Chain e ls)

pub deepest-Row : (e : Formula) (fs : List After) → deepest (formula.Row e fs) ≡ greatest (deepest e) (map depth_of_after fs)
deepest-Row e fs = ap deepest (sym (formula.rolls-Row e fs)) ∙ fold-roll-Formula ℕ ℕ ℕ after_depth formula_depth link_depth (Formula-F.Row e fs)

pub deepest-Call : (at : Place) (f : Function) (us : List Formula) → deepest (formula.Call at f us) ≡ greatest at.depth (map deepest us)
deepest-Call at f us = ap deepest (sym (formula.rolls-Call at f us)) ∙ fold-roll-Formula ℕ ℕ ℕ after_depth formula_depth link_depth (Formula-F.Call at f us)

pub deepest-Set : (at : Place) (us : List Formula) → deepest (formula.Set at us) ≡ greatest at.depth (map deepest us)
deepest-Set at us = ap deepest (sym (formula.rolls-Set at us)) ∙ fold-roll-Formula ℕ ℕ ℕ after_depth formula_depth link_depth (Formula-F.Set at us)

pub deepest-Sequence : (at : Place) (us : List Formula) → deepest (formula.Sequence at us) ≡ greatest at.depth (map deepest us)
deepest-Sequence at us = ap deepest (sym (formula.rolls-Sequence at us)) ∙ fold-roll-Formula ℕ ℕ ℕ after_depth formula_depth link_depth (Formula-F.Sequence at us)

pub deepest-Comprehension : (at : Place) (ns : List Bound) (p : Formula) → deepest (formula.Comprehension at ns p) ≡ max (names_depth at ns) (deepest p)
deepest-Comprehension at ns p = ap deepest (sym (formula.rolls-Comprehension at ns p)) ∙ fold-roll-Formula ℕ ℕ ℕ after_depth formula_depth link_depth (Formula-F.Comprehension at ns p)

pub deepest-Quantified : (at : Place) (q : Quantifier) (ns : List Bound) (p : Formula) → deepest (formula.Quantified at q ns p) ≡ max (names_depth at ns) (deepest p)
deepest-Quantified at q ns p = ap deepest (sym (formula.rolls-Quantified at q ns p)) ∙ fold-roll-Formula ℕ ℕ ℕ after_depth formula_depth link_depth (Formula-F.Quantified at q ns p)

pub deepest-Collected : (at : Place) (c : Collector) (ns : List Bound) (p e : Formula) → deepest (formula.Collected at c ns p e) ≡ max (names_depth at ns) (max (deepest p) (deepest e))
deepest-Collected at c ns p e = ap deepest (sym (formula.rolls-Collected at c ns p e)) ∙ fold-roll-Formula ℕ ℕ ℕ after_depth formula_depth link_depth (Formula-F.Collected at c ns p e)

pub deepest-If : (at : Place) (p e f : Formula) → deepest (formula.If at p e f) ≡ max at.depth (max (deepest p) (max (deepest e) (deepest f)))
deepest-If at p e f = ap deepest (sym (formula.rolls-If at p e f)) ∙ fold-roll-Formula ℕ ℕ ℕ after_depth formula_depth link_depth (Formula-F.If at p e f)

pub depth-Converse : (at : Place) → depth_of_after (after.Converse at) ≡ at.depth
depth-Converse at = ap depth_of_after (sym (after.rolls-Converse at)) ∙ fold-roll-After ℕ ℕ ℕ after_depth formula_depth link_depth (After-F.Converse at)

pub depth-Apply : (at : Place) (e : Formula) → depth_of_after (after.Apply at e) ≡ max at.depth (deepest e)
depth-Apply at e = ap depth_of_after (sym (after.rolls-Apply at e)) ∙ fold-roll-After ℕ ℕ ℕ after_depth formula_depth link_depth (After-F.Apply at e)

pub depth-Image : (at : Place) (e : Formula) → depth_of_after (after.Image at e) ≡ max at.depth (deepest e)
depth-Image at e = ap depth_of_after (sym (after.rolls-Image at e)) ∙ fold-roll-After ℕ ℕ ℕ after_depth formula_depth link_depth (After-F.Image at e)

pub depth-link : (l : Part) → depth_of_link (link l) ≡ max l.1.depth (deepest l.2)
depth-link l = fold-roll-Link ℕ ℕ ℕ after_depth formula_depth link_depth (record { operator = l.0; at = l.1; operand = l.2 })

max_within : (m n : ℕ) → m ≤ 100 → n ≤ 100 → max m n ≤ 100
max_within m n h k = omega arith

names_within : (at : Place) (ns : List Bound) → at.depth ≤ 100 → AreShallowNames ns → names_depth at ns ≤ 100
names_within at ns h k = greatest_within at.depth (map (λ (b : Bound). b.at.depth) ns) h (depths_within (λ (b : Bound). b.at.depth) ns k)

-- ---- trees of shallow parts

set_good : (at : Place) → at.depth ≤ 100 → (us : List Formula) → AllByRecursion IsShallow us → IsShallow (formula.Set at us)
set_good at h us k = within _ _ (deepest-Set at us) (greatest_within at.depth (map deepest us) h (depths_within deepest us k))

sequence_good : (at : Place) → at.depth ≤ 100 → (us : List Formula) → AllByRecursion IsShallow us → IsShallow (formula.Sequence at us)
sequence_good at h us k = within _ _ (deepest-Sequence at us) (greatest_within at.depth (map deepest us) h (depths_within deepest us k))

call_good : (at : Place) (f : Function) → at.depth ≤ 100 → (us : List Formula) → AllByRecursion IsShallow us → IsShallow (formula.Call at f us)
call_good at f h us k = within _ _ (deepest-Call at f us) (greatest_within at.depth (map deepest us) h (depths_within deepest us k))

links_within : (ls : List Part) → AllByRecursion IsShallowPart ls → AllByRecursion (λ (n : ℕ). n ≤ 100) (map depth_of_link (map link ls))
links_within [] k = tt
links_within (l ∷ ls) k = (within _ _ (depth-link l) (max_within _ _ k.0.0 k.0.1), links_within ls k.1)

chain_good : (t : Formula) (ls : List Part) → IsShallow t → AllByRecursion IsShallowPart ls → IsShallow (chain (t, ls))
chain_good t [] h k = h
chain_good t (l ∷ ls) h k = within _ _ (deepest-Chain t (map link (l ∷ ls))) (greatest_within (deepest t) (map depth_of_link (map link (l ∷ ls))) h (links_within (l ∷ ls) k))

row_good : (t : Formula) (fs : List After) → IsShallow t → AllByRecursion IsShallowAfter fs → IsShallow (row (t, fs))
row_good t [] h k = h
row_good t (f ∷ fs) h k = within _ _ (deepest-Row t (f ∷ fs)) (greatest_within (deepest t) (map depth_of_after (f ∷ fs)) h (depths_within depth_of_after (f ∷ fs) k))

parts_good : (o : Operator) (us : List (Place × Formula)) → AllByRecursion IsShallowItem us → AllByRecursion IsShallowPart (map (λ (u : Place × Formula). (o, u.0, u.1)) us)
parts_good o [] k = tt
parts_good o (u ∷ us) k = (k.0, parts_good o us k.1)

joined_good : (o : Operator) (us : Listed) → AreShallowListed us → IsShallow (joined o us)
joined_good o us k = chain_good us.0 (map (λ (u : Place × Formula). (o, u.0, u.1)) us.1) k.0 (parts_good o us.1 k.1)

later_good : (us : List (Place × Formula)) → AllByRecursion IsShallowItem us → AllByRecursion IsShallow (map (λ (u : Place × Formula). u.1) us)
later_good [] k = tt
later_good (u ∷ us) k = (k.0.1, later_good us k.1)

items_good : (us : Listed) → AreShallowListed us → AllByRecursion IsShallow (items us)
items_good us k = (k.0, later_good us.1 k.1)

-- ---- ways to cut

-- what shallow lexemes stand for is good
abbrev Keeps : {A : Type 0} → (A → Type 0) → Stands A → Type 0
Keeps {A} G R = (ts : List Lexeme) (x : A) → AreShallow ts → R ts x → G x

headed : {A : Type 0} (G : A → Type 0) (F : Lexeme → Stands A) → ((s : Lexeme) → s.at.depth ≤ 100 → Keeps G (F s)) → Keeps G (IsHeaded F)
headed G F f [] x h c = absurd c
headed G F f (s ∷ ts) x h c = f s h.0 ts x h.1 c

ended : {A : Type 0} (G : A → Type 0) (m : Mark) (R : Stands A) → Keeps G R → Keeps G (IsEnded m R)
ended G m R f ts x h c = f c.0 x (front_of c.0 (mark m c.1 ∷ []) (subst AreShallow c.2 h)) c.3

pair : {A B : Type 0} (G : A → Type 0) (H : B → Type 0) (R : Stands A) (S : Stands B) → Keeps G R → Keeps H S → Keeps (λ (p : A × B). G p.0 × H p.1) (IsPair R S)
pair G H R S f g ts x h c = (f c.0 x.0 (front_of c.0 c.1 (subst AreShallow c.2 h)) c.3, g c.1 x.1 (back_of c.0 c.1 (subst AreShallow c.2 h)) c.4)

each : {A : Type 0} (G : A → Type 0) (R : Stands A) → Keeps G R → (xs : List A) (ts : List Lexeme) → AreShallow ts → IsEach R ts xs → AllByRecursion G xs
each G R f [] ts h c = tt
each G R f (x ∷ xs) ts h c = (f c.0 x (front_of c.0 c.1 (subst AreShallow c.2 h)) c.3, each G R f xs c.1 (back_of c.0 c.1 (subst AreShallow c.2 h)) c.4)

made : {A B : Type 0} (G : A → Type 0) (H : B → Type 0) (k : A → B) (R : Stands A) → ((x : A) → G x → H (k x)) → Keeps G R → Keeps H (IsMade k R)
made G H k R f g ts x h c = subst H (sym c.2) (f c.0 (g ts c.0 h c.1))

such : {A : Type 0} (G : A → Type 0) (test : A → Bool) (R : Stands A) → Keeps G R → Keeps G (IsSuch test R)
such G test R f ts x h c = f ts x h c.0

done : {A : Type 0} (G : A → Type 0) (a : A) → G a → Keeps G (IsDone a)
done G a g ts x h c = subst G (sym c.1) g

-- ---- bound names

abbrev AreGood : Names → Type 0
AreGood None = Unit {0}
AreGood (Some p) = AreShallowNames p.0 × AreShallow p.1

abbrev IsGoodRest : Option (List Lexeme) → Type 0
IsGoodRest None = Unit {0}
IsGoodRest (Some ts) = AreShallow ts

and_good : (b : Bound) (q : Names) → b.at.depth ≤ 100 → AreGood q → AreGood (and_name b q)
and_good b None h k = tt
and_good b (Some p) h k = ((h, k.0), k.1)

named_good : (b : Bound) (q : Option (List Lexeme)) → b.at.depth ≤ 100 → IsGoodRest q → AreGood (named b q)
named_good b None h k = tt
named_good b (Some ts) h k = ((h, tt), k)

after_good : (ts : List Lexeme) → AreShallow ts → IsGoodRest (after_dot ts)
after_good [] h = tt
after_good (s ∷ []) h = tt
after_good (s ∷ u ∷ ts) h = go s.symbol u.symbol s.at u.at h.1.1
  where
    go : (y z : Symbol) (at to : Place) → AreShallow ts → IsGoodRest (after_dot (record { symbol = y; at = at } ∷ record { symbol = z; at = to } ∷ ts))
    go (symbol.Mark sign.Dot) (symbol.Mark sign.RoundOpen) at to k = k
    go (symbol.Mark sign.Dot) z at to k = tt
    go y z at to k = tt

bar_good : (ts : List Lexeme) → AreShallow ts → AreGood (names_to_bar ts)
bar_good [] h = tt
bar_good (n ∷ []) h = tt
bar_good (n ∷ s ∷ ts) h = go n.symbol n.at h.0 s.symbol s.at h.1.1 (bar_good ts h.1.1)
  where
    go : (y : Symbol) (at : Place) → at.depth ≤ 100 → (z : Symbol) (to : Place) → AreShallow ts → AreGood (names_to_bar ts)
        → AreGood (names_to_bar (record { symbol = y; at = at } ∷ record { symbol = z; at = to } ∷ ts))
    go (symbol.Name x) at h (symbol.Mark sign.Bar) to k more = ((h, tt), k)
    go (symbol.Name x) at h (symbol.Mark sign.Comma) to k more = and_good (record { name = x; at = at }) (names_to_bar ts) h more
    go (symbol.Name x) at h z to k more = tt
    go y at h z to k more = tt

dot_good : (ts : List Lexeme) → AreShallow ts → AreGood (names_to_dot ts)
dot_good [] h = tt
dot_good (n ∷ []) h = tt
dot_good (n ∷ s ∷ ts) h = go n.symbol n.at h.0 s.symbol s.at h.1.1 (dot_good ts h.1.1)
  where
    go : (y : Symbol) (at : Place) → at.depth ≤ 100 → (z : Symbol) (to : Place) → AreShallow ts → AreGood (names_to_dot ts)
        → AreGood (names_to_dot (record { symbol = y; at = at } ∷ record { symbol = z; at = to } ∷ ts))
    go (symbol.Name x) at h (symbol.Mark sign.RoundClose) to k more = named_good (record { name = x; at = at }) (after_dot ts) h (after_good ts k)
    go (symbol.Name x) at h (symbol.Mark sign.Comma) to k more = and_good (record { name = x; at = at }) (names_to_dot ts) h more
    go (symbol.Name x) at h z to k more = tt
    go y at h z to k more = tt

bound_good : (ts : List Lexeme) → AreShallow ts → AreGood (bound_names ts)
bound_good [] h = tt
bound_good (s ∷ ts) h = go s.symbol s.at h.0 h.1
  where
    go : (y : Symbol) (at : Place) → at.depth ≤ 100 → AreShallow ts → AreGood (bound_names (record { symbol = y; at = at } ∷ ts))
    go (symbol.Mark sign.RoundOpen) at h k = dot_good ts k
    go (symbol.Name x) at h k = named_good (record { name = x; at = at }) (after_dot ts) h (after_good ts k)
    go y at h k = tt

-- ---- pieces

module _ (p : ℕ) (R : Stands Formula) (f : Keeps IsShallow R) where
  part : (s : Lexeme) → s.at.depth ≤ 100 → Keeps IsShallowPart (IsPart p R s)
  part s h = go s.symbol s.at h
    where
      go : (y : Symbol) (at : Place) → at.depth ≤ 100 → Keeps IsShallowPart (IsPart p R (record { symbol = y; at = at }))
      go (symbol.Operator o) at h = such IsShallowPart (λ l. priority l.0 == p) (IsMade (λ t. (o, at, t)) R) (made IsShallow IsShallowPart (λ t. (o, at, t)) R (λ t g. (h, g)) f)
      go y at h = λ ts x k c. absurd c

  chains : Keeps IsShallow (IsChain p R)
  chains =
      made
      (λ (c : Formula × List Part). IsShallow c.0 × AllByRecursion IsShallowPart c.1)
      IsShallow
      chain
      (IsSuch (λ c. may_chain p c.1) (IsPair R (IsEach (IsHeaded (IsPart p R)))))
      (λ c g. chain_good c.0 c.1 g.0 g.1)
      (such
      (λ (c : Formula × List Part). IsShallow c.0 × AllByRecursion IsShallowPart c.1)
      (λ c. may_chain p c.1)
      (IsPair R (IsEach (IsHeaded (IsPart p R))))
      (pair IsShallow (AllByRecursion IsShallowPart) R (IsEach (IsHeaded (IsPart p R))) f (λ ts xs h c. each IsShallowPart (IsHeaded (IsPart p R)) (headed IsShallowPart (IsPart p R) part) xs ts h c)))

cut : (levels : List ℕ) (R : Stands Formula) → Keeps IsShallow R → Keeps IsShallow (IsCutAt levels R)
cut [] R f = f
cut (p ∷ ps) R f = chains p (IsCutAt ps R) (cut ps R f)

next : (R : Stands Formula) → Keeps IsShallow R → (s : Lexeme) → s.at.depth ≤ 100 → Keeps IsShallowItem (IsNext R s)
next R f s h = go s.symbol s.at h
  where
    go : (y : Symbol) (at : Place) → at.depth ≤ 100 → Keeps IsShallowItem (IsNext R (record { symbol = y; at = at }))
    go (symbol.Mark sign.Comma) at h = made IsShallow IsShallowItem (λ t. (at, t)) R (λ t g. (h, g)) f
    go y at h = λ ts x k c. absurd c

list : (R : Stands Formula) → Keeps IsShallow R → Keeps AreShallowListed (IsList R)
list R f = pair IsShallow (AllByRecursion IsShallowItem) R (IsEach (IsHeaded (IsNext R))) f (λ ts xs h c. each IsShallowItem (IsHeaded (IsNext R)) (headed IsShallowItem (IsNext R) (next R f)) xs ts h c)

-- ---- operands

module _ (P : List ℕ → Stands Formula) (f : (levels : List ℕ) → Keeps IsShallow (P levels)) where
  ended_list : (m : Mark) → Keeps AreShallowListed (IsEnded m (IsList (P bracketed)))
  ended_list m = ended AreShallowListed m (IsList (P bracketed)) (list (P bracketed) (f bracketed))

  ended_at : (m : Mark) (levels : List ℕ) → Keeps IsShallow (IsEnded m (P levels))
  ended_at m levels = ended IsShallow m (P levels) (f levels)

  listing : (close : Mark) (node : List Formula → Formula) → ((us : List Formula) → AllByRecursion IsShallow us → IsShallow (node us)) → Keeps IsShallow (IsListing P close node)
  listing close node good ts t h (inl c) =
      made AreShallowListed IsShallow (λ us. node (items us)) (IsEnded close (IsList (P bracketed))) (λ us g. good (items us) (items_good us g)) (ended_list close) ts t h c
  listing close node good ts t h (inr c) = ended IsShallow close (IsDone (node [])) (done IsShallow (node []) (good [] tt)) ts t h c

  curly : (at : Place) → at.depth ≤ 100 → Keeps IsShallow (IsCurly P at)
  curly at h ts t k c = go (names_to_bar ts) (bar_good ts k) c
    where
      go : (q : Names) → AreGood q → IsCurlyBy P at q ts t → IsShallow t
      go None g c = listing sign.CurlyClose (formula.Set at) (set_good at h) ts t k c
      go (Some p) g c =
          made
          IsShallow
          IsShallow
          (formula.Comprehension at p.0)
          (IsEnded sign.CurlyClose (P bracketed))
          (λ u d. within _ _ (deepest-Comprehension at p.0 u) (max_within _ _ (names_within at p.0 h g.0) d))
          (ended_at sign.CurlyClose bracketed)
          p.1
          t
          g.1
          c

  conditional : (at : Place) → at.depth ≤ 100 → Keeps IsShallow (IsConditional P at)
  conditional at h =
      made
      (λ (x : Formula × (Formula × Formula)). IsShallow x.0 × (IsShallow x.1.0 × IsShallow x.1.1))
      IsShallow
      (λ (x : Formula × (Formula × Formula)). formula.If at x.0 x.1.0 x.1.1)
      (IsPair (IsEnded sign.Then (P plain)) (IsPair (IsEnded sign.Else (P plain)) (IsEnded sign.End (P plain))))
      (λ x g. within _ _ (deepest-If at x.0 x.1.0 x.1.1) (max_within _ _ h (max_within _ _ g.0 (max_within _ _ g.1.0 g.1.1))))
      (pair
      IsShallow
      (λ (x : Formula × Formula). IsShallow x.0 × IsShallow x.1)
      (IsEnded sign.Then (P plain))
      (IsPair (IsEnded sign.Else (P plain)) (IsEnded sign.End (P plain)))
      (ended_at sign.Then plain)
      (pair IsShallow IsShallow (IsEnded sign.Else (P plain)) (IsEnded sign.End (P plain)) (ended_at sign.Else plain) (ended_at sign.End plain)))

  marked : (m : Mark) (at : Place) → at.depth ≤ 100 → Keeps IsShallow (IsMarked P m at)
  marked sign.RoundOpen at h = made AreShallowListed IsShallow (joined operator.Maplet) (IsEnded sign.RoundClose (IsList (P bracketed))) (joined_good operator.Maplet) (ended_list sign.RoundClose)
  marked sign.CurlyOpen at h = curly at h
  marked sign.SquareOpen at h = listing sign.SquareClose (formula.Sequence at) (sequence_good at h)
  marked sign.Empty at h = done IsShallow (formula.Sequence at []) (sequence_good at h [] tt)
  marked sign.If at h = conditional at h
  marked m at h = λ ts t k c. absurd c

  call : (g : Function) (at : Place) → at.depth ≤ 100 → (s : Lexeme) → Keeps IsShallow (IsCall P g at s)
  call g at h s = go s.symbol s.at
    where
      go : (y : Symbol) (to : Place) → Keeps IsShallow (IsCall P g at (record { symbol = y; at = to }))
      go (symbol.Mark sign.RoundOpen) to =
          made
          (AllByRecursion IsShallow)
          IsShallow
          (λ us. formula.Call at g us)
          (IsSuch (λ us. length us == arity g) (IsMade items (IsEnded sign.RoundClose (IsList (P bracketed)))))
          (call_good at g h)
          (such
          (AllByRecursion IsShallow)
          (λ us. length us == arity g)
          (IsMade items (IsEnded sign.RoundClose (IsList (P bracketed))))
          (made AreShallowListed (AllByRecursion IsShallow) items (IsEnded sign.RoundClose (IsList (P bracketed))) items_good (ended_list sign.RoundClose)))
      go y to = λ ts t k c. absurd c

  old : (n : List ℕ) (at : Place) → at.depth ≤ 100 → (s : Lexeme) → Keeps IsShallow (IsOld P n at s)
  old n at h s = go s.symbol s.at
    where
      go : (y : Symbol) (to : Place) → Keeps IsShallow (IsOld P n at (record { symbol = y; at = to }))
      go (symbol.Mark sign.Old) to = done IsShallow (formula.Old at n) (within _ _ (deepest-Old at n) h)
      go y to = λ ts t k c. absurd c

  after_names : (F : List Bound → Stands Formula) → ((ns : List Bound) → AreShallowNames ns → Keeps IsShallow (F ns)) → (q : Names) (t : Formula) → AreGood q → IsAfterNames q F t → IsShallow t
  after_names F g None t k c = absurd c
  after_names F g (Some p) t k c = g p.0 k.0 p.1 t k.1 c

  quantified : (at : Place) → at.depth ≤ 100 → (q : Quantifier) (ns : List Bound) → AreShallowNames ns → Keeps IsShallow (IsMade (formula.Quantified at q ns) (IsEnded sign.RoundClose (P bracketed)))
  quantified at h q ns k =
      made
      IsShallow
      IsShallow
      (formula.Quantified at q ns)
      (IsEnded sign.RoundClose (P bracketed))
      (λ u d. within _ _ (deepest-Quantified at q ns u) (max_within _ _ (names_within at ns h k) d))
      (ended_at sign.RoundClose bracketed)

  collected : (at : Place) → at.depth ≤ 100 → (c : Collector) (ns : List Bound) → AreShallowNames ns
      → Keeps IsShallow (IsMade (λ (x : Formula × Formula). formula.Collected at c ns x.0 x.1) (IsPair (IsEnded sign.Bar (P bracketed)) (IsEnded sign.RoundClose (P bracketed))))
  collected at h c ns k =
      made
      (λ (x : Formula × Formula). IsShallow x.0 × IsShallow x.1)
      IsShallow
      (λ (x : Formula × Formula). formula.Collected at c ns x.0 x.1)
      (IsPair (IsEnded sign.Bar (P bracketed)) (IsEnded sign.RoundClose (P bracketed)))
      (λ x d. within _ _ (deepest-Collected at c ns x.0 x.1) (max_within _ _ (names_within at ns h k) (max_within _ _ d.0 d.1)))
      (pair IsShallow IsShallow (IsEnded sign.Bar (P bracketed)) (IsEnded sign.RoundClose (P bracketed)) (ended_at sign.Bar bracketed) (ended_at sign.RoundClose bracketed))

  form : (s : Lexeme) → s.at.depth ≤ 100 → Keeps IsShallow (IsForm P s)
  form s h = go s.symbol s.at h
    where
      go : (y : Symbol) (at : Place) → at.depth ≤ 100 → Keeps IsShallow (IsForm P (record { symbol = y; at = at }))
      go (symbol.Number n) at h = done IsShallow (formula.Number at n) (within _ _ (deepest-Number at n) h)
      go (symbol.Text x) at h = done IsShallow (formula.Text at x) (within _ _ (deepest-Text at x) h)
      go (symbol.Constant k) at h = done IsShallow (formula.Constant at k) (within _ _ (deepest-Constant at k) h)
      go (symbol.Name n) at h = λ ts t k c. elim c [
        | inl d ↦ done IsShallow (formula.Name at n) (within _ _ (deepest-Name at n) h) ts t k d
        | inr d ↦ headed IsShallow (IsOld P n at) (λ u l. old n at h u) ts t k d
      ]
      go (symbol.Function g) at h = headed IsShallow (IsCall P g at) (λ u l. call g at h u)
      go (symbol.Quantifier q) at h =
          λ ts t k c. after_names (λ ns. IsMade (formula.Quantified at q ns) (IsEnded sign.RoundClose (P bracketed))) (quantified at h q) (bound_names ts) t (bound_good ts k) c
      go (symbol.Collector d) at h =
          λ ts t k c.
          after_names
          (λ ns. IsMade (λ (x : Formula × Formula). formula.Collected at d ns x.0 x.1) (IsPair (IsEnded sign.Bar (P bracketed)) (IsEnded sign.RoundClose (P bracketed))))
          (collected at h d)
          (bound_names ts)
          t
          (bound_good ts k)
          c
      go (symbol.Mark m) at h = marked m at h
      go (symbol.Operator o) at h = λ ts t k c. absurd c
      go symbol.Other at h = λ ts t k c. absurd c

  one_after : (s : Lexeme) → s.at.depth ≤ 100 → Keeps IsShallowAfter (IsAfter P s)
  one_after s h = go s.symbol s.at h
    where
      go : (y : Symbol) (at : Place) → at.depth ≤ 100 → Keeps IsShallowAfter (IsAfter P (record { symbol = y; at = at }))
      go (symbol.Mark sign.Converse) at h = done IsShallowAfter (after.Converse at) (within _ _ (depth-Converse at) h)
      go (symbol.Mark sign.RoundOpen) at h =
          made
          AreShallowListed
          IsShallowAfter
          (λ us. after.Apply at (joined operator.Comma us))
          (IsEnded sign.RoundClose (IsList (P bracketed)))
          (λ us g. within _ _ (depth-Apply at (joined operator.Comma us)) (max_within _ _ h (joined_good operator.Comma us g)))
          (ended_list sign.RoundClose)
      go (symbol.Mark sign.SquareOpen) at h =
          made IsShallow IsShallowAfter (after.Image at) (IsEnded sign.SquareClose (P bracketed)) (λ u g. within _ _ (depth-Image at u) (max_within _ _ h g)) (ended_at sign.SquareClose bracketed)
      go y at h = λ ts x k c. absurd c

  rows : Keeps IsShallow (IsRow P)
  rows =
      made
      (λ (c : Formula × List After). IsShallow c.0 × AllByRecursion IsShallowAfter c.1)
      IsShallow
      row
      (IsPair (IsHeaded (IsForm P)) (IsEach (IsHeaded (IsAfter P))))
      (λ c g. row_good c.0 c.1 g.0 g.1)
      (pair
      IsShallow
      (AllByRecursion IsShallowAfter)
      (IsHeaded (IsForm P))
      (IsEach (IsHeaded (IsAfter P)))
      (headed IsShallow (IsForm P) form)
      (λ ts xs h c. each IsShallowAfter (IsHeaded (IsAfter P)) (headed IsShallowAfter (IsAfter P) one_after) xs ts h c))

  operand : Keeps IsShallow (IsOperand P)
  operand = headed IsShallow (λ s. IsSigned P s (is_minus s.symbol)) (λ s h. signed s h (is_minus s.symbol))
    where
      signed : (s : Lexeme) → s.at.depth ≤ 100 → (b : Bool) → Keeps IsShallow (IsSigned P s b)
      signed s h true = made IsShallow IsShallow (formula.Negative s.at) (IsRow P) (λ u g. within _ _ (deepest-Negative s.at u) (max_within _ _ h g)) rows
      signed s h false = λ ts t k c. rows (s ∷ ts) t (h, k) c

-- ---- formulas

shallow_at : (depth : ℕ) (levels : List ℕ) → Keeps IsShallow (IsFormula depth levels)
unfolding IsFormula
shallow_at zero levels = cut levels (IsOperand (λ ps. IsNever)) (operand (λ ps. IsNever) (λ ps ts t h c. absurd c))
shallow_at (suc depth) levels = cut levels (IsOperand (IsFormula depth)) (operand (IsFormula depth) (shallow_at depth))

-- the tree of shallow lexemes is shallow
pub shallow_tree : (ts : List Lexeme) (t : Formula) → AreShallow ts → IsFormulaText ts t → IsShallow t
shallow_tree ts t h c = shallow_at c.0 plain ts t h c.1
