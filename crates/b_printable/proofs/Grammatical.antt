-- What the grammar has for good lexemes is a written tree.
use Rattle.std.proofs.Common.{◌≡◌, ◌≢◌, inl, inr, ◌==◌, ℕ, zero, suc, Bool, true, false, not, List, [], ◌∷◌, ◌++◌, map, length, Option, Some, None, refl, sym, ap, ◌∙◌, subst}
use Rattle.std.specs.List.{AllByRecursion}
use Rattle.std.proofs.lemmas.Bool.{eqb-true, eq-eqb}
use Rattle.b_ast.specs.declared.Place.{Place}
use Rattle.b_ast.specs.declared.Bound.{Bound}
use Rattle.b_ast.specs.declared.Function.{Function}
use Rattle.b_ast.specs.declared.Quantifier.{Quantifier}
use Rattle.b_ast.specs.declared.Collector.{Collector}
use Rattle.b_ast.specs.declared.Operator.{Operator}
use Rattle.b_ast.specs.declared.Operator.TheVariants as operator
use Rattle.b_ast.specs.declared.Formula.{Formula}
use Rattle.b_ast.specs.declared.Formula.TheVariants as formula
use Rattle.b_ast.specs.declared.Link.{Link, out-roll-Link}
use Rattle.b_ast.specs.declared.After.{After}
use Rattle.b_ast.specs.declared.After.TheVariants as after
use Rattle.b_ast.specs.declared.After.TheOpen.{Link-F}
use Rattle.b_grammar.specs.declared.Mark.{Mark}
use Rattle.b_grammar.specs.declared.Mark.TheVariants as sign
use Rattle.b_grammar.specs.declared.Symbol.{Symbol}
use Rattle.b_grammar.specs.declared.Symbol.TheVariants as symbol
use Rattle.b_grammar.specs.declared.Lexeme.{Lexeme}
use Rattle.b_grammar.specs.Cuts.{Stands, mark, IsNever, IsDone, IsHeaded, IsEnded, IsPair, IsEach, IsMade, IsSuch}
use Rattle.b_grammar.specs.Grammar.{priority, plain, bracketed, may_chain, arity, Part, link, chain, row, Listed, items, joined, Names, names_to_bar, names_to_dot, after_dot, named, and_name, bound_names, is_minus, IsAfterNames, IsPart, IsChain, IsCutAt, IsNext, IsList, IsListing, IsCurlyBy, IsCurly, IsConditional, IsMarked, IsCall, IsOld, IsForm, IsAfter, IsRow, IsSigned, IsOperand, IsFormula, IsFormulaText}
use Rattle.b_reading_back.specs.Printable.{operators, IsName, AreNames}
use Rattle.b_printable.specs.Written.{MayStand, IsWritten, IsWrittenLink, IsWrittenAfter}
use Rattle.b_printable.specs.Laws.{IsReadAsWritten}
use Rattle.b_printable.proofs.Goods.{IsGood, AreGood, good_lexemes}
use Rattle.b_printable.proofs.GrammaticalLayers.{written-Number, written-Text, written-Name, written-Old, written-Constant, written-Negative, written-Chain, written-Row, written-Call, written-Set, written-Sequence, written-Comprehension, written-Quantified, written-Collected, written-If, written-Converse, written-Apply, written-Image, written-link}

-- ---- what is written

-- an operator of this priority before a written tree
abbrev IsWrittenPart : ℕ → Part → Type 0
IsWrittenPart p l = IsWritten l.2 × ((priority l.0 == p) ≡ true)

-- a comma before a written tree
abbrev IsWrittenItem : Place × Formula → Type 0
IsWrittenItem u = IsWritten u.1

-- written trees with commas between them
abbrev AreWrittenListed : Listed → Type 0
AreWrittenListed us = IsWritten us.0 × AllByRecursion IsWrittenItem us.1

-- the front of a list of good lexemes is good
front_of : (xs ys : List Lexeme) → AreGood (xs ++ ys) → AreGood xs
front_of [] ys h = tt
front_of (x ∷ xs) ys h = (h.0, front_of xs ys h.1)

-- the back of a list of good lexemes is good
back_of : (xs ys : List Lexeme) → AreGood (xs ++ ys) → AreGood ys
back_of [] ys h = h
back_of (x ∷ xs) ys h = back_of xs ys h.1

-- ---- trees of written parts

-- the operators of links are those of the parts
operators_of : (ls : List Part) → operators (map link ls) ≡ map (λ (l : Part). l.0) ls
operators_of [] = refl
operators_of (l ∷ ls) =
    ap (λ (o : Operator). o ∷ operators (map link ls)) (ap (λ (x : Link-F After Formula Link). x.operator) (out-roll-Link (record { operator = l.0; at = l.1; operand = l.2 })))
    ∙ ap (λ (os : List Operator). l.0 ∷ os) (operators_of ls)

-- the operators of parts have one priority
alike : (p : ℕ) (o : Operator) (ls : List Part) → priority o ≡ p → AllByRecursion (IsWrittenPart p) ls → AllByRecursion (λ q. priority q ≡ priority o) (map (λ (l : Part). l.0) ls)
alike p o [] e k = tt
alike p o (l ∷ ls) e k = (eqb-true (priority l.0) p k.0.1 ∙ sym e, alike p o ls e k.1)

-- the operators of parts stand together where the parts do
lone : (p : ℕ) (l : Part) (ls : List Part) → may_chain p (l ∷ ls) ≡ true → may_chain p (map (λ (l : Part). l.0) (l ∷ ls)) ≡ true
lone p l [] m = refl
lone p l (n ∷ ls) m = m

-- operators of one priority may stand in a chain
may_stand : (p : ℕ) (l : Part) (ls : List Part) → AllByRecursion (IsWrittenPart p) (l ∷ ls) → may_chain p (l ∷ ls) ≡ true → MayStand (map (λ (l : Part). l.0) (l ∷ ls))
may_stand p l ls k m =
    let same : priority l.0 ≡ p = eqb-true (priority l.0) p k.0.1 in
    (alike p l.0 ls same k.1, subst (λ (q : ℕ). may_chain q (map (λ (l : Part). l.0) (l ∷ ls)) ≡ true) (sym same) (lone p l ls m))

-- parts are written links
links_good : (p : ℕ) (ls : List Part) → AllByRecursion (IsWrittenPart p) ls → AllByRecursion IsWrittenLink (map link ls)
links_good p [] k = tt
links_good p (l ∷ ls) k = (written-link l k.0.0, links_good p ls k.1)

-- pieces with operators of one priority between them
chain_good : (p : ℕ) (t : Formula) (ls : List Part) → IsWritten t → AllByRecursion (IsWrittenPart p) ls → may_chain p ls ≡ true → IsWritten (chain (t, ls))
chain_good p t [] h k m = h
chain_good p t (l ∷ ls) h k m =
    written-Chain t (map link (l ∷ ls)) h (links_good p (l ∷ ls) k) (subst MayStand (sym (operators_of (l ∷ ls))) (may_stand p l ls k m))

-- an operand with forms after it
row_good : (t : Formula) (fs : List After) → IsWritten t → AllByRecursion IsWrittenAfter fs → IsWritten (row (t, fs))
row_good t [] h k = h
row_good t (f ∷ fs) h k = written-Row t (f ∷ fs) h k (λ e. cc)

-- an operator has its own priority
own : (n : ℕ) → (n == n) ≡ true
own n = eq-eqb n n refl

-- a list of written trees as parts with one operator
parts_good : (o : Operator) (us : List (Place × Formula)) → AllByRecursion IsWrittenItem us → AllByRecursion (IsWrittenPart (priority o)) (map (λ (u : Place × Formula). (o, u.0, u.1)) us)
parts_good o [] k = tt
parts_good o (u ∷ us) k = ((k.0, own (priority o)), parts_good o us k.1)

-- operators that aren't comparisons may stand together
many : {A : Type 0} (p : ℕ) (xs : List A) → (p == 60) ≡ false → may_chain p xs ≡ true
many p [] e = refl
many p (x ∷ []) e = refl
many p (x ∷ y ∷ xs) e = ap not e

-- a list of written trees as one tree
joined_good : (o : Operator) (us : Listed) → (priority o == 60) ≡ false → AreWrittenListed us → IsWritten (joined o us)
joined_good o us e k =
    let ls : List Part = map (λ (u : Place × Formula). (o, u.0, u.1)) us.1 in
    chain_good (priority o) us.0 ls k.0 (parts_good o us.1 k.1) (many (priority o) ls e)

-- the later trees of a list
later_good : (us : List (Place × Formula)) → AllByRecursion IsWrittenItem us → AllByRecursion IsWritten (map (λ (u : Place × Formula). u.1) us)
later_good [] k = tt
later_good (u ∷ us) k = (k.0, later_good us k.1)

-- the trees of a list
items_good : (us : Listed) → AreWrittenListed us → AllByRecursion IsWritten (items us)
items_good us k = (k.0, later_good us.1 k.1)

-- ---- ways to cut

-- what good lexemes stand for has this property
abbrev Keeps : {A : Type 0} → (A → Type 0) → Stands A → Type 0
Keeps {A} G R = (ts : List Lexeme) (x : A) → AreGood ts → R ts x → G x

-- where the first lexeme says what follows
headed : {A : Type 0} (G : A → Type 0) (F : Lexeme → Stands A) → ((s : Lexeme) → IsGood s.symbol → Keeps G (F s)) → Keeps G (IsHeaded F)
headed G F f [] x h c = absurd c
headed G F f (s ∷ ts) x h c = f s h.0 ts x h.1 c

-- where a mark ends the list
ended : {A : Type 0} (G : A → Type 0) (m : Mark) (R : Stands A) → Keeps G R → Keeps G (IsEnded m R)
ended G m R f ts x h c = f c.0 x (front_of c.0 (mark m c.1 ∷ []) (subst AreGood c.2 h)) c.3

-- where the list is cut in two
pair : {A B : Type 0} (G : A → Type 0) (H : B → Type 0) (R : Stands A) (S : Stands B) → Keeps G R → Keeps H S → Keeps (λ (p : A × B). G p.0 × H p.1) (IsPair R S)
pair G H R S f g ts x h c = (f c.0 x.0 (front_of c.0 c.1 (subst AreGood c.2 h)) c.3, g c.1 x.1 (back_of c.0 c.1 (subst AreGood c.2 h)) c.4)

-- where the list is cut in pieces
each : {A : Type 0} (G : A → Type 0) (R : Stands A) → Keeps G R → (xs : List A) (ts : List Lexeme) → AreGood ts → IsEach R ts xs → AllByRecursion G xs
each G R f [] ts h c = tt
each G R f (x ∷ xs) ts h c = (f c.0 x (front_of c.0 c.1 (subst AreGood c.2 h)) c.3, each G R f xs c.1 (back_of c.0 c.1 (subst AreGood c.2 h)) c.4)

-- where a tree is made of what the list stands for
made : {A B : Type 0} (G : A → Type 0) (H : B → Type 0) (k : A → B) (R : Stands A) → ((x : A) → G x → H (k x)) → Keeps G R → Keeps H (IsMade k R)
made G H k R f g ts x h c = subst H (sym c.2) (f c.0 (g ts c.0 h c.1))

-- where what the list stands for passes a test
such : {A : Type 0} (G : A → Type 0) (test : A → Bool) (R : Stands A) → Keeps G R → Keeps (λ (x : A). G x × (test x ≡ true)) (IsSuch test R)
such G test R f ts x h c = (f ts x h c.0, c.1)

-- where nothing is left
done : {A : Type 0} (G : A → Type 0) (a : A) → G a → Keeps G (IsDone a)
done G a g ts x h c = subst G (sym c.1) g

-- ---- bound names

-- names, one at least, before good lexemes
abbrev AreGoodNames : Names → Type 0
AreGoodNames None = Unit {0}
AreGoodNames (Some p) = AreNames p.0 × AreGood p.1

-- what follows is good
abbrev IsGoodRest : Option (List Lexeme) → Type 0
IsGoodRest None = Unit {0}
IsGoodRest (Some ts) = AreGood ts

-- a list with an element isn't empty
some : {A : Type 0} (x : A) (xs : List A) → x ∷ xs ≢ []
some x xs e = cc

-- one more name before names
and_good : (b : Bound) (q : Names) → IsName b.name → AreGoodNames q → AreGoodNames (and_name b q)
and_good b None h k = tt
and_good b (Some p) h k = ((some b p.0, (h, k.0.1)), k.1)

-- one name before good lexemes
named_good : (b : Bound) (q : Option (List Lexeme)) → IsName b.name → IsGoodRest q → AreGoodNames (named b q)
named_good b None h k = tt
named_good b (Some ts) h k = ((some b [], (h, tt)), k)

-- what stands after a dot and a bracket
after_good : (ts : List Lexeme) → AreGood ts → IsGoodRest (after_dot ts)
after_good [] h = tt
after_good (s ∷ []) h = tt
after_good (s ∷ u ∷ ts) h = go s.symbol u.symbol s.at u.at h.1.1
  where
    go : (y z : Symbol) (at to : Place) → AreGood ts → IsGoodRest (after_dot (record { symbol = y; at = at } ∷ record { symbol = z; at = to } ∷ ts))
    go (symbol.Mark sign.Dot) (symbol.Mark sign.RoundOpen) at to k = k
    go (symbol.Mark sign.Dot) z at to k = tt
    go y z at to k = tt

-- names up to a bar are names
bar_good : (ts : List Lexeme) → AreGood ts → AreGoodNames (names_to_bar ts)
bar_good [] h = tt
bar_good (n ∷ []) h = tt
bar_good (n ∷ s ∷ ts) h = go n.symbol n.at h.0 s.symbol s.at h.1.1 (bar_good ts h.1.1)
  where
    go : (y : Symbol) (at : Place) → IsGood y → (z : Symbol) (to : Place) → AreGood ts → AreGoodNames (names_to_bar ts)
        → AreGoodNames (names_to_bar (record { symbol = y; at = at } ∷ record { symbol = z; at = to } ∷ ts))
    go (symbol.Name x) at h (symbol.Mark sign.Bar) to k more = ((some (record { name = x; at = at }) [], (h, tt)), k)
    go (symbol.Name x) at h (symbol.Mark sign.Comma) to k more = and_good (record { name = x; at = at }) (names_to_bar ts) h more
    go (symbol.Name x) at h z to k more = tt
    go y at h z to k more = tt

-- names up to a bracket and a dot are names
dot_good : (ts : List Lexeme) → AreGood ts → AreGoodNames (names_to_dot ts)
dot_good [] h = tt
dot_good (n ∷ []) h = tt
dot_good (n ∷ s ∷ ts) h = go n.symbol n.at h.0 s.symbol s.at h.1.1 (dot_good ts h.1.1)
  where
    go : (y : Symbol) (at : Place) → IsGood y → (z : Symbol) (to : Place) → AreGood ts → AreGoodNames (names_to_dot ts)
        → AreGoodNames (names_to_dot (record { symbol = y; at = at } ∷ record { symbol = z; at = to } ∷ ts))
    go (symbol.Name x) at h (symbol.Mark sign.RoundClose) to k more = named_good (record { name = x; at = at }) (after_dot ts) h (after_good ts k)
    go (symbol.Name x) at h (symbol.Mark sign.Comma) to k more = and_good (record { name = x; at = at }) (names_to_dot ts) h more
    go (symbol.Name x) at h z to k more = tt
    go y at h z to k more = tt

-- the names of a binder are names, one at least
bound_good : (ts : List Lexeme) → AreGood ts → AreGoodNames (bound_names ts)
bound_good [] h = tt
bound_good (s ∷ ts) h = go s.symbol s.at h.0 h.1
  where
    go : (y : Symbol) (at : Place) → IsGood y → AreGood ts → AreGoodNames (bound_names (record { symbol = y; at = at } ∷ ts))
    go (symbol.Mark sign.RoundOpen) at h k = dot_good ts k
    go (symbol.Name x) at h k = named_good (record { name = x; at = at }) (after_dot ts) h (after_good ts k)
    go y at h k = tt

-- ---- pieces

module _ (p : ℕ) (R : Stands Formula) (f : Keeps IsWritten R) where
  -- an operator and the piece after it
  part : (s : Lexeme) → Keeps (IsWrittenPart p) (IsPart p R s)
  part s = go s.symbol s.at
    where
      go : (y : Symbol) (at : Place) → Keeps (IsWrittenPart p) (IsPart p R (record { symbol = y; at = at }))
      go (symbol.Operator o) at = such (λ (l : Part). IsWritten l.2) (λ l. priority l.0 == p) (IsMade (λ t. (o, at, t)) R) (made IsWritten (λ (l : Part). IsWritten l.2) (λ t. (o, at, t)) R (λ t g. g) f)
      go y at = λ ts x k c. absurd c

  -- written pieces with operators of this priority
  abbrev IsPieces : Formula × List Part → Type 0
  IsPieces c = IsWritten c.0 × AllByRecursion (IsWrittenPart p) c.1

  -- pieces with the operators of one priority between them
  chains : Keeps IsWritten (IsChain p R)
  chains =
      made
      (λ (c : Formula × List Part). IsPieces c × (may_chain p c.1 ≡ true))
      IsWritten
      chain
      (IsSuch (λ c. may_chain p c.1) (IsPair R (IsEach (IsHeaded (IsPart p R)))))
      (λ c g. chain_good p c.0 c.1 g.0.0 g.0.1 g.1)
      (such
      IsPieces
      (λ c. may_chain p c.1)
      (IsPair R (IsEach (IsHeaded (IsPart p R))))
      (pair IsWritten (AllByRecursion (IsWrittenPart p)) R (IsEach (IsHeaded (IsPart p R))) f (λ ts xs h c. each (IsWrittenPart p) (IsHeaded (IsPart p R)) (headed (IsWrittenPart p) (IsPart p R) (λ s h. part s)) xs ts h c)))

-- a formula whose operators have these priorities
cut : (levels : List ℕ) (R : Stands Formula) → Keeps IsWritten R → Keeps IsWritten (IsCutAt levels R)
cut [] R f = f
cut (p ∷ ps) R f = chains p (IsCutAt ps R) (cut ps R f)

-- a comma and the piece after it
next : (R : Stands Formula) → Keeps IsWritten R → (s : Lexeme) → Keeps IsWrittenItem (IsNext R s)
next R f s = go s.symbol s.at
  where
    go : (y : Symbol) (at : Place) → Keeps IsWrittenItem (IsNext R (record { symbol = y; at = at }))
    go (symbol.Mark sign.Comma) at = made IsWritten IsWrittenItem (λ t. (at, t)) R (λ t g. g) f
    go y at = λ ts x k c. absurd c

-- formulas with commas between them
list : (R : Stands Formula) → Keeps IsWritten R → Keeps AreWrittenListed (IsList R)
list R f =
    pair IsWritten (AllByRecursion IsWrittenItem) R (IsEach (IsHeaded (IsNext R))) f (λ ts xs h c. each IsWrittenItem (IsHeaded (IsNext R)) (headed IsWrittenItem (IsNext R) (λ s h. next R f s)) xs ts h c)

-- ---- operands

module _ (P : List ℕ → Stands Formula) (f : (levels : List ℕ) → Keeps IsWritten (P levels)) where
  -- a list in brackets
  ended_list : (m : Mark) → Keeps AreWrittenListed (IsEnded m (IsList (P bracketed)))
  ended_list m = ended AreWrittenListed m (IsList (P bracketed)) (list (P bracketed) (f bracketed))

  -- a formula before a mark
  ended_at : (m : Mark) (levels : List ℕ) → Keeps IsWritten (IsEnded m (P levels))
  ended_at m levels = ended IsWritten m (P levels) (f levels)

  -- a list or nothing in brackets
  listing : (close : Mark) (node : List Formula → Formula) → ((us : List Formula) → AllByRecursion IsWritten us → IsWritten (node us)) → Keeps IsWritten (IsListing P close node)
  listing close node good ts t h (inl c) =
      made AreWrittenListed IsWritten (λ us. node (items us)) (IsEnded close (IsList (P bracketed))) (λ us g. good (items us) (items_good us g)) (ended_list close) ts t h c
  listing close node good ts t h (inr c) = ended IsWritten close (IsDone (node [])) (done IsWritten (node []) (good [] tt)) ts t h c

  -- a set or a comprehension
  curly : (at : Place) → Keeps IsWritten (IsCurly P at)
  curly at ts t k c = go (names_to_bar ts) (bar_good ts k) c
    where
      go : (q : Names) → AreGoodNames q → IsCurlyBy P at q ts t → IsWritten t
      go None g c = listing sign.CurlyClose (formula.Set at) (written-Set at) ts t k c
      go (Some p) g c =
          made
          IsWritten
          IsWritten
          (formula.Comprehension at p.0)
          (IsEnded sign.CurlyClose (P bracketed))
          (λ u d. written-Comprehension at p.0 u g.0 d)
          (ended_at sign.CurlyClose bracketed)
          p.1
          t
          g.1
          c

  -- a conditional
  conditional : (at : Place) → Keeps IsWritten (IsConditional P at)
  conditional at =
      made
      (λ (x : Formula × (Formula × Formula)). IsWritten x.0 × (IsWritten x.1.0 × IsWritten x.1.1))
      IsWritten
      (λ (x : Formula × (Formula × Formula)). formula.If at x.0 x.1.0 x.1.1)
      (IsPair (IsEnded sign.Then (P plain)) (IsPair (IsEnded sign.Else (P plain)) (IsEnded sign.End (P plain))))
      (λ x g. written-If at x.0 x.1.0 x.1.1 g.0 g.1.0 g.1.1)
      (pair
      IsWritten
      (λ (x : Formula × Formula). IsWritten x.0 × IsWritten x.1)
      (IsEnded sign.Then (P plain))
      (IsPair (IsEnded sign.Else (P plain)) (IsEnded sign.End (P plain)))
      (ended_at sign.Then plain)
      (pair IsWritten IsWritten (IsEnded sign.Else (P plain)) (IsEnded sign.End (P plain)) (ended_at sign.Else plain) (ended_at sign.End plain)))

  -- what begins with a mark
  marked : (m : Mark) (at : Place) → Keeps IsWritten (IsMarked P m at)
  marked sign.RoundOpen at =
      made AreWrittenListed IsWritten (joined operator.Maplet) (IsEnded sign.RoundClose (IsList (P bracketed))) (λ us g. joined_good operator.Maplet us refl g) (ended_list sign.RoundClose)
  marked sign.CurlyOpen at = curly at
  marked sign.SquareOpen at = listing sign.SquareClose (formula.Sequence at) (written-Sequence at)
  marked sign.Empty at = done IsWritten (formula.Sequence at []) (written-Sequence at [] tt)
  marked sign.If at = conditional at
  marked m at = λ ts t k c. absurd c

  -- a function word with its arguments
  call : (g : Function) (at : Place) (s : Lexeme) → Keeps IsWritten (IsCall P g at s)
  call g at s = go s.symbol s.at
    where
      go : (y : Symbol) (to : Place) → Keeps IsWritten (IsCall P g at (record { symbol = y; at = to }))
      go (symbol.Mark sign.RoundOpen) to =
          made
          (λ (us : List Formula). AllByRecursion IsWritten us × ((length us == arity g) ≡ true))
          IsWritten
          (λ us. formula.Call at g us)
          (IsSuch (λ us. length us == arity g) (IsMade items (IsEnded sign.RoundClose (IsList (P bracketed)))))
          (λ us k. written-Call at g us k.0 (eqb-true (length us) (arity g) k.1))
          (such
          (AllByRecursion IsWritten)
          (λ us. length us == arity g)
          (IsMade items (IsEnded sign.RoundClose (IsList (P bracketed))))
          (made AreWrittenListed (AllByRecursion IsWritten) items (IsEnded sign.RoundClose (IsList (P bracketed))) items_good (ended_list sign.RoundClose)))
      go y to = λ ts t k c. absurd c

  -- a name's former value
  old : (n : List ℕ) (at : Place) → IsName n → (s : Lexeme) → Keeps IsWritten (IsOld P n at s)
  old n at h s = go s.symbol s.at
    where
      go : (y : Symbol) (to : Place) → Keeps IsWritten (IsOld P n at (record { symbol = y; at = to }))
      go (symbol.Mark sign.Old) to = done IsWritten (formula.Old at n) (written-Old at n h)
      go y to = λ ts t k c. absurd c

  -- what follows names
  after_names : (F : List Bound → Stands Formula) → ((ns : List Bound) → AreNames ns → Keeps IsWritten (F ns)) → (q : Names) (t : Formula) → AreGoodNames q → IsAfterNames q F t → IsWritten t
  after_names F g None t k c = absurd c
  after_names F g (Some p) t k c = g p.0 k.0 p.1 t k.1 c

  -- a quantifier behind its names
  quantified : (at : Place) (q : Quantifier) (ns : List Bound) → AreNames ns → Keeps IsWritten (IsMade (formula.Quantified at q ns) (IsEnded sign.RoundClose (P bracketed)))
  quantified at q ns k =
      made IsWritten IsWritten (formula.Quantified at q ns) (IsEnded sign.RoundClose (P bracketed)) (λ u d. written-Quantified at q ns u k d) (ended_at sign.RoundClose bracketed)

  -- a collector behind its names
  collected : (at : Place) (c : Collector) (ns : List Bound) → AreNames ns
      → Keeps IsWritten (IsMade (λ (x : Formula × Formula). formula.Collected at c ns x.0 x.1) (IsPair (IsEnded sign.Bar (P bracketed)) (IsEnded sign.RoundClose (P bracketed))))
  collected at c ns k =
      made
      (λ (x : Formula × Formula). IsWritten x.0 × IsWritten x.1)
      IsWritten
      (λ (x : Formula × Formula). formula.Collected at c ns x.0 x.1)
      (IsPair (IsEnded sign.Bar (P bracketed)) (IsEnded sign.RoundClose (P bracketed)))
      (λ x d. written-Collected at c ns x.0 x.1 k d.0 d.1)
      (pair IsWritten IsWritten (IsEnded sign.Bar (P bracketed)) (IsEnded sign.RoundClose (P bracketed)) (ended_at sign.Bar bracketed) (ended_at sign.RoundClose bracketed))

  -- an operand by its first lexeme
  form : (s : Lexeme) → IsGood s.symbol → Keeps IsWritten (IsForm P s)
  form s h = go s.symbol s.at h
    where
      go : (y : Symbol) (at : Place) → IsGood y → Keeps IsWritten (IsForm P (record { symbol = y; at = at }))
      go (symbol.Number n) at h = done IsWritten (formula.Number at n) (written-Number at n h)
      go (symbol.Text x) at h = done IsWritten (formula.Text at x) (written-Text at x h)
      go (symbol.Constant k) at h = done IsWritten (formula.Constant at k) (written-Constant at k)
      go (symbol.Name n) at h = λ ts t k c. elim c [
        | inl d ↦ done IsWritten (formula.Name at n) (written-Name at n h) ts t k d
        | inr d ↦ headed IsWritten (IsOld P n at) (λ u l. old n at h u) ts t k d
      ]
      go (symbol.Function g) at h = headed IsWritten (IsCall P g at) (λ u l. call g at u)
      go (symbol.Quantifier q) at h =
          λ ts t k c. after_names (λ ns. IsMade (formula.Quantified at q ns) (IsEnded sign.RoundClose (P bracketed))) (quantified at q) (bound_names ts) t (bound_good ts k) c
      go (symbol.Collector d) at h =
          λ ts t k c.
          after_names
          (λ ns. IsMade (λ (x : Formula × Formula). formula.Collected at d ns x.0 x.1) (IsPair (IsEnded sign.Bar (P bracketed)) (IsEnded sign.RoundClose (P bracketed))))
          (collected at d)
          (bound_names ts)
          t
          (bound_good ts k)
          c
      go (symbol.Mark m) at h = marked m at
      go (symbol.Operator o) at h = λ ts t k c. absurd c
      go symbol.Other at h = λ ts t k c. absurd c

  -- a form after an operand
  one_after : (s : Lexeme) → Keeps IsWrittenAfter (IsAfter P s)
  one_after s = go s.symbol s.at
    where
      go : (y : Symbol) (at : Place) → Keeps IsWrittenAfter (IsAfter P (record { symbol = y; at = at }))
      go (symbol.Mark sign.Converse) at = done IsWrittenAfter (after.Converse at) (written-Converse at)
      go (symbol.Mark sign.RoundOpen) at =
          made
          AreWrittenListed
          IsWrittenAfter
          (λ us. after.Apply at (joined operator.Comma us))
          (IsEnded sign.RoundClose (IsList (P bracketed)))
          (λ us g. written-Apply at (joined operator.Comma us) (joined_good operator.Comma us refl g))
          (ended_list sign.RoundClose)
      go (symbol.Mark sign.SquareOpen) at = made IsWritten IsWrittenAfter (after.Image at) (IsEnded sign.SquareClose (P bracketed)) (written-Image at) (ended_at sign.SquareClose bracketed)
      go y at = λ ts x k c. absurd c

  -- an operand with the forms after it
  rows : Keeps IsWritten (IsRow P)
  rows =
      made
      (λ (c : Formula × List After). IsWritten c.0 × AllByRecursion IsWrittenAfter c.1)
      IsWritten
      row
      (IsPair (IsHeaded (IsForm P)) (IsEach (IsHeaded (IsAfter P))))
      (λ c g. row_good c.0 c.1 g.0 g.1)
      (pair
      IsWritten
      (AllByRecursion IsWrittenAfter)
      (IsHeaded (IsForm P))
      (IsEach (IsHeaded (IsAfter P)))
      (headed IsWritten (IsForm P) form)
      (λ ts xs h c. each IsWrittenAfter (IsHeaded (IsAfter P)) (headed IsWrittenAfter (IsAfter P) (λ s h. one_after s)) xs ts h c))

  -- an operand, with a minus before it or not
  operand : Keeps IsWritten (IsOperand P)
  operand = headed IsWritten (λ s. IsSigned P s (is_minus s.symbol)) (λ s h. signed s h (is_minus s.symbol))
    where
      signed : (s : Lexeme) → IsGood s.symbol → (b : Bool) → Keeps IsWritten (IsSigned P s b)
      signed s h true = made IsWritten IsWritten (formula.Negative s.at) (IsRow P) (written-Negative s.at) rows
      signed s h false = λ ts t k c. rows (s ∷ ts) t (h, k) c

-- ---- formulas

-- formulas of good lexemes are written trees, however many brackets are open in them
written_at : (depth : ℕ) (levels : List ℕ) → Keeps IsWritten (IsFormula depth levels)
unfolding IsFormula
written_at zero levels = cut levels (IsOperand (λ ps. IsNever)) (operand (λ ps. IsNever) (λ ps ts t h c. absurd c))
written_at (suc depth) levels = cut levels (IsOperand (IsFormula depth)) (operand (IsFormula depth) (written_at depth))

-- the tree of good lexemes is written
pub written_tree : (ts : List Lexeme) (t : Formula) → AreGood ts → IsFormulaText ts t → IsWritten t
written_tree ts t h c = written_at c.0 plain ts t h c.1

-- what the grammar has for a part of a text's lexemes is a written tree
pub read_as_written : IsReadAsWritten
read_as_written machine text tokens a before middle behind e t c =
    written_tree middle t (back_of before middle (front_of (before ++ middle) behind (subst AreGood (sym e) (good_lexemes machine text tokens a)))) c
