-- A row of operands whose parts are gathered, the tightest priority first, is cut as the grammar cuts it.
use Rattle.std.proofs.Common.{◌≡◌, ◌==◌, ℕ, Bool, true, false, List, [], ◌∷◌, ◌++◌, Option, Some, None, refl, sym, ap, ◌∙◌, subst, append_assoc, append-nil}
use Rattle.std.specs.Prelude.{◌||◌}
use Rattle.std.specs.List.{list_all}
use Rattle.std.proofs.lemmas.Bool.{eqb-true, and_from, and_parts, or_left, or_right}
use Rattle.b_ast.specs.declared.Place.{Place}
use Rattle.b_ast.specs.declared.Operator.{Operator}
use Rattle.b_ast.specs.declared.Formula.{Formula}
use Rattle.b_grammar.specs.declared.Symbol.{Symbol}
use Rattle.b_grammar.specs.declared.Symbol.TheVariants as symbol
use Rattle.b_grammar.specs.declared.Lexeme.{Lexeme}
use Rattle.b_grammar.specs.Cuts.{Stands, IsNever, IsHeaded, IsPair, IsEach, IsMade, IsSuch}
use Rattle.b_grammar.specs.Grammar.{priority, may_chain, Part, chain, IsPart, IsChain, IsCutAt}
use Rattle.b_grammar.specs.Descent.{is_among, Row, if_some, chain_if, chain_at, Gathered, before_by, before, gathered, row_of, merged, grouped, alone}

-- ---- rows of operands

-- an operator and the piece after it
abbrev pub IsLink : Stands Formula → Lexeme → Stands Part
IsLink R s = of s.symbol
  where
    of : Symbol → Stands Part
    of (symbol.Operator o) = IsMade (λ t. (o, s.at, t)) R
    of x = IsNever

abbrev pub IsOperands : Stands Formula → Stands Row
IsOperands R = IsPair R (IsEach (IsHeaded (IsLink R)))

-- the operator has one of these priorities
abbrev pub IsTested : List ℕ → Stands Formula → Lexeme → Stands Part
IsTested levels R s = of s.symbol
  where
    of : Symbol → Stands Part
    of (symbol.Operator o) = IsSuch (λ l. is_among levels false (priority o)) (IsMade (λ t. (o, s.at, t)) R)
    of x = IsNever

-- the priorities of all parts pass a test
abbrev pub all_at : (ℕ → Bool) → List Part → Bool
all_at test ls = list_all (λ l. test (priority l.0)) ls

abbrev pub or_at : ℕ → (ℕ → Bool) → ℕ → Bool
or_at p test q = (q == p) || test q

-- none of the priorities passes the test or stands twice
abbrev pub IsFree : List ℕ → (ℕ → Bool) → Type 0
IsFree [] test = Unit {0}
IsFree (p ∷ ps) test = (test p ≡ false) × IsFree ps (or_at p test)

-- ---- lists of parts

each_append : {A : Type 0} (F : Stands A) (xs ys : List A) (a b : List Lexeme) → IsEach F a xs → IsEach F b ys → IsEach F (a ++ b) (xs ++ ys)
each_append F [] ys a b r s = subst (λ l. IsEach F (l ++ b) ys) (sym r) s
each_append F (x ∷ xs) ys a b r s = (r.0, r.1 ++ b, ap (λ l. l ++ b) r.2 ∙ append_assoc r.0 r.1 b, r.3, each_append F xs ys r.1 b r.4 s)

all_append : (test : ℕ → Bool) (ks ms : List Part) → all_at test ks ≡ true → all_at test ms ≡ true → all_at test (ks ++ ms) ≡ true
all_append test [] ms a b = b
all_append test (k ∷ ks) ms a b =
    let c = and_parts (test (priority k.0)) (all_at test ks) a in
    and_from (test (priority k.0)) (all_at test (ks ++ ms)) c.0 (all_append test ks ms c.1 b)

all_more : (p : ℕ) (test : ℕ → Bool) (ks : List Part) → all_at (λ q. q == p) ks ≡ true → all_at (or_at p test) ks ≡ true
all_more p test [] a = refl
all_more p test (k ∷ ks) a =
    let c = and_parts (priority k.0 == p) (all_at (λ q. q == p) ks) a in
    and_from (or_at p test (priority k.0)) (all_at (or_at p test) ks) (or_left (priority k.0 == p) (test (priority k.0)) c.0) (all_more p test ks c.1)

abbrev as_part : Operator → Place → Formula → Part
as_part o at t = (o, at, t)

abbrev row_with : Formula → List Part → Option Row
row_with u ls = Some (u, ls)

some_same : {A : Type 0} (x y : A) → Some x ≡ Some y → x ≡ y
some_same x y e = cc

-- ---- one priority

module _ (p : ℕ) (X : Stands Formula) where
  link_part : (front : List Lexeme) (l : Part) → (priority l.0 == p) ≡ true → IsHeaded (IsLink X) front l → IsHeaded (IsPart p X) front l
  link_part [] l e c = absurd c
  link_part (s ∷ ts) l e c = go s.symbol s.at c
    where
      go : (y : Symbol) (at : Place) → IsLink X (record { symbol = y; at = at }) ts l → IsPart p X (record { symbol = y; at = at }) ts l
      go (symbol.Operator o) at c = (c, e)
      go y at c = absurd c

  part_link : (front : List Lexeme) (l : Part) → IsHeaded (IsPart p X) front l → IsHeaded (IsLink X) front l × ((priority l.0 == p) ≡ true)
  part_link [] l c = absurd c
  part_link (s ∷ ts) l c = go s.symbol s.at c
    where
      go : (y : Symbol) (at : Place) → IsPart p X (record { symbol = y; at = at }) ts l → IsLink X (record { symbol = y; at = at }) ts l × ((priority l.0 == p) ≡ true)
      go (symbol.Operator o) at c = (c.0, c.1)
      go y at c = absurd c

  parts_links : (ks : List Part) (b : List Lexeme) → IsEach (IsHeaded (IsPart p X)) b ks → IsEach (IsHeaded (IsLink X)) b ks × (all_at (λ q. q == p) ks ≡ true)
  parts_links [] b r = (r, refl)
  parts_links (k ∷ ks) b r =
      let d = part_link r.0 k r.3 in
      let more = parts_links ks r.1 r.4 in
      ((r.0, r.1, r.2, d.0, more.0), and_from (priority k.0 == p) (all_at (λ q. q == p) ks) d.1 more.1)

  -- a chain behind an operator
  chain_link : (front back : List Lexeme) (l : Part) (ks : List Part) → IsHeaded (IsLink X) front l → IsEach (IsHeaded (IsPart p X)) back ks → may_chain p ks ≡ true
      → IsHeaded (IsLink (IsChain p X)) (front ++ back) (l.0, l.1, chain (l.2, ks))
  chain_link [] back l ks c d may = absurd c
  chain_link (s ∷ ts) back l ks c d may = go s.symbol s.at c
    where
      go : (y : Symbol) (at : Place) → IsLink X (record { symbol = y; at = at }) ts l → IsLink (IsChain p X) (record { symbol = y; at = at }) (ts ++ back) (l.0, l.1, chain (l.2, ks))
      go (symbol.Operator o) at c =
          (chain (c.0, ks), ((c.0, ks), ((ts, back, refl, c.1, d), may), refl), ap (λ (l : Part). (l.0, l.1, chain (l.2, ks))) c.2)
      go y at c = absurd c

  abbrev IsGathered : List Lexeme → Gathered → Type 0
  IsGathered b g = (a : List Lexeme) × (c : List Lexeme) × (b ≡ a ++ c) × IsEach (IsHeaded (IsPart p X)) a g.0 × IsEach (IsHeaded (IsLink (IsChain p X))) c g.1

  chain_allowed : (t u : Formula) (ks : List Part) → chain_at p t ks ≡ Some u → (may_chain p ks ≡ true) × (chain (t, ks) ≡ u)
  chain_allowed t u ks e = go (may_chain p ks) refl e
    where
      go : (b : Bool) → may_chain p ks ≡ b → chain_if b t ks ≡ Some u → (may_chain p ks ≡ true) × (chain (t, ks) ≡ u)
      go true f e = (f, some_same (chain (t, ks)) u e)
      go false f e = absurd (cc)

  before_sound : (l : Part) (front back b : List Lexeme) (h g : Gathered) → b ≡ front ++ back → IsHeaded (IsLink X) front l → IsGathered back h → before p l h ≡ Some g → IsGathered b g
  before_sound l front back b h g is c d e = go (priority l.0 == p) refl e
    where
      joined : b ≡ (front ++ d.0) ++ d.1
      joined = is ∙ ap (λ x. front ++ x) d.2 ∙ sym (append_assoc front d.0 d.1)

      behind : (o : Option Formula) → chain_at p l.2 h.0 ≡ o → if_some o (λ t. Some ([], (l.0, l.1, t) ∷ h.1)) ≡ Some g → IsGathered b g
      behind None f e = absurd (cc)
      behind (Some u) f e =
          let k = chain_allowed l.2 u h.0 f in
          let linked : IsHeaded (IsLink (IsChain p X)) (front ++ d.0) (l.0, l.1, u) = subst (λ (t : Formula). IsHeaded (IsLink (IsChain p X)) (front ++ d.0) (l.0, l.1, t)) k.1 (chain_link front d.0 l h.0 c d.3 k.0) in
          let here : IsGathered b ([], (l.0, l.1, u) ∷ h.1) = ([], b, refl, refl, (front ++ d.0, d.1, joined, linked, d.4)) in
          subst (IsGathered b) (some_same ([], (l.0, l.1, u) ∷ h.1) g e) here

      go : (t : Bool) → (priority l.0 == p) ≡ t → before_by t p l h ≡ Some g → IsGathered b g
      go true f e =
          let here : IsGathered b (l ∷ h.0, h.1) = (front ++ d.0, d.1, joined, (front, d.0, refl, link_part front l f c, d.3), d.4) in
          subst (IsGathered b) (some_same (l ∷ h.0, h.1) g e) here
      go false f e = behind (chain_at p l.2 h.0) refl e

  gathered_sound : (ls : List Part) (b : List Lexeme) (g : Gathered) → IsEach (IsHeaded (IsLink X)) b ls → gathered p ls ≡ Some g → IsGathered b g
  gathered_sound [] b g r e =
      let here : IsGathered b ([], []) = ([], b, refl, refl, r) in
      subst (IsGathered b) (some_same ([], []) g e) here
  gathered_sound (l ∷ ls) b g r e = go (gathered p ls) refl e (λ h. gathered_sound ls r.1 h r.4)
    where
      go : (q : Option Gathered) → gathered p ls ≡ q → if_some q (before p l) ≡ Some g → ((h : Gathered) → gathered p ls ≡ Some h → IsGathered r.1 h) → IsGathered b g
      go None f e more = absurd (cc)
      go (Some h) f e more = before_sound l r.0 r.1 b h g r.2 r.3 (more h f) e

  merged_sound : (x y : Row) (front : List Lexeme) → IsOperands X front x → merged p x ≡ Some y → IsOperands (IsChain p X) front y
  merged_sound x y front r e = go (gathered p x.1) refl e
    where
      made_row : (g : Gathered) → IsGathered r.1 g → (o : Option Formula) → chain_at p x.0 g.0 ≡ o → if_some o (λ u. Some (u, g.1)) ≡ Some y → IsOperands (IsChain p X) front y
      made_row g d None f e = absurd (cc)
      made_row g d (Some u) f e =
          let k = chain_allowed x.0 u g.0 f in
          let first : IsChain p X (r.0 ++ d.0) u = ((x.0, g.0), ((r.0, d.0, refl, r.3, d.3), k.0), sym k.1) in
          let joined : front ≡ (r.0 ++ d.0) ++ d.1 = r.2 ∙ ap (λ l. r.0 ++ l) d.2 ∙ sym (append_assoc r.0 d.0 d.1) in
          let here : IsOperands (IsChain p X) front (u, g.1) = (r.0 ++ d.0, d.1, joined, first, d.4) in
          subst (IsOperands (IsChain p X) front) (some_same (u, g.1) y e) here

      go : (q : Option Gathered) → gathered p x.1 ≡ q → if_some q (row_of p x.0) ≡ Some y → IsOperands (IsChain p X) front y
      go None f e = absurd (cc)
      go (Some g) f e = made_row g (gathered_sound x.1 r.1 g r.4 f) (chain_at p x.0 g.0) refl e

  -- ---- and back

  runs : (ks ms ls : List Part) → all_at (λ q. q == p) ks ≡ true → gathered p ms ≡ Some ([], ls) → gathered p (ks ++ ms) ≡ Some (ks, ls)
  runs [] ms ls a e = e
  runs (k ∷ ks) ms ls a e =
      let c = and_parts (priority k.0 == p) (all_at (λ q. q == p) ks) a in
      ap (λ q. if_some q (before p k)) (runs ks ms ls c.1 e) ∙ ap (λ b. before_by b p k (ks, ls)) c.0

  differs : (test : ℕ → Bool) (q : ℕ) → test p ≡ false → test q ≡ true → (q == p) ≡ false
  differs test q fails passes = go (q == p) refl
    where
      go : (b : Bool) → (q == p) ≡ b → (q == p) ≡ false
      go true f = let same : q ≡ p = eqb-true q p f in let both : ◌≡◌ {A = Bool} true false = sym passes ∙ ap test same ∙ fails in absurd (cc)
      go false f = f

  abbrev IsOpened : (ℕ → Bool) → List Lexeme → List Part → Type 0
  IsOpened test b ls = (ms : List Part) × IsEach (IsHeaded (IsLink X)) b ms × (gathered p ms ≡ Some ([], ls)) × (all_at (or_at p test) ms ≡ true)

  opened_part : (test : ℕ → Bool) (l : Part) (ls : List Part) (front back b : List Lexeme) → test p ≡ false → test (priority l.0) ≡ true → b ≡ front ++ back → IsHeaded (IsLink (IsChain p X)) front l → IsOpened test back ls
      → IsOpened test b (l ∷ ls)
  opened_part test l ls [] back b fails passes is c d = absurd c
  opened_part test l ls (s ∷ ts) back b fails passes is c d = go s.symbol s.at is c
    where
      go : (y : Symbol) (at : Place) → b ≡ (record { symbol = y; at = at } ∷ ts) ++ back → IsLink (IsChain p X) (record { symbol = y; at = at }) ts l → IsOpened test b (l ∷ ls)
      go (symbol.Operator o) at is c =
          let k = c.1.0 in
          let cut = c.1.1.0 in
          let head : Part = as_part o at k.0 in
          let more = parts_links k.1 cut.1 cut.4 in
          let name : priority l.0 ≡ priority o = ap (λ (l : Part). priority l.0) c.2 in
          let apart : (priority o == p) ≡ false = differs test (priority o) fails (ap test (sym name) ∙ passes) in
          let row : gathered p (k.1 ++ d.0) ≡ Some (k.1, ls) = runs k.1 d.0 ls more.1 d.2 in
          let same : as_part o at (chain k) ≡ l = ap (as_part o at) (sym c.1.2) ∙ sym c.2 in
          let joined : b ≡ (record { symbol = symbol.Operator o; at = at } ∷ cut.0) ++ (cut.1 ++ back) =
          is ∙ ap (λ x. (record { symbol = symbol.Operator o; at = at } ∷ x) ++ back) cut.2 ∙ append_assoc (record { symbol = symbol.Operator o; at = at } ∷ cut.0) cut.1 back in (
            head ∷ (k.1 ++ d.0),
            (record { symbol = symbol.Operator o; at = at } ∷ cut.0, cut.1 ++ back, joined, (k.0, cut.3, refl), each_append (IsHeaded (IsLink X)) k.1 d.0 cut.1 back more.0 d.1),
            ap (λ q. if_some q (before p head)) row
                ∙ ap (λ b. before_by b p head (k.1, ls)) apart
                ∙ ap (λ b. if_some (chain_if b k.0 k.1) (λ t. Some ([], as_part o at t ∷ ls))) c.1.1.1
                ∙ ap (λ l. Some ([], l ∷ ls)) same,
            and_from (or_at p test (priority o)) (all_at (or_at p test) (k.1 ++ d.0)) (or_right (priority o == p) (test (priority o)) (ap test (sym name) ∙ passes))
                (all_append (or_at p test) k.1 d.0 (all_more p test k.1 more.1) d.3),
          )
      go y at is c = absurd c

  opened : (test : ℕ → Bool) → test p ≡ false → (ls : List Part) (b : List Lexeme) → IsEach (IsHeaded (IsLink (IsChain p X))) b ls → all_at test ls ≡ true → IsOpened test b ls
  opened test fails [] b r a = ([], r, refl, refl)
  opened test fails (l ∷ ls) b r a =
      let c = and_parts (test (priority l.0)) (all_at test ls) a in
      opened_part test l ls r.0 r.1 b fails c.0 r.2 r.3 (opened test fails ls r.1 r.4 c.1)

  merged_complete : (test : ℕ → Bool) → test p ≡ false → (y : Row) (front : List Lexeme) → IsOperands (IsChain p X) front y → all_at test y.1 ≡ true
      → (x : Row) × IsOperands X front x × (merged p x ≡ Some y) × (all_at (or_at p test) x.1 ≡ true)
  merged_complete test fails y front r a =
      let d = opened test fails y.1 r.1 r.4 a in
      let k = r.3.0 in
      let cut = r.3.1.0 in
      let more = parts_links k.1 cut.1 cut.4 in (
        (k.0, k.1 ++ d.0),
        (cut.0, cut.1 ++ r.1, r.2 ∙ ap (λ l. l ++ r.1) cut.2 ∙ append_assoc cut.0 cut.1 r.1, cut.3, each_append (IsHeaded (IsLink X)) k.1 d.0 cut.1 r.1 more.0 d.1),
        ap (λ q. if_some q (row_of p k.0)) (runs k.1 d.0 y.1 more.1 d.2)
            ∙ ap (λ b. if_some (chain_if b k.0 k.1) (λ u. row_with u y.1)) r.3.1.1
            ∙ ap (λ u. row_with u y.1) (sym r.3.2),
        all_append (or_at p test) k.1 d.0 (all_more p test k.1 more.1) d.3,
      )

-- ---- all priorities

abbrev among : List ℕ → (ℕ → Bool) → ℕ → Bool
among levels test q = is_among levels (test q) q

grouped_sound : (levels : List ℕ) (R : Stands Formula) (x y : Row) (front : List Lexeme) → IsOperands R front x → grouped levels x ≡ Some y → IsOperands (IsCutAt levels R) front y
unfolding grouped
grouped_sound [] R x y front r e = subst (IsOperands R front) (some_same x y e) r
grouped_sound (p ∷ ps) R x y front r e = go (grouped ps x) refl e (λ z. grouped_sound ps R x z front r)
  where
    go : (q : Option Row) → grouped ps x ≡ q → if_some q (merged p) ≡ Some y → ((z : Row) → grouped ps x ≡ Some z → IsOperands (IsCutAt ps R) front z) → IsOperands (IsCutAt (p ∷ ps) R) front y
    go None f e more = absurd (cc)
    go (Some z) f e more = merged_sound p (IsCutAt ps R) z y front (more z f) e

grouped_complete : (levels : List ℕ) (R : Stands Formula) (test : ℕ → Bool) (y : Row) (front : List Lexeme) → IsFree levels test → IsOperands (IsCutAt levels R) front y → all_at test y.1 ≡ true
    → (x : Row) × IsOperands R front x × (grouped levels x ≡ Some y) × (all_at (among levels test) x.1 ≡ true)
unfolding grouped
grouped_complete [] R test y front free r a = (y, r, refl, a)
grouped_complete (p ∷ ps) R test y front free r a =
    let z = merged_complete p (IsCutAt ps R) test free.0 y front r a in
    let d = grouped_complete ps R (or_at p test) z.0 front free.1 z.1 z.3 in
    (d.0, d.1, ap (λ q. if_some q (merged p)) d.2 ∙ z.2, d.3)

one_tree : (X : Stands Formula) (u t : Formula) (ls : List Part) (front : List Lexeme) → IsOperands X front (u, ls) → alone (u, ls) ≡ Some t → X front t
one_tree X u t [] front r e =
    let whole : front ≡ r.0 = r.2 ∙ ap (λ l. r.0 ++ l) r.4 ∙ append-nil r.0 in
    subst (λ l. X l t) (sym whole) (subst (X r.0) (some_same u t e) r.3)
one_tree X u t (l ∷ ls) front r e = absurd (cc)

-- what is gathered to one tree stands for it
pub tree_sound : (levels : List ℕ) (R : Stands Formula) (x : Row) (front : List Lexeme) (t : Formula) → IsOperands R front x → if_some (grouped levels x) alone ≡ Some t → IsCutAt levels R front t
tree_sound levels R x front t r e = go (grouped levels x) refl e
  where
    go : (q : Option Row) → grouped levels x ≡ q → if_some q alone ≡ Some t → IsCutAt levels R front t
    go None f e = absurd (cc)
    go (Some y) f e = one_tree (IsCutAt levels R) y.0 t y.1 front (grouped_sound levels R x y front r f) e

link_tested : (levels : List ℕ) (R : Stands Formula) (front : List Lexeme) (l : Part) → IsHeaded (IsLink R) front l → is_among levels false (priority l.0) ≡ true → IsHeaded (IsTested levels R) front l
link_tested levels R [] l c a = absurd c
link_tested levels R (s ∷ ts) l c a = go s.symbol s.at c
  where
    go : (y : Symbol) (at : Place) → IsLink R (record { symbol = y; at = at }) ts l → IsTested levels R (record { symbol = y; at = at }) ts l
    go (symbol.Operator o) at c = (c, ap (λ (l : Part). is_among levels false (priority l.0)) (sym c.2) ∙ a)
    go y at c = absurd c

links_tested : (levels : List ℕ) (R : Stands Formula) (ls : List Part) (b : List Lexeme) → IsEach (IsHeaded (IsLink R)) b ls → all_at (λ q. is_among levels false q) ls ≡ true → IsEach (IsHeaded (IsTested levels R)) b ls
links_tested levels R [] b r a = r
links_tested levels R (l ∷ ls) b r a =
    let c = and_parts (is_among levels false (priority l.0)) (all_at (λ q. is_among levels false q) ls) a in
    (r.0, r.1, r.2, link_tested levels R r.0 l r.3 c.0, links_tested levels R ls r.1 r.4 c.1)

-- and what stands for a tree is a row that is gathered to it
pub tree_complete : (levels : List ℕ) (R : Stands Formula) (front : List Lexeme) (t : Formula) → IsFree levels (λ q. false) → IsCutAt levels R front t
    → (x : Row) × IsPair R (IsEach (IsHeaded (IsTested levels R))) front x × (grouped levels x ≡ Some (t, []))
tree_complete levels R front t free c =
    let r : IsOperands (IsCutAt levels R) front (t, []) = (front, [], sym (append-nil front), c, refl) in
    let d = grouped_complete levels R (λ q. false) (t, []) front free r refl in
    (d.0, (d.1.0, d.1.1, d.1.2, d.1.3, links_tested levels R d.0.1 d.1.1 d.1.4 d.3), d.2)
