-- Operands with operators of one priority between them are read as a chain.
use Rattle.std.proofs.Common.{◌≡◌, ◌≢◌, ◌==◌, ℕ, true, List, [], ◌∷◌, ◌++◌, map, refl, sym, ap, ◌∙◌, subst}
use Rattle.std.specs.List.{AllByRecursion}
use Rattle.b_ast.specs.declared.Place.{Place}
use Rattle.b_ast.specs.declared.Operator.{Operator}
use Rattle.b_ast.specs.declared.Formula.{Formula}
use Rattle.b_ast.specs.declared.Formula.TheVariants as formula
use Rattle.b_ast.specs.declared.Link.{Link}
use Rattle.b_grammar.specs.declared.Symbol.{Symbol}
use Rattle.b_grammar.specs.declared.Symbol.TheVariants as symbol
use Rattle.b_grammar.specs.declared.Lexeme.{Lexeme}
use Rattle.b_grammar.specs.Cuts.{Stands, IsHeaded, IsPair, IsEach, IsSuch}
use Rattle.b_grammar.specs.Grammar.{Part, link, chain, priority, may_chain, IsPart, IsChain}
use Rattle.b_reading_back.specs.Laws.{symbols}
use Rattle.b_reading_back.specs.Places.{bare, bare_link}
use Rattle.b_reading_back.specs.Symbols.{links, link_symbols}
use Rattle.b_reading_back.proofs.Ways.{IsRead, headed, pair, no_more, one_more, made, such}
use Rattle.b_reading_back.proofs.Bare.{bare-Chain, joined_link, bare-link}

abbrev pub part_look : Part → Link
part_look l = bare_link (link l)

-- two lists of one length may both be chained
pub may_same : {A B C : Type 0} (f : A → C) (g : B → C) (p : ℕ) (xs : List A) (ys : List B) → map f xs ≡ map g ys → may_chain p ys ≡ true → may_chain p xs ≡ true
may_same f g p [] ys e h = refl
may_same f g p (x ∷ []) ys e h = refl
may_same f g p (x ∷ z ∷ xs) [] e h = absurd (cc)
may_same f g p (x ∷ z ∷ xs) (y ∷ []) e h = absurd (cc)
may_same f g p (x ∷ z ∷ xs) (y ∷ w ∷ ys) e h = h

module _ (p : ℕ) (R : Stands Formula) where
  -- an operator of this priority, and an operand that is read
  pub record LinkIs (l : Link) : Type 0 where
    pub operand : Formula
    pub level : (priority (link_symbols l).0 == p) ≡ true
    pub is : bare_link l ≡ joined_link (link_symbols l).0 operand
    pub reads : IsRead R bare (link_symbols l).1 operand

  one_link : (o : Operator) (ss : List Symbol) (b : Formula) → (priority o == p) ≡ true → IsRead R bare ss b → IsRead (IsHeaded (IsPart p R)) part_look (symbol.Operator o ∷ ss) (joined_link o b)
  one_link o ss b e r = headed (IsPart p R) part_look (symbol.Operator o) ss (joined_link o b) (λ at. record { read = go at })
    where
      go : (at : Place) (ts : List Lexeme) → symbols ts ≡ ss → (x : Part) × IsPart p R (record { symbol = symbol.Operator o; at = at }) ts x × (part_look x ≡ joined_link o b)
      go at ts i =
          let x = r.read ts i in
          ((o, at, x.0), ((x.0, x.1, refl), e), bare-link (o, at, x.0) ∙ ap (joined_link o) x.2)

  links_read : (ls : List Link) → AllByRecursion LinkIs ls → IsRead (IsEach (IsHeaded (IsPart p R))) (map part_look) (links (map link_symbols ls)) (map bare_link ls)
  links_read [] h = no_more (IsHeaded (IsPart p R)) part_look
  links_read (l ∷ ls) h =
      one_more (IsHeaded (IsPart p R)) part_look (symbol.Operator (link_symbols l).0 ∷ (link_symbols l).1) (links (map link_symbols ls)) (bare_link l) (map bare_link ls)
      (subst (λ (b : Link). IsRead (IsHeaded (IsPart p R)) part_look (symbol.Operator (link_symbols l).0 ∷ (link_symbols l).1) b) (sym h.0.is) (one_link (link_symbols l).0 (link_symbols l).1 h.0.operand h.0.level h.0.reads))
      (links_read ls h.1)

  pub chain_read : (ss : List Symbol) (b : Formula) (ls : List Link) → ls ≢ [] → may_chain p ls ≡ true → IsRead R bare ss b → AllByRecursion LinkIs ls
      → IsRead (IsChain p R) bare (ss ++ links (map link_symbols ls)) (formula.Chain b (map bare_link ls))
  chain_read ss b ls ne may r h =
      made {C = Formula × List Link} chain (IsSuch (λ c. may_chain p c.1) (IsPair R (IsEach (IsHeaded (IsPart p R))))) (λ (x : Formula × List Part). (bare x.0, map part_look x.1)) (ss ++ links (map link_symbols ls)) (b, map bare_link ls) bare (formula.Chain b (map bare_link ls))
      (such {B = Formula × List Link} (λ c. may_chain p c.1) (IsPair R (IsEach (IsHeaded (IsPart p R)))) (λ (x : Formula × List Part). (bare x.0, map part_look x.1)) (ss ++ links (map link_symbols ls)) (b, map bare_link ls)
      (pair R (IsEach (IsHeaded (IsPart p R))) bare (map part_look) ss (links (map link_symbols ls)) b (map bare_link ls) r (links_read ls h))
      (λ x e. may_same part_look bare_link p x.1 ls (ap (λ (q : Formula × List Link). q.1) e) may))
      (λ x e. look x.0 x.1 (ap (λ (q : Formula × List Link). q.0) e) (ap (λ (q : Formula × List Link). q.1) e))
    where
      none : (ms : List Link) → [] ≡ map bare_link ms → ms ≡ []
      none [] e = refl
      none (m ∷ ms) e = absurd (cc)

      parts : (ps : List Part) → map bare_link (map link ps) ≡ map part_look ps
      parts [] = refl
      parts (q ∷ ps) = ap (λ (l : List Link). part_look q ∷ l) (parts ps)

      look : (t : Formula) (ps : List Part) → bare t ≡ b → map part_look ps ≡ map bare_link ls → bare (chain (t, ps)) ≡ formula.Chain b (map bare_link ls)
      look t [] i e = absurd (ne (none ls e))
      look t (q ∷ ps) i e = bare-Chain t (map link (q ∷ ps)) ∙ ap (λ f. formula.Chain f (map bare_link (map link (q ∷ ps)))) i ∙ ap (λ l. formula.Chain b l) (parts (q ∷ ps) ∙ e)
