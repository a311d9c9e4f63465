-- A piece that reads at tighter priorities reads at looser ones.
use borrow.Author.Tests.{ltb-true}
use Rattle.std.proofs.Common.{◌≡◌, ◌<◌, ◌≤◌, ◌==◌, ℕ, Bool, true, false, ◌||◌, ◌&&◌, cond, List, [], ◌∷◌, ◌++◌, refl, sym, ap, ◌∙◌, subst, append-nil, arith, nat_lt}
use Rattle.std.proofs.lemmas.Bool.Decides.{nat_tests}
use Rattle.b_ast.specs.declared.Place.{Place}
use Rattle.b_ast.specs.declared.Formula.{Formula}
use Rattle.b_grammar.specs.declared.Symbol.{Symbol}
use Rattle.b_grammar.specs.declared.Symbol.TheVariants as symbol
use Rattle.b_grammar.specs.declared.Lexeme.{Lexeme}
use Rattle.b_grammar.specs.Cuts.{Stands, IsHeaded}
use Rattle.b_grammar.specs.Grammar.{IsChain, IsCutAt, IsForm, IsRow, IsOperand}
use Rattle.b_reading_back.proofs.Ways.{lexeme}

abbrev pub IsWithin : {A : Type 0} → Stands A → Stands A → Type 0
IsWithin {A} R S = (ts : List Lexeme) (x : A) → R ts x → S ts x

pub row_alone : (P : List ℕ → Stands Formula) → IsWithin (IsHeaded (IsForm P)) (IsRow P)
row_alone P ts t f = ((t, []), (ts, [], sym (append-nil ts), f, refl), refl)

pub operand_alone : (P : List ℕ → Stands Formula) → IsWithin (IsRow P) (IsOperand P)
operand_alone P ts t e = go e.1.0 e.1.2 e.1.3
  where
    signed : (y : Symbol) (at : Place) (us : List Lexeme) → IsForm P (lexeme y at) us e.0.0 → IsRow P (lexeme y at ∷ (us ++ e.1.1)) t → IsOperand P (lexeme y at ∷ (us ++ e.1.1)) t
    signed (symbol.Operator o) at us h r = absurd h
    signed y at us h r = r

    go : (front : List Lexeme) → ts ≡ front ++ e.1.1 → IsHeaded (IsForm P) front e.0.0 → IsOperand P ts t
    go [] i h = absurd h
    go (s ∷ us) i h = subst (λ (l : List Lexeme). IsOperand P l t) (sym i) (signed s.symbol s.at us h (subst (λ (l : List Lexeme). IsRow P l t) i e))

pub piece_alone : (p : ℕ) (R : Stands Formula) → IsWithin R (IsChain p R)
piece_alone p R ts t r = ((t, []), ((ts, [], sym (append-nil ts), r, refl), refl), refl)

pub cut_alone : (levels : List ℕ) (R : Stands Formula) → IsWithin R (IsCutAt levels R)
cut_alone [] R ts t r = r
cut_alone (p ∷ ps) R ts t r = piece_alone p (IsCutAt ps R) ts t (cut_alone ps R ts t r)

-- ---- priorities

-- the levels that bind tighter
abbrev pub above : ℕ → List ℕ → List ℕ
above n [] = []
above n (l ∷ ls) = cond (nat_lt n l) (l ∷ above n ls) (above n ls)

abbrev pub all_above : ℕ → List ℕ → Bool
all_above n [] = true
all_above n (l ∷ ls) = nat_lt n l && all_above n ls

abbrev pub is_level : ℕ → List ℕ → Bool
is_level p [] = false
is_level p (l ∷ ls) = (p == l) || is_level p ls

abbrev pub rises : List ℕ → Bool
rises [] = true
rises (l ∷ ls) = all_above l ls && rises ls

both : (a b : Bool) → a && b ≡ true → (a ≡ true) × (b ≡ true)
both true b e = (refl, e)
both false b e = absurd (cc)

-- nothing is left out below the least
keep : (n m : ℕ) (ls : List ℕ) → n ≤ m → all_above m ls ≡ true → above n ls ≡ ls
keep n m [] h e = refl
keep n m (l ∷ ls) h e =
    let c = both (nat_lt m l) (all_above m ls) e in
    let far : m < l = ltb-true m l c.0 in
    let here : nat_lt n l ≡ true = grind (arith, nat_tests) in
    ap (λ (b : Bool). cond b (l ∷ above n ls) (above n ls)) here ∙ ap (λ (k : List ℕ). l ∷ k) (keep n m ls h c.1)

-- a level of the rest is above the least
level_above : (m p : ℕ) (ls : List ℕ) → all_above m ls ≡ true → is_level p ls ≡ true → m < p
level_above m p [] e f = absurd (cc)
level_above m p (l ∷ ls) e f =
    let c = both (nat_lt m l) (all_above m ls) e in
    let far : m < l = ltb-true m l c.0 in
    go (p == l) refl f far (λ g. level_above m p ls c.1 g)
  where
    go : (b : Bool) → (p == l) ≡ b → b || is_level p ls ≡ true → m < l → (is_level p ls ≡ true → m < p) → m < p
    go true i g far rest = let same : p ≡ l = grind (arith, nat_tests) in omega arith
    go false i g far rest = rest g

pub climb : (ls : List ℕ) (p n : ℕ) (R : Stands Formula) → rises ls ≡ true → is_level p ls ≡ true → n < p → IsWithin (IsCutAt (p ∷ above p ls) R) (IsCutAt (above n ls) R)
climb [] p n R e f h ts t r = absurd (cc)
climb (l ∷ ls) p n R e f h ts t r =
    let c = both (all_above l ls) (rises ls) e in
    go (p == l) refl f c.0 (λ g k. climb ls p n R c.1 g h ts t k)
  where
    here : p ≡ l → all_above l ls ≡ true → IsCutAt (above n (l ∷ ls)) R ts t
    here same up =
        let less : nat_lt n l ≡ true = grind (arith, nat_tests) in
        let not_less : nat_lt p l ≡ false = grind (arith, nat_tests) in
        let left : above p (l ∷ ls) ≡ ls = ap (λ (b : Bool). cond b (l ∷ above p ls) (above p ls)) not_less ∙ keep p l ls (omega arith) up in
        let right : above n (l ∷ ls) ≡ l ∷ ls = ap (λ (b : Bool). cond b (l ∷ above n ls) (above n ls)) less ∙ ap (λ (k : List ℕ). l ∷ k) (keep n l ls (omega arith) up) in
        let all : p ∷ above p (l ∷ ls) ≡ above n (l ∷ ls) = ap (λ (k : List ℕ). p ∷ k) left ∙ ap (λ (k : ℕ). k ∷ ls) same ∙ sym right in
        subst (λ (k : List ℕ). IsCutAt k R ts t) all r

    there : is_level p ls ≡ true → all_above l ls ≡ true → (IsCutAt (p ∷ above p ls) R ts t → IsCutAt (above n ls) R ts t) → IsCutAt (above n (l ∷ ls)) R ts t
    there g up more = choose (nat_lt n l) refl
      where
        below : l < p
        below = level_above l p ls up g

        not_less : nat_lt p l ≡ false
        not_less = let b : l < p = below in grind (arith, nat_tests)

        rest : IsCutAt (above n ls) R ts t
        rest = more (subst (λ (b : Bool). IsCutAt (p ∷ cond b (l ∷ above p ls) (above p ls)) R ts t) not_less r)

        choose : (b : Bool) → nat_lt n l ≡ b → IsCutAt (above n (l ∷ ls)) R ts t
        choose true i = subst (λ (b : Bool). IsCutAt (cond b (l ∷ above n ls) (above n ls)) R ts t) (sym i) (piece_alone l (IsCutAt (above n ls) R) ts t rest)
        choose false i = subst (λ (b : Bool). IsCutAt (cond b (l ∷ above n ls) (above n ls)) R ts t) (sym i) rest

    go : (b : Bool) → (p == l) ≡ b → b || is_level p ls ≡ true → all_above l ls ≡ true → (is_level p ls ≡ true → IsCutAt (p ∷ above p ls) R ts t → IsCutAt (above n ls) R ts t) → IsCutAt (above n (l ∷ ls)) R ts t
    go true i g up more = let same : p ≡ l = grind (arith, nat_tests) in here same up
    go false i g up more = there g up (more g)
