-- What lists of lexemes with given symbols stand for, by each way to cut.
use Rattle.std.proofs.Common.{◌≡◌, inl, inr, Bool, true, List, [], ◌∷◌, ◌++◌, map, refl, sym, ap, ◌∙◌, subst, append-nil}
use Rattle.b_ast.specs.declared.Place.{Place}
use Rattle.b_grammar.specs.declared.Mark.{Mark}
use Rattle.b_grammar.specs.declared.Symbol.{Symbol}
use Rattle.b_grammar.specs.declared.Symbol.TheVariants as symbol
use Rattle.b_grammar.specs.declared.Lexeme.{Lexeme}
use Rattle.b_grammar.specs.Cuts.{Stands, mark, IsDone, IsHeaded, IsEnded, IsPair, IsEach, IsMade, IsSuch, IsEither}
use Rattle.b_reading_back.specs.Symbols.{ended}
use Rattle.b_reading_back.specs.Laws.{symbols}

-- each list of lexemes with these symbols stands for something that looks so
pub record IsRead {A B : Type 0} (R : Stands A) (look : A → B) (ss : List Symbol) (b : B) : Type 0 where
  pub read : (ts : List Lexeme) → symbols ts ≡ ss → (x : A) × R ts x × (look x ≡ b)

abbrev pub lexeme : Symbol → Place → Lexeme
lexeme s at = record { symbol = s; at = at }

pub none_left : (ts : List Lexeme) → symbols ts ≡ [] → ts ≡ []
none_left [] e = refl
none_left (t ∷ ts) e = absurd (cc)

-- lexemes are split where their symbols are
pub split : (ss rs : List Symbol) (ts : List Lexeme) → symbols ts ≡ ss ++ rs → (front : List Lexeme) × (back : List Lexeme) × (ts ≡ front ++ back) × (symbols front ≡ ss) × (symbols back ≡ rs)
split [] rs ts e = ([], ts, refl, refl, e)
split (s ∷ ss) rs [] e = absurd (cc)
split (s ∷ ss) rs (t ∷ ts) e =
    let head : t.symbol ≡ s = cc in
    let tail : symbols ts ≡ ss ++ rs = cc in
    let d = split ss rs ts tail in
    (t ∷ d.0, d.1, ap (λ l. t ∷ l) d.2, cc (head, d.3), d.4)

pub one_mark : (m : Mark) (ts : List Lexeme) → symbols ts ≡ symbol.Mark m ∷ [] → (at : Place) × (ts ≡ mark m at ∷ [])
one_mark m [] e = absurd (cc)
one_mark m (t ∷ ts) e =
    let head : t.symbol ≡ symbol.Mark m = cc in
    let tail : symbols ts ≡ [] = cc in
    (t.at, ap (λ (z : Symbol). lexeme z t.at ∷ ts) head ∙ ap (λ l. mark m t.at ∷ l) (none_left ts tail))

-- ---- ways to cut

pub done_as : {A B : Type 0} (a : A) (look : A → B) (b : B) → look a ≡ b → IsRead (IsDone a) look [] b
done_as a look b h = record { read = λ ts e. (a, (none_left ts e, refl), h) }

pub done : {A B : Type 0} (a : A) (look : A → B) → IsRead (IsDone a) look [] (look a)
done a look = record { read = λ ts e. (a, (none_left ts e, refl), refl) }

pub headed : {A B : Type 0} (F : Lexeme → Stands A) (look : A → B) (s : Symbol) (ss : List Symbol) (b : B) → ((at : Place) → IsRead (F (lexeme s at)) look ss b) → IsRead (IsHeaded F) look (s ∷ ss) b
headed {A} {B} F look s ss b f = record { read = go }
  where
    go : (ts : List Lexeme) → symbols ts ≡ s ∷ ss → (x : A) × IsHeaded F ts x × (look x ≡ b)
    go [] e = absurd (cc)
    go (t ∷ ts) e =
        let head : t.symbol ≡ s = cc in
        let tail : symbols ts ≡ ss = cc in
        let d = (f t.at).read ts tail in
        (d.0, subst (λ (z : Symbol). F (lexeme z t.at) ts d.0) (sym head) d.1, d.2)

pub closed : {A B : Type 0} (m : Mark) (R : Stands A) (look : A → B) (ss : List Symbol) (b : B) → IsRead R look ss b → IsRead (IsEnded m R) look (ended ss m) b
closed {A} {B} m R look ss b r = record { read = go }
  where
    go : (ts : List Lexeme) → symbols ts ≡ ended ss m → (x : A) × IsEnded m R ts x × (look x ≡ b)
    go ts e =
        let d = split ss (symbol.Mark m ∷ []) ts e in
        let c = one_mark m d.1 d.4 in
        let x = r.read d.0 d.3 in
        (x.0, (d.0, c.0, d.2 ∙ ap (λ l. d.0 ++ l) c.1, x.1), x.2)

pub pair : {A B C D : Type 0} (R : Stands A) (S : Stands B) (f : A → C) (g : B → D) (ss rs : List Symbol) (c : C) (d : D) → IsRead R f ss c → IsRead S g rs d
    → IsRead {B = C × D} (IsPair R S) (λ (p : A × B). (f p.0, g p.1)) (ss ++ rs) (c, d)
pair {A} {B} {C} {D} R S f g ss rs c d r s = record { read = go }
  where
    go : (ts : List Lexeme) → symbols ts ≡ ss ++ rs → (p : A × B) × IsPair R S ts p × (◌≡◌ {A = C × D} (f p.0, g p.1) (c, d))
    go ts e =
        let k = split ss rs ts e in
        let x = r.read k.0 k.3 in
        let y = s.read k.1 k.4 in
        ((x.0, y.0), (k.0, k.1, k.2, x.1, y.1), ap (λ (z : C). (z, g y.0)) x.2 ∙ ap (λ (z : D). (c, z)) y.2)

pub no_more : {A B : Type 0} (R : Stands A) (look : A → B) → IsRead (IsEach R) (map look) [] []
no_more R look = record { read = λ ts e. ([], none_left ts e, refl) }

pub one_more : {A B : Type 0} (R : Stands A) (look : A → B) (ss rs : List Symbol) (b : B) (bs : List B) → IsRead R look ss b → IsRead (IsEach R) (map look) rs bs → IsRead (IsEach R) (map look) (ss ++ rs) (b ∷ bs)
one_more {A} {B} R look ss rs b bs r s = record { read = go }
  where
    go : (ts : List Lexeme) → symbols ts ≡ ss ++ rs → (xs : List A) × IsEach R ts xs × (map look xs ≡ b ∷ bs)
    go ts e =
        let k = split ss rs ts e in
        let x = r.read k.0 k.3 in
        let y = s.read k.1 k.4 in
        (x.0 ∷ y.0, (k.0, k.1, k.2, x.1, y.1), ap (λ (z : B). z ∷ map look y.0) x.2 ∙ ap (λ (zs : List B). b ∷ zs) y.2)

pub made : {A B C D : Type 0} (h : A → B) (R : Stands A) (look : A → C) (ss : List Symbol) (c : C) (view : B → D) (d : D) → IsRead R look ss c → ((x : A) → look x ≡ c → view (h x) ≡ d) → IsRead (IsMade h R) view ss d
made {A} {B} {C} {D} h R look ss c view d r f = record { read = go }
  where
    go : (ts : List Lexeme) → symbols ts ≡ ss → (y : B) × IsMade h R ts y × (view y ≡ d)
    go ts e = let x = r.read ts e in (h x.0, (x.0, x.1, refl), f x.0 x.2)

pub such : {A B : Type 0} (test : A → Bool) (R : Stands A) (look : A → B) (ss : List Symbol) (b : B) → IsRead R look ss b → ((x : A) → look x ≡ b → test x ≡ true) → IsRead (IsSuch test R) look ss b
such {A} {B} test R look ss b r f = record { read = go }
  where
    go : (ts : List Lexeme) → symbols ts ≡ ss → (x : A) × IsSuch test R ts x × (look x ≡ b)
    go ts e = let x = r.read ts e in (x.0, (x.1, f x.0 x.2), x.2)

pub first : {A B : Type 0} (R S : Stands A) (look : A → B) (ss : List Symbol) (b : B) → IsRead R look ss b → IsRead (IsEither R S) look ss b
first {A} {B} R S look ss b r = record { read = λ ts e. let x = r.read ts e in (x.0, inl x.1, x.2) }

pub second : {A B : Type 0} (R S : Stands A) (look : A → B) (ss : List Symbol) (b : B) → IsRead S look ss b → IsRead (IsEither R S) look ss b
second {A} {B} R S look ss b r = record { read = λ ts e. let x = r.read ts e in (x.0, inr x.1, x.2) }

-- what one way reads, another reads too
pub within : {A B : Type 0} (R S : Stands A) (look : A → B) (ss : List Symbol) (b : B) → ((ts : List Lexeme) (x : A) → R ts x → S ts x) → IsRead R look ss b → IsRead S look ss b
within R S look ss b f r = record { read = λ ts e. let x = r.read ts e in (x.0, f ts x.0 x.1, x.2) }

-- a pair of which nothing is left for the second part
pub first_alone : {A B C D : Type 0} (R : Stands A) (S : Stands B) (f : A → C) (g : B → D) (ss : List Symbol) (c : C) (d : D) → IsRead R f ss c → IsRead S g [] d → IsRead {B = C × D} (IsPair R S) (λ (p : A × B). (f p.0, g p.1)) ss (c, d)
first_alone {A} {B} {C} {D} R S f g ss c d r s = subst (λ (l : List Symbol). IsRead {B = C × D} (IsPair R S) (λ (p : A × B). (f p.0, g p.1)) l (c, d)) (append-nil ss) (pair R S f g ss [] c d r s)
