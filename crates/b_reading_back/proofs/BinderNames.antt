-- Names are read from their symbols, and a list of formulas isn't mistaken for names and a bar.
use Rattle.std.proofs.Common.{◌≡◌, ◌≢◌, ℕ, Bool, true, false, ◌&&◌, cond, List, [], ◌∷◌, ◌++◌, map, Some, None, refl, sym, ap, ◌∙◌, subst, append_assoc, nat_le}
use Rattle.std.specs.List.{AllByRecursion}
use Rattle.b_ast.specs.declared.Place.{Place}
use Rattle.b_ast.specs.declared.Bound.{Bound}
use Rattle.b_ast.specs.declared.Operator.TheVariants.{Minus}
use Rattle.b_ast.specs.declared.Collector.{Collector}
use Rattle.b_ast.specs.declared.Collector.TheVariants as collector
use Rattle.b_ast.specs.declared.Formula.{Formula, roll-Formula, map-Formula, fold-roll-Formula}
use Rattle.b_ast.specs.declared.Link.{Link}
use Rattle.b_ast.specs.declared.After.{After, roll-After, map-After, fold-roll-After}
use Rattle.b_ast.specs.declared.After.TheOpen.{Formula-F, After-F}
use Rattle.b_grammar.specs.declared.Mark.TheVariants as sign
use Rattle.b_grammar.specs.declared.Symbol.{Symbol}
use Rattle.b_grammar.specs.declared.Symbol.TheVariants as symbol
use Rattle.b_grammar.specs.declared.Lexeme.{Lexeme}
use Rattle.b_grammar.specs.Grammar.{Names, names_to_bar, names_to_dot, bound_names, and_name}
use Rattle.b_reading_back.specs.Laws.{symbols}
use Rattle.b_reading_back.specs.Places.{nowhere, bare_bounds}
use Rattle.b_reading_back.specs.Symbols.{Row, Written, Joined, ended, round, guarded, commas, comma_each, names_to, dot, bracketed_names, binder_names, collector_names, links, chain_binds, afters, symbols_at, after_symbols, link_symbols, after_step, formula_step, link_step}
use Rattle.b_reading_back.proofs.Ways.{lexeme}
use Rattle.b_expand.proofs.Layers.{Below, BelowAfter, by_layers}

pub record NamesRead (read : List Lexeme → Names) (ns : List Bound) (ss : List Symbol) (ts : List Lexeme) : Type 0 where
  pub bounds : List Bound
  pub rest : List Lexeme
  pub is : ◌≡◌ {A = Names} (read ts) (Some (bounds, rest))
  pub left : symbols rest ≡ ss
  pub same : bare_bounds bounds ≡ bare_bounds ns

-- the first lexemes by their symbols
pub one : (s : Symbol) (ss : List Symbol) (ts : List Lexeme) → symbols ts ≡ s ∷ ss → (at : Place) × (rest : List Lexeme) × (ts ≡ lexeme s at ∷ rest) × (symbols rest ≡ ss)
one s ss [] e = absurd (cc)
one s ss (t ∷ ts) e =
    let head : t.symbol ≡ s = cc in
    let tail : symbols ts ≡ ss = cc in
    (t.at, ts, ap (λ (z : Symbol). lexeme z t.at ∷ ts) head, tail)

pub two : (s z : Symbol) (ss : List Symbol) (ts : List Lexeme) → symbols ts ≡ s ∷ z ∷ ss → (at : Place) × (to : Place) × (rest : List Lexeme) × (ts ≡ lexeme s at ∷ lexeme z to ∷ rest) × (symbols rest ≡ ss)
two s z ss ts e =
    let a = one s (z ∷ ss) ts e in
    let b = one z ss a.1 a.3 in
    (a.0, b.0, b.1, a.2 ∙ ap (λ (l : List Lexeme). lexeme s a.0 ∷ l) b.2, b.3)

bound : List ℕ → Place → Bound
bound x at = record { name = x; at = at }

pub bar_names : (ns : List Bound) (ss : List Symbol) (ts : List Lexeme) → ns ≢ [] → symbols ts ≡ names_to sign.Bar ns ++ ss → NamesRead names_to_bar ns ss ts
bar_names [] ss ts ne e = absurd (ne refl)
bar_names (b ∷ []) ss ts ne e =
    let d = two (symbol.Name b.name) (symbol.Mark sign.Bar) ss ts e in
    record { bounds = record { name = b.name; at = d.0 } ∷ []; rest = d.2; is = ap names_to_bar d.3; left = d.4; same = refl }
bar_names (b ∷ c ∷ cs) ss ts ne e =
    let d = two (symbol.Name b.name) (symbol.Mark sign.Comma) (names_to sign.Bar (c ∷ cs) ++ ss) ts e in
    let r = bar_names (c ∷ cs) ss d.2 (λ i. absurd (cc)) d.4 in
    record {
      bounds = record { name = b.name; at = d.0 } ∷ r.bounds;
      rest = r.rest;
      is = ap names_to_bar d.3 ∙ ap (and_name (record { name = b.name; at = d.0 })) r.is;
      left = r.left;
      same = ap (λ (l : List Bound). record { name = b.name; at = nowhere } ∷ l) r.same;
    }

dot_names : (ns : List Bound) (ss : List Symbol) (ts : List Lexeme) → ns ≢ [] → symbols ts ≡ names_to sign.RoundClose ns ++ (dot ++ ss) → NamesRead names_to_dot ns ss ts
dot_names [] ss ts ne e = absurd (ne refl)
dot_names (b ∷ []) ss ts ne e =
    let d = two (symbol.Name b.name) (symbol.Mark sign.RoundClose) (dot ++ ss) ts e in
    let f = two (symbol.Mark sign.Dot) (symbol.Mark sign.RoundOpen) ss d.2 d.4 in
    record {
      bounds = record { name = b.name; at = d.0 } ∷ [];
      rest = f.2;
      is = ap names_to_dot (d.3 ∙ ap (λ (l : List Lexeme). lexeme (symbol.Name b.name) d.0 ∷ lexeme (symbol.Mark sign.RoundClose) d.1 ∷ l) f.3);
      left = f.4;
      same = refl;
    }
dot_names (b ∷ c ∷ cs) ss ts ne e =
    let d = two (symbol.Name b.name) (symbol.Mark sign.Comma) (names_to sign.RoundClose (c ∷ cs) ++ (dot ++ ss)) ts e in
    let r = dot_names (c ∷ cs) ss d.2 (λ i. absurd (cc)) d.4 in
    record {
      bounds = record { name = b.name; at = d.0 } ∷ r.bounds;
      rest = r.rest;
      is = ap names_to_dot d.3 ∙ ap (and_name (record { name = b.name; at = d.0 })) r.is;
      left = r.left;
      same = ap (λ (l : List Bound). record { name = b.name; at = nowhere } ∷ l) r.same;
    }

pub in_brackets : (ns : List Bound) (ss : List Symbol) (ts : List Lexeme) → ns ≢ [] → symbols ts ≡ bracketed_names ns ++ ss → NamesRead bound_names ns ss ts
in_brackets ns ss ts ne e =
    let d = one (symbol.Mark sign.RoundOpen) (names_to sign.RoundClose ns ++ (dot ++ ss)) ts (e ∙ ap (λ (l : List Symbol). symbol.Mark sign.RoundOpen ∷ l) (append_assoc (names_to sign.RoundClose ns) dot ss)) in
    let r = dot_names ns ss d.1 ne d.3 in
    record { bounds = r.bounds; rest = r.rest; is = ap bound_names d.2 ∙ r.is; left = r.left; same = r.same }

pub by_binder : (ns : List Bound) (ss : List Symbol) (ts : List Lexeme) → ns ≢ [] → symbols ts ≡ binder_names ns ++ ss → NamesRead bound_names ns ss ts
by_binder [] ss ts ne e = absurd (ne refl)
by_binder (b ∷ []) ss ts ne e =
    let d = one (symbol.Name b.name) (dot ++ ss) ts e in
    let f = two (symbol.Mark sign.Dot) (symbol.Mark sign.RoundOpen) ss d.1 d.3 in
    record {
      bounds = record { name = b.name; at = d.0 } ∷ [];
      rest = f.2;
      is = ap bound_names (d.2 ∙ ap (λ (l : List Lexeme). lexeme (symbol.Name b.name) d.0 ∷ l) f.3);
      left = f.4;
      same = refl;
    }
by_binder (b ∷ c ∷ cs) ss ts ne e = in_brackets (b ∷ c ∷ cs) ss ts ne e

pub by_collector : (c : Collector) (ns : List Bound) (ss : List Symbol) (ts : List Lexeme) → ns ≢ [] → symbols ts ≡ collector_names c ns ++ ss → NamesRead bound_names ns ss ts
by_collector collector.Lambda ns ss ts ne e = by_binder ns ss ts ne e
by_collector c ns ss ts ne e = in_brackets ns ss ts ne e

-- ---- no names and a bar

abbrev pub is_name : Symbol → Bool
is_name (symbol.Name x) = true
is_name y = false

abbrev pub bar_after : Symbol → Bool → Bool
bar_after (symbol.Mark sign.Bar) more = true
bar_after (symbol.Mark sign.Comma) more = more
bar_after y more = false

-- names with commas between them and a bar stand in front
abbrev pub bars : List Symbol → Bool
bars [] = false
bars (n ∷ []) = false
bars (n ∷ s ∷ ss) = is_name n && bar_after s (bars ss)

pub no_bar : (ts : List Lexeme) → bars (symbols ts) ≡ false → ◌≡◌ {A = Names} (names_to_bar ts) None
no_bar [] e = refl
no_bar (n ∷ []) e = refl
no_bar (n ∷ s ∷ ts) e = go n.symbol n.at s.symbol s.at e (no_bar ts)
  where
    go : (y : Symbol) (at : Place) (z : Symbol) (to : Place) → bars (y ∷ z ∷ symbols ts) ≡ false → (bars (symbols ts) ≡ false → ◌≡◌ {A = Names} (names_to_bar ts) None)
        → ◌≡◌ {A = Names} (names_to_bar (lexeme y at ∷ lexeme z to ∷ ts)) None
    go (symbol.Name x) at (symbol.Mark sign.Bar) to e ih = absurd (cc)
    go (symbol.Name x) at (symbol.Mark sign.Comma) to e ih = ap (and_name (record { name = x; at = at })) (ih e)
    go (symbol.Name x) at z to e ih = refl
    go y at z to e ih = refl

-- a name in front doesn't make it names and a bar
abbrev pub NoBarBehind : List Symbol → Type 0
NoBarBehind rest = bars (symbol.Name [] ∷ rest) ≡ false

abbrev pub NoBars : Written → Type 0
NoBars ss = (n : ℕ) (rest : List Symbol) → NoBarBehind rest → bars (ss n ++ rest) ≡ false

front : (s : Symbol) (more : List Symbol) → is_name s ≡ false → bars (s ∷ more) ≡ false
front s [] e = refl
front s (z ∷ zs) e = ap (λ (b : Bool). b && bar_after z (bars zs)) e

named : (x : List ℕ) (rest : List Symbol) → NoBarBehind rest → bars (symbol.Name x ∷ rest) ≡ false
named x [] e = e
named x (s ∷ ss) e = e

guarded_bars : (own : ℕ) (ss : Row) → ((rest : List Symbol) → NoBarBehind rest → bars (ss ++ rest) ≡ false) → NoBars (guarded own ss)
guarded_bars own ss h n rest k = go (nat_le own n)
  where
    go : (b : Bool) → bars (cond b (round ss) ss ++ rest) ≡ false
    go true = front (symbol.Mark sign.RoundOpen) (ended ss sign.RoundClose ++ rest) refl
    go false = h rest k

-- an operand and what follows it
followed : (e : Written) (q : ℕ) (more rest : List Symbol) → NoBars e → NoBarBehind (more ++ rest) → bars ((e q ++ more) ++ rest) ≡ false
followed e q more rest h k = ap bars (append_assoc (e q) more rest) ∙ h q (more ++ rest) k

links_behind : (ls : List Joined) (rest : List Symbol) → NoBarBehind rest → NoBarBehind (links ls ++ rest)
links_behind [] rest k = k
links_behind (l ∷ ls) rest k = refl

abbrev AfterBars : After → Type 0
AfterBars a = (rest : List Symbol) → NoBarBehind (after_symbols a ++ rest)

afters_behind : (fs : List After) (rest : List Symbol) → AllByRecursion AfterBars fs → NoBarBehind rest → NoBarBehind (afters (map after_symbols fs) ++ rest)
afters_behind [] rest h k = k
afters_behind (f ∷ fs) rest h k = ap (λ (l : List Symbol). bars (symbol.Name [] ∷ l)) (append_assoc (after_symbols f) (afters (map after_symbols fs)) rest) ∙ h.0 (afters (map after_symbols fs) ++ rest)

abbrev Formed : Formula → Type 0
Formed t = NoBars (symbols_at t)

abbrev Linked : Link → Type 0
Linked l = Unit {0}

abbrev layer_symbols : Formula-F After Formula Link → Written
layer_symbols x = symbols_at (roll-Formula x)

formula_rolls : (x : Formula-F After Formula Link) → symbols_at (roll-Formula x) ≡ formula_step (map-Formula After Formula Link Row Written Joined after_symbols symbols_at link_symbols x)
formula_rolls x = fold-roll-Formula Row Written Joined after_step formula_step link_step x

after_rolls : (x : After-F After Formula Link) → after_symbols (roll-After x) ≡ after_step (map-After After Formula Link Row Written Joined after_symbols symbols_at link_symbols x)
after_rolls x = fold-roll-After Row Written Joined after_step formula_step link_step x

on_after : (x : After-F After Formula Link) → BelowAfter AfterBars Formed Linked x → AfterBars (roll-After x)
on_after x h = subst (λ (ss : Row). (rest : List Symbol) → NoBarBehind (ss ++ rest)) (sym (after_rolls x)) (go x)
  where
    go : (x : After-F After Formula Link) → (rest : List Symbol) → NoBarBehind (after_step (map-After After Formula Link Row Written Joined after_symbols symbols_at link_symbols x) ++ rest)
    go (After-F.Converse at) rest = refl
    go (After-F.Apply at e) rest = refl
    go (After-F.Image at e) rest = refl

on_formula : (x : Formula-F After Formula Link) → Below AfterBars Formed Linked x → Formed (roll-Formula x)
on_formula x h = subst NoBars (sym (formula_rolls x)) (go x h)
  where
    go : (x : Formula-F After Formula Link) → Below AfterBars Formed Linked x → NoBars (formula_step (map-Formula After Formula Link Row Written Joined after_symbols symbols_at link_symbols x))
    go (Formula-F.Number at n) h = λ m rest k. front (symbol.Number n) rest refl
    go (Formula-F.Text at s) h = λ m rest k. front (symbol.Text s) rest refl
    go (Formula-F.Name at s) h = λ m rest k. named s rest k
    go (Formula-F.Old at s) h = λ m rest k. refl
    go (Formula-F.Constant at c) h = λ m rest k. front (symbol.Constant c) rest refl
    go (Formula-F.Negative at e) h = guarded_bars 210 (symbol.Operator Minus ∷ symbols_at e 210) (λ rest k. front (symbol.Operator Minus) (symbols_at e 210 ++ rest) refl)
    go (Formula-F.Chain e ls) h =
        let q : ℕ = chain_binds (map link_symbols ls) in
        guarded_bars q (symbols_at e q ++ links (map link_symbols ls)) (λ rest k. followed (symbols_at e) q (links (map link_symbols ls)) rest h.0 (links_behind (map link_symbols ls) rest k))
    go (Formula-F.Row e fs) h =
        guarded_bars 250 (symbols_at e 250 ++ afters (map after_symbols fs)) (λ rest k. followed (symbols_at e) 250 (afters (map after_symbols fs)) rest h.0 (afters_behind fs rest h.1 k))
    go (Formula-F.Call at f us) h = λ m rest k. refl
    go (Formula-F.Set at us) h = λ m rest k. front (symbol.Mark sign.CurlyOpen) (ended (commas (map symbols_at us)) sign.CurlyClose ++ rest) refl
    go (Formula-F.Sequence at us) h = λ m rest k. front (symbol.Mark sign.SquareOpen) (ended (commas (map symbols_at us)) sign.SquareClose ++ rest) refl
    go (Formula-F.Comprehension at ns p) h = λ m rest k. front (symbol.Mark sign.CurlyOpen) ((names_to sign.Bar ns ++ ended (symbols_at p 0) sign.CurlyClose) ++ rest) refl
    go (Formula-F.Quantified at q ns p) h = λ m rest k. front (symbol.Quantifier q) ((binder_names ns ++ ended (symbols_at p 0) sign.RoundClose) ++ rest) refl
    go (Formula-F.Collected at c ns p e) h = λ m rest k. front (symbol.Collector c) ((collector_names c ns ++ (ended (symbols_at p 0) sign.Bar ++ ended (symbols_at e 0) sign.RoundClose)) ++ rest) refl
    go (Formula-F.If at p e f) h = λ m rest k. front (symbol.Mark sign.If) ((ended (symbols_at p 20) sign.Then ++ (ended (symbols_at e 20) sign.Else ++ ended (symbols_at f 20) sign.End)) ++ rest) refl

pub no_bars : (t : Formula) → NoBars (symbols_at t)
no_bars t = by_layers AfterBars Formed Linked on_after on_formula (λ x h. tt) t

abbrev close : List Symbol
close = symbol.Mark sign.CurlyClose ∷ []

each_behind : (us : List Formula) → NoBarBehind (comma_each (map symbols_at us) ++ close)
each_behind [] = refl
each_behind (u ∷ us) = followed (symbols_at u) 0 (comma_each (map symbols_at us)) close (no_bars u) (each_behind us)

-- formulas with commas between them and a curly bracket
pub listed_bars : (us : List Formula) → bars (ended (commas (map symbols_at us)) sign.CurlyClose) ≡ false
listed_bars [] = refl
listed_bars (u ∷ us) = followed (symbols_at u) 0 (comma_each (map symbols_at us)) close (no_bars u) (each_behind us)
