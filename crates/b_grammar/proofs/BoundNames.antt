-- Bound names are read from the front, whatever follows them.
use Rattle.std.proofs.Common.{◌≡◌, ℕ, List, [], ◌∷◌, ◌++◌, Option, Some, None, refl, sym, ap, ◌∙◌, append_assoc}
use Rattle.b_ast.specs.declared.Place.{Place}
use Rattle.b_ast.specs.declared.Bound.{Bound}
use Rattle.b_grammar.specs.declared.Mark.TheVariants as sign
use Rattle.b_grammar.specs.declared.Symbol.{Symbol}
use Rattle.b_grammar.specs.declared.Symbol.TheVariants as symbol
use Rattle.b_grammar.specs.declared.Lexeme.{Lexeme}
use Rattle.b_grammar.specs.Cuts.{mark}
use Rattle.b_grammar.specs.Grammar.{Names, and_name, named, names_to_bar, names_to_dot, after_dot, bound_names}

-- what was read at the front is read there whatever follows
abbrev pub IsFront : (List Lexeme → Names) → List Lexeme → List Bound → List Lexeme → Type 0
IsFront read ts ns rest = (used : List Lexeme) × (ts ≡ used ++ rest) × ((l : List Lexeme) → read (used ++ l) ≡ Some (ns, l))

both : (x y : List Bound) (l m : List Lexeme) → ◌≡◌ {A = Names} (Some (x, l)) (Some (y, m)) → (x ≡ y) × (l ≡ m)
both x y l m e =
    let same : ◌≡◌ {A = List Bound × List Lexeme} (x, l) (y, m) = cc in
    (ap (λ (p : List Bound × List Lexeme). p.0) same, ap (λ (p : List Bound × List Lexeme). p.1) same)

bound : List ℕ → Place → Bound
bound x at = record { name = x; at = at }

pub bar_front : (ts : List Lexeme) (ns : List Bound) (rest : List Lexeme) → names_to_bar ts ≡ Some (ns, rest) → IsFront names_to_bar ts ns rest
bar_front [] ns rest e = absurd (cc)
bar_front (n ∷ []) ns rest e = absurd (cc)
bar_front (n ∷ s ∷ ts) ns rest e = go n.symbol n.at s.symbol s.at e (bar_front ts)
  where
    more : (b : Bound) (q : Names) → names_to_bar ts ≡ q → and_name b q ≡ Some (ns, rest) → (ms : List Bound) × (names_to_bar ts ≡ Some (ms, rest)) × (ns ≡ b ∷ ms)
    more b None f e = absurd (cc)
    more b (Some p) f e = let d = both (b ∷ p.0) ns p.1 rest e in (p.0, f ∙ ap (λ l. Some (p.0, l)) d.1, sym d.0)

    go : (y : Symbol) (at : Place) (z : Symbol) (to : Place) → names_to_bar (record { symbol = y; at = at } ∷ record { symbol = z; at = to } ∷ ts) ≡ Some (ns, rest)
        → ((ms : List Bound) (left : List Lexeme) → names_to_bar ts ≡ Some (ms, left) → IsFront names_to_bar ts ms left)
        → IsFront names_to_bar (record { symbol = y; at = at } ∷ record { symbol = z; at = to } ∷ ts) ns rest
    go (symbol.Name x) at (symbol.Mark sign.Bar) to e ih =
        let d = both (record { name = x; at = at } ∷ []) ns ts rest e in
        (record { symbol = symbol.Name x; at = at } ∷ mark sign.Bar to ∷ [], ap (λ l. record { symbol = symbol.Name x; at = at } ∷ mark sign.Bar to ∷ l) d.1, λ l. ap (λ ms. Some (ms, l)) d.0)
    go (symbol.Name x) at (symbol.Mark sign.Comma) to e ih =
        let m = more (record { name = x; at = at }) (names_to_bar ts) refl e in
        let d = ih m.0 rest m.1 in (
          record { symbol = symbol.Name x; at = at } ∷ mark sign.Comma to ∷ d.0,
          ap (λ l. record { symbol = symbol.Name x; at = at } ∷ mark sign.Comma to ∷ l) d.1,
          λ l. ap (and_name (record { name = x; at = at })) (d.2 l) ∙ ap (λ ms. Some (ms, l)) (sym m.2),
        )
    go (symbol.Name x) at z to e ih = absurd (cc)
    go y at z to e ih = absurd (cc)

-- a closing bracket ends the search for a bar
pub bar_stops : (front rest : List Lexeme) (at : Place) → names_to_bar (front ++ mark sign.CurlyClose at ∷ []) ≡ None → names_to_bar (front ++ mark sign.CurlyClose at ∷ rest) ≡ None
bar_stops [] [] at e = refl
bar_stops [] (r ∷ rest) at e = refl
bar_stops (n ∷ []) rest at e = go n.symbol n.at
  where
    go : (y : Symbol) (here : Place) → names_to_bar (record { symbol = y; at = here } ∷ mark sign.CurlyClose at ∷ rest) ≡ None
    go (symbol.Name x) here = refl
    go y here = refl
bar_stops (n ∷ s ∷ ts) rest at e = go n.symbol n.at s.symbol s.at e (bar_stops ts rest at)
  where
    none : (b : Bound) (q : Names) → and_name b q ≡ None → q ≡ None
    none b None e = refl
    none b (Some p) e = absurd (cc)

    go : (y : Symbol) (here : Place) (z : Symbol) (to : Place) → names_to_bar (record { symbol = y; at = here } ∷ record { symbol = z; at = to } ∷ (ts ++ mark sign.CurlyClose at ∷ [])) ≡ None
        → (names_to_bar (ts ++ mark sign.CurlyClose at ∷ []) ≡ None → names_to_bar (ts ++ mark sign.CurlyClose at ∷ rest) ≡ None)
        → names_to_bar (record { symbol = y; at = here } ∷ record { symbol = z; at = to } ∷ (ts ++ mark sign.CurlyClose at ∷ rest)) ≡ None
    go (symbol.Name x) here (symbol.Mark sign.Bar) to e ih = absurd (cc)
    go (symbol.Name x) here (symbol.Mark sign.Comma) to e ih = ap (and_name (record { name = x; at = here })) (ih (none (record { name = x; at = here }) (names_to_bar (ts ++ mark sign.CurlyClose at ∷ [])) e))
    go (symbol.Name x) here z to e ih = refl
    go y here z to e ih = refl

dot_front : (ts rest : List Lexeme) → after_dot ts ≡ Some rest → (used : List Lexeme) × (ts ≡ used ++ rest) × ((l : List Lexeme) → after_dot (used ++ l) ≡ Some l)
dot_front [] rest e = absurd (cc)
dot_front (s ∷ []) rest e = absurd (cc)
dot_front (s ∷ u ∷ ts) rest e = go s.symbol s.at u.symbol u.at e
  where
    go : (y : Symbol) (at : Place) (z : Symbol) (to : Place) → after_dot (record { symbol = y; at = at } ∷ record { symbol = z; at = to } ∷ ts) ≡ Some rest
        → (used : List Lexeme) × (record { symbol = y; at = at } ∷ record { symbol = z; at = to } ∷ ts ≡ used ++ rest) × ((l : List Lexeme) → after_dot (used ++ l) ≡ Some l)
    go (symbol.Mark sign.Dot) at (symbol.Mark sign.RoundOpen) to e =
        let f : ts ≡ rest = cc in
        (mark sign.Dot at ∷ mark sign.RoundOpen to ∷ [], ap (λ l. mark sign.Dot at ∷ mark sign.RoundOpen to ∷ l) f, λ l. refl)
    go (symbol.Mark sign.Dot) at z to e = absurd (cc)
    go y at z to e = absurd (cc)

named_from : (b : Bound) (q : Option (List Lexeme)) (ns : List Bound) (rest : List Lexeme) → named b q ≡ Some (ns, rest) → (q ≡ Some rest) × (b ∷ [] ≡ ns)
named_from b None ns rest e = absurd (cc)
named_from b (Some ts) ns rest e = let d = both (b ∷ []) ns ts rest e in (ap (λ (l : List Lexeme). Some l) d.1, d.0)

to_dot_front : (ts : List Lexeme) (ns : List Bound) (rest : List Lexeme) → names_to_dot ts ≡ Some (ns, rest) → IsFront names_to_dot ts ns rest
to_dot_front [] ns rest e = absurd (cc)
to_dot_front (n ∷ []) ns rest e = absurd (cc)
to_dot_front (n ∷ s ∷ ts) ns rest e = go n.symbol n.at s.symbol s.at e (to_dot_front ts)
  where
    more : (b : Bound) (q : Names) → names_to_dot ts ≡ q → and_name b q ≡ Some (ns, rest) → (ms : List Bound) × (names_to_dot ts ≡ Some (ms, rest)) × (ns ≡ b ∷ ms)
    more b None f e = absurd (cc)
    more b (Some p) f e = let d = both (b ∷ p.0) ns p.1 rest e in (p.0, f ∙ ap (λ l. Some (p.0, l)) d.1, sym d.0)

    go : (y : Symbol) (at : Place) (z : Symbol) (to : Place) → names_to_dot (record { symbol = y; at = at } ∷ record { symbol = z; at = to } ∷ ts) ≡ Some (ns, rest)
        → ((ms : List Bound) (left : List Lexeme) → names_to_dot ts ≡ Some (ms, left) → IsFront names_to_dot ts ms left)
        → IsFront names_to_dot (record { symbol = y; at = at } ∷ record { symbol = z; at = to } ∷ ts) ns rest
    go (symbol.Name x) at (symbol.Mark sign.RoundClose) to e ih =
        let b = named_from (record { name = x; at = at }) (after_dot ts) ns rest e in
        let d = dot_front ts rest b.0 in (
          record { symbol = symbol.Name x; at = at } ∷ mark sign.RoundClose to ∷ d.0,
          ap (λ l. record { symbol = symbol.Name x; at = at } ∷ mark sign.RoundClose to ∷ l) d.1,
          λ l. ap (named (record { name = x; at = at })) (d.2 l) ∙ ap (λ ms. Some (ms, l)) b.1,
        )
    go (symbol.Name x) at (symbol.Mark sign.Comma) to e ih =
        let m = more (record { name = x; at = at }) (names_to_dot ts) refl e in
        let d = ih m.0 rest m.1 in (
          record { symbol = symbol.Name x; at = at } ∷ mark sign.Comma to ∷ d.0,
          ap (λ l. record { symbol = symbol.Name x; at = at } ∷ mark sign.Comma to ∷ l) d.1,
          λ l. ap (and_name (record { name = x; at = at })) (d.2 l) ∙ ap (λ ms. Some (ms, l)) (sym m.2),
        )
    go (symbol.Name x) at z to e ih = absurd (cc)
    go y at z to e ih = absurd (cc)

pub bound_front : (ts : List Lexeme) (ns : List Bound) (rest : List Lexeme) → bound_names ts ≡ Some (ns, rest) → IsFront bound_names ts ns rest
bound_front [] ns rest e = absurd (cc)
bound_front (s ∷ ts) ns rest e = go s.symbol s.at e
  where
    go : (y : Symbol) (at : Place) → bound_names (record { symbol = y; at = at } ∷ ts) ≡ Some (ns, rest) → IsFront bound_names (record { symbol = y; at = at } ∷ ts) ns rest
    go (symbol.Mark sign.RoundOpen) at e =
        let d = to_dot_front ts ns rest e in
        (mark sign.RoundOpen at ∷ d.0, ap (λ l. mark sign.RoundOpen at ∷ l) d.1, d.2)
    go (symbol.Name x) at e =
        let b = named_from (record { name = x; at = at }) (after_dot ts) ns rest e in
        let d = dot_front ts rest b.0 in (
          record { symbol = symbol.Name x; at = at } ∷ d.0,
          ap (λ l. record { symbol = symbol.Name x; at = at } ∷ l) d.1,
          λ l. ap (named (record { name = x; at = at })) (d.2 l) ∙ ap (λ ms. Some (ms, l)) b.1,
        )
    go y at e = absurd (cc)

-- more may follow
pub front_more : (read : List Lexeme → Names) (ts : List Lexeme) (ns : List Bound) (rest more : List Lexeme) → IsFront read ts ns rest → read (ts ++ more) ≡ Some (ns, rest ++ more)
front_more read ts ns rest more f = ap read (ap (λ l. l ++ more) f.1 ∙ append_assoc f.0 rest more) ∙ f.2 (rest ++ more)
