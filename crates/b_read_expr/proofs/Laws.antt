-- What each reading function reads, by what it reads first and what it reads then.
use Rattle.std.proofs.Common.{◌≡◌, ◌==◌, ℕ, zero, suc, Bool, true, false, List, [], ◌∷◌, length, map, Option, Some, None, refl, sym, ap, ◌∙◌}
use denote.Ref.{Bor}
use Rattle.b_ast.specs.declared.Place.{Place}
use Rattle.b_ast.specs.declared.Bound.{Bound}
use Rattle.b_ast.specs.declared.Operator.{Operator}
use Rattle.b_ast.specs.declared.Operator.TheVariants as operator
use Rattle.b_ast.specs.declared.Function.{Function}
use Rattle.b_ast.specs.declared.Function.TheVariants as function
use Rattle.b_ast.specs.declared.Quantifier.{Quantifier}
use Rattle.b_ast.specs.declared.Collector.{Collector}
use Rattle.b_ast.specs.declared.Formula.{Formula}
use Rattle.b_ast.specs.declared.Formula.TheVariants as formula
use Rattle.b_ast.specs.declared.Link.{Link}
use Rattle.b_ast.specs.declared.After.{After}
use Rattle.b_ast.specs.declared.After.TheVariants as after
use Rattle.b_grammar.specs.declared.Mark.{Mark}
use Rattle.b_grammar.specs.declared.Mark.TheVariants as sign
use Rattle.b_grammar.specs.declared.Symbol.{Symbol}
use Rattle.b_grammar.specs.declared.Symbol.TheVariants as symbol
use Rattle.b_grammar.specs.declared.Lexeme.{Lexeme}
use Rattle.b_grammar.specs.Cuts.{mark}
use Rattle.b_grammar.specs.Grammar as grammar
use Rattle.b_grammar.specs.Grammar.{priority, plain, bracketed, arity, link, joined, mark_of, Names, names_to_bar, bound_names, is_minus}
use Rattle.b_grammar.specs.Descent as descent
use Rattle.b_grammar.specs.Descent.{Found, Read, with_found, never, done, headed, is_mark, closed, shut, ended, pair, starts, each, made, or_else, is_among, is_operator, listed, is_comma, begins_after, after_names, reads_formula}
use Rattle.b_grammar.proofs.Ways.{mark_named}
use Rattle.b_grammar.proofs.Descent.{formula_none}
use Rattle.b_read_expr.specs.declared.Unread.{Unread}
use Rattle.b_read_expr.specs.declared.Unread.TheVariants as unread
use Rattle.b_read_expr.specs.declared.grouping.Part.{Part}
use Rattle.b_read_expr.specs.declared.reading.Content.{Content}
use Rattle.b_read_expr.specs.declared.reading.Content.TheVariants as content
use Rattle.b_read_expr.specs.declared.reading.Opener.{Opener}
use Rattle.b_read_expr.specs.declared.reading.Opener.TheVariants as opener
use Rattle.b_read_expr.specs.declared.reading.Bracket.{Bracket}
use Rattle.b_read_expr.specs.declared.reading.Bracket.TheVariants as bracket
use Rattle.b_read_expr.specs.Reading.{Stops, inside, piece, operand, whole_row, form, one_after, afters, operator_if, operator_of, part_of, part, parts, comma_link, links, node, list, contents, enclosed, close_of, listing, items, marked, curly, conditional, call, named, quantified, collected, opener_of, behind, behind_if, BeginsWith, BeginsWithComma}
use Rattle.b_read_expr.specs.Grouping.{parts_of, tree}
use Rattle.b_read_expr.proofs.Loops.{after_these, each_as}

-- ---- stops and steps

-- what stops one stops the other
pub stops_on : {A B : Type 0} (e : Unread) (q : Option A) (r : Option B) → (q ≡ None → r ≡ None) → Stops e q → Stops e r
stops_on (unread.NoTree left) q r f s = f s
stops_on unread.Memory q r f s = tt

pub with_none : {A B : Type 0} (q : Found A) (go : A → List Lexeme → Found B) → q ≡ None → with_found q go ≡ None
with_none q go e = ap (λ q. with_found q go) e

pub with_some : {A B : Type 0} (q : Found A) (go : A → List Lexeme → Found B) (x : A) (us : List Lexeme) → q ≡ Some (x, us) → with_found q go ≡ go x us
with_some q go x us e = ap (λ q. with_found q go) e

-- ---- a mark at the end

abbrev pub and_rest : {A : Type 0} → A → Option (List Lexeme) → Found A
and_rest x None = None
and_rest x (Some ts) = Some (x, ts)

pub shut_is : {A : Type 0} (m : Mark) (x : A) (ts : List Lexeme) → shut m x ts ≡ and_rest x (behind m ts)
shut_is m x [] = refl
shut_is m x (s ∷ ts) = go (is_mark m (mark_of s.symbol))
  where
    go : (b : Bool) → closed x b ts ≡ and_rest x (behind_if b ts)
    go true = refl
    go false = refl

behind_mark : (m : Mark) (ts us : List Lexeme) → behind m ts ≡ Some us → (at : Place) × (ts ≡ mark m at ∷ us)
behind_mark m [] us e = absurd (cc)
behind_mark m (s ∷ ts) us e = go (is_mark m (mark_of s.symbol)) refl e
  where
    go : (b : Bool) → is_mark m (mark_of s.symbol) ≡ b → behind_if b ts ≡ Some us → (at : Place) × (s ∷ ts ≡ mark m at ∷ us)
    go true f e =
        let named : s.symbol ≡ symbol.Mark m = mark_named m s.symbol f in
        let rest : ts ≡ us = cc in
        (s.at, ap (λ (z : Symbol). record { symbol = z; at = s.at } ∷ ts) named ∙ ap (λ l. mark m s.at ∷ l) rest)
    go false f e = absurd (cc)

-- a tree may be made before the mark or behind it
shut_made : {A B : Type 0} (m : Mark) (h : A → B) (x : A) (ts : List Lexeme) → shut m (h x) ts ≡ with_found (shut m x ts) (λ x rest. Some (h x, rest))
shut_made m h x [] = refl
shut_made m h x (s ∷ ts) = go (is_mark m (mark_of s.symbol))
  where
    go : (b : Bool) → closed (h x) b ts ≡ with_found (closed x b ts) (λ x rest. Some (h x, rest))
    go true = refl
    go false = refl

ended_made : {A B : Type 0} (m : Mark) (h : A → B) (r : Read A) (ts : List Lexeme) → ended m (made h r) ts ≡ made h (ended m r) ts
ended_made m h r ts = go (r ts)
  where
    go : (q : Found _) → with_found (with_found q (λ x rest. Some (h x, rest))) (shut m) ≡ with_found (with_found q (shut m)) (λ x rest. Some (h x, rest))
    go None = refl
    go (Some p) = shut_made m h p.0 p.1

-- ---- operators

abbrev as_part : Operator → Place → Formula → List Lexeme → Found grammar.Part
as_part o at t rest = Some ((o, at, t), rest)

abbrev to_part : grammar.Part → Part
to_part l = part_of l.0 l.1 l.2

parts_back : (ls : List grammar.Part) → parts_of (map to_part ls) ≡ ls
parts_back [] = refl
parts_back (l ∷ ls) = ap (λ ls. l ∷ ls) (parts_back ls)

part_as : (r : Read Formula) (s : Lexeme) (ts : List Lexeme) → made to_part (descent.part r s) ts ≡ part r s ts
part_as r s ts = go s.symbol s.at
  where
    both : (o : Operator) (at : Place) (q : Found Formula) → with_found (with_found q (as_part o at)) (λ l rest. Some (to_part l, rest)) ≡ with_found q (λ t rest. Some (part_of o at t, rest))
    both o at None = refl
    both o at (Some x) = refl

    go : (y : Symbol) (at : Place) → made to_part (descent.part r (record { symbol = y; at = at })) ts ≡ part r (record { symbol = y; at = at }) ts
    go (symbol.Operator o) at = both o at (r ts)
    go y at = refl

-- the tree of a row, before what is left
abbrev pub grouped_on : List ℕ → Formula → List Part → List Lexeme → Found Formula
grouped_on levels t ps rest = descent.and_left rest (tree levels t ps)

pub piece_none : (depth : ℕ) (levels : List ℕ) (ts : List Lexeme) → operand depth ts ≡ None → piece depth levels ts ≡ None
unfolding piece operand
piece_none depth levels ts e =
    ap
    (λ q. with_found (with_found q (λ x rest. descent.and_also x (each (is_operator levels) (descent.part (operand depth)) rest))) (λ x rest. descent.and_left rest (descent.if_some (descent.grouped levels x) descent.alone)))
    e

pub piece_is : (depth : ℕ) (levels : List ℕ) (ts : List Lexeme) (t : Formula) (us : List Lexeme) → operand depth ts ≡ Some (t, us) → piece depth levels ts ≡ with_found (parts depth levels us) (grouped_on levels t)
unfolding piece operand parts
piece_is depth levels ts t us e =
    ap
    (λ q. with_found (with_found q (λ x rest. descent.and_also x (each (is_operator levels) (descent.part (operand depth)) rest))) (λ x rest. descent.and_left rest (descent.if_some (descent.grouped levels x) descent.alone)))
    e
    ∙ row (each (is_operator levels) (descent.part (operand depth)) us)
    ∙ ap (λ q. with_found q (grouped_on levels t)) (each_as (is_operator levels) to_part (descent.part (operand depth)) (part (operand depth)) (part_as (operand depth)) us)
  where
    row : (q : Found (List grammar.Part))
        → with_found (descent.and_also t q) (λ x rest. descent.and_left rest (descent.if_some (descent.grouped levels x) descent.alone)) ≡ with_found (with_found q (λ xs rest. Some (map to_part xs, rest))) (grouped_on levels t)
    row None = refl
    row (Some p) = ap (λ (ls : List grammar.Part). descent.and_left p.1 (descent.if_some (descent.grouped levels (t, ls)) descent.alone)) (sym (parts_back p.0))

pub operator_starts : (levels : List ℕ) (ts : List Lexeme) (p : Operator × Place × Bor (List Lexeme)) → BeginsWith levels ts (Some p) → starts (is_operator levels) ts ≡ true
operator_starts levels ts p h = ap (starts (is_operator levels)) h.1 ∙ go h.0.symbol h.0.at h.3
  where
    tested : (b : Bool) (o : Operator) → operator_if b o ≡ Some p.0 → b ≡ true
    tested true o e = refl
    tested false o e = absurd (cc)

    go : (y : Symbol) (at : Place) → operator_of levels y ≡ Some p.0 → is_operator levels (record { symbol = y; at = at }) ≡ true
    go (symbol.Operator o) at e = tested (is_among levels false (priority o)) o e
    go y at e = absurd (cc)

pub part_is : (levels : List ℕ) (r : Read Formula) (ts : List Lexeme) (p : Operator × Place × Bor (List Lexeme)) → BeginsWith levels ts (Some p) → headed (part r) ts ≡ made (part_of p.0 p.1) r p.2.now
part_is levels r ts p h = ap (headed (part r)) h.1 ∙ go h.0.symbol h.0.at h.2 h.3
  where
    named : (b : Bool) (o : Operator) → operator_if b o ≡ Some p.0 → o ≡ p.0
    named true o e = cc
    named false o e = absurd (cc)

    go : (y : Symbol) (at : Place) → at ≡ p.1 → operator_of levels y ≡ Some p.0 → part r (record { symbol = y; at = at }) p.2.now ≡ made (part_of p.0 p.1) r p.2.now
    go (symbol.Operator o) at e f =
        ap (λ o. made (part_of o at) r p.2.now) (named (is_among levels false (priority o)) o f) ∙ ap (λ at. made (part_of p.0 at) r p.2.now) e
    go y at e f = absurd (cc)

-- ---- commas

pub node_map : (t : Formula) (ps : List grammar.Part) → node t (map link ps) ≡ grammar.chain (t, ps)
node_map t [] = refl
node_map t (l ∷ ps) = refl

map_twice : {A B C : Type 0} (f : A → B) (g : B → C) (xs : List A) → map g (map f xs) ≡ map (λ x. g (f x)) xs
map_twice f g [] = refl
map_twice f g (x ∷ xs) = ap (λ l. g (f x) ∷ l) (map_twice f g xs)

abbrev as_next : Place → Formula → List Lexeme → Found (Place × Formula)
as_next at t rest = Some ((at, t), rest)

abbrev next_link : Operator → Place × Formula → Link
next_link o u = link (o, u.0, u.1)

next_as : (o : Operator) (r : Read Formula) (s : Lexeme) (ts : List Lexeme) → made (next_link o) (descent.next r s) ts ≡ comma_link o r s ts
next_as o r s ts = go s.symbol s.at
  where
    both : (at : Place) (q : Found Formula) → with_found (with_found q (as_next at)) (λ u rest. Some (next_link o u, rest)) ≡ with_found q (λ t rest. Some (link (o, at, t), rest))
    both at None = refl
    both at (Some x) = refl

    go : (y : Symbol) (at : Place) → made (next_link o) (descent.next r (record { symbol = y; at = at })) ts ≡ comma_link o r (record { symbol = y; at = at }) ts
    go (symbol.Mark sign.Comma) at = both at (r ts)
    go y at = refl

pub list_none : (depth : ℕ) (o : Operator) (ts : List Lexeme) → piece depth bracketed ts ≡ None → list depth o ts ≡ None
unfolding list
list_none depth o ts e = ap (λ q. with_found (with_found q (λ x rest. descent.and_also x (each is_comma (descent.next (piece depth bracketed)) rest))) (λ us rest. Some (joined o us, rest))) e

pub list_is : (depth : ℕ) (o : Operator) (ts : List Lexeme) (t : Formula) (us : List Lexeme) → piece depth bracketed ts ≡ Some (t, us) → list depth o ts ≡ with_found (links depth o us) (λ ls rest. Some (node t ls, rest))
unfolding list links
list_is depth o ts t us e =
    ap (λ q. with_found (with_found q (λ x rest. descent.and_also x (each is_comma (descent.next (piece depth bracketed)) rest))) (λ us rest. Some (joined o us, rest))) e
    ∙ commas (each is_comma (descent.next (piece depth bracketed)) us)
    ∙ ap (λ q. with_found q (λ ls rest. Some (node t ls, rest))) (each_as is_comma (next_link o) (descent.next (piece depth bracketed)) (comma_link o (piece depth bracketed)) (next_as o (piece depth bracketed)) us)
  where
    commas : (q : Found (List (Place × Formula))) → with_found (descent.and_also t q) (λ us rest. Some (joined o us, rest)) ≡ with_found (with_found q (λ xs rest. Some (map (next_link o) xs, rest))) (λ ls rest. Some (node t ls, rest))
    commas None = refl
    commas (Some x) =
        ap (λ u. Some (u, x.1)) (sym (node_map t (map (λ (u : Place × Formula). (o, u.0, u.1)) x.0)) ∙ ap (node t) (map_twice (λ (u : Place × Formula). (o, u.0, u.1)) link x.0))

pub comma_begins : (ts : List Lexeme) (p : Place × Bor (List Lexeme)) → BeginsWithComma ts (Some p) → starts is_comma ts ≡ true
comma_begins ts p h = ap (starts is_comma) h.1 ∙ h.3

pub comma_is : (o : Operator) (r : Read Formula) (ts : List Lexeme) (p : Place × Bor (List Lexeme)) → BeginsWithComma ts (Some p) → headed (comma_link o r) ts ≡ made (λ t. link (o, p.0, t)) r p.1.now
comma_is o r ts p h = ap (headed (comma_link o r)) h.1 ∙ go h.0.symbol h.0.at h.2 h.3
  where
    go : (y : Symbol) (at : Place) → at ≡ p.0 → is_comma (record { symbol = y; at = at }) ≡ true → comma_link o r (record { symbol = y; at = at }) p.1.now ≡ made (λ t. link (o, p.0, t)) r p.1.now
    go (symbol.Mark sign.Comma) at e f = ap (λ at. made (λ t. link (o, at, t)) r p.1.now) e
    go y at e f = absurd (cc)

-- ---- operands

pub operand_minus : (depth : ℕ) (s : Lexeme) (ts : List Lexeme) → is_minus s.symbol ≡ true → operand depth (s ∷ ts) ≡ made (formula.Negative s.at) (whole_row depth) ts
unfolding operand whole_row
operand_minus depth s ts e = ap (λ b. descent.signed (inside depth) s b ts) e

pub operand_plain : (depth : ℕ) (s : Lexeme) (ts : List Lexeme) → is_minus s.symbol ≡ false → operand depth (s ∷ ts) ≡ whole_row depth (s ∷ ts)
unfolding operand whole_row
operand_plain depth s ts e = ap (λ b. descent.signed (inside depth) s b ts) e

pub operand_end : (depth : ℕ) → operand depth [] ≡ None
unfolding operand
operand_end depth = refl

pub row_none : (depth : ℕ) (ts : List Lexeme) → form depth ts ≡ None → whole_row depth ts ≡ None
unfolding whole_row form
row_none depth ts e = ap (λ q. with_found (with_found q (λ x rest. descent.and_also x (each begins_after (descent.one_after (inside depth)) rest))) (λ p rest. Some (grammar.row p, rest))) e

pub row_is : (depth : ℕ) (ts : List Lexeme) (x : Formula) (us : List Lexeme) → form depth ts ≡ Some (x, us) → whole_row depth ts ≡ with_found (afters depth us) (λ fs rest. Some (grammar.row (x, fs), rest))
unfolding whole_row form afters
row_is depth ts x us e =
    ap (λ q. with_found (with_found q (λ x rest. descent.and_also x (each begins_after (descent.one_after (inside depth)) rest))) (λ p rest. Some (grammar.row p, rest))) e
    ∙ go (each begins_after (descent.one_after (inside depth)) us)
  where
    go : (q : Found (List After)) → with_found (descent.and_also x q) (λ p rest. Some (grammar.row p, rest)) ≡ with_found q (λ fs rest. Some (grammar.row (x, fs), rest))
    go None = refl
    go (Some p) = refl

-- ---- what stands in brackets

open_inside : (depth : ℕ) (levels : List ℕ) → inside (suc depth) levels ≡ piece depth levels
unfolding inside piece reads_formula
open_inside zero levels = refl
open_inside (suc depth) levels = refl

pub contents_none : (c : Content) (ts : List Lexeme) → contents zero c ts ≡ None
unfolding contents inside
contents_none content.Inner ts = refl
contents_none content.Part ts = refl
contents_none (content.List o) ts = refl

inner_deeper : (depth less : ℕ) (ts : List Lexeme) → depth ≡ suc less → contents depth content.Inner ts ≡ piece less bracketed ts
unfolding contents
inner_deeper depth less ts e = ap (λ d. inside d bracketed ts) e ∙ ap (λ (r : Read Formula). r ts) (open_inside less bracketed)

part_deeper : (depth less : ℕ) (ts : List Lexeme) → depth ≡ suc less → contents depth content.Part ts ≡ piece less plain ts
unfolding contents
part_deeper depth less ts e = ap (λ d. inside d plain ts) e ∙ ap (λ (r : Read Formula). r ts) (open_inside less plain)

list_deeper : (depth less : ℕ) (o : Operator) (ts : List Lexeme) → depth ≡ suc less → contents depth (content.List o) ts ≡ list less o ts
unfolding contents list
list_deeper depth less o ts e = ap (λ d. made (joined o) (listed (inside d bracketed)) ts) e ∙ ap (λ (r : Read Formula). made (joined o) (listed r) ts) (open_inside less bracketed)

-- a bracket less
abbrev pub in_bracket : Content → ℕ → Read Formula
in_bracket content.Inner less = piece less bracketed
in_bracket content.Part less = piece less plain
in_bracket (content.List o) less = list less o

pub contents_deeper : (c : Content) (depth less : ℕ) (ts : List Lexeme) → depth ≡ suc less → contents depth c ts ≡ in_bracket c less ts
contents_deeper content.Inner depth less ts e = inner_deeper depth less ts e
contents_deeper content.Part depth less ts e = part_deeper depth less ts e
contents_deeper (content.List o) depth less ts e = list_deeper depth less o ts e

pub enclosed_none : (depth : ℕ) (c : Content) (m : Mark) (ts : List Lexeme) → contents depth c ts ≡ None → enclosed depth c m ts ≡ None
unfolding enclosed
enclosed_none depth c m ts e = ap (λ q. with_found q (shut m)) e

pub enclosed_is : (depth : ℕ) (c : Content) (m : Mark) (ts : List Lexeme) (t : Formula) (us : List Lexeme) → contents depth c ts ≡ Some (t, us) → enclosed depth c m ts ≡ and_rest t (behind m us)
unfolding enclosed
enclosed_is depth c m ts t us e = ap (λ q. with_found q (shut m)) e ∙ shut_is m t us

-- ---- forms after an operand

pub opener_begins : (s : Lexeme) (o : Opener) → opener_of s.symbol ≡ Some o → begins_after s ≡ true
opener_begins s o e = go s.symbol s.at e
  where
    go : (y : Symbol) (at : Place) → opener_of y ≡ Some o → begins_after (record { symbol = y; at = at }) ≡ true
    go (symbol.Mark sign.Converse) at e = refl
    go (symbol.Mark sign.RoundOpen) at e = refl
    go (symbol.Mark sign.SquareOpen) at e = refl
    go y at e = absurd (cc)

same_opener : (o p : Opener) → ◌≡◌ {A = Option Opener} (Some o) (Some p) → o ≡ p
same_opener o p e = cc

pub after_is : (depth : ℕ) (s : Lexeme) (o : Opener) (ts : List Lexeme) → opener_of s.symbol ≡ Some o → descent.one_after (inside depth) s ts ≡ one_after depth o s.at ts
unfolding one_after enclosed contents
after_is depth s o ts e = go s.symbol s.at e
  where
    apply : (at : Place) → made (λ us. after.Apply at (joined operator.Comma us)) (ended sign.RoundClose (listed (inside depth bracketed))) ts ≡ made (after.Apply at) (ended sign.RoundClose (made (joined operator.Comma) (listed (inside depth bracketed)))) ts
    apply at = twice (ended sign.RoundClose (listed (inside depth bracketed)) ts) ∙ ap (λ q. with_found q (λ x rest. Some (after.Apply at x, rest))) (sym (ended_made sign.RoundClose (joined operator.Comma) (listed (inside depth bracketed)) ts))
      where
        twice : (q : Found grammar.Listed) → with_found q (λ us rest. Some (after.Apply at (joined operator.Comma us), rest)) ≡ with_found (with_found q (λ us rest. Some (joined operator.Comma us, rest))) (λ x rest. Some (after.Apply at x, rest))
        twice None = refl
        twice (Some p) = refl

    go : (y : Symbol) (at : Place) → opener_of y ≡ Some o → descent.one_after (inside depth) (record { symbol = y; at = at }) ts ≡ one_after depth o at ts
    go (symbol.Mark sign.Converse) at e = ap (λ o. one_after depth o at ts) (same_opener opener.Converse o e)
    go (symbol.Mark sign.RoundOpen) at e = apply at ∙ ap (λ o. one_after depth o at ts) (same_opener opener.Application o e)
    go (symbol.Mark sign.SquareOpen) at e = ap (λ o. one_after depth o at ts) (same_opener opener.Image o e)
    go y at e = absurd (cc)

-- ---- lists in brackets

pub items_none : (depth : ℕ) (ts : List Lexeme) → contents depth content.Inner ts ≡ None → items depth ts ≡ None
unfolding items contents
items_none depth ts e = ap (λ q. with_found (with_found q (λ x rest. descent.and_also x (each is_comma (descent.next (inside depth bracketed)) rest))) (λ us rest. Some (grammar.items us, rest))) e

-- a formula behind a comma
abbrev pub item : ℕ → Lexeme → Read Formula
item depth s = of (mark_of s.symbol)
  where
    of : Option Mark → Read Formula
    of (Some sign.Comma) = contents depth content.Inner
    of x = never

pub items_is : (depth : ℕ) (ts : List Lexeme) (t : Formula) (us : List Lexeme) → contents depth content.Inner ts ≡ Some (t, us) → items depth ts ≡ after_these (t ∷ []) (each is_comma (item depth) us)
unfolding items contents
items_is depth ts t us e =
    ap (λ q. with_found (with_found q (λ x rest. descent.and_also x (each is_comma (descent.next (inside depth bracketed)) rest))) (λ us rest. Some (grammar.items us, rest))) e
    ∙ first (each is_comma (descent.next (inside depth bracketed)) us)
    ∙ ap (after_these (t ∷ [])) (each_as is_comma (λ (u : Place × Formula). u.1) (descent.next (inside depth bracketed)) (item depth) same us)
  where
    first : (q : Found (List (Place × Formula))) → with_found (descent.and_also t q) (λ us rest. Some (grammar.items us, rest)) ≡ after_these (t ∷ []) (with_found q (λ xs rest. Some (map (λ (u : Place × Formula). u.1) xs, rest)))
    first None = refl
    first (Some p) = refl

    same : (s : Lexeme) (ts : List Lexeme) → made (λ (u : Place × Formula). u.1) (descent.next (inside depth bracketed) s) ts ≡ item depth s ts
    same s ts = go s.symbol s.at
      where
        both : (at : Place) (q : Found Formula) → with_found (with_found q (as_next at)) (λ u rest. Some (u.1, rest)) ≡ q
        both at None = refl
        both at (Some x) = refl

        go : (y : Symbol) (at : Place) → made (λ (u : Place × Formula). u.1) (descent.next (inside depth bracketed) (record { symbol = y; at = at })) ts ≡ item depth (record { symbol = y; at = at }) ts
        go (symbol.Mark sign.Comma) at = both at (inside depth bracketed ts)
        go y at = refl

comma_here : (ts us : List Lexeme) → behind sign.Comma ts ≡ Some us → (at : Place) × (ts ≡ mark sign.Comma at ∷ us)
comma_here ts us e = behind_mark sign.Comma ts us e

pub comma_starts : (ts us : List Lexeme) → behind sign.Comma ts ≡ Some us → starts is_comma ts ≡ true
comma_starts ts us e = ap (starts is_comma) (comma_here ts us e).1

pub comma_stops : (ts : List Lexeme) → behind sign.Comma ts ≡ None → starts is_comma ts ≡ false
comma_stops [] e = refl
comma_stops (s ∷ ts) e = go (is_mark sign.Comma (mark_of s.symbol)) e
  where
    go : (b : Bool) → behind_if b ts ≡ None → b ≡ false
    go true e = absurd (cc)
    go false e = refl

pub item_is : (depth : ℕ) (ts us : List Lexeme) → behind sign.Comma ts ≡ Some us → headed (item depth) ts ≡ contents depth content.Inner us
item_is depth ts us e = ap (headed (item depth)) (comma_here ts us e).1

pub listing_empty : (depth : ℕ) (b : Bracket) (ts us : List Lexeme) → behind (close_of b) ts ≡ Some us → listing depth b ts ≡ Some ([], us)
unfolding listing inside
listing_empty depth b ts us e =
    let c = behind_mark (close_of b) ts us e in
    ap (listing depth b) c.1
    ∙ ap
    (λ q. descent.otherwise (with_found (with_found (with_found q (λ x rest. descent.and_also x (each is_comma (descent.next (inside depth bracketed)) rest))) (shut (close_of b))) (λ us rest. Some (grammar.items us, rest))) (ended (close_of b) (done []) (mark (close_of b) c.0 ∷ us)))
    (none depth b c.0)
    ∙ shut_is (close_of b) [] (mark (close_of b) c.0 ∷ us) ∙ ap (and_rest []) (sym (ap (behind (close_of b)) c.1) ∙ e)
  where
    none : (depth : ℕ) (b : Bracket) (at : Place) → inside depth bracketed (mark (close_of b) at ∷ us) ≡ None
    none zero b at = refl
    none (suc depth) bracket.Round at = formula_none depth bracketed sign.RoundClose at us refl
    none (suc depth) bracket.Curly at = formula_none depth bracketed sign.CurlyClose at us refl
    none (suc depth) bracket.Square at = formula_none depth bracketed sign.SquareClose at us refl

listing_items : (depth : ℕ) (b : Bracket) (ts : List Lexeme) → behind (close_of b) ts ≡ None → listing depth b ts ≡ with_found (items depth ts) (shut (close_of b))
unfolding listing items
listing_items depth b ts e =
    ap (descent.otherwise (made grammar.items (ended (close_of b) (listed (inside depth bracketed))) ts)) (shut_is (close_of b) [] ts ∙ ap (and_rest []) e)
    ∙ alone (made grammar.items (ended (close_of b) (listed (inside depth bracketed))) ts)
    ∙ sym (ended_made (close_of b) grammar.items (listed (inside depth bracketed)) ts)
  where
    alone : (q : Found (List Formula)) → descent.otherwise q None ≡ q
    alone None = refl
    alone (Some p) = refl

pub listing_none : (depth : ℕ) (b : Bracket) (ts : List Lexeme) → behind (close_of b) ts ≡ None → items depth ts ≡ None → listing depth b ts ≡ None
listing_none depth b ts e f = listing_items depth b ts e ∙ ap (λ q. with_found q (shut (close_of b))) f

pub listing_is : (depth : ℕ) (b : Bracket) (ts : List Lexeme) (xs : List Formula) (us : List Lexeme) → behind (close_of b) ts ≡ None → items depth ts ≡ Some (xs, us) → listing depth b ts ≡ and_rest xs (behind (close_of b) us)
listing_is depth b ts xs us e f = listing_items depth b ts e ∙ ap (λ q. with_found q (shut (close_of b))) f ∙ shut_is (close_of b) xs us

-- the node of a list may be made before its end is read or behind it
listing_made : (depth : ℕ) (b : Bracket) (h : List Formula → Formula) (ts : List Lexeme) → descent.listing (inside depth) (close_of b) h ts ≡ made h (listing depth b) ts
unfolding listing
listing_made depth b h ts = go (ended (close_of b) (listed (inside depth bracketed)) ts)
  where
    go : (q : Found grammar.Listed)
        → descent.otherwise (with_found q (λ us rest. Some (h (grammar.items us), rest))) (shut (close_of b) (h []) ts) ≡ with_found (descent.otherwise (with_found q (λ us rest. Some (grammar.items us, rest))) (shut (close_of b) [] ts)) (λ us rest. Some (h us, rest))
    go None = shut_made (close_of b) h [] ts
    go (Some p) = refl

-- ---- forms

pub form_end : (depth : ℕ) → form depth [] ≡ None
unfolding form
form_end depth = refl

abbrev pub form_by : ℕ → Symbol → Place → Read Formula
form_by depth (symbol.Number n) at = done (formula.Number at n)
form_by depth (symbol.Text x) at = done (formula.Text at x)
form_by depth (symbol.Name n) at = named n at
form_by depth (symbol.Constant c) at = done (formula.Constant at c)
form_by depth (symbol.Function f) at = call depth f at
form_by depth (symbol.Quantifier q) at = quantified depth q at
form_by depth (symbol.Collector c) at = collected depth c at
form_by depth (symbol.Mark m) at = marked depth m at
form_by depth (symbol.Operator o) at = never
form_by depth symbol.Other at = never

form_of : (depth : ℕ) (y : Symbol) (at : Place) (ts : List Lexeme) → form depth (record { symbol = y; at = at } ∷ ts) ≡ form_by depth y at ts
unfolding form named call quantified collected marked
form_of depth (symbol.Number n) at ts = refl
form_of depth (symbol.Text x) at ts = refl
form_of depth (symbol.Name n) at ts = refl
form_of depth (symbol.Constant c) at ts = refl
form_of depth (symbol.Function f) at ts = refl
form_of depth (symbol.Quantifier q) at ts = refl
form_of depth (symbol.Collector c) at ts = refl
form_of depth (symbol.Mark m) at ts = refl
form_of depth (symbol.Operator o) at ts = refl
form_of depth symbol.Other at ts = refl

pub form_is : (depth : ℕ) (s : Lexeme) (ts : List Lexeme) (y : Symbol) → s.symbol ≡ y → form depth (s ∷ ts) ≡ form_by depth y s.at ts
form_is depth s ts y e = form_of depth s.symbol s.at ts ∙ ap (λ y. form_by depth y s.at ts) e

pub named_old : (n : List ℕ) (at : Place) (ts us : List Lexeme) → behind sign.Old ts ≡ Some us → named n at ts ≡ Some (formula.Old at n, us)
unfolding named
named_old n at ts us e = ap (named n at) (behind_mark sign.Old ts us e).1

pub named_plain : (n : List ℕ) (at : Place) (ts : List Lexeme) → behind sign.Old ts ≡ None → named n at ts ≡ Some (formula.Name at n, ts)
unfolding named
named_plain n at [] e = refl
named_plain n at (s ∷ ts) e = go s.symbol s.at e
  where
    go : (y : Symbol) (to : Place) → behind sign.Old (record { symbol = y; at = to } ∷ ts) ≡ None → named n at (record { symbol = y; at = to } ∷ ts) ≡ Some (formula.Name at n, record { symbol = y; at = to } ∷ ts)
    go (symbol.Mark sign.Old) to e = absurd (cc)
    go y to e = refl

arity_some : (f : Function) → (0 == arity f) ≡ false
arity_some function.Prj1 = refl
arity_some function.Prj2 = refl
arity_some function.Iterate = refl
arity_some f = refl

call_head : (depth : ℕ) (f : Function) (at : Place) (ts : List Lexeme) → behind sign.RoundOpen ts ≡ None → call depth f at ts ≡ None
unfolding call
call_head depth f at [] e = refl
call_head depth f at (s ∷ ts) e = go s.symbol s.at e
  where
    go : (y : Symbol) (to : Place) → behind sign.RoundOpen (record { symbol = y; at = to } ∷ ts) ≡ None → call depth f at (record { symbol = y; at = to } ∷ ts) ≡ None
    go (symbol.Mark sign.RoundOpen) to e = absurd (cc)
    go y to e = refl

pub call_none : (depth : ℕ) (f : Function) (at : Place) (ts : List Lexeme) → behind sign.RoundOpen ts ≡ None → call depth f at ts ≡ None
call_none depth f at ts e = call_head depth f at ts e

pub call_is : (depth : ℕ) (f : Function) (at : Place) (ts us : List Lexeme) → behind sign.RoundOpen ts ≡ Some us
    → call depth f at ts ≡ with_found (listing depth bracket.Round us) (λ xs rest. closed (formula.Call at f xs) (length xs == arity f) rest)
unfolding call listing
call_is depth f at ts us e = ap (call depth f at) (behind_mark sign.RoundOpen ts us e).1 ∙ go (ended sign.RoundClose (listed (inside depth bracketed)) us)
  where
    tested : (xs : List Formula) (rest : List Lexeme) (b : Bool) → with_found (closed xs b rest) (λ xs rest. Some (formula.Call at f xs, rest)) ≡ closed (formula.Call at f xs) b rest
    tested xs rest true = refl
    tested xs rest false = refl

    empty : (q : Option (List Lexeme)) → None ≡ with_found (and_rest [] q) (λ xs rest. closed (formula.Call at f xs) (length xs == arity f) rest)
    empty None = refl
    empty (Some rest) = sym (ap (λ b. closed (formula.Call at f []) b rest) (arity_some f))

    go : (q : Found grammar.Listed)
        → with_found (with_found (with_found q (λ us rest. Some (grammar.items us, rest))) (λ us rest. closed us (length us == arity f) rest)) (λ us rest. Some (formula.Call at f us, rest))
        ≡ with_found (descent.otherwise (with_found q (λ us rest. Some (grammar.items us, rest))) (shut sign.RoundClose [] us)) (λ xs rest. closed (formula.Call at f xs) (length xs == arity f) rest)
    go None = empty (behind sign.RoundClose us) ∙ ap (λ q. with_found q (λ xs rest. closed (formula.Call at f xs) (length xs == arity f) rest)) (sym (shut_is sign.RoundClose [] us))
    go (Some p) = tested (grammar.items p.0) p.1 (length (grammar.items p.0) == arity f)

pub quantified_none : (depth : ℕ) (q : Quantifier) (at : Place) (ts : List Lexeme) → bound_names ts ≡ None → quantified depth q at ts ≡ None
unfolding quantified
quantified_none depth q at ts e = ap (λ ns. after_names ns (λ ns. made (formula.Quantified at q ns) (ended sign.RoundClose (inside depth bracketed)))) e

pub quantified_is : (depth : ℕ) (q : Quantifier) (at : Place) (ts : List Lexeme) (ns : List Bound) (us : List Lexeme) → bound_names ts ≡ Some (ns, us)
    → quantified depth q at ts ≡ made (formula.Quantified at q ns) (enclosed depth content.Inner sign.RoundClose) us
unfolding quantified enclosed contents
quantified_is depth q at ts ns us e = ap (λ ns. after_names ns (λ ns. made (formula.Quantified at q ns) (ended sign.RoundClose (inside depth bracketed)))) e

pub collected_none : (depth : ℕ) (c : Collector) (at : Place) (ts : List Lexeme) → bound_names ts ≡ None → collected depth c at ts ≡ None
unfolding collected
collected_none depth c at ts e =
    ap (λ ns. after_names ns (λ ns. made (λ (x : Formula × Formula). formula.Collected at c ns x.0 x.1) (pair (ended sign.Bar (inside depth bracketed)) (ended sign.RoundClose (inside depth bracketed))))) e

pub collected_is : (depth : ℕ) (c : Collector) (at : Place) (ts : List Lexeme) (ns : List Bound) (us : List Lexeme) → bound_names ts ≡ Some (ns, us)
    → collected depth c at ts ≡ with_found (enclosed depth content.Inner sign.Bar us) (λ x vs. with_found (enclosed depth content.Inner sign.RoundClose vs) (λ y ws. Some (formula.Collected at c ns x y, ws)))
unfolding collected enclosed contents
collected_is depth c at ts ns us e =
    ap (λ ns. after_names ns (λ ns. made (λ (x : Formula × Formula). formula.Collected at c ns x.0 x.1) (pair (ended sign.Bar (inside depth bracketed)) (ended sign.RoundClose (inside depth bracketed))))) e
    ∙ one (ended sign.Bar (inside depth bracketed) us)
  where
    two : (x : Formula) (q : Found Formula) → with_found (descent.and_also x q) (λ (x : Formula × Formula) rest. Some (formula.Collected at c ns x.0 x.1, rest)) ≡ with_found q (λ y ws. Some (formula.Collected at c ns x y, ws))
    two x None = refl
    two x (Some p) = refl

    one : (q : Found Formula)
        → with_found (with_found q (λ x rest. descent.and_also x (ended sign.RoundClose (inside depth bracketed) rest))) (λ (x : Formula × Formula) rest. Some (formula.Collected at c ns x.0 x.1, rest))
        ≡ with_found q (λ x vs. with_found (ended sign.RoundClose (inside depth bracketed) vs) (λ y ws. Some (formula.Collected at c ns x y, ws)))
    one None = refl
    one (Some p) = two p.0 (ended sign.RoundClose (inside depth bracketed) p.1)

pub conditional_is : (depth : ℕ) (at : Place) (ts : List Lexeme)
    → conditional depth at ts
    ≡ with_found (enclosed depth content.Part sign.Then ts) (λ p us. with_found (enclosed depth content.Part sign.Else us) (λ x vs. with_found (enclosed depth content.Part sign.End vs) (λ y ws. Some (formula.If at p x y, ws))))
unfolding conditional enclosed contents
conditional_is depth at ts = one (ended sign.Then (inside depth plain) ts)
  where
    three : (p x : Formula) (q : Found Formula) → with_found (descent.and_also p (descent.and_also x q)) (λ (x : Formula × (Formula × Formula)) rest. Some (formula.If at x.0 x.1.0 x.1.1, rest)) ≡ with_found q (λ y ws. Some (formula.If at p x y, ws))
    three p x None = refl
    three p x (Some r) = refl

    two : (p : Formula) (q : Found Formula)
        → with_found (descent.and_also p (with_found q (λ x rest. descent.and_also x (ended sign.End (inside depth plain) rest)))) (λ (x : Formula × (Formula × Formula)) rest. Some (formula.If at x.0 x.1.0 x.1.1, rest))
        ≡ with_found q (λ x vs. with_found (ended sign.End (inside depth plain) vs) (λ y ws. Some (formula.If at p x y, ws)))
    two p None = refl
    two p (Some r) = three p r.0 (ended sign.End (inside depth plain) r.1)

    one : (q : Found Formula)
        → with_found (with_found q (λ x rest. descent.and_also x (with_found (ended sign.Else (inside depth plain) rest) (λ x rest. descent.and_also x (ended sign.End (inside depth plain) rest))))) (λ (x : Formula × (Formula × Formula)) rest. Some (formula.If at x.0 x.1.0 x.1.1, rest))
        ≡ with_found q (λ p us. with_found (ended sign.Else (inside depth plain) us) (λ x vs. with_found (ended sign.End (inside depth plain) vs) (λ y ws. Some (formula.If at p x y, ws))))
    one None = refl
    one (Some r) = two r.0 (ended sign.Else (inside depth plain) r.1)

pub curly_names : (depth : ℕ) (at : Place) (ts : List Lexeme) (ns : List Bound) (us : List Lexeme) → names_to_bar ts ≡ Some (ns, us) → curly depth at ts ≡ made (formula.Comprehension at ns) (enclosed depth content.Inner sign.CurlyClose) us
unfolding curly enclosed contents
curly_names depth at ts ns us e = ap (λ q. descent.curly_by (inside depth) at q ts) e

pub curly_items : (depth : ℕ) (at : Place) (ts : List Lexeme) → names_to_bar ts ≡ None → curly depth at ts ≡ made (formula.Set at) (listing depth bracket.Curly) ts
unfolding curly
curly_items depth at ts e = ap (λ q. descent.curly_by (inside depth) at q ts) e ∙ listing_made depth bracket.Curly (formula.Set at) ts

abbrev pub marked_by : ℕ → Mark → Place → Read Formula
marked_by depth sign.RoundOpen at = enclosed depth (content.List operator.Maplet) sign.RoundClose
marked_by depth sign.CurlyOpen at = curly depth at
marked_by depth sign.SquareOpen at = made (formula.Sequence at) (listing depth bracket.Square)
marked_by depth sign.Empty at = done (formula.Sequence at [])
marked_by depth sign.If at = conditional depth at
marked_by depth m at = never

pub marked_is : (depth : ℕ) (m : Mark) (at : Place) (ts : List Lexeme) → marked depth m at ts ≡ marked_by depth m at ts
unfolding marked enclosed contents curly conditional
marked_is depth sign.RoundOpen at ts = sym (ended_made sign.RoundClose (joined operator.Maplet) (listed (inside depth bracketed)) ts)
marked_is depth sign.SquareOpen at ts = listing_made depth bracket.Square (formula.Sequence at) ts
marked_is depth m at ts = refl
