-- What a function answers at each of its exits.
use Rattle.std.proofs.Common.{◌≡◌, ◌≢◌, ◌<◌, ◌≤◌, ◌==◌, ℕ, suc, Bool, true, false, List, [], ◌∷◌, ◌++◌, length, Option, Some, None, Result, Ok, Err, arith, refl, sym, ap, ◌∙◌}
use denote.Ref.{Bor}
use Rattle.b_ast.specs.declared.Place.{Place}
use Rattle.b_ast.specs.declared.Bound.{Bound}
use Rattle.b_ast.specs.declared.Operator.{Operator}
use Rattle.b_ast.specs.declared.Function.{Function}
use Rattle.b_ast.specs.declared.Collector.{Collector}
use Rattle.b_ast.specs.declared.Formula.{Formula}
use Rattle.b_ast.specs.declared.Formula.TheVariants as formula
use Rattle.b_ast.specs.declared.Link.{Link}
use Rattle.b_ast.specs.declared.After.{After}
use Rattle.b_ast.specs.declared.After.TheVariants as after
use Rattle.b_ast.specs.declared.Operator.TheVariants as operator
use Rattle.b_grammar.specs.declared.Mark.{Mark}
use Rattle.b_grammar.specs.declared.Mark.TheVariants as sign
use Rattle.b_grammar.specs.declared.Symbol.{Symbol}
use Rattle.b_grammar.specs.declared.Lexeme.{Lexeme}
use Rattle.b_grammar.specs.Grammar as grammar
use Rattle.b_grammar.specs.Grammar.{arity, bracketed, mark_of, bound_names, is_minus, link}
use Rattle.b_grammar.specs.Descent as descent
use Rattle.b_grammar.specs.Descent.{Found, Read, with_found, headed, closed, starts, each, made, is_operator, and_left, begins_after, is_comma}
use Rattle.b_read_expr.specs.declared.Unread.{Unread}
use Rattle.b_read_expr.specs.declared.Unread.TheVariants as unread
use Rattle.b_read_expr.specs.declared.grouping.Part.{Part}
use Rattle.b_read_expr.specs.declared.reading.Content.{Content}
use Rattle.b_read_expr.specs.declared.reading.Content.TheVariants as content
use Rattle.b_read_expr.specs.declared.reading.Opener.{Opener}
use Rattle.b_read_expr.specs.declared.reading.Opener.TheVariants as opener
use Rattle.b_read_expr.specs.declared.reading.Bracket.{Bracket}
use Rattle.b_read_expr.specs.declared.reading.Bracket.TheVariants as bracket
use Rattle.b_read_expr.specs.Reading.{Stops, Reads, inside, piece, operand, whole_row, form, one_after, afters, part_of, part, parts, comma_link, links, node, list, contents, enclosed, close_of, listing, items, marked, conditional, call, call_if, call_node, collected, behind, BeginsWith, BeginsWithComma, BeginsAfter}
use Rattle.b_read_expr.specs.Grouping.{tree}
use Rattle.b_read_expr.proofs.Loops.{IsReading, begin, begin_after, ends, fails, goes}
use Rattle.b_read_expr.proofs.Laws.{stops_on, and_rest, grouped_on, piece_is, operator_starts, part_is, list_is, comma_begins, comma_is, operand_minus, operand_plain, operand_end, row_is, contents_none, in_bracket, contents_deeper, enclosed_is, after_is, opener_begins, item, items_is, comma_starts, comma_stops, item_is, listing_is, form_end, form_by, form_is, call_is, collected_is, conditional_is, marked_by, marked_is}

-- ---- in general

pub stops_none : {A : Type 0} (e : Unread) (q : Option A) → q ≡ None → Stops e q
stops_none (unread.NoTree left) q h = h
stops_none unread.Memory q h = tt

pub stops_made : {A B : Type 0} (e : Unread) (f : A → B) (r : Read A) (us : List Lexeme) (q : Found B) → q ≡ made f r us → Stops e (r us) → Stops e q
stops_made e f r us q h s = stops_on e (r us) q (λ n. h ∙ ap (λ q. with_found q (λ x rest. Some (f x, rest))) n) s

pub reads_made : {A B : Type 0} (f : A → B) (r : Read A) (us : List Lexeme) (x : A) (vs : List Lexeme) (q : Found B) → q ≡ made f r us → r us ≡ Some (x, vs) → q ≡ Some (f x, vs)
reads_made f r us x vs q h e = h ∙ ap (λ q. with_found q (λ x rest. Some (f x, rest))) e

-- what reads the same answers the same
pub reads_on : {A : Type 0} (r s : Read A) (ts us : List Lexeme) (q : Result (A × Bor (List Lexeme)) Unread) → r ts ≡ s us → length us ≤ length ts → Reads s us q → Reads r ts q
reads_on r s ts us (Ok p) h l c = (h ∙ c.0, (let m = c.1 in omega arith))
reads_on r s ts us (Err e) h l c = stops_on e (s us) (r ts) (λ n. h ∙ n) c

pub longer : (ts us : List Lexeme) (s : Lexeme) → ts ≡ s ∷ us → length us < length ts
longer ts us s e = let l : length ts ≡ suc (length us) = ap length e in omega arith

-- ---- operators

pub piece_stops : (depth : ℕ) (levels : List ℕ) (ts : List Lexeme) (t : Formula) (us : List Lexeme) → operand depth ts ≡ Some (t, us) → parts depth levels us ≡ None → piece depth levels ts ≡ None
piece_stops depth levels ts t us e f = piece_is depth levels ts t us e ∙ ap (λ q. with_found q (grouped_on levels t)) f

pub piece_to : (depth : ℕ) (levels : List ℕ) (ts : List Lexeme) (t : Formula) (us : List Lexeme) (ps : List Part) (vs : List Lexeme) (q : Option Formula)
    → operand depth ts ≡ Some (t, us) → parts depth levels us ≡ Some (ps, vs) → q ≡ tree levels t ps → piece depth levels ts ≡ and_left vs q
piece_to depth levels ts t us ps vs q e f g = piece_is depth levels ts t us e ∙ ap (λ q. with_found q (grouped_on levels t)) f ∙ ap (and_left vs) (sym g)

abbrev pub PartsRead : ℕ → List ℕ → List Lexeme → List Part → List Lexeme → Type 0
PartsRead depth levels from ps ts = IsReading (is_operator levels) (part (operand depth)) (parts depth levels from) from ps ts

module _ (depth : ℕ) (levels : List ℕ) (from : List Lexeme) where
  pub parts_begin : PartsRead depth levels from [] from
  unfolding parts
  parts_begin = begin (is_operator levels) (part (operand depth)) from

  module _ (ps : List Part) (ts : List Lexeme) (p : Operator × Place × Bor (List Lexeme)) (b : BeginsWith levels ts (Some p)) where
    pub parts_stop : PartsRead depth levels from ps ts → operand depth p.2.now ≡ None → parts depth levels from ≡ None
    parts_stop r e =
        fails (is_operator levels) (part (operand depth)) (parts depth levels from) from ps ts r (operator_starts levels ts p b)
        (part_is levels (operand depth) ts p b ∙ ap (λ q. with_found q (λ t rest. Some (part_of p.0 p.1 t, rest))) e)

    pub parts_go : (t : Formula) (us : List Lexeme) → PartsRead depth levels from ps ts → operand depth p.2.now ≡ Some (t, us) → length us ≤ length p.2.now → PartsRead depth levels from (ps ++ part_of p.0 p.1 t ∷ []) us
    parts_go t us r e h =
        let l = longer ts p.2.now b.0 b.1 in
        goes (is_operator levels) (part (operand depth)) (parts depth levels from) from ps ts (part_of p.0 p.1 t) us r (operator_starts levels ts p b)
        (part_is levels (operand depth) ts p b ∙ ap (λ q. with_found q (λ t rest. Some (part_of p.0 p.1 t, rest))) e) (omega arith)

-- ---- commas

pub list_stops : (depth : ℕ) (o : Operator) (ts : List Lexeme) (t : Formula) (us : List Lexeme) → piece depth bracketed ts ≡ Some (t, us) → links depth o us ≡ None → list depth o ts ≡ None
list_stops depth o ts t us e f = list_is depth o ts t us e ∙ ap (λ q. with_found q (λ ls rest. Some (node t ls, rest))) f

pub list_found : (depth : ℕ) (o : Operator) (ts : List Lexeme) (t : Formula) (us : List Lexeme) (ls : List Link) (vs : List Lexeme) → piece depth bracketed ts ≡ Some (t, us) → links depth o us ≡ Some (ls, vs) → list depth o ts ≡ Some (node t ls, vs)
list_found depth o ts t us ls vs e f = list_is depth o ts t us e ∙ ap (λ q. with_found q (λ ls rest. Some (node t ls, rest))) f

abbrev pub LinksRead : ℕ → Operator → List Lexeme → List Link → List Lexeme → Type 0
LinksRead depth o from ls ts = IsReading is_comma (comma_link o (piece depth bracketed)) (links depth o from) from ls ts

module _ (depth : ℕ) (o : Operator) (from : List Lexeme) where
  pub links_begin : LinksRead depth o from [] from
  unfolding links
  links_begin = begin is_comma (comma_link o (piece depth bracketed)) from

  module _ (ls : List Link) (ts : List Lexeme) (p : Place × Bor (List Lexeme)) (b : BeginsWithComma ts (Some p)) where
    pub links_stop : LinksRead depth o from ls ts → piece depth bracketed p.1.now ≡ None → links depth o from ≡ None
    links_stop r e =
        fails is_comma (comma_link o (piece depth bracketed)) (links depth o from) from ls ts r (comma_begins ts p b)
        (comma_is o (piece depth bracketed) ts p b ∙ ap (λ q. with_found q (λ t rest. Some (link (o, p.0, t), rest))) e)

    pub links_go : (t : Formula) (us : List Lexeme) → LinksRead depth o from ls ts → piece depth bracketed p.1.now ≡ Some (t, us) → length us ≤ length p.1.now → LinksRead depth o from (ls ++ link (o, p.0, t) ∷ []) us
    links_go t us r e h =
        let l = longer ts p.1.now b.0 b.1 in
        goes is_comma (comma_link o (piece depth bracketed)) (links depth o from) from ls ts (link (o, p.0, t)) us r (comma_begins ts p b)
        (comma_is o (piece depth bracketed) ts p b ∙ ap (λ q. with_found q (λ t rest. Some (link (o, p.0, t), rest))) e) (omega arith)

-- ---- operands

pub operand_none : (depth : ℕ) (ts : List Lexeme) → ts ≡ [] → operand depth ts ≡ None
operand_none depth ts e = ap (operand depth) e ∙ operand_end depth

pub operand_negative : (depth : ℕ) (ts : List Lexeme) (s : Lexeme) (us : List Lexeme) → ts ≡ s ∷ us → is_minus s.symbol ≡ true → operand depth ts ≡ made (formula.Negative s.at) (whole_row depth) us
operand_negative depth ts s us e b = ap (operand depth) e ∙ operand_minus depth s us b

pub operand_row : (depth : ℕ) (ts : List Lexeme) (s : Lexeme) (us : List Lexeme) → ts ≡ s ∷ us → is_minus s.symbol ≡ false → operand depth ts ≡ whole_row depth ts
operand_row depth ts s us e b = ap (operand depth) e ∙ operand_plain depth s us b ∙ ap (whole_row depth) (sym e)

pub row_stops : (depth : ℕ) (ts : List Lexeme) (x : Formula) (us : List Lexeme) → form depth ts ≡ Some (x, us) → afters depth us ≡ None → whole_row depth ts ≡ None
row_stops depth ts x us e f = row_is depth ts x us e ∙ ap (λ q. with_found q (λ fs rest. Some (grammar.row (x, fs), rest))) f

pub row_found : (depth : ℕ) (ts : List Lexeme) (x : Formula) (us : List Lexeme) (fs : List After) (vs : List Lexeme) → form depth ts ≡ Some (x, us) → afters depth us ≡ Some (fs, vs) → whole_row depth ts ≡ Some (grammar.row (x, fs), vs)
row_found depth ts x us fs vs e f = row_is depth ts x us e ∙ ap (λ q. with_found q (λ fs rest. Some (grammar.row (x, fs), rest))) f

abbrev pub AftersRead : ℕ → List Lexeme → List After → List Lexeme → Type 0
AftersRead depth from fs ts = IsReading begins_after (descent.one_after (inside depth)) (afters depth from) from fs ts

module _ (depth : ℕ) (from : List Lexeme) where
  pub afters_begin : AftersRead depth from [] from
  unfolding afters
  afters_begin = begin begins_after (descent.one_after (inside depth)) from

  module _ (fs : List After) (ts : List Lexeme) (p : Opener × Place × Bor (List Lexeme)) (b : BeginsAfter ts (Some p)) where
    begun : starts begins_after ts ≡ true
    begun = ap (starts begins_after) b.1 ∙ opener_begins b.0 p.0 b.3

    first_is : headed (descent.one_after (inside depth)) ts ≡ one_after depth p.0 p.1 p.2.now
    first_is = ap (headed (descent.one_after (inside depth))) b.1 ∙ after_is depth b.0 p.0 p.2.now b.3 ∙ ap (λ at. one_after depth p.0 at p.2.now) b.2

    pub afters_stop : AftersRead depth from fs ts → one_after depth p.0 p.1 p.2.now ≡ None → afters depth from ≡ None
    afters_stop r e = fails begins_after (descent.one_after (inside depth)) (afters depth from) from fs ts r begun (first_is ∙ e)

    pub afters_go : (f : After) (us : List Lexeme) → AftersRead depth from fs ts → one_after depth p.0 p.1 p.2.now ≡ Some (f, us) → length us ≤ length p.2.now → AftersRead depth from (fs ++ f ∷ []) us
    afters_go f us r e h =
        let l = longer ts p.2.now b.0 b.1 in
        goes begins_after (descent.one_after (inside depth)) (afters depth from) from fs ts f us r begun (first_is ∙ e) (omega arith)

pub converse_is : (depth : ℕ) (at : Place) (ts : List Lexeme) (o : Opener) → o ≡ opener.Converse → one_after depth o at ts ≡ Some (after.Converse at, ts)
unfolding one_after
converse_is depth at ts o e = ap (λ o. one_after depth o at ts) e

pub application_is : (depth : ℕ) (at : Place) (ts : List Lexeme) (o : Opener) → o ≡ opener.Application → one_after depth o at ts ≡ made (after.Apply at) (enclosed depth (content.List operator.Comma) sign.RoundClose) ts
unfolding one_after
application_is depth at ts o e = ap (λ o. one_after depth o at ts) e

pub image_is : (depth : ℕ) (at : Place) (ts : List Lexeme) (o : Opener) → o ≡ opener.Image → one_after depth o at ts ≡ made (after.Image at) (enclosed depth content.Inner sign.SquareClose) ts
unfolding one_after
image_is depth at ts o e = ap (λ o. one_after depth o at ts) e

-- ---- brackets

pub contents_zero : (depth : ℕ) (c : Content) (ts : List Lexeme) → depth ≡ 0 → contents depth c ts ≡ None
contents_zero depth c ts e = ap (λ d. contents d c ts) e ∙ contents_none c ts

pub contents_law : (c k : Content) (depth less : ℕ) (ts : List Lexeme) → c ≡ k → depth ≡ suc less → contents depth c ts ≡ in_bracket k less ts
contents_law c k depth less ts e d = ap (λ c. contents depth c ts) e ∙ contents_deeper k depth less ts d

pub enclosed_to : (depth : ℕ) (c : Content) (m : Mark) (ts : List Lexeme) (t : Formula) (us : List Lexeme) (q : Option (List Lexeme)) → contents depth c ts ≡ Some (t, us) → behind m us ≡ q → enclosed depth c m ts ≡ and_rest t q
enclosed_to depth c m ts t us q e f = enclosed_is depth c m ts t us e ∙ ap (and_rest t) f

pub listing_to : (depth : ℕ) (b : Bracket) (ts : List Lexeme) (xs : List Formula) (us : List Lexeme) (q : Option (List Lexeme)) → behind (close_of b) ts ≡ None → items depth ts ≡ Some (xs, us) → behind (close_of b) us ≡ q
    → listing depth b ts ≡ and_rest xs q
listing_to depth b ts xs us q e f g = listing_is depth b ts xs us e f ∙ ap (and_rest xs) g

abbrev pub ItemsRead : ℕ → List Lexeme → List Formula → List Lexeme → Type 0
ItemsRead depth from xs ts = IsReading is_comma (item depth) (items depth from) from xs ts

module _ (depth : ℕ) (from : List Lexeme) where
  pub items_begin : (t : Formula) (us : List Lexeme) → contents depth content.Inner from ≡ Some (t, us) → length us ≤ length from → ItemsRead depth from (t ∷ []) us
  items_begin t us e h = begin_after is_comma (item depth) (items depth from) from (t ∷ []) us h (items_is depth from t us e)

  module _ (xs : List Formula) (ts : List Lexeme) (r : ItemsRead depth from xs ts) where
    pub items_end : behind sign.Comma ts ≡ None → items depth from ≡ Some (xs, ts)
    items_end e = ends is_comma (item depth) (items depth from) from xs ts r (comma_stops ts e)

    module _ (us : List Lexeme) (b : behind sign.Comma ts ≡ Some us) where
      pub items_stop : contents depth content.Inner us ≡ None → items depth from ≡ None
      items_stop e = fails is_comma (item depth) (items depth from) from xs ts r (comma_starts ts us b) (item_is depth ts us b ∙ e)

      pub items_go : (t : Formula) (vs : List Lexeme) → contents depth content.Inner us ≡ Some (t, vs) → length vs < length ts → ItemsRead depth from (xs ++ t ∷ []) vs
      items_go t vs e h = goes is_comma (item depth) (items depth from) from xs ts t vs r (comma_starts ts us b) (item_is depth ts us b ∙ e) h

-- ---- forms

pub form_none : (depth : ℕ) (ts : List Lexeme) → ts ≡ [] → form depth ts ≡ None
form_none depth ts e = ap (form depth) e ∙ form_end depth

pub form_law : (depth : ℕ) (ts : List Lexeme) (s : Lexeme) (us : List Lexeme) (y : Symbol) → ts ≡ s ∷ us → s.symbol ≡ y → form depth ts ≡ form_by depth y s.at us
form_law depth ts s us y e f = ap (form depth) e ∙ form_is depth s us y f

pub call_stops : (depth : ℕ) (f : Function) (at : Place) (ts us : List Lexeme) → behind sign.RoundOpen ts ≡ Some us → listing depth bracket.Round us ≡ None → call depth f at ts ≡ None
call_stops depth f at ts us e g = call_is depth f at ts us e ∙ ap (λ q. with_found q (λ xs rest. closed (formula.Call at f xs) (length xs == arity f) rest)) g

module _ (depth : ℕ) (f : Function) (at : Place) (ts us : List Lexeme) (xs : List Formula) (vs : List Lexeme) (e : behind sign.RoundOpen ts ≡ Some us) (g : listing depth bracket.Round us ≡ Some (xs, vs)) where
  call_to : call depth f at ts ≡ closed (formula.Call at f xs) (length xs == arity f) vs
  call_to = call_is depth f at ts us e ∙ ap (λ q. with_found q (λ xs rest. closed (formula.Call at f xs) (length xs == arity f) rest)) g

  found_if : (b : Bool) (u t : Formula) → call_if b u ≡ Some t → closed u b vs ≡ Some (t, vs)
  found_if true u t h = let same : u ≡ t = cc in ap (λ t. Some (t, vs)) same
  found_if false u t h = absurd (cc)

  none_if : (b : Bool) (u : Formula) → call_if b u ≡ None → closed u b vs ≡ None
  none_if true u h = absurd (cc)
  none_if false u h = refl

  pub call_found : (t : Formula) → call_node at f xs ≡ Some t → call depth f at ts ≡ Some (t, vs)
  call_found t h = call_to ∙ found_if (length xs == arity f) (formula.Call at f xs) t h

  pub call_refused : call_node at f xs ≡ None → call depth f at ts ≡ None
  call_refused h = call_to ∙ none_if (length xs == arity f) (formula.Call at f xs) h

module _ (depth : ℕ) (c : Collector) (at : Place) (ts : List Lexeme) (ns : List Bound) (us : List Lexeme) (named : bound_names ts ≡ Some (ns, us)) where
  pub collected_stops : enclosed depth content.Inner sign.Bar us ≡ None → collected depth c at ts ≡ None
  collected_stops e =
      collected_is depth c at ts ns us named
      ∙ ap (λ q. with_found q (λ x vs. with_found (enclosed depth content.Inner sign.RoundClose vs) (λ y ws. Some (formula.Collected at c ns x y, ws)))) e

  pub collected_then : (x : Formula) (vs : List Lexeme) → enclosed depth content.Inner sign.Bar us ≡ Some (x, vs) → collected depth c at ts ≡ made (formula.Collected at c ns x) (enclosed depth content.Inner sign.RoundClose) vs
  collected_then x vs e =
      collected_is depth c at ts ns us named
      ∙ ap (λ q. with_found q (λ x vs. with_found (enclosed depth content.Inner sign.RoundClose vs) (λ y ws. Some (formula.Collected at c ns x y, ws)))) e

module _ (depth : ℕ) (at : Place) (ts : List Lexeme) where
  abbrev behind_then : Formula → List Lexeme → Found Formula
  behind_then p us = with_found (enclosed depth content.Part sign.Else us) (λ x vs. with_found (enclosed depth content.Part sign.End vs) (λ y ws. Some (formula.If at p x y, ws)))

  pub conditional_stops : enclosed depth content.Part sign.Then ts ≡ None → conditional depth at ts ≡ None
  conditional_stops e = conditional_is depth at ts ∙ ap (λ q. with_found q behind_then) e

  module _ (p : Formula) (us : List Lexeme) (e : enclosed depth content.Part sign.Then ts ≡ Some (p, us)) where
    pub conditional_lacks : enclosed depth content.Part sign.Else us ≡ None → conditional depth at ts ≡ None
    conditional_lacks f =
        conditional_is depth at ts ∙ ap (λ q. with_found q behind_then) e ∙ ap (λ q. with_found q (λ x vs. with_found (enclosed depth content.Part sign.End vs) (λ y ws. Some (formula.If at p x y, ws)))) f

    pub conditional_then : (x : Formula) (vs : List Lexeme) → enclosed depth content.Part sign.Else us ≡ Some (x, vs) → conditional depth at ts ≡ made (formula.If at p x) (enclosed depth content.Part sign.End) vs
    conditional_then x vs f =
        conditional_is depth at ts ∙ ap (λ q. with_found q behind_then) e ∙ ap (λ q. with_found q (λ x vs. with_found (enclosed depth content.Part sign.End vs) (λ y ws. Some (formula.If at p x y, ws)))) f

pub marked_law : (depth : ℕ) (m k : Mark) (at : Place) (ts : List Lexeme) → m ≡ k → marked depth m at ts ≡ marked_by depth k at ts
marked_law depth m k at ts e = ap (λ m. marked depth m at ts) e ∙ marked_is depth k at ts

pub marked_other : (depth : ℕ) (m : Mark) (at : Place) (ts : List Lexeme) → m ≢ sign.RoundOpen → m ≢ sign.CurlyOpen → m ≢ sign.SquareOpen → m ≢ sign.Empty → m ≢ sign.If → marked depth m at ts ≡ None
marked_other depth m at ts a b c d e = marked_is depth m at ts ∙ go m a b c d e
  where
    go : (m : Mark) → m ≢ sign.RoundOpen → m ≢ sign.CurlyOpen → m ≢ sign.SquareOpen → m ≢ sign.Empty → m ≢ sign.If → marked_by depth m at ts ≡ None
    go sign.RoundOpen a b c d e = absurd (a refl)
    go sign.CurlyOpen a b c d e = absurd (b refl)
    go sign.SquareOpen a b c d e = absurd (c refl)
    go sign.Empty a b c d e = absurd (d refl)
    go sign.If a b c d e = absurd (e refl)
    go m a b c d e = refl
