-- Loops that read names.
use Rattle.std.proofs.Common.{◌≡◌, ◌≢◌, ◌<◌, ◌≤◌, List, [], ◌∷◌, ◌++◌, length, Option, Some, None, arith, refl, sym, ap, ◌∙◌, append_assoc}
use Rattle.b_ast.specs.declared.Place.{Place}
use Rattle.b_ast.specs.declared.Bound.{Bound}
use Rattle.b_grammar.specs.declared.Mark.{Mark}
use Rattle.b_grammar.specs.declared.Mark.TheVariants as sign
use Rattle.b_grammar.specs.declared.Symbol.{Symbol}
use Rattle.b_grammar.specs.declared.Symbol.TheVariants as symbol
use Rattle.b_grammar.specs.declared.Lexeme.{Lexeme}
use Rattle.b_grammar.specs.Grammar.{mark_of, Names, with_name, and_name, named, to_bar_after, to_dot_after, after_dot, names_to_bar, names_to_dot}
use Rattle.b_read_expr.specs.Reading.{and_mark, name_and_mark}
use Rattle.b_read_expr.proofs.Loops.{after_these}

named_before : (xs : List Bound) (b : Bound) (q : Names) → after_these xs (and_name b q) ≡ after_these (xs ++ b ∷ []) q
named_before xs b None = refl
named_before xs b (Some p) = ap (λ l. Some (l, p.1)) (sym (append_assoc xs (b ∷ []) p.0))

all_named : (q : Names) → q ≡ after_these [] q
all_named None = refl
all_named (Some p) = refl

-- Of the names in all, these are read, and this is left.
pub record IsNaming (read : List Lexeme → Names) (whole : Names) (from : List Lexeme) (xs : List Bound) (ts : List Lexeme) : Type 0 where
  pub shorter : length ts ≤ length from
  pub same : whole ≡ after_these xs (read ts)

pub begins : (read : List Lexeme → Names) (ts : List Lexeme) → IsNaming read (read ts) ts [] ts
begins read ts = record { shorter = omega arith; same = all_named (read ts) }

-- a name and a mark at the front
abbrev Next : Type 0
Next = Option (Bound × Mark × List Lexeme)

same_next : (b c : Bound) (m n : Mark) (us vs : List Lexeme) → ◌≡◌ {A = Next} (Some (b, m, us)) (Some (c, n, vs)) → (b ≡ c) × (m ≡ n) × (us ≡ vs)
same_next b c m n us vs e =
    let all : ◌≡◌ {A = Bound × Mark × List Lexeme} (b, m, us) (c, n, vs) = cc in
    (ap (λ (p : Bound × Mark × List Lexeme). p.0) all, ap (λ (p : Bound × Mark × List Lexeme). p.1) all, ap (λ (p : Bound × Mark × List Lexeme). p.2) all)

-- the names behind a name and a mark
module _ (read : List Lexeme → Names) (then : Bound → Option Mark → List Lexeme → Names → Names) (nothing : (b : Bound) (ts : List Lexeme) (q : Names) → then b None ts q ≡ None)
    (short : read [] ≡ None) (alone : (n : Lexeme) → read (n ∷ []) ≡ None)
    (by : (n s : Lexeme) (ts : List Lexeme) → read (n ∷ s ∷ ts) ≡ with_name n (λ b. then b (mark_of s.symbol) ts (read ts))) where
  none_from : (y : Symbol) (at : Place) (m : Option Mark) (ts : List Lexeme) (q : Names) → with_name (record { symbol = y; at = at }) (λ b. and_mark b m ts) ≡ None → with_name (record { symbol = y; at = at }) (λ b. then b m ts q) ≡ None
  none_from (symbol.Name x) at None ts q e = nothing (record { name = x; at = at }) ts q
  none_from (symbol.Name x) at (Some m) ts q e = absurd (cc)
  none_from y at m ts q e = refl

  pub read_none : (ts : List Lexeme) → name_and_mark ts ≡ None → read ts ≡ None
  read_none [] e = short
  read_none (n ∷ []) e = alone n
  read_none (n ∷ s ∷ ts) e = by n s ts ∙ none_from n.symbol n.at (mark_of s.symbol) ts (read ts) e

  some_from : (y : Symbol) (at : Place) (m : Option Mark) (ts : List Lexeme) (b : Bound) (k : Mark) (us : List Lexeme) → with_name (record { symbol = y; at = at }) (λ b. and_mark b m ts) ≡ Some (b, k, us)
      → with_name (record { symbol = y; at = at }) (λ b. then b m ts (read ts)) ≡ then b (Some k) us (read us)
  some_from (symbol.Name x) at None ts b k us e = absurd (cc)
  some_from (symbol.Name x) at (Some m) ts b k us e =
      let s = same_next (record { name = x; at = at }) b m k ts us e in
      ap (λ b. then b (Some m) ts (read ts)) s.0 ∙ ap (λ m. then b (Some m) ts (read ts)) s.1 ∙ ap (λ l. then b (Some k) l (read l)) s.2
  some_from y at m ts b k us e = absurd (cc)

  pub read_by : (ts : List Lexeme) (b : Bound) (k : Mark) (us : List Lexeme) → name_and_mark ts ≡ Some (b, k, us) → read ts ≡ then b (Some k) us (read us)
  read_by [] b k us e = absurd (cc)
  read_by (n ∷ []) b k us e = absurd (cc)
  read_by (n ∷ s ∷ ts) b k us e = by n s ts ∙ some_from n.symbol n.at (mark_of s.symbol) ts b k us e

bar_none : (ts : List Lexeme) → name_and_mark ts ≡ None → names_to_bar ts ≡ None
bar_none = read_none names_to_bar to_bar_after (λ b ts q. refl) refl (λ n. refl) (λ n s ts. refl)

bar_by : (ts : List Lexeme) (b : Bound) (k : Mark) (us : List Lexeme) → name_and_mark ts ≡ Some (b, k, us) → names_to_bar ts ≡ to_bar_after b (Some k) us (names_to_bar us)
bar_by = read_by names_to_bar to_bar_after (λ b ts q. refl) refl (λ n. refl) (λ n s ts. refl)

dot_none : (ts : List Lexeme) → name_and_mark ts ≡ None → names_to_dot ts ≡ None
dot_none = read_none names_to_dot to_dot_after (λ b ts q. refl) refl (λ n. refl) (λ n s ts. refl)

dot_by : (ts : List Lexeme) (b : Bound) (k : Mark) (us : List Lexeme) → name_and_mark ts ≡ Some (b, k, us) → names_to_dot ts ≡ to_dot_after b (Some k) us (names_to_dot us)
dot_by = read_by names_to_dot to_dot_after (λ b ts q. refl) refl (λ n. refl) (λ n s ts. refl)

bar_other : (b : Bound) (k : Mark) (us : List Lexeme) (q : Names) → k ≢ sign.Bar → k ≢ sign.Comma → to_bar_after b (Some k) us q ≡ None
bar_other b sign.Bar us q n m = absurd (n refl)
bar_other b sign.Comma us q n m = absurd (m refl)
bar_other b k us q n m = refl

dot_other : (b : Bound) (k : Mark) (us : List Lexeme) (q : Names) → k ≢ sign.RoundClose → k ≢ sign.Comma → to_dot_after b (Some k) us q ≡ None
dot_other b sign.RoundClose us q n m = absurd (n refl)
dot_other b sign.Comma us q n m = absurd (m refl)
dot_other b k us q n m = refl

module _ (whole : Names) (from : List Lexeme) (xs : List Bound) (ts : List Lexeme) where
  pub bar_fails : IsNaming names_to_bar whole from xs ts → name_and_mark ts ≡ None → whole ≡ None
  bar_fails r e = r.same ∙ ap (after_these xs) (bar_none ts e)

  pub dot_fails : IsNaming names_to_dot whole from xs ts → name_and_mark ts ≡ None → whole ≡ None
  dot_fails r e = r.same ∙ ap (after_these xs) (dot_none ts e)

  module _ (b : Bound) (us : List Lexeme) where
    pub bar_ends : IsNaming names_to_bar whole from xs ts → name_and_mark ts ≡ Some (b, sign.Bar, us) → whole ≡ Some (xs ++ b ∷ [], us)
    bar_ends r e = r.same ∙ ap (after_these xs) (bar_by ts b sign.Bar us e)

    pub bar_stops : (k : Mark) → IsNaming names_to_bar whole from xs ts → name_and_mark ts ≡ Some (b, k, us) → k ≢ sign.Bar → k ≢ sign.Comma → whole ≡ None
    bar_stops k r e n m = r.same ∙ ap (after_these xs) (bar_by ts b k us e ∙ bar_other b k us (names_to_bar us) n m)

    pub bar_goes : IsNaming names_to_bar whole from xs ts → name_and_mark ts ≡ Some (b, sign.Comma, us) → length us < length ts → IsNaming names_to_bar whole from (xs ++ b ∷ []) us
    bar_goes r e h = record { shorter = (let s = r.shorter in omega arith); same = r.same ∙ ap (after_these xs) (bar_by ts b sign.Comma us e) ∙ named_before xs b (names_to_bar us) }

    pub dot_ends : (vs : List Lexeme) → IsNaming names_to_dot whole from xs ts → name_and_mark ts ≡ Some (b, sign.RoundClose, us) → after_dot us ≡ Some vs → whole ≡ Some (xs ++ b ∷ [], vs)
    dot_ends vs r e d = r.same ∙ ap (after_these xs) (dot_by ts b sign.RoundClose us e) ∙ ap (λ q. after_these xs (named b q)) d

    pub dot_lacks : IsNaming names_to_dot whole from xs ts → name_and_mark ts ≡ Some (b, sign.RoundClose, us) → after_dot us ≡ None → whole ≡ None
    dot_lacks r e d = r.same ∙ ap (after_these xs) (dot_by ts b sign.RoundClose us e) ∙ ap (λ q. after_these xs (named b q)) d

    pub dot_stops : (k : Mark) → IsNaming names_to_dot whole from xs ts → name_and_mark ts ≡ Some (b, k, us) → k ≢ sign.RoundClose → k ≢ sign.Comma → whole ≡ None
    dot_stops k r e n m = r.same ∙ ap (after_these xs) (dot_by ts b k us e ∙ dot_other b k us (names_to_dot us) n m)

    pub dot_goes : IsNaming names_to_dot whole from xs ts → name_and_mark ts ≡ Some (b, sign.Comma, us) → length us < length ts → IsNaming names_to_dot whole from (xs ++ b ∷ []) us
    dot_goes r e h = record { shorter = (let s = r.shorter in omega arith); same = r.same ∙ ap (after_these xs) (dot_by ts b sign.Comma us e) ∙ named_before xs b (names_to_dot us) }
