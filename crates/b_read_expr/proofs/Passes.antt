-- Rows of operands that the code takes apart from the last part on.
use Rattle.std.proofs.Common.{◌≡◌, ◌==◌, ℕ, Bool, true, false, List, [], ◌∷◌, ◌++◌, length, Option, Some, None, refl, sym, ap, ◌∙◌, arith}
use Rattle.std.specs.Prelude.{◌||◌}
use Rattle.std.specs.List.{list_any}
use Rattle.b_ast.specs.declared.Formula.{Formula}
use Rattle.b_grammar.specs.Grammar as grammar
use Rattle.b_grammar.specs.Grammar.{priority, may_chain, link}
use Rattle.b_grammar.specs.Descent as descent
use Rattle.b_grammar.specs.Descent.{if_some, chain_if, chain_at, before_by, before, gathered, merged, grouped, alone}
use Rattle.b_read_expr.specs.declared.grouping.Part.{Part}
use Rattle.b_read_expr.specs.Grouping.{as_part, parts_of, is_at}

-- ---- one part from the end

parts_more : (ps : List Part) (p : Part) → parts_of (ps ++ p ∷ []) ≡ parts_of ps ++ as_part p ∷ []
parts_more [] p = refl
parts_more (q ∷ ps) p = ap (λ l. as_part q ∷ l) (parts_more ps p)

-- ---- gathered parts

-- these parts in front of what is gathered
abbrev pub gathered_from : ℕ → List grammar.Part → Option descent.Gathered → Option descent.Gathered
gathered_from level [] q = q
gathered_from level (l ∷ ls) q = if_some (gathered_from level ls q) (before level l)

gathered_last : (level : ℕ) (ls : List grammar.Part) (l : grammar.Part) (q : Option descent.Gathered) → gathered_from level (ls ++ l ∷ []) q ≡ gathered_from level ls (if_some q (before level l))
gathered_last level [] l q = refl
gathered_last level (k ∷ ls) l q = ap (λ q. if_some q (before level k)) (gathered_last level ls l q)

gathered_none : (level : ℕ) (ls : List grammar.Part) → gathered_from level ls None ≡ None
gathered_none level [] = refl
gathered_none level (k ∷ ls) = ap (λ q. if_some q (before level k)) (gathered_none level ls)

pub gathered_all : (level : ℕ) (ls : List grammar.Part) → gathered_from level ls (Some ([], [])) ≡ gathered level ls
gathered_all level [] = refl
gathered_all level (k ∷ ls) = ap (λ q. if_some q (before level k)) (gathered_all level ls)

pub gathered_step : (level : ℕ) (whole q : Option descent.Gathered) (old new : List Part) (p : Part) (g : descent.Gathered) → gathered_from level (parts_of old) (Some g) ≡ whole → old ≡ new ++ p ∷ [] → q ≡ before level (as_part p) g
    → gathered_from level (parts_of new) q ≡ whole
gathered_step level whole q old new p g h e f =
    ap (gathered_from level (parts_of new)) f
    ∙ sym (gathered_last level (parts_of new) (as_part p) (Some g))
    ∙ ap (λ ls. gathered_from level ls (Some g)) (sym (ap parts_of e ∙ parts_more new p))
    ∙ h

pub gathered_stop : (level : ℕ) (whole : Option descent.Gathered) (old new : List Part) (p : Part) (g : descent.Gathered) → gathered_from level (parts_of old) (Some g) ≡ whole → old ≡ new ++ p ∷ [] → None ≡ before level (as_part p) g → None ≡ whole
gathered_stop level whole old new p g h e f = sym (gathered_none level (parts_of new)) ∙ gathered_step level whole None old new p g h e f

-- ---- rows

abbrev some_row : Formula → List grammar.Part → Option descent.Row
some_row t ls = Some (t, ls)

-- without such an operator the row stays
unmerged : (level : ℕ) (ps : List Part) → list_any (is_at level) ps ≡ false → gathered level (parts_of ps) ≡ Some ([], parts_of ps)
unmerged level [] e = refl
unmerged level (p ∷ ps) e = go (priority p.operator == level) refl e (unmerged level ps)
  where
    go : (b : Bool) → (priority p.operator == level) ≡ b → b || list_any (is_at level) ps ≡ false → (list_any (is_at level) ps ≡ false → gathered level (parts_of ps) ≡ Some ([], parts_of ps))
        → gathered level (parts_of (p ∷ ps)) ≡ Some ([], parts_of (p ∷ ps))
    go true f e more = absurd (cc)
    go false f e more = ap (λ q. if_some q (before level (as_part p))) (more e) ∙ ap (λ b. before_by b level (as_part p) ([], parts_of ps)) f

pub stays : (level : ℕ) (t : Formula) (ps : List Part) → list_any (is_at level) ps ≡ false → some_row t (parts_of ps) ≡ merged level (t, parts_of ps)
stays level t ps e = ap (λ q. if_some q (descent.row_of level t)) (sym (unmerged level ps e))

-- ---- all priorities

grouped_last : (levels : List ℕ) (level : ℕ) (x : descent.Row) → grouped (levels ++ level ∷ []) x ≡ if_some (merged level x) (grouped levels)
unfolding grouped
grouped_last [] level x = same (merged level x)
  where
    same : (q : Option descent.Row) → q ≡ if_some q (grouped [])
    same None = refl
    same (Some y) = refl
grouped_last (k ∷ levels) level x = ap (λ q. if_some q (merged k)) (grouped_last levels level x) ∙ twice (merged level x)
  where
    twice : (q : Option descent.Row) → if_some (if_some q (grouped levels)) (merged k) ≡ if_some q (grouped (k ∷ levels))
    twice None = refl
    twice (Some y) = refl

pub grouped_none : (x : descent.Row) → grouped [] x ≡ Some x
unfolding grouped
grouped_none x = refl

pub grouped_step : (whole q : Option descent.Row) (levels looser : List ℕ) (level : ℕ) (x : descent.Row) → grouped levels x ≡ whole → levels ≡ looser ++ level ∷ [] → q ≡ merged level x → if_some q (grouped looser) ≡ whole
grouped_step whole q levels looser level x h e f = ap (λ q. if_some q (grouped looser)) f ∙ sym (grouped_last looser level x) ∙ ap (λ l. grouped l x) (sym e) ∙ h

pub no_levels : (levels : List ℕ) → length levels ≡ 0 → levels ≡ []
no_levels [] e = refl
no_levels (p ∷ levels) e = absurd (omega arith)
