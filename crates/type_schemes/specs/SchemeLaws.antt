-- Each scheme means its rule.
use Rattle.std.proofs.Common.{◌≡◌, ◌≤◌, ◌<◌, ◌+◌, ◌⊎◌, ℕ, zero, suc, Bool, true, false, ◌&&◌, ◌||◌, List, [], ◌∷◌, ◌++◌, length, get_or, arith, refl, sym, ap, ◌∙◌, subst, nat_eq, nat_lt, inl, inr}
use Rattle.b_values.specs.declared.types.Ty.{Ty}
use Rattle.b_values.specs.declared.types.Ty.TheVariants.{Int, Truth, Text, Pair, Set}
use Rattle.type_table.specs.declared.rows.Row.{Row}
use Rattle.type_table.specs.declared.rows.Row.TheVariants as row
use Rattle.type_table.specs.Tables.{Typing, Fits, row_at, Solves, IsRow, IsTable}
use Rattle.type_schemes.specs.declared.rules.Rule.{Rule}
use Rattle.type_schemes.specs.declared.rules.Rule.TheVariants as rule
use Rattle.type_schemes.specs.Rules.{Obeys}
use Rattle.type_schemes.specs.Schemes.{scheme_of, int, truth, text, IsShort}

-- ---- a table's equations, row by row

abbrev pub SolvesFrom : Typing → ℕ → List Row → Type 0
SolvesFrom g k [] = Unit {0}
SolvesFrom g k (r ∷ rs) = Fits g (g k) r × SolvesFrom g (k + 1) rs

from_solves : (g : Typing) (k : ℕ) (rows : List Row) → ((i : ℕ) → Fits g (g (k + i)) (row_at rows i)) → SolvesFrom g k rows
from_solves g k [] f = tt
from_solves g k (r ∷ rs) f =
    let here : k + 0 ≡ k = omega arith in (
      subst (λ n. Fits g (g n) r) here (f 0),
      from_solves g (k + 1) rs (λ i. let next : k + (suc i) ≡ k + 1 + i = omega arith in subst (λ n. Fits g (g n) (row_at rs i)) next (f (suc i))),
    )

pub solves_from : (g : Typing) (rows : List Row) → Solves g rows → SolvesFrom g 0 rows
unfolding Solves
solves_from g rows f = from_solves g 0 rows (λ i. let e : i ≡ 0 + i = omega arith in subst (λ n. Fits g (g n) (row_at rows i)) e (f i))

to_solves : (g : Typing) (k : ℕ) (rows : List Row) → SolvesFrom g k rows → (i : ℕ) → Fits g (g (k + i)) (row_at rows i)
to_solves g k [] f i = tt
to_solves g k (r ∷ rs) f zero = let here : k ≡ k + 0 = omega arith in subst (λ n. Fits g (g n) r) here f.0
to_solves g k (r ∷ rs) f (suc i) = let next : k + 1 + i ≡ k + (suc i) = omega arith in subst (λ n. Fits g (g n) (row_at rs i)) next (to_solves g (k + 1) rs f.1 i)

pub from_solved : (g : Typing) (rows : List Row) → SolvesFrom g 0 rows → Solves g rows
unfolding Solves
from_solved g rows f i = let e : 0 + i ≡ i = omega arith in subst (λ n. Fits g (g n) (row_at rows i)) e (to_solves g 0 rows f i)

-- ---- a solution for each typing that obeys the rule

abbrev pub listed : Ty → Ty → Ty → List Ty → Typing
listed t l r more k = get_or (t ∷ l ∷ r ∷ more) k Int

pub forth : (q : Rule) (l r t : Ty) → Obeys q l r t → (more : List Ty) × SolvesFrom (listed t l r more) 0 (scheme_of q)
forth rule.Arithmetic l r t h = ([], (h.2, (h.0, (h.1, tt))))
forth rule.Interval l r t h = (Int ∷ [], (h.2, (h.0, (h.1, (refl, tt)))))
forth rule.SameSets l r t h = (h.0 ∷ [], (h.3, (h.1, (h.2, (tt, tt)))))
forth rule.Products l r t h = ((Pair h.0 h.1) ∷ h.0 ∷ h.1 ∷ [], (h.4, (h.2, (h.3, (refl, (tt, (tt, tt)))))))
forth rule.Couple l r t h = ([], (h, (tt, (tt, tt))))
forth rule.Concatenation l r t h = ((Pair Int h.0) ∷ Int ∷ h.0 ∷ [], (h.3, (h.1, (h.2, (refl, (refl, (tt, tt)))))))
forth rule.Prepend l r t h = ((Pair Int l) ∷ Int ∷ [], (h.1, (tt, (h.0, (refl, (refl, tt))))))
forth rule.Append l r t h = ((Pair Int r) ∷ Int ∷ [], (h.1, (h.0, (tt, (refl, (refl, tt))))))
forth rule.Cut l r t h = ((Pair Int h.0) ∷ Int ∷ h.0 ∷ [], (h.3, (h.1, (h.2, (refl, (refl, (tt, tt)))))))
forth rule.DomainPart l r t h = ((Pair h.0 h.1) ∷ h.0 ∷ h.1 ∷ [], (h.4, (h.2, (h.3, (refl, (tt, (tt, tt)))))))
forth rule.RangePart l r t h = ((Pair h.0 h.1) ∷ h.1 ∷ h.0 ∷ [], (h.4, (h.2, (h.3, (refl, (tt, (tt, tt)))))))
forth rule.Overriding l r t h = ((Pair h.0 h.1) ∷ h.0 ∷ h.1 ∷ [], (h.4, (h.2, (h.3, (refl, (tt, (tt, tt)))))))
forth rule.DirectProduct l r t h = ((Pair h.0 (Pair h.1 h.2)) ∷ (Pair h.0 h.1) ∷ (Pair h.0 h.2) ∷ h.0 ∷ (Pair h.1 h.2) ∷ h.1 ∷ h.2 ∷ [], (h.5, (h.3, (h.4, (refl, (refl, (refl, (tt, (refl, (tt, (tt, tt)))))))))))
forth rule.ParallelProduct l r t h = ((Pair (Pair h.0 h.1) (Pair h.2 h.3)) ∷ (Pair h.0 h.2) ∷ (Pair h.1 h.3) ∷ (Pair h.0 h.1) ∷ (Pair h.2 h.3) ∷ h.0 ∷ h.2 ∷ h.1 ∷ h.3 ∷ [], (h.6, (h.4, (h.5, (refl, (refl, (refl, (refl, (refl, (tt, (tt, (tt, (tt, tt)))))))))))))
forth rule.Composition l r t h = ((Pair h.0 h.2) ∷ (Pair h.0 h.1) ∷ (Pair h.1 h.2) ∷ h.0 ∷ h.2 ∷ h.1 ∷ [], (h.5, (h.3, (h.4, (refl, (refl, (refl, (tt, (tt, (tt, tt))))))))))
forth rule.Relations l r t h = ((Set (Pair h.0 h.1)) ∷ h.0 ∷ h.1 ∷ (Pair h.0 h.1) ∷ [], (h.4, (h.2, (h.3, (refl, (tt, (tt, (refl, tt))))))))
forth rule.Membership l r t h = ([], (h.1, (tt, (h.0, tt))))
forth rule.Inclusion l r t h = (h.0 ∷ [], (h.3, (h.1, (h.2, (tt, tt)))))
forth rule.Equality l r t h = ([], (h.1, (tt, (h.0, tt))))
forth rule.NumberOrder l r t h = ([], (h.2, (h.0, (h.1, tt))))
forth rule.Connective l r t h = ([], (h.2, (h.0, (h.1, tt))))
forth rule.FirstProjection l r t h = ((Pair (Pair h.0 h.1) h.0) ∷ h.0 ∷ h.1 ∷ (Pair h.0 h.1) ∷ [], (h.4, (h.2, (h.3, (refl, (tt, (tt, (refl, tt))))))))
forth rule.SecondProjection l r t h = ((Pair (Pair h.0 h.1) h.1) ∷ h.0 ∷ h.1 ∷ (Pair h.0 h.1) ∷ [], (h.4, (h.2, (h.3, (refl, (tt, (tt, (refl, tt))))))))
forth rule.Iteration l r t h = ((Pair h.0 h.0) ∷ h.0 ∷ [], (h.3, (h.1, (h.2, (refl, (tt, tt))))))
forth rule.Application l r t h = ((Pair r t) ∷ [], (tt, (h, (tt, (refl, tt)))))
forth rule.Image l r t h = (h.1 ∷ (Pair h.0 h.1) ∷ h.0 ∷ [], (h.4, (h.2, (h.3, (tt, (refl, (tt, tt)))))))
forth rule.Collected l r t h = ((Pair l r) ∷ [], (h, (tt, (tt, (refl, tt)))))
forth rule.Number l r t h = ([], (h.1, (h.0, (tt, tt))))
forth rule.Subsets l r t h = ((Set h.0) ∷ h.0 ∷ [], (h.2, (h.1, (tt, (refl, (tt, tt))))))
forth rule.Flattened l r t h = (h.0 ∷ (Set h.0) ∷ [], (h.2, (h.1, (tt, (tt, (refl, tt))))))
forth rule.Domain l r t h = (h.0 ∷ (Pair h.0 h.1) ∷ h.1 ∷ [], (h.3, (h.2, (tt, (tt, (refl, (tt, tt)))))))
forth rule.Range l r t h = (h.1 ∷ (Pair h.0 h.1) ∷ h.0 ∷ [], (h.3, (h.2, (tt, (tt, (refl, (tt, tt)))))))
forth rule.Identity l r t h = ((Pair h.0 h.0) ∷ h.0 ∷ [], (h.2, (h.1, (tt, (refl, (tt, tt))))))
forth rule.Closure l r t h = ((Pair h.0 h.0) ∷ h.0 ∷ [], (h.2, (h.1, (tt, (refl, (tt, tt))))))
forth rule.Converse l r t h = ((Pair h.1 h.0) ∷ (Pair h.0 h.1) ∷ h.1 ∷ h.0 ∷ [], (h.3, (h.2, (tt, (refl, (refl, (tt, (tt, tt))))))))
forth rule.Cardinality l r t h = (h.0 ∷ [], (h.2, (h.1, (tt, (tt, tt)))))
forth rule.Extreme l r t h = (Int ∷ [], (h.1, (h.0, (tt, (refl, tt)))))
forth rule.Sequences l r t h = ((Set (Pair Int h.0)) ∷ h.0 ∷ (Pair Int h.0) ∷ Int ∷ [], (h.2, (h.1, (tt, (refl, (tt, (refl, (refl, tt))))))))
forth rule.Length l r t h = ((Pair Int h.0) ∷ Int ∷ h.0 ∷ [], (h.2, (h.1, (tt, (refl, (refl, (tt, tt)))))))
forth rule.Element l r t h = ((Pair Int t) ∷ Int ∷ [], (tt, (h, (tt, (refl, (refl, tt))))))
forth rule.SameSequence l r t h = ((Pair Int h.0) ∷ Int ∷ h.0 ∷ [], (h.2, (h.1, (tt, (refl, (refl, (tt, tt)))))))
forth rule.JoinedSequence l r t h = ((Pair Int h.0) ∷ (Pair Int (Set (Pair Int h.0))) ∷ Int ∷ h.0 ∷ (Set (Pair Int h.0)) ∷ [], (h.2, (h.1, (tt, (refl, (refl, (refl, (tt, (refl, tt)))))))))
forth rule.Predicate l r t h = ([], (h.1, (h.0, (tt, tt))))
forth rule.Singleton l r t h = ([], (h, (tt, (tt, tt))))
forth rule.SequenceOf l r t h = ((Pair Int l) ∷ Int ∷ [], (h, (tt, (tt, (refl, (refl, tt))))))
forth rule.Alike l r t h = ([], (tt, (h, (tt, tt))))
forth rule.SetAlike l r t h = (h.0 ∷ [], (h.2, (h.1, (tt, (tt, tt)))))
forth rule.EmptySet l r t h = (h.0 ∷ [], (h.1, (tt, (tt, (tt, tt)))))
forth rule.EmptySequence l r t h = ((Pair Int h.0) ∷ Int ∷ h.0 ∷ [], (h.1, (tt, (tt, (refl, (refl, (tt, tt)))))))
forth rule.Integer l r t h = ([], (h, (tt, (tt, tt))))
forth rule.Truth l r t h = ([], (h, (tt, (tt, tt))))
forth rule.Text l r t h = ([], (h, (tt, (tt, tt))))
forth rule.Integers l r t h = (Int ∷ [], (h, (tt, (tt, (refl, tt)))))
forth rule.Truths l r t h = (Truth ∷ [], (h, (tt, (tt, (refl, tt)))))
forth rule.Texts l r t h = (Text ∷ [], (h, (tt, (tt, (refl, tt)))))

-- ---- each solution obeys the rule

pub back : (q : Rule) (g : Typing) → SolvesFrom g 0 (scheme_of q) → Obeys q (g 1) (g 2) (g 0)
back rule.Arithmetic g h = (h.1.0, h.1.1.0, h.0)
back rule.Interval g h = (h.1.0, h.1.1.0, h.0 ∙ ap Set (h.1.1.1.0))
back rule.SameSets g h = (g 3, h.1.0, h.1.1.0, h.0)
back rule.Products g h = (g 4, g 5, h.1.0, h.1.1.0, h.0 ∙ ap Set (h.1.1.1.0))
back rule.Couple g h = h.0
back rule.Concatenation g h = (g 5, h.1.0 ∙ ap Set (h.1.1.1.0 ∙ ap (λ y. Pair y (g 5)) (h.1.1.1.1.0)), h.1.1.0 ∙ ap Set (h.1.1.1.0 ∙ ap (λ y. Pair y (g 5)) (h.1.1.1.1.0)), h.0 ∙ ap Set (h.1.1.1.0 ∙ ap (λ y. Pair y (g 5)) (h.1.1.1.1.0)))
back rule.Prepend g h = (h.1.1.0 ∙ ap Set (h.1.1.1.0 ∙ ap (λ y. Pair y (g 1)) (h.1.1.1.1.0)), h.0 ∙ ap Set (h.1.1.1.0 ∙ ap (λ y. Pair y (g 1)) (h.1.1.1.1.0)))
back rule.Append g h = (h.1.0 ∙ ap Set (h.1.1.1.0 ∙ ap (λ y. Pair y (g 2)) (h.1.1.1.1.0)), h.0 ∙ ap Set (h.1.1.1.0 ∙ ap (λ y. Pair y (g 2)) (h.1.1.1.1.0)))
back rule.Cut g h = (g 5, h.1.0 ∙ ap Set (h.1.1.1.0 ∙ ap (λ y. Pair y (g 5)) (h.1.1.1.1.0)), h.1.1.0, h.0 ∙ ap Set (h.1.1.1.0 ∙ ap (λ y. Pair y (g 5)) (h.1.1.1.1.0)))
back rule.DomainPart g h = (g 4, g 5, h.1.0, h.1.1.0 ∙ ap Set (h.1.1.1.0), h.0 ∙ ap Set (h.1.1.1.0))
back rule.RangePart g h = (g 5, g 4, h.1.0 ∙ ap Set (h.1.1.1.0), h.1.1.0, h.0 ∙ ap Set (h.1.1.1.0))
back rule.Overriding g h = (g 4, g 5, h.1.0 ∙ ap Set (h.1.1.1.0), h.1.1.0 ∙ ap Set (h.1.1.1.0), h.0 ∙ ap Set (h.1.1.1.0))
back rule.DirectProduct g h = (g 6, g 8, g 9, h.1.0 ∙ ap Set (h.1.1.1.1.0), h.1.1.0 ∙ ap Set (h.1.1.1.1.1.0), h.0 ∙ ap Set (h.1.1.1.0 ∙ ap (Pair (g 6)) (h.1.1.1.1.1.1.1.0)))
back rule.ParallelProduct g h = (g 8, g 10, g 9, g 11, h.1.0 ∙ ap Set (h.1.1.1.1.0), h.1.1.0 ∙ ap Set (h.1.1.1.1.1.0), h.0 ∙ ap Set (h.1.1.1.0 ∙ ap (λ y. Pair y (g 7)) (h.1.1.1.1.1.1.0) ∙ ap (Pair (Pair (g 8) (g 10))) (h.1.1.1.1.1.1.1.0)))
back rule.Composition g h = (g 6, g 8, g 7, h.1.0 ∙ ap Set (h.1.1.1.1.0), h.1.1.0 ∙ ap Set (h.1.1.1.1.1.0), h.0 ∙ ap Set (h.1.1.1.0))
back rule.Relations g h = (g 4, g 5, h.1.0, h.1.1.0, h.0 ∙ ap Set (h.1.1.1.0 ∙ ap Set (h.1.1.1.1.1.1.0)))
back rule.Membership g h = (h.1.1.0, h.0)
back rule.Inclusion g h = (g 3, h.1.0, h.1.1.0, h.0)
back rule.Equality g h = (h.1.1.0, h.0)
back rule.NumberOrder g h = (h.1.0, h.1.1.0, h.0)
back rule.Connective g h = (h.1.0, h.1.1.0, h.0)
back rule.FirstProjection g h = (g 4, g 5, h.1.0, h.1.1.0, h.0 ∙ ap Set (h.1.1.1.0 ∙ ap (λ y. Pair y (g 4)) (h.1.1.1.1.1.1.0)))
back rule.SecondProjection g h = (g 4, g 5, h.1.0, h.1.1.0, h.0 ∙ ap Set (h.1.1.1.0 ∙ ap (λ y. Pair y (g 5)) (h.1.1.1.1.1.1.0)))
back rule.Iteration g h = (g 4, h.1.0 ∙ ap Set (h.1.1.1.0), h.1.1.0, h.0 ∙ ap Set (h.1.1.1.0))
back rule.Application g h = h.1.0 ∙ ap Set (h.1.1.1.0)
back rule.Image g h = (g 5, g 3, h.1.0 ∙ ap Set (h.1.1.1.1.0), h.1.1.0, h.0)
back rule.Collected g h = h.0 ∙ ap Set (h.1.1.1.0)
back rule.Number g h = (h.1.0, h.0)
back rule.Subsets g h = (g 4, h.1.0, h.0 ∙ ap Set (h.1.1.1.0))
back rule.Flattened g h = (g 3, h.1.0 ∙ ap Set (h.1.1.1.1.0), h.0)
back rule.Domain g h = (g 3, g 5, h.1.0 ∙ ap Set (h.1.1.1.1.0), h.0)
back rule.Range g h = (g 5, g 3, h.1.0 ∙ ap Set (h.1.1.1.1.0), h.0)
back rule.Identity g h = (g 4, h.1.0, h.0 ∙ ap Set (h.1.1.1.0))
back rule.Closure g h = (g 4, h.1.0 ∙ ap Set (h.1.1.1.0), h.0 ∙ ap Set (h.1.1.1.0))
back rule.Converse g h = (g 6, g 5, h.1.0 ∙ ap Set (h.1.1.1.1.0), h.0 ∙ ap Set (h.1.1.1.0))
back rule.Cardinality g h = (g 3, h.1.0, h.0)
back rule.Extreme g h = (h.1.0 ∙ ap Set (h.1.1.1.0), h.0)
back rule.Sequences g h = (g 4, h.1.0, h.0 ∙ ap Set (h.1.1.1.0 ∙ ap Set (h.1.1.1.1.1.0 ∙ ap (λ y. Pair y (g 4)) (h.1.1.1.1.1.1.0))))
back rule.Length g h = (g 5, h.1.0 ∙ ap Set (h.1.1.1.0 ∙ ap (λ y. Pair y (g 5)) (h.1.1.1.1.0)), h.0)
back rule.Element g h = h.1.0 ∙ ap Set (h.1.1.1.0 ∙ ap (λ y. Pair y (g 0)) (h.1.1.1.1.0))
back rule.SameSequence g h = (g 5, h.1.0 ∙ ap Set (h.1.1.1.0 ∙ ap (λ y. Pair y (g 5)) (h.1.1.1.1.0)), h.0 ∙ ap Set (h.1.1.1.0 ∙ ap (λ y. Pair y (g 5)) (h.1.1.1.1.0)))
back rule.JoinedSequence g h = (g 6, h.1.0 ∙ ap Set (h.1.1.1.1.0 ∙ ap (λ y. Pair y (g 7)) (h.1.1.1.1.1.0) ∙ ap (Pair Int) (h.1.1.1.1.1.1.1.0 ∙ ap Set (h.1.1.1.0 ∙ ap (λ y. Pair y (g 6)) (h.1.1.1.1.1.0)))), h.0 ∙ ap Set (h.1.1.1.0 ∙ ap (λ y. Pair y (g 6)) (h.1.1.1.1.1.0)))
back rule.Predicate g h = (h.1.0, h.0)
back rule.Singleton g h = h.0
back rule.SequenceOf g h = h.0 ∙ ap Set (h.1.1.1.0 ∙ ap (λ y. Pair y (g 1)) (h.1.1.1.1.0))
back rule.Alike g h = h.1.0
back rule.SetAlike g h = (g 3, h.1.0, h.0)
back rule.EmptySet g h = (g 3, h.0)
back rule.EmptySequence g h = (g 5, h.0 ∙ ap Set (h.1.1.1.0 ∙ ap (λ y. Pair y (g 5)) (h.1.1.1.1.0)))
back rule.Integer g h = h.0
back rule.Truth g h = h.0
back rule.Text g h = h.0
back rule.Integers g h = h.0 ∙ ap Set (h.1.1.1.0)
back rule.Truths g h = h.0 ∙ ap Set (h.1.1.1.0)
back rule.Texts g h = h.0 ∙ ap Set (h.1.1.1.0)
