-- The steps of the loops over rows, where one of them refuses.
use Rattle.std.proofs.Common.{◌≡◌, ℕ, zero, suc, ◌+◌, ◌<◌, ◌≤◌, List, [], ◌∷◌, ◌++◌, map, length, get_or, take, drop, drop-cons, arith, sym, ap, ap₂, ◌∙◌, subst, Err}
use Rattle.std.specs.Prelude.{reverse, nat_lt}
use Rattle.std.specs.List.{flat_map}
use Rattle.std.proofs.lemmas.List.{reverse-append}
use Rattle.b_values.specs.declared.values.FaultKind.TheVariants.{IllDefined, Overflow, TooLarge}
use Rattle.b_values.specs.declared.values.Value.{Value}
use Rattle.b_values.specs.declared.values.Value.TheVariants.{Pair}
use Rattle.set_making.specs.Sums.{map_cons_sum, map_append_sum}
use Rattle.set_making.specs.declared.OpFault.{OpFault}
use Rattle.set_making.specs.declared.OpFault.TheVariants.{Fault, Memory}
use Rattle.b_funsets.specs.declared.levels.Arrow.{Arrow}
use Rattle.b_funsets.specs.declared.levels.Row.{Row}
use Rattle.b_funsets.specs.Levels.{children, level, weight, Gives, GrowsLarge, Spends}

-- what a part refuses, the whole refuses
pub spends_err : (e : OpFault) (part rest whole budget spent : ℕ) → spent + rest ≡ budget → spent + part ≤ whole → Spends part rest (Err e) → Spends whole budget (Err e)
spends_err (Fault IllDefined) part rest whole budget spent e l h = h
spends_err (Fault Overflow) part rest whole budget spent e l h = h
spends_err (Fault TooLarge) part rest whole budget spent e l h = omega arith
spends_err Memory part rest whole budget spent e l h = tt

pub gives_err : (e : OpFault) (rows : List Row) (part rest whole spent : ℕ) → spent + rest ≡ 999999 → spent + part ≤ whole → Spends part rest (Err e) → Gives rows (999999 < whole) (Err e)
gives_err (Fault IllDefined) rows part rest whole spent e l h = h
gives_err (Fault Overflow) rows part rest whole spent e l h = h
gives_err (Fault TooLarge) rows part rest whole spent e l h = omega arith
gives_err Memory rows part rest whole spent e l h = tt

pub gives_later : (e : OpFault) (rows more : List Row) (Large Later : Type 0) → (Large → Later) → Gives rows Large (Err e) → Gives more Later (Err e)
gives_later (Fault IllDefined) rows more Large Later f h = h
gives_later (Fault Overflow) rows more Large Later f h = h
gives_later (Fault TooLarge) rows more Large Later f h = f h
gives_later Memory rows more Large Later f h = tt

-- the rows up to one and that one weigh no more than all
pub weight_at : (f : Value → Row) (ps : List Value) (i : ℕ) (c : Value) → i < length ps → c ≡ get_or ps i c → weight (map f (take i ps)) + (f c).nodes ≤ weight (map f ps)
weight_at f [] i c l e = absurd (omega arith)
weight_at f (p ∷ ps) zero c l e = let same = ap (λ (x : Value). (f x).nodes) e in omega (arith, map_cons_sum (λ (row : Row). row.nodes) (f p) (map f ps))
weight_at f (p ∷ ps) (suc i) c l e =
    omega (arith, weight_at f ps i c (omega arith) e, map_cons_sum (λ (row : Row). row.nodes) (f p) (map f ps), map_cons_sum (λ (row : Row). row.nodes) (f p) (map f (take i ps)))

-- the last row comes first in what is left to do
pub last_first : (g : Row → List Row) (rows rest : List Row) (row : Row) → rows ≡ rest ++ row ∷ [] → flat_map g (reverse rows) ≡ g row ++ flat_map g (reverse rest)
last_first g rows rest row e = ap (λ (rs : List Row). flat_map g (reverse rs)) e ∙ ap (flat_map g) (reverse-append rest (row ∷ []))

pub weight_next : (g : Row → List Row) (rows rest done all : List Row) (row : Row) → rows ≡ rest ++ row ∷ [] → done ++ flat_map g (reverse rows) ≡ all → weight done + weight (g row) ≤ weight all
weight_next g rows rest done all row e h =
    let split : weight all ≡ weight (done ++ (g row ++ flat_map g (reverse rest))) = ap weight (sym h) ∙ ap (λ zs. weight (done ++ zs)) (last_first g rows rest row e) in
    omega (arith, split, map_append_sum (λ (r : Row). r.nodes) done (g row ++ flat_map g (reverse rest)), map_append_sum (λ (r : Row). r.nodes) (g row) (flat_map g (reverse rest)))

-- a level that is too large
pub level_large : (a : Arrow) (s t : List Value) (k i : ℕ) (x : Value) (rows : List Row) → k + 1 ≡ i → i ≤ length s → x ≡ get_or s k x → rows ≡ level a t i (drop i s)
    → 999999 < weight (flat_map (children a k (nat_lt 0 (length t)) (map (λ y. Pair x y) t)) (reverse rows)) → GrowsLarge a t s
level_large a s t k i x rows j l e built h =
    let next : suc k ≡ i = omega arith in
    let same : k + 1 ≡ suc k = omega arith in
    let rest : drop k s ≡ x ∷ drop (suc k) s = drop-cons s k x (omega arith) ∙ ap (λ y. y ∷ drop (suc k) s) (sym e) in
    let was : rows ≡ level a t (k + 1) (drop (suc k) s) = built ∙ ap₂ (λ m n. level a t m (drop n s)) (sym j) (sym next) in
    (k, omega arith, subst (λ (ws : List Value). 999999 < weight (level a t k ws)) (sym rest) (subst (λ (rs : List Row). 999999 < weight (flat_map (children a k (nat_lt 0 (length t)) (map (λ y. Pair x y) t)) (reverse rs))) was h))

pub refused_here : (e : OpFault) (a : Arrow) (s t : List Value) (k i : ℕ) (x : Value) (rows : List Row) → k + 1 ≡ i → i ≤ length s → x ≡ get_or s k x → rows ≡ level a t i (drop i s)
    → Gives (flat_map (children a k (nat_lt 0 (length t)) (map (λ y. Pair x y) t)) (reverse rows)) (999999 < weight (flat_map (children a k (nat_lt 0 (length t)) (map (λ y. Pair x y) t)) (reverse rows))) (Err e)
    → Gives (level a t 0 s) (GrowsLarge a t s) (Err e)
refused_here e a s t k i x rows j l f built h =
    let next = flat_map (children a k (nat_lt 0 (length t)) (map (λ y. Pair x y) t)) (reverse rows) in
    gives_later e next (level a t 0 s) (999999 < weight next) (GrowsLarge a t s) (level_large a s t k i x rows j l f built) h
