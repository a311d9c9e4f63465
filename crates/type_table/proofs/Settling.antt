-- Lists of equations.
use Rattle.std.proofs.Common.{◌≡◌, ◌<◌, ◌+◌, ◌*◌, ℕ, Bool, true, false, List, [], ◌∷◌, ◌++◌, length, length-append, arith, refl, sym, ap, ◌∙◌, subst}
use Rattle.std.specs.Prelude.{Result, Ok, Err}
use Rattle.std.specs.List.{AllByRecursion}
use Rattle.std.specs.declared.alloc.AllocError.{AllocError}
use Rattle.type_table.specs.declared.rows.Row.{Row}
use Rattle.type_table.specs.declared.unifying.Step.{Step}
use Rattle.type_table.specs.declared.unifying.Step.TheVariants as step
use Rattle.type_table.specs.Tables.{Typing, Solves, IsTable}
use Rattle.type_table.specs.Unifying.{classes, Agree, Fewer, Merges, AllAlike, AreInside, Deferred, Defers, left_count, Adds, Settles, Unifies}

pub all_push : {X : Type 0} (P : X → Type 0) (xs : List X) (x : X) → AllByRecursion P xs → P x → AllByRecursion P (xs ++ x ∷ [])
all_push P [] x h k = (k, tt)
all_push P (y ∷ ys) x h k = (h.0, all_push P ys x h.1 k)

pub all_front : {X : Type 0} (P : X → Type 0) (xs : List X) (x : X) → AllByRecursion P (xs ++ x ∷ []) → AllByRecursion P xs
all_front P [] x h = tt
all_front P (y ∷ ys) x h = (h.0, all_front P ys x h.1)

pub all_last : {X : Type 0} (P : X → Type 0) (xs : List X) (x : X) → AllByRecursion P (xs ++ x ∷ []) → P x
all_last P [] x h = h.0
all_last P (y ∷ ys) x h = all_last P ys x h.1

abbrev Inside : ℕ → ℕ × ℕ → Type 0
Inside count e = (e.0 < count) × (e.1 < count)

abbrev Alike : Typing → ℕ × ℕ → Type 0
Alike s e = s e.0 ≡ s e.1

pub defers_none : (old : List (ℕ × ℕ)) → Defers old old step.Done (Ok true)
defers_none old = (record { inside = λ c h k. h; forth = λ s f g. f; back = λ s f. (f, tt) }, omega arith)

pub defers_one : (old new : List (ℕ × ℕ)) (p q : ℕ) → new ≡ old ++ (p, q) ∷ [] → Defers old new (step.One p q) (Ok true)
defers_one old new p q e = subst (λ l. Defers old l (step.One p q) (Ok true)) (sym e) (
  record {
    inside = λ c h k. all_push (Inside c) old (p, q) h k;
    forth = λ s f g. all_push (Alike s) old (p, q) f g;
    back = λ s f. (all_front (Alike s) old (p, q) f, all_last (Alike s) old (p, q) f);
  },
  length-append old ((p, q) ∷ []),
)

pub defers_two : (old mid new : List (ℕ × ℕ)) (p q r t : ℕ) → mid ≡ old ++ (r, t) ∷ [] → new ≡ mid ++ (p, q) ∷ [] → Defers old new (step.Two p q r t) (Ok true)
defers_two old mid new p q r t e f = subst (λ l. Defers old l (step.Two p q r t) (Ok true)) (sym f) (subst (λ m. Defers old (m ++ (p, q) ∷ []) (step.Two p q r t) (Ok true)) (sym e) (
  record {
    inside = λ c h k. all_push (Inside c) (old ++ (r, t) ∷ []) (p, q) (all_push (Inside c) old (r, t) h (k.2, k.3)) (k.0, k.1);
    forth = λ s f g. all_push (Alike s) (old ++ (r, t) ∷ []) (p, q) (all_push (Alike s) old (r, t) f g.1) g.0;
    back = λ s f.
        let g = all_front (Alike s) (old ++ (r, t) ∷ []) (p, q) f in
        (all_front (Alike s) old (r, t) g, (all_last (Alike s) (old ++ (r, t) ∷ []) (p, q) f, all_last (Alike s) old (r, t) g));
  },
  (let a = length-append (old ++ (r, t) ∷ []) ((p, q) ∷ []) in let b = length-append old ((r, t) ∷ []) in omega arith),
))

-- ---- equations being settled: the table and what is left say what the first table and the first equations said

pub record Settling (old : List Row) (first : List (ℕ × ℕ)) (now : List Row) (left : List (ℕ × ℕ)) : Type 0 where
  pub table : IsTable now
  pub count : length now ≡ length old
  pub inside : AreInside (length now) left
  pub forth : (s : Typing) → Solves s old → AllAlike s first → Solves s now × AllAlike s left
  pub back : (s : Typing) → Solves s now → AllAlike s left → Solves s old × AllAlike s first

pub settling_none : (old : List Row) (first : List (ℕ × ℕ)) → IsTable old → AreInside (length old) first → Settling old first old first
settling_none old first t i = record { table = t; count = refl; inside = i; forth = λ s f g. (f, g); back = λ s f g. (f, g) }

module _ (old : List Row) (first : List (ℕ × ℕ)) (now : List Row) (before left : List (ℕ × ℕ)) (p q : ℕ) (is : before ≡ left ++ (p, q) ∷ []) (g : Settling old first now before) where
  last_inside : (p < length now) × (q < length now)
  last_inside = all_last (Inside (length now)) left (p, q) (subst (AreInside (length now)) is g.inside)

  pub first_inside : p < length now
  first_inside = last_inside.0

  pub second_inside : q < length now
  second_inside = last_inside.1

  module _ (new : List Row) (one : Step) (m : Merges now new p q one) where
    pub settling_more : (rest : List (ℕ × ℕ)) → Deferred left rest one → Settling old first new rest
    settling_more rest d = record {
      table = m.table;
      count = m.count ∙ g.count;
      inside = d.inside (length new) (subst (λ n. AreInside n left) (sym m.count) (all_front (Inside (length now)) left (p, q) (subst (AreInside (length now)) is g.inside))) m.inside;
      forth = λ s f h.
          let a = g.forth s f h in
          let b = subst (AllAlike s) is a.1 in
          let c = m.forth s a.0 (all_last (Alike s) left (p, q) b) in
          (c.0, d.forth s (all_front (Alike s) left (p, q) b) c.1);
      back = λ s f h.
          let a = d.back s h in
          let b = m.back s f a.1 in
          g.back s b.0 (subst (AllAlike s) (sym is) (all_push (Alike s) left (p, q) a.0 b.1));
    }

    pub settling_clash : one ≡ step.Clash → Adds old new (λ s. AllAlike s first) false
    settling_clash e = record {
      table = m.table;
      count = m.count ∙ g.count;
      forth = λ s f h.
          let a = g.forth s f h in
          absurd (subst (Agree s) e (m.forth s a.0 (all_last (Alike s) left (p, q) (subst (AllAlike s) is a.1))).1);
      back = λ s t f. absurd cc;
    }

    pub settling_no_memory : IsTable new × (length new ≡ length old)
    settling_no_memory = (m.table, m.count ∙ g.count)

fewer_less : (old new : List Row) (left : Step) (n : ℕ) → Fewer old new left → 2 * classes new + (n + left_count left) < 2 * classes old + (n + 1)
fewer_less old new step.Done n f = omega arith
fewer_less old new (step.One p q) n f = omega arith
fewer_less old new (step.Two p q r t) n f = omega arith
fewer_less old new step.Clash n f = omega arith

pub settling_less : (old new : List Row) (before left rest : List (ℕ × ℕ)) (p q : ℕ) (one : Step) → before ≡ left ++ (p, q) ∷ [] → Fewer old new one → length rest ≡ length left + left_count one → 2 * classes new + length rest < 2 * classes old + length before
settling_less old new before left rest p q one e f g =
    let a = fewer_less old new one (length left) f in
    let b = ap length e ∙ length-append left ((p, q) ∷ []) in
    omega arith

pub settled : (old : List Row) (first : List (ℕ × ℕ)) (now : List Row) (left : List (ℕ × ℕ)) → Settling old first now left → left ≡ [] → Adds old now (λ s. AllAlike s first) true
settled old first now left g e = record {
  table = g.table;
  count = g.count;
  forth = λ s f h. ((g.forth s f h).0, refl);
  back = λ s t f. g.back s f (subst (AllAlike s) (sym e) tt);
}

-- ---- one equation, and then what is left of it

module _ (old mid : List Row) (a b : ℕ) (left : Step) (m : Merges old mid a b left) where
  pub unify_clash : left ≡ step.Clash → Adds old mid (λ s. s a ≡ s b) false
  unify_clash e = record { table = m.table; count = m.count; forth = λ s f g. absurd (subst (Agree s) e (m.forth s f g).1); back = λ s t f. absurd cc }

  module _ (equations : List (ℕ × ℕ)) (d : Deferred [] equations left) where
    pub unify_inside : AreInside (length mid) equations
    unify_inside = d.inside (length mid) tt m.inside

    unify_found : (new : List Row) (found : Bool) → Adds mid new (λ s. AllAlike s equations) found → Adds old new (λ s. s a ≡ s b) found
    unify_found new found u = record {
      table = u.table;
      count = u.count ∙ m.count;
      forth = λ s f g. let h = m.forth s f g in u.forth s h.0 (d.forth s tt h.1);
      back = λ s t f. let h = u.back s t f in m.back s h.0 (d.back s h.1).1;
    }

    pub unified : (new : List Row) (r : Result Bool AllocError) → Settles mid new (λ s. AllAlike s equations) r → Unifies old new a b r
    unified new (Ok found) u = unify_found new found u
    unified new (Err e) u = (u.0, u.1 ∙ m.count)
