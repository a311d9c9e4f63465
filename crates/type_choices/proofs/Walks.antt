-- Forms put into a table one by one.
use Rattle.std.proofs.Common.{◌≡◌, ◌≤◌, ◌<◌, ◌+◌, ℕ, List, [], ◌∷◌, ◌++◌, length, length-append, arith, refl, sym, ap, ◌∙◌, subst}
use Rattle.std.specs.List.{AllByRecursion}
use Rattle.type_table.specs.declared.rows.Row.{Row}
use Rattle.type_table.specs.Tables.{Typing, IsTable}
use Rattle.type_count.specs.Typings.{IsTyping, Agrees}
use Rattle.type_schemes.specs.declared.rules.Rule.{Rule}
use Rattle.type_schemes.specs.Rules.{Obeys, ObeysOne}
use Rattle.type_schemes.specs.Growing.{Extends}
use Rattle.type_schemes.specs.declared.forms.Form.{Form}
use Rattle.type_choices.specs.Forms.{Keeps, KeepsAll, Stands, IsForm, AreForms}
use Rattle.type_choices.specs.Settling.{MayWait, IsRule}
use Rattle.type_choices.specs.Passing.{Carries, HasNone, AllWait}

pub all_push : {X : Type 0} (P : X → Type 0) (xs : List X) (x : X) → AllByRecursion P xs → P x → AllByRecursion P (xs ++ x ∷ [])
all_push P [] x h k = (k, tt)
all_push P (y ∷ ys) x h k = (h.0, all_push P ys x h.1 k)

pub all_front : {X : Type 0} (P : X → Type 0) (xs : List X) (x : X) → AllByRecursion P (xs ++ x ∷ []) → AllByRecursion P xs
all_front P [] x h = tt
all_front P (y ∷ ys) x h = (h.0, all_front P ys x h.1)

pub all_last : {X : Type 0} (P : X → Type 0) (xs : List X) (x : X) → AllByRecursion P (xs ++ x ∷ []) → P x
all_last P [] x h = h.0
all_last P (y ∷ ys) x h = all_last P ys x h.1

-- ---- forms among more parts, and forms in a typing that agrees on their parts

form_more : (c d : ℕ) (f : Form) → c ≤ d → IsForm c f → IsForm d f
form_more c d f h i = record { left = (let a = i.left in omega arith); right = (let a = i.right in omega arith); whole = (let a = i.whole in omega arith); reading = i.reading }

pub forms_more : (c d : ℕ) (fs : List Form) → c ≤ d → AreForms c fs → AreForms d fs
forms_more c d [] h i = tt
forms_more c d (f ∷ fs) h i = (form_more c d f h i.0, forms_more c d fs h i.1)

pub keeps_agreed : (c : ℕ) (s t : Typing) (f : Form) → Agrees c s t → IsForm c f → Keeps s f → Keeps t f
keeps_agreed c s t f a i k =
    subst (λ x. ObeysOne f.reading x (t f.right) (t f.whole)) (sym (a f.left i.left))
    (subst (λ y. ObeysOne f.reading (s f.left) y (t f.whole)) (sym (a f.right i.right))
    (subst (λ z. ObeysOne f.reading (s f.left) (s f.right) z) (sym (a f.whole i.whole)) k))

pub all_agreed : (c : ℕ) (s t : Typing) (fs : List Form) → Agrees c s t → AreForms c fs → KeepsAll s fs → KeepsAll t fs
all_agreed c s t [] a i k = tt
all_agreed c s t (f ∷ fs) a i k = (keeps_agreed c s t f a i.0 k.0, all_agreed c s t fs a i.1 k.1)

-- ---- forms that are looked at: the table, those to be looked at, and those that wait

pub record IsPassing (old : List Row) (forms : List Form) (now : List Row) (waiting kept : List Form) : Type 0 where
  pub table : IsTable now
  pub longer : length old ≤ length now
  pub within : (count : ℕ) → AreForms count forms → AreForms count waiting × AreForms count kept
  pub fewer : length waiting + length kept ≤ length forms
  pub still : length waiting + length kept ≡ length forms → (now ≡ old) × AllWait old kept
  pub forth : (limit : ℕ) (s : Typing) → Stands limit old forms s → (t : Typing) × IsTyping limit now t × KeepsAll t waiting × KeepsAll t kept × Agrees (length old) s t
  pub back : (limit : ℕ) (s : Typing) → IsTyping limit now s → KeepsAll s waiting → KeepsAll s kept → Stands limit old forms s

pub passing_none : (old : List Row) (forms : List Form) → IsTable old → IsPassing old forms old forms []
passing_none old forms table = record {
  table = table;
  longer = omega arith;
  within = λ c h. (h, tt);
  fewer = omega arith;
  still = λ e. (refl, tt);
  forth = λ limit s h. (s, h.typing, h.keeps, tt, λ i k. refl);
  back = λ limit s h k l. record { typing = h; keeps = k };
}

module _ (old : List Row) (forms : List Form) (now : List Row) (before waiting kept : List Form) (f : Form) (inside : AreForms (length old) forms) (is : before ≡ waiting ++ f ∷ []) (g : IsPassing old forms now before kept) where
  both_within : (count : ℕ) → AreForms count forms → AreForms count waiting × IsForm count f
  both_within count h =
      let a = subst (AreForms count) is (g.within count h).0 in
      (all_front (IsForm count) waiting f a, all_last (IsForm count) waiting f a)

  pub popped_form : IsForm (length now) f
  popped_form = form_more (length old) (length now) f g.longer (both_within (length old) inside).1

  popped_waiting : AreForms (length now) waiting
  popped_waiting = forms_more (length old) (length now) waiting g.longer (both_within (length old) inside).0

  counts : length before ≡ length waiting + 1
  counts = ap length is ∙ length-append waiting (f ∷ [])

  pub passing_kept : (more : List Form) → more ≡ kept ++ f ∷ [] → MayWait now f → IsPassing old forms now waiting more
  passing_kept more e w = subst (IsPassing old forms now waiting) (sym e) (
      let c = counts in
      let d = length-append kept (f ∷ []) in
      record {
        table = g.table;
        longer = g.longer;
        within = λ count h. let a = both_within count h in (a.0, all_push (IsForm count) kept f (g.within count h).1 a.1);
        fewer = (let a = g.fewer in omega arith);
        still = λ eq.
            let b = g.still (omega arith) in
            (b.0, all_push (MayWait old) kept f b.1 (subst (λ r. MayWait r f) b.0 w));
        forth = λ limit s h.
            let t = g.forth limit s h in
            let k = subst (KeepsAll t.0) is t.2 in
            (t.0, t.1, all_front (Keeps t.0) waiting f k, all_push (Keeps t.0) kept f t.3 (all_last (Keeps t.0) waiting f k), t.4);
        back = λ limit s h k l.
            g.back limit s h (subst (KeepsAll s) (sym is) (all_push (Keeps s) waiting f k (all_last (Keeps s) kept f l))) (all_front (Keeps s) kept f l);
      }
      )

  module _ (q : Rule) (r : IsRule now f q) where
    abbrev Law : Typing → Type 0
    Law s = Obeys q (s f.left) (s f.right) (s f.whole)

    pub passing_put : (new : List Row) → Extends now new Law → IsPassing old forms new waiting kept
    passing_put new e =
        let c = counts in
        record {
          table = e.table;
          longer = (let a = g.longer in let b = e.longer in omega arith);
          within = λ count h. ((both_within count h).0, (g.within count h).1);
          fewer = (let a = g.fewer in omega arith);
          still = λ eq. (let a = g.fewer in absurd (omega arith));
          forth = λ limit s h.
              let t = g.forth limit s h in
              let k = subst (KeepsAll t.0) is t.2 in
              let u = e.forth limit t.0 t.1 (r.forth t.0 t.1.solves (all_last (Keeps t.0) waiting f k)) in (
                u.0,
                u.1,
                all_agreed (length now) t.0 u.0 waiting u.2 popped_waiting (all_front (Keeps t.0) waiting f k),
                all_agreed (length now) t.0 u.0 kept u.2 (forms_more (length old) (length now) kept g.longer (g.within (length old) inside).1) t.3,
                λ i b. u.2 i (let a = g.longer in omega arith) ∙ t.4 i b,
              );
          back = λ limit s h k l.
              let a = e.back limit s h in
              g.back limit s a.0 (subst (KeepsAll s) (sym is) (all_push (Keeps s) waiting f k (r.back s a.1))) l;
        }

    pub passing_clash : ((limit : ℕ) (s : Typing) → IsTyping limit now s → Law s → ⊥) → HasNone old forms
    passing_clash without limit s h =
        let t = g.forth limit s h in
        without limit t.0 t.1 (r.forth t.0 t.1.solves (all_last (Keeps t.0) waiting f (subst (KeepsAll t.0) is t.2)))

pub passed : (old : List Row) (forms : List Form) (now : List Row) (waiting kept : List Form) → waiting ≡ [] → IsPassing old forms now waiting kept → Carries old now forms kept × (length kept ≡ length forms → AllWait now kept)
passed old forms now waiting kept e g = (
  record {
    table = g.table;
    longer = g.longer;
    within = λ c h. (g.within c h).1;
    fewer = (let a = g.fewer in omega arith);
    forth = λ limit s h. let t = g.forth limit s h in (t.0, record { typing = t.1; keeps = t.3 }, t.4);
    back = λ limit s h. g.back limit s h.typing (subst (KeepsAll s) (sym e) tt) h.keeps;
  },
  λ n. let l = ap length e in let b = g.still (omega arith) in subst (λ r. AllWait r kept) (sym b.0) b.1,
)

-- ---- pass after pass

pub settling_none : (rows : List Row) (forms : List Form) → IsTable rows → Carries rows rows forms forms
settling_none rows forms table = record {
  table = table;
  longer = omega arith;
  within = λ c h. h;
  fewer = omega arith;
  forth = λ limit s h. (s, h, λ i k. refl);
  back = λ limit s h. h;
}

module _ (old mid : List Row) (forms waiting : List Form) (g : Carries old mid forms waiting) where
  pub settling_more : (new : List Row) (left : List Form) → Carries mid new waiting left → Carries old new forms left
  settling_more new left c = record {
    table = c.table;
    longer = (let a = g.longer in let b = c.longer in omega arith);
    within = λ n h. c.within n (g.within n h);
    fewer = (let a = g.fewer in let b = c.fewer in omega arith);
    forth = λ limit s h.
        let t = g.forth limit s h in
        let u = c.forth limit t.0 t.1 in
        (u.0, u.1, λ i b. u.2 i (let a = g.longer in omega arith) ∙ t.2 i b);
    back = λ limit s h. g.back limit s (c.back limit s h);
  }

  pub settling_clash : HasNone mid waiting → HasNone old forms
  settling_clash without limit s h = let t = g.forth limit s h in without limit t.0 t.1

  pub settling_inside : AreForms (length old) forms → AreForms (length mid) waiting
  settling_inside h = forms_more (length old) (length mid) waiting g.longer (g.within (length old) h)

  pub settled : (new : List Row) (left : List Form) → Carries mid new waiting left × (length left ≡ length waiting → AllWait new left) → length left ≡ length waiting → Carries old new forms left × AllWait new left
  settled new left c e = (settling_more new left c.0, c.1 e)
