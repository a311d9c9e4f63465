-- Forms that stay open, tried both ways.
use Rattle.std.proofs.Common.{◌≡◌, ◌≤◌, ◌<◌, ◌+◌, ◌⊎◌, ℕ, Bool, true, false, List, [], ◌∷◌, ◌++◌, length, length-append, arith, refl, sym, ap, ◌∙◌, subst, inl, inr}
use Rattle.std.specs.Prelude.{Result, Ok, Err}
use Rattle.std.specs.List.{AllByRecursion}
use Rattle.std.specs.declared.alloc.AllocError.{AllocError}
use Rattle.b_values.specs.declared.types.Ty.{Ty}
use Rattle.b_values.specs.declared.types.Ty.TheVariants.{Int}
use Rattle.type_table.specs.declared.rows.Row.{Row}
use Rattle.type_table.specs.declared.rows.Row.TheVariants as row
use Rattle.type_table.specs.Tables.{Typing, Solves, IsTable, row_at, Reads}
use Rattle.type_table.specs.TableLaws.{reading_is}
use Rattle.type_count.specs.declared.counting.Verdict.{Verdict}
use Rattle.type_count.specs.declared.counting.Verdict.TheVariants as verdict
use Rattle.type_count.specs.Typings.{IsTyping, Agrees, ExactlyOne, MoreThanOne, Counts, never, IsReadable, AreReadable, HasNumbered}
use Rattle.type_schemes.specs.declared.rules.Rule.{Rule}
use Rattle.type_schemes.specs.declared.rules.Rule.TheVariants as rule
use Rattle.type_schemes.specs.declared.rules.Reading.{Reading}
use Rattle.type_schemes.specs.declared.rules.Reading.TheVariants as reading
use Rattle.type_schemes.specs.Rules.{Obeys, ObeysOne}
use Rattle.type_schemes.specs.Growing.{Extends}
use Rattle.type_schemes.specs.declared.forms.Form.{Form}
use Rattle.type_choices.specs.declared.choosing.Choice.{Choice}
use Rattle.type_choices.specs.declared.choosing.Choice.TheVariants as choice
use Rattle.type_choices.specs.declared.choosing.Typed.{Typed}
use Rattle.type_choices.specs.declared.choosing.Typed.TheVariants as typed
use Rattle.type_choices.specs.Forms.{Keeps, KeepsAll, Stands, IsReading, IsForm, AreForms}
use Rattle.type_choices.specs.Settling.{MayWait}
use Rattle.type_choices.specs.Passing.{Carries, HasNone, AllWait}
use Rattle.type_choices.specs.Choosing.{HasNumbers, Says, IsTyped, Finds, FindsWith, IsOnly, AreBoth, Chooses}
use Rattle.type_choices.proofs.Looking.{sets_left}
use Rattle.type_choices.proofs.Walks.{all_push, all_front, all_last, forms_more, all_agreed}

-- ---- a typing whose open parts are numbers keeps forms that wait

all_kept : (rows : List Row) (fs : List Form) (s : Typing) → Solves s rows → ((k : ℕ) → row_at rows k ≡ row.Open → s k ≡ Int) → AllWait rows fs → KeepsAll s fs
all_kept rows [] s sol opens w = tt
all_kept rows (f ∷ fs) s sol opens w = (w.0 s sol opens, all_kept rows fs s sol opens w.1)

pub found : (limit : ℕ) (old now : List Row) (forms left : List Form) → Carries old now forms left × AllWait now left → (b : Bool) → HasNumbers limit now b → Finds limit old forms (Ok b)
found limit old now forms left c true n = (n.0, c.0.back limit n.0 (record { typing = n.1; keeps = all_kept now left n.0 n.1.solves n.2 c.1 }))
found limit old now forms left c false n = λ s h. let t = c.0.forth limit s h in n t.0 t.1.typing

pub not_found : (limit : ℕ) (old : List Row) (forms : List Form) → HasNone old forms → Finds limit old forms (Ok false)
not_found limit old forms without s h = without limit s h

-- ---- with a form more

module _ (limit : ℕ) (rows : List Row) (others : List Form) (Q : Typing → Type 0) (inside : AreForms (length rows) others) where
  pub without_rule : ((limit : ℕ) (s : Typing) → IsTyping limit rows s → Q s → ⊥) → FindsWith limit rows others Q (Ok false)
  without_rule without s h q = without limit s h.typing q

  pub with_rule : (copy : List Row) (r : Result Bool AllocError) → Extends rows copy Q → Finds limit copy others r → FindsWith limit rows others Q r
  with_rule copy (Ok true) e f = let b = e.back limit f.0 f.1.typing in (f.0, record { typing = b.0; keeps = f.1.keeps }, b.1)
  with_rule copy (Ok false) e f = λ s h q.
      let t = e.forth limit s h.typing q in
      f t.0 (record { typing = t.1; keeps = all_agreed (length rows) s t.0 others t.2 inside h.keeps })
  with_rule copy (Err x) e f = tt

-- ---- which rules

pub chose_one : (limit : ℕ) (rows : List Row) (others : List Form) (f : Form) (q : Rule) → f.reading ≡ reading.One q → Chooses limit rows others f (Ok (choice.Only q))
chose_one limit rows others f q e = record {
  forth = λ s h k. subst (λ r. ObeysOne r (s f.left) (s f.right) (s f.whole)) e k;
  back = λ s k. subst (λ r. ObeysOne r (s f.left) (s f.right) (s f.whole)) (sym e) k;
}

module _ (limit : ℕ) (rows : List Row) (others : List Form) (f : Form) (count : ℕ) (form : IsForm count f) (p q : Rule) (is : f.reading ≡ reading.Either p q) where
  abbrev By : Rule → Typing → Type 0
  By x s = Obeys x (s f.left) (s f.right) (s f.whole)

  split : (s : Typing) → Keeps s f → By p s ⊎ By q s
  split s h = subst (λ r. ObeysOne r (s f.left) (s f.right) (s f.whole)) is h

  join : (s : Typing) → By p s ⊎ By q s → Keeps s f
  join s h = subst (λ r. ObeysOne r (s f.left) (s f.right) (s f.whole)) (sym is) h

  pub chose_neither : FindsWith limit rows others (By p) (Ok false) → FindsWith limit rows others (By q) (Ok false) → Chooses limit rows others f (Ok choice.Neither)
  chose_neither a b s h k = elim (split s k) [ inl g ↦ a s h g | inr g ↦ b s h g ]

  pub chose_first : FindsWith limit rows others (By q) (Ok false) → Chooses limit rows others f (Ok (choice.Only p))
  chose_first b = record { forth = λ s h k. elim (split s k) [ inl g ↦ g | inr g ↦ absurd (b s h g) ]; back = λ s g. join s (inl g) }

  pub chose_second : FindsWith limit rows others (By p) (Ok false) → Chooses limit rows others f (Ok (choice.Only q))
  chose_second a = record { forth = λ s h k. elim (split s k) [ inl g ↦ absurd (a s h g) | inr g ↦ g ]; back = λ s g. join s (inr g) }

  pub chose_both : FindsWith limit rows others (By p) (Ok true) → FindsWith limit rows others (By q) (Ok true) → Chooses limit rows others f (Ok choice.Both)
  chose_both a b =
      let readings : IsReading (reading.Either p q) = subst IsReading is form.reading in
      record {
        one = a.0;
        other = b.0;
        one_is = a.1;
        one_keeps = join a.0 (inl a.2);
        other_is = b.1;
        other_keeps = join b.0 (inr b.2);
        differ = λ e.
            let n = subst (λ x. By x a.0) readings.0 a.2 in
            sets_left q (b.0 f.left) (b.0 f.right) (b.0 f.whole) readings.1 b.2 (sym e ∙ n.0);
      }

-- ---- the table alone

pub counted_nothing : (limit parts : ℕ) (rows : List Row) → Counts parts (IsTyping limit rows) verdict.Nothing → IsTyped limit parts (IsTyping limit rows) typed.Nothing
counted_nothing limit parts rows c = c

pub counted_many : (limit parts : ℕ) (rows : List Row) → Counts parts (IsTyping limit rows) verdict.Many → IsTyped limit parts (IsTyping limit rows) typed.Many
counted_many limit parts rows c = c

pub counted_one : (limit parts : ℕ) (rows : List Row) → IsTable rows → parts ≤ length rows → Counts parts (IsTyping limit rows) verdict.One → AreReadable limit parts rows verdict.One → Says limit parts (IsTyping limit rows) rows
counted_one limit parts rows table inside c read = record {
  exactly = c;
  table = table;
  inside = inside;
  types = λ i h. let r = read i h in (r.0, r.1, r.2, λ s is. reading_is rows never s is.solves (λ k u e f. absurd cc) i r.0 r.1);
}

-- ---- the same typings, as far as the parts go

pub record Comes (parts : ℕ) (P Q : Typing → Type 0) : Type 0 where
  pub forth : (s : Typing) → P s → (t : Typing) × Q t × Agrees parts s t
  pub back : (s : Typing) → Q s → P s

one_comes : (parts : ℕ) (P Q : Typing → Type 0) → Comes parts P Q → ExactlyOne parts Q → ExactlyOne parts P
one_comes parts P Q c e = record {
  one = e.one;
  is = c.back e.one e.is;
  only = λ t p i h. let u = c.forth t p in sym (u.2 i h) ∙ e.only u.0 u.1 i h;
}

pub typed_comes : (limit parts : ℕ) (P Q : Typing → Type 0) → Comes parts P Q → (v : Typed) → IsTyped limit parts Q v → IsTyped limit parts P v
typed_comes limit parts P Q c typed.Nothing h = λ s p. let t = c.forth s p in h t.0 t.1
typed_comes limit parts P Q c (typed.One rows) h = record {
  exactly = one_comes parts P Q c h.exactly;
  table = h.table;
  inside = h.inside;
  types = λ i k. let t = h.types i k in (t.0, t.1, t.2, λ s p. let u = c.forth s p in sym (u.2 i k) ∙ t.3 u.0 u.1);
}
typed_comes limit parts P Q c typed.Many h = record {
  one = h.one;
  other = h.other;
  one_is = c.back h.one h.one_is;
  other_is = c.back h.other h.other_is;
  part = h.part;
  within = h.within;
  differ = h.differ;
}

-- ---- choices settled one by one

pub record IsChoosing (limit parts : ℕ) (old : List Row) (forms : List Form) (now : List Row) (waiting : List Form) : Type 0 where
  pub table : IsTable now
  pub inside : parts ≤ length now
  pub are_forms : AreForms parts waiting
  pub comes : Comes parts (Stands limit old forms) (Stands limit now waiting)

pub choosing_none : (limit parts : ℕ) (rows : List Row) (forms : List Form) → IsTable rows → parts ≤ length rows → AreForms parts forms → IsChoosing limit parts rows forms rows forms
choosing_none limit parts rows forms table inside are = record { table = table; inside = inside; are_forms = are; comes = record { forth = λ s h. (s, h, λ i k. refl); back = λ s h. h } }

module _ (limit parts : ℕ) (old : List Row) (forms : List Form) (now : List Row) (waiting : List Form) (g : IsChoosing limit parts old forms now waiting) where
  pub choosing_inside : AreForms (length now) waiting
  choosing_inside = forms_more parts (length now) waiting g.inside g.are_forms

  pub choosing_clash : HasNone now waiting → IsTyped limit parts (Stands limit old forms) typed.Nothing
  choosing_clash without s h = let t = g.comes.forth s h in without limit t.0 t.1

  module _ (mid : List Row) (kept : List Form) (c : Carries now mid waiting kept) where
    pub mid_inside : parts ≤ length mid
    mid_inside = let a = g.inside in let b = c.longer in omega arith

    mid_comes : Comes parts (Stands limit old forms) (Stands limit mid kept)
    mid_comes = record {
      forth = λ s h.
          let t = g.comes.forth s h in
          let u = c.forth limit t.0 t.1 in
          (u.0, u.1, λ i k. u.2 i (let a = g.inside in omega arith) ∙ t.2 i k);
      back = λ s h. g.comes.back s (c.back limit s h);
    }

    pub choosing_done : kept ≡ [] → (v : Typed) → IsTyped limit parts (IsTyping limit mid) v → IsTyped limit parts (Stands limit old forms) v
    choosing_done e v h =
        typed_comes limit parts (Stands limit old forms) (Stands limit mid kept) mid_comes v
        (typed_comes limit parts (Stands limit mid kept) (IsTyping limit mid) (record { forth = λ s k. (s, k.typing, λ i l. refl); back = λ s k. record { typing = k; keeps = subst (KeepsAll s) (sym e) tt } }) v h)

    module _ (others : List Form) (f : Form) (is : kept ≡ others ++ f ∷ []) where
      cut : AreForms parts others × IsForm parts f
      cut = let a = subst (AreForms parts) is (c.within parts g.are_forms) in (all_front (IsForm parts) others f a, all_last (IsForm parts) others f a)

      cut_more : AreForms (length mid) others × IsForm (length mid) f
      cut_more = let a = subst (AreForms (length mid)) is (forms_more parts (length mid) kept mid_inside (c.within parts g.are_forms)) in (all_front (IsForm (length mid)) others f a, all_last (IsForm (length mid)) others f a)

      pub others_inside : AreForms (length mid) others
      others_inside = cut_more.0

      pub form_inside : IsForm (length mid) f
      form_inside = cut_more.1

      both_stand : (s : Typing) → Stands limit mid kept s → Stands limit mid others s × Keeps s f
      both_stand s h = let k = subst (KeepsAll s) is h.keeps in (record { typing = h.typing; keeps = all_front (Keeps s) others f k }, all_last (Keeps s) others f k)

      together : (s : Typing) → Stands limit mid others s → Keeps s f → Stands limit mid kept s
      together s h k = record { typing = h.typing; keeps = subst (KeepsAll s) (sym is) (all_push (Keeps s) others f h.keeps k) }

      pub choosing_neither : Chooses limit mid others f (Ok choice.Neither) → IsTyped limit parts (Stands limit old forms) typed.Nothing
      choosing_neither without s h = let t = mid_comes.forth s h in let b = both_stand t.0 t.1 in without t.0 b.0 b.1

      pub choosing_both : Chooses limit mid others f (Ok choice.Both) → IsTyped limit parts (Stands limit old forms) typed.Many
      choosing_both b = record {
        one = b.one;
        other = b.other;
        one_is = mid_comes.back b.one (together b.one b.one_is b.one_keeps);
        other_is = mid_comes.back b.other (together b.other b.other_is b.other_keeps);
        part = f.left;
        within = cut.1.left;
        differ = b.differ;
      }

      module _ (q : Rule) (only : Chooses limit mid others f (Ok (choice.Only q))) where
        pub choosing_cut : ((limit : ℕ) (s : Typing) → IsTyping limit mid s → Obeys q (s f.left) (s f.right) (s f.whole) → ⊥) → IsTyped limit parts (Stands limit old forms) typed.Nothing
        choosing_cut without s h =
            let t = mid_comes.forth s h in
            let b = both_stand t.0 t.1 in
            without limit t.0 b.0.typing (only.forth t.0 b.0 b.1)

        pub choosing_only : (new : List Row) → Extends mid new (λ s. Obeys q (s f.left) (s f.right) (s f.whole)) → IsChoosing limit parts old forms new others
        choosing_only new e = record {
          table = e.table;
          inside = (let a = mid_inside in let b = e.longer in omega arith);
          are_forms = cut.0;
          comes = record {
            forth = λ s h.
                let t = mid_comes.forth s h in
                let b = both_stand t.0 t.1 in
                let u = e.forth limit t.0 b.0.typing (only.forth t.0 b.0 b.1) in (
                  u.0,
                  record { typing = u.1; keeps = all_agreed (length mid) t.0 u.0 others u.2 others_inside b.0.keeps },
                  λ i k. u.2 i (let a = mid_inside in omega arith) ∙ t.2 i k,
                );
            back = λ s h.
                let b = e.back limit s h.typing in
                mid_comes.back s (together s (record { typing = b.0; keeps = h.keeps }) (only.back s b.1));
          };
        }
