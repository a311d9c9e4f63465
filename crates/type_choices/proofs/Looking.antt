-- What the row at the end of a part's links says of the readings of `-` and `*`.
use Rattle.std.proofs.Common.{◌≡◌, ◌⊎◌, ℕ, List, refl, sym, ap, ◌∙◌, subst, inl, inr, Option, Some, None}
use Rattle.b_values.specs.declared.types.Ty.{Ty}
use Rattle.b_values.specs.declared.types.Ty.TheVariants.{Int, Pair, Set}
use Rattle.type_table.specs.declared.rows.Basic.{Basic}
use Rattle.type_table.specs.declared.rows.Basic.TheVariants as basic
use Rattle.type_table.specs.declared.rows.Row.{Row}
use Rattle.type_table.specs.declared.rows.Row.TheVariants as row
use Rattle.type_table.specs.Types.{basic_type}
use Rattle.type_table.specs.TypeLaws.{basic_same, basic_no_set, basic_no_pair}
use Rattle.type_table.specs.Tables.{Typing, Fits, row_at, Solves, EndsAt}
use Rattle.type_schemes.specs.declared.rules.Rule.{Rule}
use Rattle.type_schemes.specs.declared.rules.Rule.TheVariants as rule
use Rattle.type_schemes.specs.declared.rules.Reading.{Reading}
use Rattle.type_schemes.specs.declared.rules.Reading.TheVariants as reading
use Rattle.type_schemes.specs.Rules.{Obeys, ObeysOne}
use Rattle.type_schemes.specs.declared.forms.Form.{Form}
use Rattle.type_choices.specs.declared.settling.Kind.{Kind}
use Rattle.type_choices.specs.declared.settling.Kind.TheVariants as kind
use Rattle.type_choices.specs.Forms.{Keeps, IsReading, IsForm}
use Rattle.type_choices.specs.Settling.{kind_of_basic, IsOpen, Lookups, IsRule, MayWait, MustBe}

module _ (rows : List Row) (i end : ℕ) (at : EndsAt rows i end) where
  fits : (r : Row) → row_at rows end ≡ r → (s : Typing) → Solves s rows → Fits s (s end) r
  unfolding Solves
  fits r e s sol = subst (Fits s (s end)) e (sol end)

  pub looked_open : row_at rows end ≡ row.Open → Lookups rows i kind.Open
  looked_open e s sol opens = at.same s sol ∙ opens end e

  pub looked_number : row_at rows end ≡ row.Basic basic.Int → Lookups rows i kind.Number
  looked_number e s sol = at.same s sol ∙ fits (row.Basic basic.Int) e s sol

  pub looked_basic : (b : Basic) → row_at rows end ≡ row.Basic b → (b ≡ basic.Int → ⊥) → Lookups rows i kind.Other
  looked_basic b e without s sol int = without (basic_same b basic.Int (sym (fits (row.Basic b) e s sol) ∙ sym (at.same s sol) ∙ int))

  pub looked_kind : (b : Basic) → row_at rows end ≡ row.Basic b → Lookups rows i (kind_of_basic b)
  looked_kind basic.Int e = looked_number e
  looked_kind basic.Truth e = looked_basic basic.Truth e (λ f. absurd cc)
  looked_kind basic.Text e = looked_basic basic.Text e (λ f. absurd cc)
  looked_kind (basic.Elem k) e = looked_basic (basic.Elem k) e (λ f. absurd cc)

  pub looked_set : (j : ℕ) → row_at rows end ≡ row.Set j → Lookups rows i kind.Other
  looked_set j e s sol int = basic_no_set basic.Int (s j) (sym int ∙ at.same s sol ∙ fits (row.Set j) e s sol)

  pub looked_pair : (j k : ℕ) → row_at rows end ≡ row.Pair j k → Lookups rows i kind.Other
  looked_pair j k e s sol int = basic_no_pair basic.Int (s j) (s k) (sym int ∙ at.same s sol ∙ fits (row.Pair j k) e s sol)

-- ---- numbers and sets

no_number : (t : Ty) → Int ≡ Set t → ⊥
no_number t e = basic_no_set basic.Int t e

abbrev IsSets : Rule → Type 0
IsSets q = (q ≡ rule.SameSets) ⊎ (q ≡ rule.Products)

-- no part of a form of sets is a number
pub sets_left : (q : Rule) (l r t : Ty) → IsSets q → Obeys q l r t → l ≡ Int → ⊥
sets_left q l r t is h e = elim is [
  | inl f ↦ (let g = subst (λ p. Obeys p l r t) f h in no_number g.0 (sym e ∙ g.1))
  | inr f ↦ (let g = subst (λ p. Obeys p l r t) f h in no_number g.0 (sym e ∙ g.2))
]

sets_right : (q : Rule) (l r t : Ty) → IsSets q → Obeys q l r t → r ≡ Int → ⊥
sets_right q l r t is h e = elim is [
  | inl f ↦ (let g = subst (λ p. Obeys p l r t) f h in no_number g.0 (sym e ∙ g.2))
  | inr f ↦ (let g = subst (λ p. Obeys p l r t) f h in no_number g.1 (sym e ∙ g.3))
]

sets_whole : (q : Rule) (l r t : Ty) → IsSets q → Obeys q l r t → t ≡ Int → ⊥
sets_whole q l r t is h e = elim is [
  | inl f ↦ (let g = subst (λ p. Obeys p l r t) f h in no_number g.0 (sym e ∙ g.3))
  | inr f ↦ (let g = subst (λ p. Obeys p l r t) f h in no_number (Pair g.0 g.1) (sym e ∙ g.4))
]

-- ---- which rule

pub must_one : (rows : List Row) (f : Form) (q : Rule) → f.reading ≡ reading.One q → MustBe rows f (Some q)
must_one rows f q e = record {
  forth = λ s sol h. subst (λ r. ObeysOne r (s f.left) (s f.right) (s f.whole)) e h;
  back = λ s h. subst (λ r. ObeysOne r (s f.left) (s f.right) (s f.whole)) (sym e) h;
}

module _ (rows : List Row) (f : Form) (count : ℕ) (form : IsForm count f) (p q : Rule) (is : f.reading ≡ reading.Either p q) where
  both : IsReading (reading.Either p q)
  both = subst IsReading is form.reading

  split : (s : Typing) → Keeps s f → Obeys p (s f.left) (s f.right) (s f.whole) ⊎ Obeys q (s f.left) (s f.right) (s f.whole)
  split s h = subst (λ r. ObeysOne r (s f.left) (s f.right) (s f.whole)) is h

  join : (s : Typing) → Obeys p (s f.left) (s f.right) (s f.whole) ⊎ Obeys q (s f.left) (s f.right) (s f.whole) → Keeps s f
  join s h = subst (λ r. ObeysOne r (s f.left) (s f.right) (s f.whole)) (sym is) h

  numbers : (s : Typing) → Obeys p (s f.left) (s f.right) (s f.whole) → (s f.left ≡ Int) × (s f.right ≡ Int) × (s f.whole ≡ Int)
  numbers s h = subst (λ r. Obeys r (s f.left) (s f.right) (s f.whole)) both.0 h

  to_numbers : ((s : Typing) → Solves s rows → Obeys q (s f.left) (s f.right) (s f.whole) → ⊥) → MustBe rows f (Some p)
  to_numbers without = record {
    forth = λ s sol h. elim (split s h) [ inl g ↦ g | inr g ↦ absurd (without s sol g) ];
    back = λ s h. join s (inl h);
  }

  to_sets : ((s : Typing) → Solves s rows → Obeys p (s f.left) (s f.right) (s f.whole) → ⊥) → MustBe rows f (Some q)
  to_sets without = record {
    forth = λ s sol h. elim (split s h) [ inl g ↦ absurd (without s sol g) | inr g ↦ g ];
    back = λ s h. join s (inr h);
  }

  pub number_whole : Lookups rows f.whole kind.Number → MustBe rows f (Some p)
  number_whole w = to_numbers (λ s sol h. sets_whole q (s f.left) (s f.right) (s f.whole) both.1 h (w s sol))

  pub number_left : Lookups rows f.left kind.Number → MustBe rows f (Some p)
  number_left l = to_numbers (λ s sol h. sets_left q (s f.left) (s f.right) (s f.whole) both.1 h (l s sol))

  pub number_right : Lookups rows f.right kind.Number → MustBe rows f (Some p)
  number_right r = to_numbers (λ s sol h. sets_right q (s f.left) (s f.right) (s f.whole) both.1 h (r s sol))

  pub other_whole : Lookups rows f.whole kind.Other → MustBe rows f (Some q)
  other_whole w = to_sets (λ s sol h. w s sol (numbers s h).2)

  pub other_left : Lookups rows f.left kind.Other → MustBe rows f (Some q)
  other_left l = to_sets (λ s sol h. l s sol (numbers s h).0)

  pub other_right : Lookups rows f.right kind.Other → MustBe rows f (Some q)
  other_right r = to_sets (λ s sol h. r s sol (numbers s h).1)

  pub may_wait : Lookups rows f.whole kind.Open → Lookups rows f.left kind.Open → Lookups rows f.right kind.Open → MustBe rows f None
  may_wait w l r s sol opens = join s (inl (subst (λ x. Obeys x (s f.left) (s f.right) (s f.whole)) (sym both.0) (l s sol opens, r s sol opens, w s sol opens)))
