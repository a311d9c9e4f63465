-- The seven arrows: their tests, and what their members are in words.
use Rattle.std.proofs.Common.{◌≡◌, ◌↔◌, Bool, true, false, List, map, refl, subst, Result, Ok, Err}
use Rattle.std.specs.Prelude.{◌&&◌, IfOk}
use Rattle.ascending.specs.Ascending.{In}
use Rattle.b_values.specs.Values.{elements}
use Rattle.b_values.specs.declared.values.Value.{Value}
use Rattle.b_values.specs.declared.values.Value.TheVariants.{Set}
use Rattle.set_making.specs.Making.{set_with, Answers}
use Rattle.set_making.specs.declared.OpFault.{OpFault}
use Rattle.b_funsets.specs.declared.levels.Arrow.{Arrow}
use Rattle.b_funsets.specs.Families.{couples, sublists}
use Rattle.b_funsets.specs.Arrows.{is_function, is_one_to_one, is_total, is_onto, relations_that, partial_row, partial_inj_row, partial_surj_row, total_row, total_inj_row, total_surj_row, bijections_row, IsPartialFunction, IsPartialInjection, IsPartialSurjection, IsTotalFunction, IsTotalInjection, IsTotalSurjection, IsBijection}
use Rattle.b_funsets.specs.Levels.{is_such, IsSuch}
use Rattle.b_funsets.proofs.ArrowTests.{filter_same}

-- tests that agree give one answer
same_test : (p q : List Value → Bool) (s t : Value) (r : Result Value OpFault) → ((z : List Value) → p z ≡ q z) → Answers (relations_that p s t) r → Answers (relations_that q s t) r
same_test p q s t r f h = subst (λ (zs : List (List Value)). Answers (set_with (map Set zs)) r) (filter_same p q (sublists (couples (elements s) (elements t))) (λ z m. f z)) h

same_words : (P Q : Value → Type 0) (r : Result Value OpFault) → ((z : Value) → P z ↔ Q z) → IfOk r (λ v. (x : Value) → In x (elements v) ↔ P x) → IfOk r (λ v. (x : Value) → In x (elements v) ↔ Q x)
same_words P Q (Ok v) f h = λ x. (λ m. (f x).0 ((h x).0 m), λ q. (h x).1 ((f x).1 q))
same_words P Q (Err e) f h = h

abbrev pub arrow : Bool → Bool → Bool → Arrow
arrow total one_to_one onto = record { total = total; one_to_one = one_to_one; onto = onto }

none_asked : (f : Bool) → (f && true && true && true) ≡ f
none_asked true = refl
none_asked false = refl

first_asked : (f x : Bool) → (f && x && true && true) ≡ (f && x)
first_asked true true = refl
first_asked true false = refl
first_asked false x = refl

second_asked : (f x : Bool) → (f && true && x && true) ≡ (f && x)
second_asked true true = refl
second_asked true false = refl
second_asked false x = refl

third_asked : (f x : Bool) → (f && true && true && x) ≡ (f && x)
third_asked true x = refl
third_asked false x = refl

pub two_asked : (f x y : Bool) → (f && x && y && true) ≡ (f && x && y)
two_asked true true true = refl
two_asked true true false = refl
two_asked true false y = refl
two_asked false x y = refl

ends_asked : (f x y : Bool) → (f && x && true && y) ≡ (f && x && y)
ends_asked true true y = refl
ends_asked true false y = refl
ends_asked false x y = refl

module _ (s t : Value) (r : Result Value OpFault) where
  pub partial_answers : Answers (relations_that (is_such (arrow false false false) (elements s) (elements t)) s t) r → Answers (partial_row s t) r
  partial_answers h = same_test _ _ s t r (λ z. none_asked (is_function z)) h

  pub partial_inj_answers : Answers (relations_that (is_such (arrow false true false) (elements s) (elements t)) s t) r → Answers (partial_inj_row s t) r
  partial_inj_answers h = same_test _ _ s t r (λ z. second_asked (is_function z) (is_one_to_one z)) h

  pub partial_surj_answers : Answers (relations_that (is_such (arrow false false true) (elements s) (elements t)) s t) r → Answers (partial_surj_row s t) r
  partial_surj_answers h = same_test _ _ s t r (λ z. third_asked (is_function z) (is_onto (elements t) z)) h

  pub total_answers : Answers (relations_that (is_such (arrow true false false) (elements s) (elements t)) s t) r → Answers (total_row s t) r
  total_answers h = same_test _ _ s t r (λ z. first_asked (is_function z) (is_total (elements s) z)) h

  pub total_inj_answers : Answers (relations_that (is_such (arrow true true false) (elements s) (elements t)) s t) r → Answers (total_inj_row s t) r
  total_inj_answers h = same_test _ _ s t r (λ z. two_asked (is_function z) (is_total (elements s) z) (is_one_to_one z)) h

  pub total_surj_answers : Answers (relations_that (is_such (arrow true false true) (elements s) (elements t)) s t) r → Answers (total_surj_row s t) r
  total_surj_answers h = same_test _ _ s t r (λ z. ends_asked (is_function z) (is_total (elements s) z) (is_onto (elements t) z)) h

  pub bijections_answers : Answers (relations_that (is_such (arrow true true true) (elements s) (elements t)) s t) r → Answers (bijections_row s t) r
  bijections_answers h = h

  pub partial_members : IfOk r (λ v. (x : Value) → In x (elements v) ↔ IsSuch (arrow false false false) s t x) → IfOk r (λ v. (x : Value) → In x (elements v) ↔ IsPartialFunction s t x)
  partial_members h = same_words (IsSuch (arrow false false false) s t) (IsPartialFunction s t) r
      (λ z. (λ k. (k.relation, k.functional), λ k. record { relation = k.0; functional = k.1; total = λ o. absurd cc; one_to_one = λ o. absurd cc; onto = λ o. absurd cc })) h

  pub partial_inj_members : IfOk r (λ v. (x : Value) → In x (elements v) ↔ IsSuch (arrow false true false) s t x) → IfOk r (λ v. (x : Value) → In x (elements v) ↔ IsPartialInjection s t x)
  partial_inj_members h = same_words (IsSuch (arrow false true false) s t) (IsPartialInjection s t) r
      (λ z. (λ k. (k.relation, k.functional, k.one_to_one refl), λ k. record { relation = k.0; functional = k.1; total = λ o. absurd cc; one_to_one = λ o. k.2; onto = λ o. absurd cc })) h

  pub partial_surj_members : IfOk r (λ v. (x : Value) → In x (elements v) ↔ IsSuch (arrow false false true) s t x) → IfOk r (λ v. (x : Value) → In x (elements v) ↔ IsPartialSurjection s t x)
  partial_surj_members h = same_words (IsSuch (arrow false false true) s t) (IsPartialSurjection s t) r
      (λ z. (λ k. (k.relation, k.functional, k.onto refl), λ k. record { relation = k.0; functional = k.1; total = λ o. absurd cc; one_to_one = λ o. absurd cc; onto = λ o. k.2 })) h

  pub total_members : IfOk r (λ v. (x : Value) → In x (elements v) ↔ IsSuch (arrow true false false) s t x) → IfOk r (λ v. (x : Value) → In x (elements v) ↔ IsTotalFunction s t x)
  total_members h = same_words (IsSuch (arrow true false false) s t) (IsTotalFunction s t) r
      (λ z. (λ k. (k.relation, k.functional, k.total refl), λ k. record { relation = k.0; functional = k.1; total = λ o. k.2; one_to_one = λ o. absurd cc; onto = λ o. absurd cc })) h

  pub total_inj_members : IfOk r (λ v. (x : Value) → In x (elements v) ↔ IsSuch (arrow true true false) s t x) → IfOk r (λ v. (x : Value) → In x (elements v) ↔ IsTotalInjection s t x)
  total_inj_members h = same_words (IsSuch (arrow true true false) s t) (IsTotalInjection s t) r
      (λ z. (λ k. (k.relation, k.functional, k.total refl, k.one_to_one refl), λ k. record { relation = k.0; functional = k.1; total = λ o. k.2; one_to_one = λ o. k.3; onto = λ o. absurd cc })) h

  pub total_surj_members : IfOk r (λ v. (x : Value) → In x (elements v) ↔ IsSuch (arrow true false true) s t x) → IfOk r (λ v. (x : Value) → In x (elements v) ↔ IsTotalSurjection s t x)
  total_surj_members h = same_words (IsSuch (arrow true false true) s t) (IsTotalSurjection s t) r
      (λ z. (λ k. (k.relation, k.functional, k.total refl, k.onto refl), λ k. record { relation = k.0; functional = k.1; total = λ o. k.2; one_to_one = λ o. absurd cc; onto = λ o. k.3 })) h

  pub bijections_members : IfOk r (λ v. (x : Value) → In x (elements v) ↔ IsSuch (arrow true true true) s t x) → IfOk r (λ v. (x : Value) → In x (elements v) ↔ IsBijection s t x)
  bijections_members h = same_words (IsSuch (arrow true true true) s t) (IsBijection s t) r
      (λ z. (λ k. (k.relation, k.functional, k.total refl, k.one_to_one refl, k.onto refl), λ k. record { relation = k.0; functional = k.1; total = λ o. k.2; one_to_one = λ o. k.3; onto = λ o. k.4 })) h

-- what is asked of a total function that is one-to-one
pub injection_words : (s t z : Value) → IsSuch (arrow true true false) s t z ↔ IsTotalInjection s t z
injection_words s t z = (
  λ k. (k.relation, k.functional, k.total refl, k.one_to_one refl),
  λ k. record { relation = k.0; functional = k.1; total = λ o. k.2; one_to_one = λ o. k.3; onto = λ o. absurd cc },
)
