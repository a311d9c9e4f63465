-- Sets of functions, by the tests that tell which relations they are.
use Rattle.std.specs.Prelude.{◌≡◌, Bool, ◌&&◌, ◌||◌, not, List, map, filter, Result}
use Rattle.std.specs.List.{list_all, list_any}
use Rattle.ascending.specs.Ascending.{In}
use Rattle.b_values.specs.Values.{elements, same_value}
use Rattle.b_values.specs.declared.values.FaultKind.{FaultKind}
use Rattle.b_values.specs.declared.values.Value.{Value, out-Value}
use Rattle.b_values.specs.declared.values.Value.TheOpen.{Value-F}
use Rattle.b_values.specs.declared.values.Value.TheVariants.{Pair, Set}
use Rattle.set_making.specs.Making.{set_with}
use Rattle.b_funsets.specs.Families.{couples, sublists, IsRelation}

abbrev pub first_at : Value → Value-F Value → Value
first_at v (Value-F.Pair a b) = a
first_at v x = v

abbrev pub second_at : Value → Value-F Value → Value
second_at v (Value-F.Pair a b) = b
second_at v x = v

-- the first part of a couple; another value itself
abbrev pub first : Value → Value
first v = first_at v (out-Value v)

-- the second part of a couple; another value itself
abbrev pub second : Value → Value
second v = second_at v (out-Value v)

-- no two couples have one first part
abbrev pub is_function : List Value → Bool
is_function r = list_all (λ p. list_all (λ q. not (same_value (first p) (first q)) || same_value p q) r) r

-- no two couples have one second part
abbrev pub is_one_to_one : List Value → Bool
is_one_to_one r = list_all (λ p. list_all (λ q. not (same_value (second p) (second q)) || same_value p q) r) r

-- each element of s is the first part of a couple
abbrev pub is_total : List Value → List Value → Bool
is_total s r = list_all (λ x. list_any (λ p. same_value (first p) x) r) s

-- each element of t is the second part of a couple
abbrev pub is_onto : List Value → List Value → Bool
is_onto t r = list_all (λ y. list_any (λ p. same_value (second p) y) r) t

-- the set of the relations between S and T that pass the test
abbrev pub relations_that : (List Value → Bool) → Value → Value → Result Value FaultKind
relations_that test s t = set_with (map Set (filter test (sublists (couples (elements s) (elements t)))))

-- S +-> T: the functions
abbrev pub partial_row : Value → Value → Result Value FaultKind
partial_row s t = relations_that is_function s t

-- S >+> T: the functions that are one-to-one
abbrev pub partial_inj_row : Value → Value → Result Value FaultKind
partial_inj_row s t = relations_that (λ r. is_function r && is_one_to_one r) s t

-- S +->> T: the functions that are onto T
abbrev pub partial_surj_row : Value → Value → Result Value FaultKind
partial_surj_row s t = relations_that (λ r. is_function r && is_onto (elements t) r) s t

-- S --> T: the functions that are total on S
abbrev pub total_row : Value → Value → Result Value FaultKind
total_row s t = relations_that (λ r. is_function r && is_total (elements s) r) s t

-- S >-> T: the total functions that are one-to-one
abbrev pub total_inj_row : Value → Value → Result Value FaultKind
total_inj_row s t = relations_that (λ r. is_function r && is_total (elements s) r && is_one_to_one r) s t

-- S -->> T: the total functions that are onto T
abbrev pub total_surj_row : Value → Value → Result Value FaultKind
total_surj_row s t = relations_that (λ r. is_function r && is_total (elements s) r && is_onto (elements t) r) s t

-- S >->> T: the total functions that are one-to-one and onto T
abbrev pub bijections_row : Value → Value → Result Value FaultKind
bijections_row s t = relations_that (λ r. is_function r && is_total (elements s) r && is_one_to_one r && is_onto (elements t) r) s t

-- ---- in the words of membership

-- one argument has one image
pub record IsFunctional (v : Value) : Type 0 where
  pub same_image : (x y z : Value) → In (Pair x y) (elements v) → In (Pair x z) (elements v) → y ≡ z

-- one image has one argument
pub record IsOneToOne (v : Value) : Type 0 where
  pub same_argument : (x y z : Value) → In (Pair x z) (elements v) → In (Pair y z) (elements v) → x ≡ y

-- x has an image
pub record HasImage (v x : Value) : Type 0 where
  pub image : Value
  pub couple : In (Pair x image) (elements v)

-- y is an image
pub record IsImage (v y : Value) : Type 0 where
  pub argument : Value
  pub couple : In (Pair argument y) (elements v)

-- each element of S has an image
pub record IsTotal (s v : Value) : Type 0 where
  pub image_of : (x : Value) → In x (elements s) → HasImage v x

-- each element of T is an image
pub record IsOnto (t v : Value) : Type 0 where
  pub argument_of : (y : Value) → In y (elements t) → IsImage v y

abbrev pub IsPartialFunction : Value → Value → Value → Type 0
IsPartialFunction s t v = IsRelation s t v × IsFunctional v

abbrev pub IsPartialInjection : Value → Value → Value → Type 0
IsPartialInjection s t v = IsRelation s t v × IsFunctional v × IsOneToOne v

abbrev pub IsPartialSurjection : Value → Value → Value → Type 0
IsPartialSurjection s t v = IsRelation s t v × IsFunctional v × IsOnto t v

abbrev pub IsTotalFunction : Value → Value → Value → Type 0
IsTotalFunction s t v = IsRelation s t v × IsFunctional v × IsTotal s v

abbrev pub IsTotalInjection : Value → Value → Value → Type 0
IsTotalInjection s t v = IsRelation s t v × IsFunctional v × IsTotal s v × IsOneToOne v

abbrev pub IsTotalSurjection : Value → Value → Value → Type 0
IsTotalSurjection s t v = IsRelation s t v × IsFunctional v × IsTotal s v × IsOnto t v

abbrev pub IsBijection : Value → Value → Value → Type 0
IsBijection s t v = IsRelation s t v × IsFunctional v × IsTotal s v × IsOneToOne v × IsOnto t v
