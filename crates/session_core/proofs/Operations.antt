-- An operation that is found by its name is one of the machine's.
use Rattle.std.proofs.Common.{◌≡◌, ◌<◌, subst, refl, ℕ, Bool, true, false, List, [], ◌∷◌, length, Option, Some, None, if◌then◌else◌, codes}
use Rattle.std.specs.List.{position}
use Rattle.std.specs.Option.{option_map}
use Rattle.std.specs.Str.{bytes_eq}
use Rattle.std.proofs.lemmas.List.Quantifiers.{position-Some}
use Rattle.b_values.specs.declared.types.Face.{Face}
use Rattle.b_values.specs.declared.types.OpId.{OpId}
use Rattle.b_values.specs.declared.types.OpId.TheVariants as op
use Rattle.engine_face.specs.Typing.{IsOpOf}
use Rattle.animator.specs.Commands.{operation_of}

place_within : {A : Type 0} (test : A → Bool) (xs : List A) (i : ℕ) → position test xs ≡ Some i → i < length xs
place_within test [] i is = cc
place_within test (x ∷ xs) i is = (position-Some test (x ∷ xs) i x is).0

module _ (face : Face) where
  op_place : (o : Option ℕ) (which : OpId) → ((i : ℕ) → o ≡ Some i → i < length face.ops) → option_map op.Op o ≡ Some which → IsOpOf face which
  op_place None which within is = cc
  op_place (Some i) which within is = let same : op.Op i ≡ which = cc in subst (IsOpOf face) same (within i refl)

  op_by : (a b : Bool) (rest : Option OpId) (which : OpId) → (rest ≡ Some which → IsOpOf face which) → (if a then Some op.Setup else if b then Some op.Init else rest) ≡ Some which → IsOpOf face which
  op_by true b rest which there is = let same : op.Setup ≡ which = cc in subst (IsOpOf face) same tt
  op_by false true rest which there is = let same : op.Init ≡ which = cc in subst (IsOpOf face) same tt
  op_by false false rest which there is = there is

  pub named_op : (name : List ℕ) (which : OpId) → operation_of face name ≡ Some which → IsOpOf face which
  named_op name which is =
      op_by (bytes_eq name (codes "$setup_constants")) (bytes_eq name (codes "$initialise_machine")) (option_map op.Op (position (λ f. bytes_eq name f.name) face.ops)) which
      (λ e. op_place (position (λ f. bytes_eq name f.name) face.ops) which (λ i at. place_within (λ f. bytes_eq name f.name) face.ops i at) e) is
