-- What the calls answer, in the words of the bytes of states.
use Rattle.std.proofs.Common.{◌≡◌, ◌^◌, ◌&&◌, ℕ, Bool, true, false, List, length, nat_lt, refl, subst, Result, Ok, Err}
use Rattle.std.proofs.lemmas.Str.{IsUtf8-from_is_utf8, is_utf8-from_IsUtf8}
use Rattle.std.specs.Str.{is_utf8}
use Rattle.b_values.specs.ReadingDescent.{is_text}
use Rattle.std.specs.Prelude.{IfOk, IsUtf8}
use Rattle.std.specs.List.{AllByRecursion}
use Rattle.b_values.specs.Types.{FitsFace}
use Rattle.b_values.specs.Values.{IsKept}
use Rattle.engine_face.specs.Typing.{values_in}
use Rattle.pack_state.specs.PackableLaws.{state_fits}
use Rattle.b_values.specs.declared.types.Face.{Face}
use Rattle.b_values.specs.declared.values.State.{State}
use Rattle.pack_state.specs.Answers.{Gives}
use Rattle.pack_state.specs.Spelled.{IsUnpacked}
use Rattle.pack_state.specs.UnpackLaws.{unpacks, no_state}
use Rattle.pack_state.specs.Unpacking.{unpack_of}
use Rattle.pack_state.specs.declared.fault.PackFault.{PackFault}
use Rattle.pack_state.specs.declared.fault.PackFault.TheVariants as fault

is_unpacked : (face : Face) (bytes : List ℕ) (r : Result State PackFault) → Gives (λ s. s) r (unpack_of face bytes) → IsUnpacked face bytes r
is_unpacked face bytes (Ok s) h = unpacks face bytes s h
is_unpacked face bytes (Err fault.NoSuchState) h = no_state face bytes h
is_unpacked face bytes (Err fault.Memory) h = tt

pub of_packed : (face : Face) (p bytes : List ℕ) (r : Result State PackFault) → bytes ≡ p → Gives (λ s. s) r (unpack_of face bytes) → IsUnpacked face p r
of_packed face p bytes r same h = subst (λ (bs : List ℕ). IsUnpacked face bs r) same (is_unpacked face bytes r h)

pub is_packable : (face : Face) (bytes : List ℕ) (r : Result State PackFault) → IsUnpacked face bytes r → IfOk r (λ s. FitsFace face s × AllByRecursion IsKept (values_in s))
is_packable face bytes (Ok s) h = state_fits face s h.fits
is_packable face bytes (Err e) h = tt

pub text_true : (bytes : List ℕ) → IsUtf8 bytes → nat_lt (length bytes) 4294967296 ≡ is_text bytes
text_true bytes u = rw (is_utf8-from_IsUtf8 bytes u) refl

pub text_false : (bytes : List ℕ) → (IsUtf8 bytes → ⊥) → false ≡ is_text bytes
text_false bytes n = go (is_utf8 bytes) refl
  where
    go : (b : Bool) → is_utf8 bytes ≡ b → false ≡ (b && nat_lt (length bytes) (2 ^ 32))
    go true e = absurd (n (IsUtf8-from_is_utf8 bytes e))
    go false e = refl
