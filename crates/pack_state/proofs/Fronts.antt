-- Numbers as bytes, and at the front of bytes.
use Rattle.std.proofs.Common.{◌≡◌, ◌∙◌, ◌<◌, ◌/◌, ◌%◌, ◌^◌, ◌&&◌, ◌++◌, ℕ, zero, suc, Bool, true, List, [], ◌∷◌, get_or, length, append_assoc, ap, sym, refl, arith, Option, Some, None, if◌then◌else◌}
use Rattle.std.specs.Int.{w64, w128, cast_signed, to_be_bytes}
use Rattle.b_values.specs.ReadingDescent.{Found, with_found}
use Rattle.b_values.specs.declared.values.Value.{Value}
use Rattle.b_values.specs.declared.values.Value.TheVariants.{Int}
use Rattle.pack_state.specs.ByteLaws.{first_is, bytes_parts, lt_true}
use Rattle.pack_state.specs.Unpacking.{are_bytes, first_bytes, number_or_none, read_number, word_of}
use Rattle.pack_state.specs.Bytes.{word_bytes}

pub are_small : (xs : List ℕ) → ((i : ℕ) → get_or xs i 0 < 256) → are_bytes xs ≡ true
are_small [] h = refl
are_small (x ∷ xs) h = ap (λ (b : Bool). b && are_bytes xs) (lt_true x 256 (h zero)) ∙ are_small xs (λ i. h (suc i))

pub front_size : (n : ℕ) (bytes front rest : List ℕ) → first_bytes n bytes ≡ Some (front, rest) → length front ≡ n
front_size n bytes front rest e = (first_is n bytes (front, rest) e).size

pub number_read : (bytes front rest : List ℕ) → first_bytes 16 bytes ≡ Some (front, rest) → ((i : ℕ) → get_or bytes i 0 < 256) → read_number bytes ≡ Some (Int (cast_signed w128 (word_of front)), rest)
number_read bytes front rest e small =
    let whole : bytes ≡ front ++ rest = (first_is 16 bytes (front, rest) e).whole in
    let all : are_bytes (front ++ rest) ≡ true = ap are_bytes (sym whole) ∙ are_small bytes small in
    ap (λ (o : Found (List ℕ)). with_found o number_or_none) e
    ∙ ap (λ (b : Bool). if b then Some (Int (cast_signed w128 (word_of front)), rest) else None) (bytes_parts front rest all).0

pub halves : (start middle end : List ℕ) (n : ℕ) → middle ≡ start ++ to_be_bytes w64 (n / 2 ^ 64) → end ≡ middle ++ to_be_bytes w64 (n % 2 ^ 64) → end ≡ start ++ word_bytes n
halves start middle end n here there =
    there ∙ ap (λ (bs : List ℕ). bs ++ to_be_bytes w64 (n % 2 ^ 64)) here ∙ append_assoc start (to_be_bytes w64 (n / 2 ^ 64)) (to_be_bytes w64 (n % 2 ^ 64))
