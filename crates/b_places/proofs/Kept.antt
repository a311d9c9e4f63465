-- The values of ranges may be kept.
use Rattle.std.proofs.Common.{◌≡◌, ℤ, map, List, [], ◌∷◌, arith, sym, subst}
use Rattle.std.specs.List.{AllByRecursion}
use Rattle.b_values.specs.SizeLaws.{count-Int}
use Rattle.b_values.specs.ValueLaws.{is_int}
use Rattle.b_values.specs.Values.{IsKept, elements}
use Rattle.b_values.specs.declared.values.Value.{Value}
use Rattle.b_values.specs.declared.values.Value.TheVariants.{Int}
use Rattle.set_making.specs.MakingLaws.{members_kept}

kept_int : (n : ℤ) → IsKept (Int n)
kept_int n = record { value = is_int n; size = omega (arith, count-Int n) }

pub kept_numbers : (ns : List ℤ) (vs : List Value) → vs ≡ map Int ns → AllByRecursion IsKept vs
kept_numbers ns vs e = subst (λ (xs : List Value). AllByRecursion IsKept xs) (sym e) (go ns)
  where
    go : (ns : List ℤ) → AllByRecursion IsKept (map Int ns)
    go [] = tt
    go (n ∷ ns) = (kept_int n, go ns)

pub kept_members : (v : Value) (vs : List Value) → vs ≡ elements v → IsKept v → AllByRecursion IsKept vs
kept_members v vs e k = subst (λ (xs : List Value). AllByRecursion IsKept xs) (sym e) (members_kept v k)
