-- What is told of the parts of a text, one after another.
use Rattle.std.specs.Prelude.{ℕ, ◌+◌, true, cond, List, [], ◌∷◌, ◌++◌, length, Option, Some, None, option_map, bytes_eq}
use Rattle.b_ast.specs.declared.Bound.{Bound}
use Rattle.b_ast.specs.declared.Formula.{Formula}
use Rattle.type_schemes.specs.declared.rules.Rule.TheVariants as rule
use Rattle.type_demands.specs.declared.demands.Meaning.{Meaning}
use Rattle.type_demands.specs.declared.demands.Demand.{Demand}
use Rattle.type_demands.specs.Scopes.{Scope, bind, names_of}
use Rattle.type_demands.specs.Demands.{said, obeying, named, twice, true_or_false}

-- what is demanded so far, and the number of the next part
pub record Told : Type 0 where
  pub demands : List Demand
  pub next : ℕ

abbrev pub told : List Demand → ℕ → Told
told ds n = record { demands = ds; next = n }

-- what a text adds to it, in a scope
abbrev pub Tells : Type 0
Tells = Scope → Told → Told

-- with one more demand, which has no part of its own
abbrev pub with_demand : Demand → Told → Told
with_demand d z = told (z.demands ++ d ∷ []) z.next

-- with a formula of any type; its whole is then this part
abbrev pub with_formula : Formula → Tells
with_formula e scope z = told (z.demands ++ (said e).demands scope z.next) (z.next + (said e).parts)

abbrev pub whole_after : Formula → Told → ℕ
whole_after e z = (said e).whole z.next

-- with a predicate
abbrev pub with_predicate : Formula → Tells
with_predicate p scope z = told (z.demands ++ true_or_false (said p) scope z.next) (z.next + (said p).parts)

-- with a formula of the type of the part t
abbrev pub with_alike : ℕ → Formula → Tells
with_alike t e scope z = with_demand (obeying rule.Alike (whole_after e z) (whole_after e z) t) (with_formula e scope z)

-- with formulas that are all of the type of the part t
abbrev pub with_all_alike : ℕ → List Formula → Tells
with_all_alike t [] scope z = z
with_all_alike t (e ∷ es) scope z = with_all_alike t es scope (with_alike t e scope z)

-- with formulas of the types of the parts from t on, one by one
abbrev pub with_values : ℕ → List Formula → Tells
with_values t [] scope z = z
with_values t (e ∷ es) scope z = with_values (t + 1) es scope (with_alike t e scope z)

-- with a name that is written, which has the type of what it means
abbrev pub with_target : Bound → Tells
with_target x scope z = told (z.demands ++ named (scope x.name) z.next ∷ []) (z.next + 1)

abbrev pub with_targets : List Bound → Tells
with_targets [] scope z = z
with_targets (x ∷ xs) scope z = with_targets xs scope (with_target x scope z)

-- with names that are bound: their parts come next
abbrev pub with_names : List Bound → Told → Told
with_names xs z = told (z.demands ++ twice xs) (z.next + length xs)

-- the scope of names bound there
abbrev pub inside : List Bound → Scope → Told → Scope
inside xs scope z = bind (names_of xs) z.next scope

-- a meaning whose old value may be asked
abbrev pub written : Meaning → Meaning
written m = record { part = m.part; has_old = true }

-- the scope of P in `x : (P)`, where `x$0` may stand for each x
abbrev pub with_old : List (List ℕ) → Scope → Scope
with_old [] scope x = scope x
with_old (b ∷ bs) scope x = cond (bytes_eq x b) (option_map written (scope x)) (with_old bs scope x)

-- what a map has at x once the outer meaning of b was put there
abbrev pub put_written : Option Meaning → List ℕ → List ℕ → Option Meaning → Option Meaning
put_written None b x before = before
put_written (Some m) b x before = cond (bytes_eq x b) (Some (written m)) before
