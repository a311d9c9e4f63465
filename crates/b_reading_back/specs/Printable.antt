-- The trees that the grammar has for some text, with definitions expanded.
use Rattle.std.specs.Prelude.{◌≡◌, ◌≢◌, ℕ, ◌<◌, ◌≤◌, ◌^◌, ◌-◌, true, false, List, [], ◌∷◌, length, map}
use Rattle.std.specs.List.{AllByRecursion}
use Rattle.b_ast.specs.declared.Bound.{Bound}
use Rattle.b_ast.specs.declared.Operator.{Operator}
use Rattle.b_ast.specs.declared.Operator.TheVariants.{Comma}
use Rattle.b_ast.specs.declared.Formula.{Formula, every-Formula}
use Rattle.b_ast.specs.declared.Link.{Link, out-Link, every-Link}
use Rattle.b_ast.specs.declared.After.{After, every-After}
use Rattle.b_ast.specs.declared.After.TheOpen.{Formula-F}
use Rattle.b_lex.specs.Tables.{is_reserved}
use Rattle.b_lex.specs.Spelling.{is_identifier}
use Rattle.b_lex.specs.Strings.{IsBody}
use Rattle.b_grammar.specs.Grammar.{priority, may_chain, arity}

-- a name isn't a reserved word
abbrev pub IsName : List ℕ → Type 0
IsName x = (is_identifier x ≡ true) × (is_reserved x ≡ false)

-- what some string between quotes stands for
pub record IsStringValue (s : List ℕ) : Type 0 where
  pub body : List ℕ
  pub stands : IsBody body s
  pub fits : length s < 2 ^ 32

-- a binder has a name
abbrev pub AreNames : List Bound → Type 0
AreNames bs = (bs ≢ []) × AllByRecursion (λ b. IsName b.name) bs

abbrev pub operators : List Link → List Operator
operators ls = map (λ l. (out-Link l).operator) ls

-- operators of one priority, none of them a comma; a comparison stands alone
abbrev pub MayChain : List Operator → Type 0
MayChain [] = ⊥
MayChain (o ∷ os) = (o ≢ Comma) × AllByRecursion (λ q. priority q ≡ priority o) os × (may_chain (priority o) (o ∷ os) ≡ true)

abbrev pub LayerIsPrintable : Formula-F After Formula Link → Type 0
LayerIsPrintable (Formula-F.Number at n) = n ≤ 2 ^ 127 - 1
LayerIsPrintable (Formula-F.Text at s) = IsStringValue s
LayerIsPrintable (Formula-F.Name at x) = IsName x
LayerIsPrintable (Formula-F.Old at x) = IsName x
LayerIsPrintable (Formula-F.Constant at c) = Unit {0}
LayerIsPrintable (Formula-F.Negative at e) = Unit {0}
LayerIsPrintable (Formula-F.Chain e ls) = MayChain (operators ls)
LayerIsPrintable (Formula-F.Row e fs) = fs ≢ []
LayerIsPrintable (Formula-F.Call at f us) = length us ≡ arity f
LayerIsPrintable (Formula-F.Set at us) = Unit {0}
LayerIsPrintable (Formula-F.Sequence at us) = Unit {0}
LayerIsPrintable (Formula-F.Comprehension at ns p) = AreNames ns
LayerIsPrintable (Formula-F.Quantified at q ns p) = AreNames ns
LayerIsPrintable (Formula-F.Collected at c ns p e) = AreNames ns
LayerIsPrintable (Formula-F.If at p e f) = Unit {0}

abbrev pub Anything : {A : Type 0} → A → Type 0
Anything x = Unit {0}

-- the tree's canonical text stands for a tree
abbrev pub IsPrintable : Formula → Type 0
IsPrintable = every-Formula Anything LayerIsPrintable Anything

abbrev pub IsPrintableLink : Link → Type 0
IsPrintableLink = every-Link Anything LayerIsPrintable Anything

abbrev pub IsPrintableAfter : After → Type 0
IsPrintableAfter = every-After Anything LayerIsPrintable Anything
