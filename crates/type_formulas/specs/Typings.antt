-- The typings of a formula where names with their types are known.
use Rattle.std.specs.Prelude.{◌≡◌, ◌≤◌, ◌<◌, ◌+◌, ℕ, Bool, true, false, List, [], ◌∷◌, ◌++◌, length, map, get_or, Result, Ok, Err}
use Rattle.std.specs.List.{AllByRecursion}
use Rattle.std.specs.declared.alloc.AllocError.{AllocError}
use Rattle.b_values.specs.declared.types.Ty.{Ty}
use Rattle.b_values.specs.declared.types.NameFace.{NameFace}
use Rattle.b_ast.specs.declared.Formula.{Formula}
use Rattle.type_table.specs.declared.rows.Row.{Row}
use Rattle.type_table.specs.Types.{type_nodes}
use Rattle.type_table.specs.Tables.{Typing, IsTable}
use Rattle.type_count.specs.Typings.{MoreThanOne}
use Rattle.type_schemes.specs.declared.forms.Form.{Form}
use Rattle.type_choices.specs.declared.choosing.Typed.{Typed}
use Rattle.type_choices.specs.declared.choosing.Typed.TheVariants as typed
use Rattle.type_choices.specs.Forms.{Keeps, KeepsAll}
use Rattle.type_choices.specs.Choosing.{Says}
use Rattle.type_demands.specs.declared.demands.Demand.{Demand}
use Rattle.type_demands.specs.declared.demands.Demand.TheVariants.{Keep, Unknown, Twice}
use Rattle.type_demands.specs.Scopes.{Scope, nothing_known, bind}
use Rattle.type_demands.specs.Demands.{said}
use Rattle.type_formulas.specs.declared.known.Known.{Known}
use Rattle.type_formulas.specs.declared.typing.Answer.{Answer}
use Rattle.type_formulas.specs.declared.typing.Answer.TheVariants as answer

-- a demand is met; no typing meets an unknown name or two equal names of one binder
abbrev pub Meets : Typing → Demand → Type 0
Meets s (Keep f) = Keeps s f
Meets s Unknown = ⊥
Meets s Twice = ⊥

abbrev pub MeetsAll : Typing → List Demand → Type 0
MeetsAll s = AllByRecursion (Meets s)

-- the names that are known are the first parts, and have their types
abbrev pub AreKnown : List NameFace → Typing → Type 0
AreKnown known s = (i : ℕ) (d : NameFace) → i < length known → s i ≡ (get_or known i d).ty

-- the part has the type of the name at its place
abbrev pub IsAt : List NameFace → ℕ → Typing → Type 0
IsAt known i s = (d : NameFace) → s i ≡ (get_or known i d).ty

-- the known names in the order of their parts
abbrev pub all_known : Known → List NameFace
all_known k = k.sets.now ++ k.constants.now ++ k.variables.now ++ k.params.now

-- what known names mean; of equal ones the first counts
abbrev pub known_names : List NameFace → List (List ℕ)
known_names known = map (λ k. k.name) known

abbrev pub scope_known : List NameFace → Scope
scope_known known = bind (known_names known) 0 nothing_known

abbrev pub demands_in : List NameFace → Formula → List Demand
demands_in known tree = (said tree).demands (scope_known known) (length known)

-- the formula's parts come behind the known names
abbrev pub parts_in : List NameFace → Formula → ℕ
parts_in known tree = length known + (said tree).parts

-- the part that is the whole formula
abbrev pub whole_in : List NameFace → Formula → ℕ
whole_in known tree = (said tree).whole (length known)

-- the known names have their types, the demands are met, and no type of the first parts has more nodes than the limit
pub record Meeting (limit : ℕ) (known : List NameFace) (demands : List Demand) (parts : ℕ) (s : Typing) : Type 0 where
  pub names : AreKnown known s
  pub forms : MeetsAll s demands
  pub small : (i : ℕ) → i < parts → type_nodes (s i) ≤ limit

-- a typing of a formula beside known names, within a number of nodes for each type
abbrev pub HasTyping : ℕ → List NameFace → Formula → Typing → Type 0
HasTyping limit known tree = Meeting limit known (demands_in known tree) (parts_in known tree)

-- the same of the forms alone
pub record Keeping (limit : ℕ) (known : List NameFace) (forms : List Form) (parts : ℕ) (s : Typing) : Type 0 where
  pub names : AreKnown known s
  pub keeps : KeepsAll s forms
  pub small : (i : ℕ) → i < parts → type_nodes (s i) ≤ limit

-- the forms among demands
abbrev pub forms_in : List Demand → List Form
forms_in [] = []
forms_in (Keep f ∷ ds) = f ∷ forms_in ds
forms_in (d ∷ ds) = forms_in ds

-- whether a name is unknown, and whether two names of one binder are equal
abbrev pub any_unknown : List Demand → Bool
any_unknown [] = false
any_unknown (Unknown ∷ ds) = true
any_unknown (d ∷ ds) = any_unknown ds

abbrev pub any_twice : List Demand → Bool
any_twice [] = false
any_twice (Twice ∷ ds) = true
any_twice (d ∷ ds) = any_twice ds

-- all names are known, and those of each binder differ
abbrev pub IsNamed : List Demand → Type 0
IsNamed ds = (any_unknown ds ≡ false) × (any_twice ds ≡ false)

-- the first of these that holds: a name is unknown; two names of one binder are equal; there is no typing; there is more
-- than one; there is exactly one, and a table says the type of each part, the whole's among them
abbrev pub Answers : ℕ → List NameFace → List Demand → ℕ → ℕ → Answer → Type 0
Answers limit known ds parts whole answer.UnknownName = any_unknown ds ≡ true
Answers limit known ds parts whole answer.EqualNames = (any_unknown ds ≡ false) × (any_twice ds ≡ true)
Answers limit known ds parts whole answer.NoTyping = IsNamed ds × ((s : Typing) → Meeting limit known ds parts s → ⊥)
Answers limit known ds parts whole answer.ManyTypings = IsNamed ds × MoreThanOne parts (Meeting limit known ds parts)
Answers limit known ds parts whole (answer.Typed rows at) = IsNamed ds × Says limit parts (Meeting limit known ds parts) rows.items × (at ≡ whole)

abbrev pub IsAnswer : ℕ → List NameFace → Formula → Answer → Type 0
IsAnswer limit known tree = Answers limit known (demands_in known tree) (parts_in known tree) (whole_in known tree)

-- the answer where all names are known and differ
abbrev pub answered : ℕ → Typed → Answer
answered whole typed.Nothing = answer.NoTyping
answered whole (typed.One rows) = answer.Typed rows whole
answered whole typed.Many = answer.ManyTypings

-- the table of an answer may be read, also at the part that is the whole
abbrev pub CanBeRead : Answer → Type 0
CanBeRead (answer.Typed rows whole) = IsTable rows.items × (whole < length rows.items)
CanBeRead a = Unit {0}
