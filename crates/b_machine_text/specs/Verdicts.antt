-- What becomes of a machine's tree.
use Rattle.std.specs.Prelude.{◌≡◌, ◌≤◌, ℕ, ◌+◌, nat_lt, Bool, true, ◌&&◌, ◌||◌, if◌then◌else◌, List, [], ◌∷◌, Option, Some, None, is_some, option_map, option_and_then, Result, Ok, Err}
use Rattle.b_ast.specs.declared.Bound.{Bound}
use Rattle.b_ast.specs.declared.machine.Def.{Def}
use Rattle.b_ast.specs.declared.machine.MachineText.{MachineText}
use Rattle.b_machine_grammar.specs.declared.trees.Clause.{Clause}
use Rattle.b_machine_grammar.specs.declared.trees.DefText.{DefText}
use Rattle.b_machine_grammar.specs.declared.trees.MachineTree.{MachineTree}
use Rattle.b_definitions.specs.declared.arranging.Disorder.{Disorder}
use Rattle.b_definitions.specs.declared.arranging.Disorder.TheVariants as disorder
use Rattle.b_expand.specs.declared.faults.ParseKind.{ParseKind}
use Rattle.b_expand.specs.declared.faults.ParseKind.TheVariants.{NotASentence, TooDeep, RecursiveDefinition, TooWide}
use Rattle.b_expand.specs.declared.faults.ParseFault.{ParseFault}
use Rattle.b_expand.specs.declared.faults.ParseFault.TheVariants.{Refused, Memory}
use Rattle.b_summaries.specs.declared.summary.Size.{Size}
use Rattle.b_summaries.specs.declared.summary.Told.{Told}
use Rattle.b_summaries.specs.Standing.{meaning_in, depth_or_none}
use Rattle.b_substitutions.specs.Standing.{use_in}
use Rattle.b_machine_text.specs.declared.judging.Refusal.{Refusal}
use Rattle.b_machine_defs.specs.Tables.{IsTable}
use Rattle.b_clauses.specs.Clauses.{definitions_in, others_in, assembled, with_table}
use Rattle.b_machine_text.specs.Machines.{expanded_clauses, size_of_clauses}

-- ---- definitions, whether somebody uses them or not

-- a use of the definition at a place can be right, as a formula or as a substitution
abbrev pub is_usable : List Def → ℕ → Bool
is_usable table i = is_some (option_and_then (λ m. m.told) (meaning_in table i)) || is_some (option_and_then (λ t. t) (use_in table i))

abbrev pub usable_from : List Def → ℕ → List Def → Bool
usable_from table i [] = true
usable_from table i (d ∷ ds) = is_usable table i && usable_from table (i + 1) ds

abbrev pub are_usable : List Def → Bool
are_usable table = usable_from table 0 table

-- ---- faults of clauses

abbrev pub kind_of_fault : Option Refusal → Option ParseKind
kind_of_fault o = option_map (λ r. r.kind) o

abbrev pub circle_or : Option ParseKind → ParseKind
circle_or None = RecursiveDefinition
circle_or (Some k) = k

abbrev pub unless_fault : Option ParseKind → Result MachineText ParseKind → Result MachineText ParseKind
unless_fault None v = v
unless_fault (Some k) v = Err k

-- ---- verdicts

-- why a size is past the limits
abbrev pub past_limits : Size → Option ParseKind
past_limits z = if nat_lt 100 (depth_or_none z.depth) then Some TooDeep else if nat_lt 1000000 z.nodes then Some TooWide else None

-- what the clauses stand for, if they stand for something
abbrev pub judged : Bound → Option ParseKind → Option (List Clause) → Result MachineText ParseKind
judged name fault None = Err NotASentence
judged name fault (Some cs) = unless_fault fault (unless_fault (past_limits (size_of_clauses cs)) (Ok (assembled name cs)))

abbrev pub tabled : List Def → Result MachineText ParseKind → Result MachineText ParseKind
tabled table (Ok m) = Ok (with_table table m)
tabled table (Err k) = Err k

-- under a table in the order of use: wrong uses, then faults of clauses, then the limits
abbrev pub verdict_by : List Def → Bound → Option ParseKind → List Clause → Result MachineText ParseKind
verdict_by table name fault cs = if are_usable table then judged name fault (expanded_clauses table cs) else Err NotASentence

-- with a circle: a fault of clauses, then the circle; uses aren't judged
abbrev pub circle_verdict : Option ParseKind → Result MachineText ParseKind
circle_verdict fault = unless_fault fault (Err RecursiveDefinition)

-- ---- answers: a refusal stands before the end of the text, and want of memory is free

abbrev pub Gives : Result MachineText ParseKind → ℕ → Result MachineText ParseFault → Type 0
Gives v end (Ok m) = v ≡ Ok m
Gives v end (Err (Refused k at)) = (v ≡ Err k) × (at ≤ end)
Gives v end (Err Memory) = Unit {0}

-- a refusal of this kind
abbrev pub IsRefusal : ParseKind → ℕ → ParseFault → Type 0
IsRefusal k end (Refused j at) = (j ≡ k) × (at ≤ end)
IsRefusal k end Memory = ⊥

-- what is told where there is no table
abbrev pub IsToldOf : Disorder → Option ParseKind → ℕ → ParseFault → Type 0
IsToldOf (disorder.Circle at) fault end f = IsRefusal (circle_or fault) end f
IsToldOf disorder.Memory fault end f = f ≡ Memory

-- this machine, unless memory ran out
abbrev pub IsText : MachineText → Result MachineText ParseFault → Type 0
IsText m (Ok n) = n ≡ m
IsText m (Err (Refused k at)) = ⊥
IsText m (Err Memory) = Unit {0}

-- the machine of what clauses stand for
abbrev pub IsBuilt : Bound → Option (List Clause) → Result MachineText ParseFault → Type 0
IsBuilt name o (Ok m) = option_map (assembled name) o ≡ Some m
IsBuilt name o (Err (Refused k at)) = ⊥
IsBuilt name o (Err Memory) = Unit {0}

-- the answer under the table that texts of definitions make
abbrev pub GivesUnder : List DefText → Bound → Option ParseKind → List Clause → ℕ → Result MachineText ParseFault → Type 0
GivesUnder texts name fault cs end (Err Memory) = Unit {0}
GivesUnder texts name fault cs end r = (table : List Def) × IsTable texts table × Gives (tabled table (verdict_by table name fault cs)) end r

-- the answer for a machine's tree under its own table
abbrev pub GivesText : MachineTree → Option ParseKind → ℕ → Result MachineText ParseFault → Type 0
GivesText tree fault end r = GivesUnder (definitions_in tree.clauses) tree.name fault (others_in tree.clauses) end r
