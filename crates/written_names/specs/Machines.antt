-- Why the substitutions of a machine are refused.
use Rattle.std.specs.Prelude.{List, [], ◌∷◌, Option, Some, None}
use Rattle.b_ast.specs.declared.Place.{Place}
use Rattle.b_ast.specs.declared.Bound.{Bound}
use Rattle.b_ast.specs.declared.machine.Subst.{Subst}
use Rattle.b_ast.specs.declared.machine.Operation.{Operation}
use Rattle.b_ast.specs.declared.machine.MachineText.{MachineText}
use Rattle.written_names.specs.declared.checks.Reason.{Reason}
use Rattle.written_names.specs.declared.checks.Reason.TheVariants as reason
use Rattle.written_names.specs.declared.checks.Refusal.{Refusal}
use Rattle.written_names.specs.Names.{Which, either, named, or_else}
use Rattle.written_names.specs.Targets.{misplaced_in}
use Rattle.written_names.specs.Doubles.{writing_of}
use Rattle.written_names.specs.Times.{nothing, timing_of, left, not_set}

-- an operation may write its results and the variables
abbrev pub misplaced_by : Which → Operation → Option Place
misplaced_by variables o = misplaced_in o.body (either (named o.results) variables)

abbrev pub misplaced_by_all : Which → List Operation → Option Place
misplaced_by_all variables [] = None
misplaced_by_all variables (o ∷ os) = or_else (misplaced_by variables o) (misplaced_by_all variables os)

-- an absent INITIALISATION is skip
abbrev pub misplaced_at_start : Which → Option Subst → Option Place
misplaced_at_start variables None = None
misplaced_at_start variables (Some s) = misplaced_in s variables

abbrev pub misplaced : MachineText → Option Place
misplaced m = or_else (misplaced_at_start (named m.variables) m.initialisation) (misplaced_by_all (named m.variables) m.operations)

-- a name is written twice at once
abbrev pub double_at_start : Option Subst → Option Place
double_at_start None = None
double_at_start (Some s) = (writing_of s).double

abbrev pub double_by_all : List Operation → Option Place
double_by_all [] = None
double_by_all (o ∷ os) = or_else (writing_of o.body).double (double_by_all os)

abbrev pub doubled : MachineText → Option Place
doubled m = or_else (double_at_start m.initialisation) (double_by_all m.operations)

-- INITIALISATION has to write the variables, and an operation its results
abbrev pub unset_at_start : List Bound → Option Subst → Option Place
unset_at_start variables None = left variables nothing.surely
unset_at_start variables (Some s) = not_set variables (timing_of s)

abbrev pub unset_by_all : List Operation → Option Place
unset_by_all [] = None
unset_by_all (o ∷ os) = or_else (not_set o.results (timing_of o.body)) (unset_by_all os)

abbrev pub unset_in : MachineText → Option Place
unset_in m = or_else (unset_at_start m.variables m.initialisation) (unset_by_all m.operations)

-- the first of the three reasons that there is
abbrev pub for_reason : Reason → Option Place → Option Refusal
for_reason r None = None
for_reason r (Some at) = Some (record { reason = r; at = at })

abbrev pub or_then : Option Refusal → Option Refusal → Option Refusal
or_then (Some r) o = Some r
or_then None o = o

abbrev pub refusal : MachineText → Option Refusal
refusal m = or_then (for_reason reason.NotWritable (misplaced m)) (or_then (for_reason reason.WrittenTwice (doubled m)) (for_reason reason.NotSet (unset_in m)))
