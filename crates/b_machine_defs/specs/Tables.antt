-- The table of definitions that texts make.
use Rattle.std.specs.Prelude.{◌≡◌, List, Result, Ok, Err}
use Rattle.b_ast.specs.declared.machine.Def.{Def}
use Rattle.b_ast.specs.declared.machine.DefTable.{DefTable}
use Rattle.b_definitions.specs.Arranging.{IsArranged, IsInCircle, HasNoCircle}
use Rattle.b_definitions.specs.declared.arranging.Disorder.{Disorder}
use Rattle.b_definitions.specs.declared.arranging.Disorder.TheVariants.{Circle, Memory}
use Rattle.b_machine_grammar.specs.declared.trees.DefText.{DefText}
use Rattle.b_machine_defs.specs.Declaring.{all_unsorted, declared}

-- the definitions as what they are, unless memory ran out
abbrev pub Declares : List Def → Result DefTable Disorder → Type 0
Declares ds (Ok t) = t.defs ≡ declared ds
Declares ds (Err (Circle at)) = ⊥
Declares ds (Err Memory) = Unit {0}

-- the definitions in the order of use, each body as what it is
abbrev pub IsTableOf : List Def → List Def → Type 0
IsTableOf ds table = (arranged : List Def) × IsArranged ds arranged × (table ≡ declared arranged)

-- the table where there is no circle, or a definition in a circle
abbrev pub Arranged : List Def → Result DefTable Disorder → Type 0
Arranged ds (Ok t) = IsTableOf ds t.defs × HasNoCircle ds
Arranged ds (Err (Circle at)) = IsInCircle ds at
Arranged ds (Err Memory) = Unit {0}

-- the table of the definitions of a text
abbrev pub IsTable : List DefText → List Def → Type 0
IsTable texts table = IsTableOf (all_unsorted texts) table

abbrev pub MakesTable : List DefText → Result DefTable Disorder → Type 0
MakesTable texts result = Arranged (all_unsorted texts) result
