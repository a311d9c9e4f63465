-- The clauses of a machine: its definitions, its other clauses, and the machine that they make.
use Rattle.std.specs.Prelude.{Bool, true, false, if◌then◌else◌, List, [], ◌∷◌, ◌++◌, map, fold, Some, None}
use Rattle.b_ast.specs.declared.Bound.{Bound}
use Rattle.b_ast.specs.declared.Pred.{Pred}
use Rattle.b_ast.specs.declared.Formula.{Formula}
use Rattle.b_ast.specs.declared.machine.Def.{Def}
use Rattle.b_ast.specs.declared.machine.MachineText.{MachineText}
use Rattle.b_machine_grammar.specs.declared.trees.Clause.{Clause}
use Rattle.b_machine_grammar.specs.declared.trees.Clause.TheVariants as clause
use Rattle.b_machine_grammar.specs.declared.trees.DefText.{DefText}

-- ---- the definitions and the other clauses, in text order

abbrev pub is_definitions : Clause → Bool
is_definitions (clause.Definitions at ds) = true
is_definitions c = false

abbrev pub texts_of : Clause → List DefText
texts_of (clause.Definitions at ds) = ds
texts_of c = []

abbrev pub others_of : Clause → List Clause
others_of c = if is_definitions c then [] else c ∷ []

abbrev pub definitions_in : List Clause → List DefText
definitions_in [] = []
definitions_in (c ∷ cs) = texts_of c ++ definitions_in cs

abbrev pub others_in : List Clause → List Clause
others_in [] = []
others_in (c ∷ cs) = others_of c ++ others_in cs

-- ---- the machine of its clauses

abbrev pub predicate : Formula → Pred
predicate e = record { formula = e }

-- one more clause: names, sets, assertions and operations in text order
abbrev pub with_clause : MachineText → Clause → MachineText
with_clause m (clause.Sets at ss) = record m { sets = m.sets ++ ss }
with_clause m (clause.Constants at xs) = record m { constants = m.constants ++ xs }
with_clause m (clause.AbstractConstants at xs) = record m { constants = m.constants ++ xs }
with_clause m (clause.Properties at e) = record m { properties = Some (predicate e) }
with_clause m (clause.Variables at xs) = record m { variables = m.variables ++ xs }
with_clause m (clause.ConcreteVariables at xs) = record m { variables = m.variables ++ xs }
with_clause m (clause.Invariant at e) = record m { invariant = Some (predicate e) }
with_clause m (clause.Assertions at es) = record m { assertions = m.assertions ++ map predicate es }
with_clause m (clause.Definitions at ds) = m
with_clause m (clause.Initialisation at u) = record m { initialisation = Some u }
with_clause m (clause.Operations at os) = record m { operations = m.operations ++ os }

-- without clauses
abbrev pub empty : Bound → MachineText
empty name = record { name = name; sets = []; constants = []; properties = None; variables = []; invariant = None; assertions = []; defs = record { defs = [] }; initialisation = None; operations = [] }

abbrev pub assembled : Bound → List Clause → MachineText
assembled name cs = fold with_clause (empty name) cs

abbrev pub with_table : List Def → MachineText → MachineText
with_table table m = record m { defs = record { defs = table } }
