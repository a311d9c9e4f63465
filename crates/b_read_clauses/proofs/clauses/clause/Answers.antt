use Rattle.b_machine_grammar.specs.declared.words.Word.TheVariants as word
use Rattle.b_machine_grammar.specs.Grammar.{IsNames, IsWritten, IsDefinitions, IsSubst}
use Rattle.b_stretches.specs.Stretches.{pieces}
use Rattle.b_stretches.proofs.Answering.{made_on}
use Rattle.b_read_clauses.specs.Clauses.{AreSets, AreAssertions, AreOperations}
use Rattle.b_read_clauses.specs.Making as making
use Rattle.b_read_clauses.proofs.Laws.{clause_is, clause_other}
use Rattle.b_read_clauses.proofs.clauses.clause.Goals as goal

pub returns-in-Sets : goal.returns-in-Sets
returns-in-Sets c = clause_is c.args.depth c.args.word word.Sets c.args.at (pieces c.args.s) c.sets_of.result c.in-Sets.is (made_on (making.sets c.args.at) AreSets (pieces c.args.s) c.set_decls.result c.sets_of.result c.sets_of.ensures c.set_decls.ensures)

pub returns-in-Constants : goal.returns-in-Constants
returns-in-Constants c = clause_is c.args.depth c.args.word word.Constants c.args.at (pieces c.args.s) c.constants_of.result c.in-Constants.is (made_on (making.constants c.args.at) IsNames (pieces c.args.s) c.names.result c.constants_of.result c.constants_of.ensures c.names.ensures)

pub returns-in-AbstractConstants : goal.returns-in-AbstractConstants
returns-in-AbstractConstants c = clause_is c.args.depth c.args.word word.AbstractConstants c.args.at (pieces c.args.s) c.abstract_constants_of.result c.in-AbstractConstants.is (made_on (making.abstract_constants c.args.at) IsNames (pieces c.args.s) c.names-in-AbstractConstants.result c.abstract_constants_of.result c.abstract_constants_of.ensures c.names-in-AbstractConstants.ensures)

pub returns-in-Properties : goal.returns-in-Properties
returns-in-Properties c = clause_is c.args.depth c.args.word word.Properties c.args.at (pieces c.args.s) c.properties_of.result c.in-Properties.is (made_on (making.properties c.args.at) IsWritten (pieces c.args.s) c.written.result c.properties_of.result c.properties_of.ensures c.written.ensures)

pub returns-in-Variables : goal.returns-in-Variables
returns-in-Variables c = clause_is c.args.depth c.args.word word.Variables c.args.at (pieces c.args.s) c.variables_of.result c.in-Variables.is (made_on (making.variables c.args.at) IsNames (pieces c.args.s) c.names-in-Variables.result c.variables_of.result c.variables_of.ensures c.names-in-Variables.ensures)

pub returns-in-ConcreteVariables : goal.returns-in-ConcreteVariables
returns-in-ConcreteVariables c = clause_is c.args.depth c.args.word word.ConcreteVariables c.args.at (pieces c.args.s) c.concrete_variables_of.result c.in-ConcreteVariables.is (made_on (making.concrete_variables c.args.at) IsNames (pieces c.args.s) c.names-in-ConcreteVariables.result c.concrete_variables_of.result c.concrete_variables_of.ensures c.names-in-ConcreteVariables.ensures)

pub returns-in-Invariant : goal.returns-in-Invariant
returns-in-Invariant c = clause_is c.args.depth c.args.word word.Invariant c.args.at (pieces c.args.s) c.invariant_of.result c.in-Invariant.is (made_on (making.invariant c.args.at) IsWritten (pieces c.args.s) c.written-in-Invariant.result c.invariant_of.result c.invariant_of.ensures c.written-in-Invariant.ensures)

pub returns-in-Assertions : goal.returns-in-Assertions
returns-in-Assertions c = clause_is c.args.depth c.args.word word.Assertions c.args.at (pieces c.args.s) c.assertions_of.result c.in-Assertions.is (made_on (making.assertions c.args.at) AreAssertions (pieces c.args.s) c.predicates.result c.assertions_of.result c.assertions_of.ensures c.predicates.ensures)

pub returns-in-Definitions : goal.returns-in-Definitions
returns-in-Definitions c = clause_is c.args.depth c.args.word word.Definitions c.args.at (pieces c.args.s) c.definitions_of.result c.in-Definitions.is (made_on (making.definitions c.args.at) (IsDefinitions c.args.depth) (pieces c.args.s) c.definitions.result c.definitions_of.result c.definitions_of.ensures c.definitions.ensures)

pub returns-in-Initialisation : goal.returns-in-Initialisation
returns-in-Initialisation c = clause_is c.args.depth c.args.word word.Initialisation c.args.at (pieces c.args.s) c.initialisation_of.result c.in-Initialisation.is (made_on (making.initialisation c.args.at) (IsSubst c.args.depth) (pieces c.args.s) c.subst.result c.initialisation_of.result c.initialisation_of.ensures c.subst.ensures)

pub returns-in-Operations : goal.returns-in-Operations
returns-in-Operations c = clause_is c.args.depth c.args.word word.Operations c.args.at (pieces c.args.s) c.operations_of.result c.in-Operations.is (made_on (making.operations c.args.at) (AreOperations c.args.depth) (pieces c.args.s) c.operations.result c.operations_of.result c.operations_of.ensures c.operations.ensures)

pub returns-in_default : goal.returns-in_default
returns-in_default c = clause_other c.args.depth c.args.word c.args.at (pieces c.args.s) c.stuck.result c.stuck.ensures c.in_default.not-Sets c.in_default.not-Constants c.in_default.not-AbstractConstants c.in_default.not-Properties c.in_default.not-Variables c.in_default.not-ConcreteVariables c.in_default.not-Invariant c.in_default.not-Assertions c.in_default.not-Definitions c.in_default.not-Initialisation c.in_default.not-Operations
