-- What becomes of a machine's text.
use Rattle.std.specs.Prelude.{◌≡◌, ◌⊎◌, ℕ, List, map, length, Option, Some, None, Result, Ok, Err, if◌then◌else◌}
use Rattle.b_ast.specs.declared.machine.MachineText.{MachineText}
use Rattle.b_lex.specs.declared.tokens.Token.{Token}
use Rattle.b_machine_grammar.specs.Cuts.{Piece}
use Rattle.b_machine_grammar.specs.declared.trees.Clause.{Clause}
use Rattle.b_machine_grammar.specs.declared.trees.MachineTree.{MachineTree}
use Rattle.b_read_machine.specs.Rules.{kind_of, has_twice, is_missing}
use Rattle.b_read_machine.specs.Texts.{pieces_of, IsReadAs}
use Rattle.b_definitions.specs.Arranging.{HasCircle, HasNoCircle}
use Rattle.b_expand.specs.declared.faults.ParseKind.{ParseKind}
use Rattle.b_expand.specs.declared.faults.ParseKind.TheVariants.{ClauseTwice, ClauseMissing}
use Rattle.b_expand.specs.declared.faults.ParseFault.{ParseFault}
use Rattle.b_machine_defs.specs.Declaring.{all_unsorted}
use Rattle.b_clauses.specs.Clauses.{definitions_in}
use Rattle.b_machine_text.specs.Verdicts.{GivesText, Gives, circle_verdict}

-- a clause stands there twice, or else one is missing
abbrev pub clause_fault : List Clause → Option ParseKind
clause_fault cs = if has_twice (map kind_of cs) then Some ClauseTwice else if is_missing (map kind_of cs) then Some ClauseMissing else None

-- the machine of a tree: with a circle of definitions the circle, behind faults of clauses
pub record IsMachineOf (tree : MachineTree) (end : ℕ) (r : Result MachineText ParseFault) : Type 0 where
  pub text : HasNoCircle (all_unsorted (definitions_in tree.clauses)) → GivesText tree (clause_fault tree.clauses) end r
  pub circle : HasCircle (all_unsorted (definitions_in tree.clauses)) → Gives (circle_verdict (clause_fault tree.clauses)) end r

-- the text is no machine's, for a reason that comes first
abbrev pub IsUnread : List Piece → ℕ → Result MachineText ParseFault → Type 0
IsUnread ts end (Ok m) = ⊥
IsUnread ts end (Err f) = IsReadAs ts end (Err f)

-- the text is a machine's, and that one's definitions are expanded
abbrev pub IsExpanded : List Piece → ℕ → Result MachineText ParseFault → Type 0
IsExpanded ts end r = (tree : MachineTree) × IsReadAs ts end (Ok tree) × IsMachineOf tree end r

-- The answer to a machine's text and its tokens. In this order: too many open brackets, what is left out, no sentence, a
-- clause twice, a clause missing, a circle of definitions, too many brackets and nodes once definitions are expanded, the
-- machine. Wrong uses are no sentence; where there is a circle, they aren't looked for.
abbrev pub ParsesMachine : List ℕ → List Token → Result MachineText ParseFault → Type 0
ParsesMachine text tokens r = IsUnread (pieces_of text tokens) (length text) r ⊎ IsExpanded (pieces_of text tokens) (length text) r
