-- Parts of machines. Only private functions' clauses cite this.
use Rattle.std.specs.Prelude.{ℕ, List}
use Rattle.b_machine_grammar.specs.declared.words.Separator.TheVariants as at
use Rattle.b_machine_grammar.specs.declared.trees.Clause.{Clause}
use Rattle.b_machine_grammar.specs.declared.trees.MachineTree.{MachineTree}
use Rattle.b_machine_grammar.specs.Cuts.{Stands, Next, cut, IsMade, IsFollowing, IsRow}
use Rattle.b_machine_grammar.specs.Grammar.{IsName, IsClause, machine}

-- clauses with their words
abbrev pub AreClauses : ℕ → Next → List Clause → Type 0
AreClauses depth = IsFollowing (cut at.Clause) (IsClause depth)

-- what stands between MACHINE and its END
abbrev pub IsContent : ℕ → Stands MachineTree
IsContent depth = IsMade machine (IsRow (cut at.Clause) IsName (IsClause depth))
