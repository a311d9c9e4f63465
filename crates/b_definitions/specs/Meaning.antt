-- What the names of a table mean, in whatever order its definitions stand.
use Rattle.std.specs.Prelude.{◌≡◌, ◌≤◌, ℕ, zero, suc, List, length, Option, None, option_map}
use Rattle.b_ast.specs.declared.Formula.{Formula}
use Rattle.b_ast.specs.declared.machine.Def.{Def}
use Rattle.b_expand.specs.Expansion.{Meanings, meaning_of, expanded, alone, expansion}
use Rattle.b_definitions.specs.Tables.{first_named}

-- what names mean once each body is read under some meanings: of two definitions of one name the first counts
abbrev pub round : List Def → Meanings → Meanings
round table means x = option_map (λ d. meaning_of table means d.params d.body) (first_named x table)

-- what names mean after so many rounds, from a beginning in which they mean nothing
abbrev pub rounds : List Def → ℕ → Meanings
rounds table zero = λ x. None
rounds table (suc n) = round table (rounds table n)

-- the tree that a formula stands for after so many rounds
abbrev pub expansion_after : ℕ → List Def → Formula → Option Formula
expansion_after n table t = expanded table (rounds table n) alone t

-- the tree that a formula stands for: after as many rounds as there are definitions, since without a circle no further
-- round changes anything
abbrev pub expansion_of : List Def → Formula → Option Formula
expansion_of table = expansion_after (length table) table

-- no further round changes what any formula stands for
abbrev pub IsSettled : List Def → Type 0
IsSettled table = (n : ℕ) → length table ≤ n → (t : Formula) → expansion_after n table t ≡ expansion_of table t

-- what formulas stand for under a table, they stand for under another one that is read in its order
abbrev pub MeansInOrder : List Def → List Def → Type 0
MeansInOrder table arranged = (t : Formula) → expansion arranged t ≡ expansion_of table t
