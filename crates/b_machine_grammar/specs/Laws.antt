-- What holds of the grammar of machines.
use Rattle.std.specs.Prelude.{◌≡◌, ℕ, zero, true, false, List, [], ◌∷◌, ◌++◌, Some, None}
use Rattle.b_machine_grammar.specs.declared.trees.MachineTree.{MachineTree}
use Rattle.b_machine_grammar.specs.declared.words.Separator.{Separator}
use Rattle.b_machine_grammar.specs.Words.{separates}
use Rattle.b_machine_grammar.specs.Cuts.{Piece, Next, Cut, cut, depth_behind}
use Rattle.b_machine_grammar.specs.Grammar.{IsMachine}

-- a list of lexemes stands for at most one machine
abbrev pub StandsForAtMostOneMachine : Type 0
StandsForAtMostOneMachine = (ts : List Piece) (m n : MachineTree) → IsMachine ts m → IsMachine ts n → m ≡ n

-- how many brackets are open behind a list, where so many are open before it
abbrev pub depth_of : ℕ → List Piece → ℕ
depth_of depth [] = depth
depth_of depth (s ∷ ts) = depth_of (depth_behind s.0 depth) ts

abbrev pub what_follows : Next → List Piece
what_follows None = []
what_follows (Some p) = p.0 ∷ p.1

-- a separator outside brackets follows, if anything does
abbrev pub IsStop : Separator → List Piece → Next → Type 0
IsStop at front None = Unit {0}
IsStop at front (Some p) = (separates at p.0.0 ≡ true) × (depth_of zero front ≡ zero)

-- the list is the front and what follows it, and no separator stands outside brackets in the front
abbrev pub IsCutOutside : Separator → List Piece → Cut → Type 0
IsCutOutside at ts c =
    (ts ≡ c.0 ++ what_follows c.1) × IsStop at c.0 c.1
    × ((a : List Piece) (s : Piece) (b : List Piece) → c.0 ≡ a ++ s ∷ b → depth_of zero a ≡ zero → separates at s.0 ≡ false)

-- each list is cut so
abbrev pub CutsOutsideBrackets : Type 0
CutsOutsideBrackets = (at : Separator) (ts : List Piece) → IsCutOutside at ts (cut at ts)
