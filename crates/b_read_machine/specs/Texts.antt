-- Why a text has no machine's tree. Of several reasons the first below is told.
use Rattle.std.specs.Prelude.{◌≡◌, ◌≤◌, ◌-◌, ℕ, nat_lt, Bool, true, false, not, ◌&&◌, ◌||◌, List, [], ◌∷◌, Option, Some, None, Result, Ok, Err, if◌then◌else◌}
use denote.Ref.{Bor}
use Rattle.b_lex.specs.declared.tokens.Token.{Token}
use Rattle.b_grammar.specs.declared.Lexeme.{Lexeme}
use Rattle.b_grammar.specs.Symbols.{lexemes}
use Rattle.b_machine_grammar.specs.declared.words.Word.{Word}
use Rattle.b_machine_grammar.specs.declared.words.Word.TheVariants as word
use Rattle.b_machine_grammar.specs.declared.trees.MachineTree.{MachineTree}
use Rattle.b_machine_grammar.specs.Words.{words, is_word, begins_clause}
use Rattle.b_machine_grammar.specs.Cuts.{Piece}
use Rattle.b_machine_grammar.specs.Grammar.{IsMachine}
use Rattle.b_stretches.specs.Stretches.{zipped}
use Rattle.b_expand.specs.declared.faults.ParseKind.TheVariants as kind
use Rattle.b_expand.specs.declared.faults.ParseFault.{ParseFault}
use Rattle.b_expand.specs.declared.faults.ParseFault.TheVariants as fault
use Rattle.b_read_machine.specs.Rules.{has_left_out}

-- the lexemes of a machine's text, each with its word
abbrev pub pieces_of : List ℕ → List Token → List Piece
pieces_of text tokens = zipped (words text tokens) (lexemes true text tokens)

-- more than 100 brackets are open behind some lexeme
abbrev pub is_deep : List Piece → Bool
is_deep [] = false
is_deep (s ∷ ts) = nat_lt 100 s.1.at.depth || is_deep ts

-- no more than 100 brackets are open anywhere, and nothing is left out
abbrev pub IsPlain : List Piece → Type 0
IsPlain ts = (is_deep ts ≡ false) × (has_left_out ts ≡ false)

-- ---- places in definitions

-- whether a lexeme behind this word stands in DEFINITIONS
abbrev pub in_definitions : Bool → Word → Bool
in_definitions inside w = if begins_clause w then is_word w word.Definitions else inside

-- one bracket less is counted at a lexeme, if so
abbrev pub recounted : Bool → Lexeme → Lexeme
recounted false l = l
recounted true l = record { symbol = l.symbol; at = record { machine = l.at.machine; at = l.at.at; depth = l.at.depth - 1 } }

-- whether a lexeme is counted one bracket less
abbrev pub counts_less : Bool → Word → Bool
counts_less inside w = inside && not (begins_clause w)

-- Places in definitions don't count the machine's own bracket: they count from the definitions' beginning.
abbrev pub counted_from : Bool → List Piece → List Piece
counted_from inside [] = []
counted_from inside (s ∷ ts) = (s.0, recounted (counts_less inside s.0) s.1) ∷ counted_from (in_definitions inside s.0) ts

abbrev pub counted : List Piece → List Piece
counted = counted_from false

-- ---- answers

-- The tree of a machine's text that ends there, or the first reason why it has none. A refusal stands before the end of
-- the text, and want of memory is free.
abbrev pub IsReadAs : List Piece → ℕ → Result MachineTree ParseFault → Type 0
IsReadAs ts end (Ok m) = IsPlain ts × IsMachine (counted ts) m
IsReadAs ts end (Err (fault.Refused kind.TooDeep at)) = (is_deep ts ≡ true) × (at ≤ end)
IsReadAs ts end (Err (fault.Refused kind.LeftOut at)) = (is_deep ts ≡ false) × (has_left_out ts ≡ true) × (at ≤ end)
IsReadAs ts end (Err (fault.Refused kind.NotASentence at)) = IsPlain ts × ((m : MachineTree) → IsMachine (counted ts) m → ⊥) × (at ≤ end)
IsReadAs ts end (Err (fault.Refused k at)) = ⊥
IsReadAs ts end (Err fault.Memory) = Unit {0}

-- ---- its steps; only private functions' clauses cite these

-- the first word and the others
abbrev pub IsSplit : List Word → Option (Word × Bor (List Word)) → Type 0
IsSplit ws None = ws ≡ []
IsSplit ws (Some p) = ws ≡ p.0 ∷ p.1.now

abbrev pub IsPlainAs : List Piece → ℕ → Result (Unit {0}) ParseFault → Type 0
IsPlainAs ts end (Ok u) = IsPlain ts
IsPlainAs ts end (Err (fault.Refused kind.TooDeep at)) = (is_deep ts ≡ true) × (at ≤ end)
IsPlainAs ts end (Err (fault.Refused kind.LeftOut at)) = (is_deep ts ≡ false) × (has_left_out ts ≡ true) × (at ≤ end)
IsPlainAs ts end (Err f) = ⊥

abbrev pub IsTreeAs : List Piece → ℕ → Result MachineTree ParseFault → Type 0
IsTreeAs ts end (Ok m) = IsMachine ts m
IsTreeAs ts end (Err (fault.Refused kind.NotASentence at)) = ((m : MachineTree) → IsMachine ts m → ⊥) × (at ≤ end)
IsTreeAs ts end (Err (fault.Refused k at)) = ⊥
IsTreeAs ts end (Err fault.Memory) = Unit {0}
