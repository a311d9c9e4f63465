-- What is left out, by lexemes, and which clauses a machine must and mustn't have.
use Rattle.std.specs.Prelude.{ℕ, Bool, true, false, not, ◌&&◌, ◌||◌, ◌==◌, List, [], ◌∷◌, if◌then◌else◌}
use Rattle.std.specs.List.{list_any}
use Rattle.b_machine_grammar.specs.declared.words.Word.{Word}
use Rattle.b_machine_grammar.specs.declared.words.Word.TheVariants as word
use Rattle.b_machine_grammar.specs.declared.trees.Clause.{Clause}
use Rattle.b_machine_grammar.specs.declared.trees.Clause.TheVariants as clause
use Rattle.b_machine_grammar.specs.Words.{is_word, begins_clause}
use Rattle.b_machine_grammar.specs.Cuts.{Piece}

-- ---- left-out words and forms, whatever else stands in the text

abbrev pub begins_with : Word → List Piece → Bool
begins_with w [] = false
begins_with w (s ∷ ts) = is_word w s.0

-- a name and an opening round bracket stand first
abbrev pub is_head : List Piece → Bool
is_head [] = false
is_head (s ∷ ts) = is_word word.Name s.0 && begins_with word.RoundOpen ts

-- A string stands where a definition should begin, up to the next clause. Only a `;` and a clause's word at this depth of
-- brackets count. `fresh` says that a definition should begin here.
abbrev pub has_file : ℕ → Bool → List Piece → Bool
has_file depth fresh [] = false
has_file depth fresh (s ∷ ts) =
    if fresh && is_word word.Text s.0 then true
    else if s.1.at.depth == depth && begins_clause s.0 then false
    else has_file depth (s.1.at.depth == depth && is_word word.Semicolon s.0) ts

-- a left-out word, `(` behind MACHINE and a name, or a string in place of a definition
abbrev pub is_left_out : Word → ℕ → List Piece → Bool
is_left_out word.LeftOut depth ts = true
is_left_out word.Machine depth ts = is_head ts
is_left_out word.Definitions depth ts = has_file depth true ts
is_left_out w depth ts = false

-- somewhere in the text
abbrev pub has_left_out : List Piece → Bool
has_left_out [] = false
has_left_out (s ∷ ts) = if is_left_out s.0 s.1.at.depth ts then true else has_left_out ts

-- ---- clauses

-- the word of a clause; CONSTANTS and CONCRETE_CONSTANTS are one, VARIABLES and ABSTRACT_VARIABLES another
abbrev pub kind_of : Clause → Word
kind_of (clause.Sets at x) = word.Sets
kind_of (clause.Constants at x) = word.Constants
kind_of (clause.AbstractConstants at x) = word.AbstractConstants
kind_of (clause.Properties at x) = word.Properties
kind_of (clause.Variables at x) = word.Variables
kind_of (clause.ConcreteVariables at x) = word.ConcreteVariables
kind_of (clause.Invariant at x) = word.Invariant
kind_of (clause.Assertions at x) = word.Assertions
kind_of (clause.Definitions at x) = word.Definitions
kind_of (clause.Initialisation at x) = word.Initialisation
kind_of (clause.Operations at x) = word.Operations

-- a clause stands there twice
abbrev pub has_twice : List Word → Bool
has_twice [] = false
has_twice (w ∷ ws) = if list_any (is_word w) ws then true else has_twice ws

abbrev pub has_either : Word → Word → List Word → Bool
has_either v w ws = list_any (is_word v) ws || list_any (is_word w) ws

-- variables without an invariant or without an initialisation, or constants without properties
abbrev pub is_missing : List Word → Bool
is_missing ws =
    has_either word.Variables word.ConcreteVariables ws && (not (list_any (is_word word.Invariant) ws) || not (list_any (is_word word.Initialisation) ws))
    || has_either word.Constants word.AbstractConstants ws && not (list_any (is_word word.Properties) ws)
