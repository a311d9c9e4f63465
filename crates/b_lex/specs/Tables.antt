-- The reserved words and the signs of B, and how a text is looked up among them.
use Rattle.std.specs.Prelude.{ℕ, Bool, true, ◌||◌, ◌%◌, ◌==◌, List, [], ◌∷◌, length, map, max, codes, filter, nat_eq}
use Rattle.std.specs.List.{list_any, starts_with}
use Rattle.std.specs.Str.{bytes_eq}

-- the reserved words that are read
unfoldable pub words : List (List ℕ)
words =
    codes "or" ∷ codes "not" ∷ codes "mod" ∷ codes "POW" ∷ codes "POW1" ∷ codes "FIN" ∷ codes "FIN1" ∷ codes "UNION" ∷ codes "INTER" ∷ codes "SIGMA" ∷ codes "PI"
    ∷ codes "union" ∷ codes "inter" ∷ codes "dom" ∷ codes "ran" ∷ codes "id" ∷ codes "prj1" ∷ codes "prj2" ∷ codes "iterate" ∷ codes "closure" ∷ codes "closure1"
    ∷ codes "card" ∷ codes "min" ∷ codes "max" ∷ codes "succ" ∷ codes "pred" ∷ codes "bool" ∷ codes "seq" ∷ codes "seq1" ∷ codes "iseq" ∷ codes "perm" ∷ codes "size"
    ∷ codes "first" ∷ codes "last" ∷ codes "front" ∷ codes "tail" ∷ codes "rev" ∷ codes "conc" ∷ codes "INTEGER" ∷ codes "NATURAL" ∷ codes "NATURAL1" ∷ codes "INT"
    ∷ codes "NAT" ∷ codes "NAT1" ∷ codes "STRING" ∷ codes "BOOL" ∷ codes "TRUE" ∷ codes "FALSE" ∷ codes "MININT" ∷ codes "MAXINT" ∷ codes "skip" ∷ codes "BEGIN"
    ∷ codes "PRE" ∷ codes "ASSERT" ∷ codes "CHOICE" ∷ codes "OR" ∷ codes "IF" ∷ codes "THEN" ∷ codes "ELSIF" ∷ codes "ELSE" ∷ codes "SELECT" ∷ codes "WHEN"
    ∷ codes "CASE" ∷ codes "OF" ∷ codes "EITHER" ∷ codes "ANY" ∷ codes "WHERE" ∷ codes "LET" ∷ codes "BE" ∷ codes "IN" ∷ codes "END" ∷ codes "MACHINE" ∷ codes "SETS"
    ∷ codes "CONSTANTS" ∷ codes "CONCRETE_CONSTANTS" ∷ codes "ABSTRACT_CONSTANTS" ∷ codes "PROPERTIES" ∷ codes "VARIABLES" ∷ codes "ABSTRACT_VARIABLES"
    ∷ codes "CONCRETE_VARIABLES" ∷ codes "INVARIANT" ∷ codes "ASSERTIONS" ∷ codes "DEFINITIONS" ∷ codes "INITIALISATION" ∷ codes "OPERATIONS" ∷ []

-- the reserved words that are left out of this profile of B
unfoldable pub left_out_words : List (List ℕ)
left_out_words =
    codes "REFINEMENT" ∷ codes "IMPLEMENTATION" ∷ codes "REFINES" ∷ codes "INCLUDES" ∷ codes "SEES" ∷ codes "USES" ∷ codes "EXTENDS" ∷ codes "PROMOTES" ∷ codes "IMPORTS"
    ∷ codes "CONSTRAINTS" ∷ codes "VALUES" ∷ codes "LOCAL_OPERATIONS" ∷ codes "VAR" ∷ codes "WHILE" ∷ codes "DO" ∷ codes "VARIANT" ∷ codes "rec" ∷ codes "struct" ∷ []

-- the signs: operators, brackets and what separates
unfoldable pub signs : List (List ℕ)
signs =
    codes "&" ∷ codes "=>" ∷ codes "<=>" ∷ codes "!" ∷ codes "#" ∷ codes ":" ∷ codes "/:" ∷ codes "<:" ∷ codes "<<:" ∷ codes "/<:" ∷ codes "/<<:" ∷ codes "=" ∷ codes "/="
    ∷ codes "==" ∷ codes "<" ∷ codes ">" ∷ codes "<=" ∷ codes ">=" ∷ codes "\\/" ∷ codes "/\\" ∷ codes "-" ∷ codes "*" ∷ codes "/" ∷ codes "**" ∷ codes "+" ∷ codes ".."
    ∷ codes "." ∷ codes "<->" ∷ codes "+->" ∷ codes "-->" ∷ codes ">+>" ∷ codes ">->" ∷ codes "+->>" ∷ codes "-->>" ∷ codes ">->>" ∷ codes "<|" ∷ codes "|>" ∷ codes "<<|"
    ∷ codes "|>>" ∷ codes "<+" ∷ codes "><" ∷ codes "||" ∷ codes "~" ∷ codes ";" ∷ codes "%" ∷ codes "|" ∷ codes "|->" ∷ codes "^" ∷ codes "->" ∷ codes "<-" ∷ codes "<--"
    ∷ codes "/|\\" ∷ codes "\\|/" ∷ codes "<>" ∷ codes "," ∷ codes "(" ∷ codes ")" ∷ codes "{" ∷ codes "}" ∷ codes "[" ∷ codes "]" ∷ codes ":=" ∷ codes "::" ∷ codes "$0" ∷ []

-- whether the table has this entry
abbrev pub has_entry : List (List ℕ) → List ℕ → Bool
has_entry table entry = list_any (bytes_eq entry) table

-- whether an entry stands in this row of a table, by its first byte modulo the number of rows; an empty entry stands in each
abbrev pub is_in_row : ℕ → ℕ → List ℕ → Bool
is_in_row rows row [] = true
is_in_row rows row (b ∷ bytes) = b % rows == row

-- the greatest of some numbers, 0 where there is none
abbrev pub greatest : List ℕ → ℕ
greatest [] = 0
greatest (n ∷ ns) = max n (greatest ns)

-- how many bytes the longest entry has that the text begins with, 0 where it begins with none
abbrev pub longest : List (List ℕ) → List ℕ → ℕ
longest table text = greatest (map length (filter (starts_with nat_eq text) table))

-- whether this is a reserved word
abbrev pub is_reserved : List ℕ → Bool
is_reserved word = has_entry words word || has_entry left_out_words word
