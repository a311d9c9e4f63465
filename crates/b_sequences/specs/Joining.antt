-- The lists of sequences put at the end of couples, one sequence after another.
use Rattle.std.specs.Prelude.{◌≡◌, ◌+◌, ◌++◌, ◌∷◌, [], Bool, List, Option, Some, None, length, if◌then◌else◌}
use Rattle.std.specs.Option.{option_map}
use Rattle.b_values.specs.Reading.{numbered}
use Rattle.b_values.specs.declared.values.Value.{Value}
use Rattle.b_sequences.specs.Sequences.{seconds}
use Rattle.b_sequences.specs.Rows.{joined}

-- the couples, and after them the lists of the second parts of more, with the next numbers
abbrev pub and_lists : List Value → List Value → Option (List Value)
and_lists all more = option_map (λ xs. all ++ numbered (length all + 1) xs) (joined (seconds more))

-- the list of the couple's second part comes to the end, or it has none
abbrev pub PushesList : Value → List Value → List Value → Bool → Type 0
PushesList couple old new whole = and_lists old (couple ∷ []) ≡ (if whole then Some new else None)
