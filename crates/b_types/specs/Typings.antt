-- The typings of a text, and what is answered. A text is what it demands of its parts, and how many parts there are; the first
-- parts are names whose types are known.
use Rattle.std.specs.Prelude.{◌≡◌, true, false, List, Result, Ok, Err}
use Rattle.b_values.specs.declared.types.NameFace.{NameFace}
use Rattle.type_table.specs.Tables as tables
use Rattle.type_count.specs.Typings.{MoreThanOne}
use Rattle.type_choices.specs.Choosing.{Says}
use Rattle.type_formulas.specs.Typings.{Meeting, IsNamed, any_unknown, any_twice}
use Rattle.type_substs.specs.Told.{Told}
use Rattle.b_types.specs.declared.answers.Typing.{Typing}
use Rattle.b_types.specs.declared.answers.CheckKind.{CheckKind}
use Rattle.b_types.specs.declared.answers.CheckKind.TheVariants as kind
use Rattle.b_types.specs.declared.answers.CheckFault.{CheckFault}
use Rattle.b_types.specs.declared.answers.CheckFault.TheVariants as fault

-- a map from parts to types is a typing: known names have their types, all that is demanded is met, and no type has more than
-- 500 nodes
abbrev pub HasTyping : List NameFace → Told → tables.Typing → Type 0
HasTyping known z = Meeting 500 known z.demands z.next

-- a text has exactly one typing, and a table says the type of each part
abbrev pub TellsTypes : List NameFace → Told → Typing → Type 0
TellsTypes known z t = IsNamed z.demands × Says 500 z.next (HasTyping known z) t.rows.items × (t.parts ≡ z.next)

-- why a text hasn't one typing: the first of these that holds
abbrev pub Refuses : List NameFace → Told → CheckKind → Type 0
Refuses known z kind.UnknownName = any_unknown z.demands ≡ true
Refuses known z kind.DuplicateName = (any_unknown z.demands ≡ false) × (any_twice z.demands ≡ true)
Refuses known z kind.TypeClash = IsNamed z.demands × ((s : tables.Typing) → HasTyping known z s → ⊥)
Refuses known z kind.AmbiguousType = IsNamed z.demands × MoreThanOne z.next (HasTyping known z)

-- the answer to a text; a refusal stands at the text's beginning
abbrev pub IsChecked : List NameFace → Told → Result Typing CheckFault → Type 0
IsChecked known z (Ok t) = TellsTypes known z t
IsChecked known z (Err (fault.Refused k at)) = Refuses known z k × (at ≡ 0)
IsChecked known z (Err fault.Memory) = Unit {0}
