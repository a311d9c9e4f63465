-- Values kept of formulas in a machine's states.
use Rattle.std.specs.Prelude.{List}
use Rattle.std.specs.List.{AllByRecursion}
use Rattle.engine_face.specs.Answers.{IsValueAnswer}
use Rattle.engine_face.specs.Meaning.{Meaning}
use Rattle.engine_face.specs.Packing.{Unpacking}
use Rattle.engine_face.specs.declared.answers.ValueAnswer.{ValueAnswer}
use Rattle.value_cache.specs.declared.store.ValueKey.{ValueKey}

-- each value is what the key's formula is in its state
abbrev pub IsTrueValue : Meaning → Unpacking → ValueKey → ValueAnswer → Type 0
IsTrueValue m unpack key answer = IsValueAnswer m unpack key.at key.key answer

abbrev pub AreTrueValues : Meaning → Unpacking → List (ValueKey × ValueAnswer) → Type 0
AreTrueValues m unpack entries = AllByRecursion (λ entry. IsTrueValue m unpack entry.0 entry.1) entries
