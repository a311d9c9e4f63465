-- Lists kept of a machine's states.
use Rattle.std.specs.Prelude.{ℕ, List}
use Rattle.std.specs.List.{AllByRecursion}
use Rattle.engine_face.specs.Answers.{IsStepList}
use Rattle.engine_face.specs.Meaning.{Meaning}
use Rattle.engine_face.specs.Packing.{Unpacking}
use Rattle.engine_face.specs.declared.answers.StepList.{StepList}

-- each list is what the machine offers at its state
abbrev pub AreTrueLists : Meaning → Unpacking → List (List ℕ × StepList (List ℕ)) → Type 0
AreTrueLists m unpack entries = AllByRecursion (λ entry. IsStepList m unpack entry.0 entry.1) entries
