-- What is answered for a text from its steps.
use Rattle.std.specs.Prelude.{◌≡◌, ℕ, List, Result, Ok, Err}
use Rattle.b_machine_grammar.specs.declared.trees.MachineTree.{MachineTree}
use Rattle.b_machine_grammar.specs.Cuts.{Piece}
use Rattle.b_expand.specs.declared.faults.ParseKind.TheVariants as kind
use Rattle.b_expand.specs.declared.faults.ParseFault.{ParseFault}
use Rattle.b_expand.specs.declared.faults.ParseFault.TheVariants as fault
use Rattle.b_read_machine.specs.Texts.{counted, IsPlain, IsReadAs, IsPlainAs, IsTreeAs}

pub not_plain : (ts : List Piece) (end : ℕ) (f : ParseFault) → IsPlainAs ts end (Err f) → IsReadAs ts end (Err f)
not_plain ts end (fault.Refused kind.TooDeep at) k = k
not_plain ts end (fault.Refused kind.LeftOut at) k = k
not_plain ts end f k = absurd k

pub plain_read : (ts : List Piece) (end : ℕ) (r : Result MachineTree ParseFault) → IsPlain ts → IsTreeAs (counted ts) end r → IsReadAs ts end r
plain_read ts end (Ok m) p k = (p, k)
plain_read ts end (Err (fault.Refused kind.NotASentence at)) p k = (p, k.0, k.1)
plain_read ts end (Err (fault.Refused kind.TooDeep at)) p k = absurd k
plain_read ts end (Err (fault.Refused kind.LeftOut at)) p k = absurd k
plain_read ts end (Err (fault.Refused why at)) p k = k
plain_read ts end (Err fault.Memory) p k = tt
