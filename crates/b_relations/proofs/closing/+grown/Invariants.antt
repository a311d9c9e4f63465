use Rattle.std.proofs.Common.{◌-◌, length}
use Rattle.b_values.specs.Values.{elements}
use Rattle.b_relations.proofs.closing.+grown.Given as goal

abbrev pub decreases-grown : goal.decreases-grown
decreases-grown l = 1000000 - length (elements l.s.now)
