use Rattle.std.proofs.Common.{◌≡◌, ◌++◌, take}
use Rattle.set_elements.specs.Sizes.{sized_names}
use Rattle.set_elements.proofs.sizes.names_of.Given as goal

abbrev pub invariant-loop-sizing : goal.invariant-loop-sizing
invariant-loop-sizing l = l.names ≡ sized_names (take l.sizing-index l.sizings)
