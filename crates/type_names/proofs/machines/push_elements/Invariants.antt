use Rattle.type_names.proofs.Freeing.{IsFreeing}
use Rattle.type_names.proofs.machines.push_elements.Given as goal

abbrev pub invariant-loop-i : goal.invariant-loop-i
invariant-loop-i l = IsFreeing l.hiding.names l.set l.fn.part l.fn.count l.i l.fn.out.items l.out.items
