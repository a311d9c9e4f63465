use Rattle.std.proofs.Common.{ℕ, [], ◌∷◌, List, length, sym, ap, subst, ◌∙◌, arith, length-append}
use Rattle.std.specs.Prelude.{slice_get}
use Rattle.b_names.specs.declared.places.Index.{Index}
use Rattle.b_names.specs.Index.{AreOfParameters, IsIndexOfNames}
use Rattle.b_names.proofs.Names.{get_there, none_indexed, one_indexed}
use Rattle.b_names.proofs.places.indexes_of_parameters.Goals as goal

pub loop-def-init : goal.loop-def-init
loop-def-init c = record { indexes = none_indexed c.args.defs.now c.new-indexes.result c.new-indexes.ensures; many = ap length c.new-indexes.ensures }

pub loop-def-preserved : goal.loop-def-preserved
loop-def-preserved c =
    let m = ap length c.in_ok-push.ensures.ok in
    let l = length-append c.loop-def.indexes (c.in_ok-index.index ∷ []) in
    record {
      indexes = subst (λ (is : List Index). AreOfParameters c.args.defs.now is) (sym c.in_ok-push.ensures.ok)
          (one_indexed c.args.defs.now c.loop-def.indexes c.loop-def.invariant.indexes c.def-item.result
          (ap (slice_get c.args.defs.now) c.loop-def.invariant.many ∙ get_there c.args.defs.now c.loop-def.def-index c.def-item.result c.loop-def-test.true c.def-item.is) c.in_ok-index.index (subst (λ (ps : List (List ℕ)). IsIndexOfNames ps c.in_ok-index.index) c.as_slice.ensures c.in_ok-index.ensures));
      many = omega arith;
    }
