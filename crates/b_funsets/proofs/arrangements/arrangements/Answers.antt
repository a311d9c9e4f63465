use Rattle.std.proofs.Common.{◌≡◌, ◌↔◌, ◌+◌, suc, List, length, map, arith, refl, subst}
use Rattle.ascending.specs.Ascending.{In}
use Rattle.b_values.specs.declared.values.Value.{Value}
use Rattle.b_values.specs.declared.values.Value.TheVariants.{Set}
use Rattle.b_funsets.specs.Arrangements.{injections_below}
use Rattle.b_funsets.proofs.Arranging.{gathers, refuses}
use Rattle.b_funsets.proofs.arrangements.arrangements.Goals as goal

pub loop-k-init : goal.loop-k-init
loop-k-init c = record { within = omega arith; found = λ z. (λ h. subst (λ (zs : List Value). In z zs) c.new-sets.ensures.items h, λ h. absurd h) }

pub loop-k-preserved : goal.loop-k-preserved
loop-k-preserved c = record {
  within = omega arith;
  found = gathers c.args.t.now c.requires c.loop-k.k (c.loop-k.k + 1) c.loop-k.sets.items _ refl c.loop-k.invariant.found c.in-Ok.ensures.found;
}

pub returns-clause-found : goal.returns-clause-found
returns-clause-found c = let all : c.loop-k.k ≡ suc (length c.args.t.now) = omega arith in
    subst (λ n. (z : Value) → In z c.loop-k.sets.items ↔ In z (map Set (injections_below n c.args.t.now))) all c.loop-k.invariant.found

pub returns-in-Err-clause-refused : goal.returns-in-Err-clause-refused
returns-in-Err-clause-refused c = refuses c.args.t.now c.requires c.in-Err.fault c.loop-k.k (suc (length c.args.t.now)) (omega arith) c.in-Err.ensures.refused
