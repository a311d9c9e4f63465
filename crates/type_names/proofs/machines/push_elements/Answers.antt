use Rattle.std.proofs.Common.{◌≡◌, ◌++◌, ◌∷◌, [], ◌+◌, ◌∙◌, subst}
use Rattle.set_elements.specs.Sizes.{element_of}
use Rattle.type_names.specs.Names.{alike, free}
use Rattle.type_names.proofs.Freeing.{freeing_none, freeing_one, freeing_all}
use Rattle.type_names.proofs.machines.push_elements.Goals as goal

pub loop-i-init : goal.loop-i-init
loop-i-init c = freeing_none c.args.hiding.now.names c.args.set.now c.args.part c.args.count c.args.out.now.items

pub loop-i-preserved : goal.loop-i-preserved
loop-i-preserved c =
    freeing_one c.args.hiding.now.names c.args.set.now c.args.part c.args.count c.loop-i.i c.args.out.now.items c.loop-i.out.items c.push_free.new.out.items c.loop-i-test.true c.loop-i.invariant
    (subst (λ n. c.push_free.new.out.items ≡ c.loop-i.out.items ++ alike c.args.part (free c.args.hiding.now.names (n ∷ []))) (c.as_slice.ensures ∙ c.in_ok-name.ensures) c.in_ok-push_free.ensures)

pub returns : goal.returns
returns c = freeing_all c.args.hiding.now.names c.args.set.now c.args.part c.args.count c.loop-i.i c.args.out.now.items c.loop-i.out.items c.loop-i-test.false c.loop-i.invariant
