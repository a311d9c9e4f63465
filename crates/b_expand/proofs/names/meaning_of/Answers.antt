use Rattle.std.proofs.Common.{sym, subst, take, ◌<◌, length}
use Rattle.std.specs.Prelude.{IfSome}
use Rattle.b_names.proofs.Names.{place_within}
use Rattle.b_expand.proofs.Naming.{means_at_place, meant_where}
use Rattle.b_expand.proofs.names.meaning_of.Goals as goal

pub returns-clause-value : goal.returns-clause-value
returns-clause-value c = means_at_place (take c.args.text.now.here.place c.args.text.now.table.defs.now) c.args.name.now _ c.definition_of.ensures.value

pub returns-clause-known : goal.returns-clause-known
returns-clause-known c =
    meant_where _ (take c.args.text.now.here.place c.args.text.now.table.defs.now) c.definition_of.result
    (subst (λ o. IfSome o (λ i. i < length (take c.args.text.now.here.place c.args.text.now.table.defs.now))) (sym c.definition_of.ensures.value) (place_within (take c.args.text.now.here.place c.args.text.now.table.defs.now) c.args.name.now))
