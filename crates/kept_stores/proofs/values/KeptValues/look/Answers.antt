use Rattle.value_cache.specs.Truth.{IsTrueValue}
use Rattle.value_cache.specs.Keys.{same_key, keys_same}
use Rattle.engine_face.specs.Stores.{found}
use Rattle.kept_stores.proofs.Entries.{true_after_look, true_of_key}
use Rattle.kept_stores.proofs.Looks.{grows_few, true_if_found}
use Rattle.kept_stores.proofs.values.KeptValues.look.Goals as goal

pub returns-clause-truth : goal.returns-clause-truth
returns-clause-truth g c = true_after_look same_key keys_same (IsTrueValue (g.E.Engine.meaning c.args.self.now.of.value) (g.E.Engine.unpack c.args.self.now.of.value))
    c.args.self.now.store c.look-value.new.self c.args.key.now c.look-value.ensures.looked c.len.ensures.distinct c.len.ensures.within c.requires

pub returns-clause-value : goal.returns-clause-value
returns-clause-value g c = true_if_found (IsTrueValue (g.E.Engine.meaning c.args.self.now.of.value) (g.E.Engine.unpack c.args.self.now.of.value) c.args.key.now)
    c.look-value.result (found same_key c.args.self.now.store c.args.key.now) c.look-value.ensures.found
    (λ value. true_of_key same_key keys_same (IsTrueValue (g.E.Engine.meaning c.args.self.now.of.value) (g.E.Engine.unpack c.args.self.now.of.value)) c.args.self.now.store c.args.key.now value c.requires)

pub returns-clause-grows : goal.returns-clause-grows
returns-clause-grows g c = grows_few c.args.self.now.store.misses c.look-value.new.self.misses c.look-value.ensures.misses.0 c.look-value.ensures.misses.1
