use Rattle.value_cache.specs.Truth.{IsTrueValue}
use Rattle.value_cache.specs.Keys.{same_key, keys_same}
use Rattle.kept_stores.proofs.Entries.{true_after_put}
use Rattle.kept_stores.proofs.values.KeptValues.put.Goals as goal

pub returns-clause-truth : goal.returns-clause-truth
returns-clause-truth g c = true_after_put same_key keys_same (IsTrueValue (g.E.Engine.meaning c.args.self.now.of.value) (g.E.Engine.unpack c.args.self.now.of.value))
    c.put.result c.args.self.now.store c.put.new.self c.args.key c.args.value c.put.ensures.kept c.put.ensures.err c.len.ensures.distinct c.len.ensures.within c.requires.store c.requires.value
