use Rattle.engine_face.specs.Answers.{IsStepList}
use Rattle.engine_face.specs.Keys.{same_bytes, bytes_same}
use Rattle.kept_stores.proofs.Entries.{true_after_put}
use Rattle.kept_stores.proofs.steps.KeptSteps.put.Goals as goal

pub returns-clause-truth : goal.returns-clause-truth
returns-clause-truth g c = true_after_put same_bytes bytes_same (IsStepList (g.E.Engine.meaning c.args.self.now.of.value) (g.E.Engine.unpack c.args.self.now.of.value))
    c.put.result c.args.self.now.store c.put.new.self c.args.at c.args.list c.put.ensures.kept c.put.ensures.err c.len.ensures.distinct c.len.ensures.within c.requires.store c.requires.list
