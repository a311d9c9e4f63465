use Rattle.engine_face.specs.Answers.{IsStepList}
use Rattle.engine_face.specs.Keys.{same_bytes, bytes_same}
use Rattle.engine_face.specs.Stores.{found}
use Rattle.kept_stores.proofs.Entries.{true_after_look, true_of_key}
use Rattle.kept_stores.proofs.Looks.{grows_few, true_if_found}
use Rattle.kept_stores.proofs.steps.KeptSteps.look.Goals as goal

pub returns-clause-truth : goal.returns-clause-truth
returns-clause-truth g c = true_after_look same_bytes bytes_same (IsStepList (g.E.Engine.meaning c.args.self.now.of.value) (g.E.Engine.unpack c.args.self.now.of.value))
    c.args.self.now.store c.look-list.new.self c.args.at.now c.look-list.ensures.looked c.len.ensures.distinct c.len.ensures.within c.requires

pub returns-clause-list : goal.returns-clause-list
returns-clause-list g c = true_if_found (IsStepList (g.E.Engine.meaning c.args.self.now.of.value) (g.E.Engine.unpack c.args.self.now.of.value) c.args.at.now)
    c.look-list.result (found same_bytes c.args.self.now.store c.args.at.now) c.look-list.ensures.found
    (λ list. true_of_key same_bytes bytes_same (IsStepList (g.E.Engine.meaning c.args.self.now.of.value) (g.E.Engine.unpack c.args.self.now.of.value)) c.args.self.now.store c.args.at.now list c.requires)

pub returns-clause-grows : goal.returns-clause-grows
returns-clause-grows g c = grows_few c.args.self.now.store.misses c.look-list.new.self.misses c.look-list.ensures.misses.0 c.look-list.ensures.misses.1
