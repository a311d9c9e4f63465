use Rattle.std.proofs.Common.{◌≡◌, Some, subst, sym}
use Rattle.b_values.specs.declared.types.Face.{Face}
use Rattle.session_core.specs.Settling.{Settled}
use Rattle.session_core.specs.declared.stages.Answer.{Answer}
use Rattle.session_core.specs.Moving.{taken_on}
use Rattle.session_core.proofs.Quits.{fed_settled, settled_unchanged, fed_not, memory_leads_nowhere}
use Rattle.session_core.proofs.Calls.{went_on, fed_core, fed_asks, marked_core}
use Rattle.session_core.proofs.core_of.SessionCore.go_on.Goals as goal

pub returns-in-Ok-clause-fits : goal.returns-in-Ok-clause-fits
returns-in-Ok-clause-fits g c =
    let laws = g.met.E.Engine g.world.𝓛 g.world.𝓜 g.world.𝓡 ((λ s x. x), (λ x. x), (λ x. x), λ x. x) in
    let turn = c.in-Ok.ensures.turn in
    fed_core (g.E.Engine.meaning c.args.engine.now) (g.E.Engine.unpack c.args.engine.now) c.args.self.now.root c.args.self.now.held (laws.one_spelling c.args.engine.now) (laws.keys_have_texts c.args.engine.now) c.requires.fits.0 c.requires.fits.1 c.feed_turn.new.held c.in-Ok.turn c.args.stage c.args.answer turn.0 c.requires.fits.2 c.requires.answer turn.1
    (subst (λ (f : Face). Settled c.args.self.now.root c.args.self.now.held f turn.0 c.feed_turn.new.held c.in-Ok.turn) c.face.ensures turn.2)

pub returns-in-Ok-clause-asks : goal.returns-in-Ok-clause-asks
returns-in-Ok-clause-asks g c =
    let laws = g.met.E.Engine g.world.𝓛 g.world.𝓜 g.world.𝓡 ((λ s x. x), (λ x. x), (λ x. x), λ x. x) in
    let turn = c.in-Ok.ensures.turn in
    fed_asks (g.E.Engine.meaning c.args.engine.now) (g.E.Engine.unpack c.args.engine.now) c.args.self.now.root c.args.self.now.held (laws.one_spelling c.args.engine.now) (laws.keys_have_texts c.args.engine.now) c.requires.fits.0 c.requires.fits.1 c.feed_turn.new.held c.in-Ok.turn c.args.stage c.args.answer turn.0 c.requires.fits.2 c.requires.answer turn.1
    (subst (λ (f : Face). Settled c.args.self.now.root c.args.self.now.held f turn.0 c.feed_turn.new.held c.in-Ok.turn) c.face.ensures turn.2)

pub returns-in-Ok-clause-goes : goal.returns-in-Ok-clause-goes
returns-in-Ok-clause-goes g c =
    let laws = g.met.E.Engine g.world.𝓛 g.world.𝓜 g.world.𝓡 ((λ s x. x), (λ x. x), (λ x. x), λ x. x) in
    let turn = c.in-Ok.ensures.turn in
    went_on (g.E.Engine.meaning c.args.engine.now) (g.E.Engine.unpack c.args.engine.now) c.args.self.now.root c.args.self.now.held (laws.one_spelling c.args.engine.now) (laws.keys_have_texts c.args.engine.now) c.requires.fits.0 c.requires.fits.1 c.feed_turn.new.held c.in-Ok.turn c.args.stage c.args.answer turn.0 c.feed_turn.ensures.within c.requires.asked turn.1
    (subst (λ (f : Face). Settled c.args.self.now.root c.args.self.now.held f turn.0 c.feed_turn.new.held c.in-Ok.turn) c.face.ensures turn.2)

pub returns-in-Err-clause-fits : goal.returns-in-Err-clause-fits
returns-in-Err-clause-fits g c =
    marked_core (g.E.Engine.meaning c.args.engine.now) (g.E.Engine.unpack c.args.engine.now) c.args.self.now.root c.args.self.now.held c.feed_turn.new.held c.requires.fits.0 c.requires.fits.1 c.in-Err.ensures.same

pub returns-in-Ok-clause-quits : goal.returns-in-Ok-clause-quits
returns-in-Ok-clause-quits g c =
    let turn = c.in-Ok.ensures.turn in
    fed_settled (g.E.Engine.meaning c.args.engine.now) (g.E.Engine.unpack c.args.engine.now) c.args.self.now.root c.args.self.now.held c.face.result.now c.feed_turn.new.held c.in-Ok.turn turn.0 (fed_not c.args.self.now.held c.args.stage c.args.answer turn.0 turn.1) turn.2

pub returns-in-Ok-clause-memory : goal.returns-in-Ok-clause-memory
returns-in-Ok-clause-memory g c = λ memory.
    let turn = c.in-Ok.ensures.turn in
    absurd (memory_leads_nowhere c.args.self.now.held c.args.stage turn.0 (subst (λ (a : Answer). taken_on c.args.self.now.held c.args.stage a ≡ Some turn.0) memory turn.1))

pub returns-in-Ok-clause-unchanged : goal.returns-in-Ok-clause-unchanged
returns-in-Ok-clause-unchanged g c =
    let turn = c.in-Ok.ensures.turn in
    settled_unchanged (g.E.Engine.meaning c.args.engine.now) (g.E.Engine.unpack c.args.engine.now) c.args.self.now.root c.args.self.now.held c.face.result.now c.feed_turn.new.held c.in-Ok.turn turn.0 turn.2

pub returns-in-Err-clause-unchanged : goal.returns-in-Err-clause-unchanged
returns-in-Err-clause-unchanged g c = λ asking. c.in-Err.ensures.same
