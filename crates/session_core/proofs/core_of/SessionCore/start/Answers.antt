use Rattle.session_core.proofs.Calls.{begun, line_core, line_asks, line_unmarked, marked_core}
use Rattle.session_core.specs.Moving.{line_next}
use Rattle.session_core.specs.Settling.{quits_line}
use Rattle.session_core.proofs.Spared.{line_short}
use Rattle.session_core.proofs.Quits.{line_settled, settled_unchanged, quits_spared, not_quit}
use Rattle.session_core.proofs.core_of.SessionCore.start.Goals as goal

pub returns-in-Ok-clause-fits : goal.returns-in-Ok-clause-fits
returns-in-Ok-clause-fits g c =
    let laws = g.met.E.Engine g.world.𝓛 g.world.𝓜 g.world.𝓡 ((λ s x. x), (λ x. x), (λ x. x), λ x. x) in
    line_core (g.E.Engine.meaning c.args.engine.now) (g.E.Engine.unpack c.args.engine.now) c.args.self.now.root c.args.self.now.held (laws.one_spelling c.args.engine.now) (laws.keys_have_texts c.args.engine.now) c.requires.fits.root c.requires.fits.held c.start_turn.new.held c.in-Ok.turn c.args.line.now c.in-Ok.ensures.turn

pub returns-in-Ok-clause-asks : goal.returns-in-Ok-clause-asks
returns-in-Ok-clause-asks g c =
    let laws = g.met.E.Engine g.world.𝓛 g.world.𝓜 g.world.𝓡 ((λ s x. x), (λ x. x), (λ x. x), λ x. x) in
    line_asks (g.E.Engine.meaning c.args.engine.now) (g.E.Engine.unpack c.args.engine.now) c.args.self.now.root c.args.self.now.held (laws.one_spelling c.args.engine.now) (laws.keys_have_texts c.args.engine.now) c.requires.fits.root c.requires.fits.held c.start_turn.new.held c.in-Ok.turn c.args.line.now c.in-Ok.ensures.turn

pub returns-in-Ok-clause-begins : goal.returns-in-Ok-clause-begins
returns-in-Ok-clause-begins g c =
    let laws = g.met.E.Engine g.world.𝓛 g.world.𝓜 g.world.𝓡 ((λ s x. x), (λ x. x), (λ x. x), λ x. x) in
    begun (g.E.Engine.meaning c.args.engine.now) (g.E.Engine.unpack c.args.engine.now) c.args.self.now.root c.args.self.now.held (laws.one_spelling c.args.engine.now) (laws.keys_have_texts c.args.engine.now) c.requires.fits.root c.requires.fits.held c.start_turn.new.held c.in-Ok.turn c.args.line.now c.requires.built c.in-Ok.ensures.turn

pub returns-in-Ok-clause-spared : goal.returns-in-Ok-clause-spared
returns-in-Ok-clause-spared g c = λ spared.
    let laws = g.met.E.Engine g.world.𝓛 g.world.𝓜 g.world.𝓡 ((λ s x. x), (λ x. x), (λ x. x), λ x. x) in
    line_unmarked (g.E.Engine.meaning c.args.engine.now) (g.E.Engine.unpack c.args.engine.now) c.args.self.now.root c.args.self.now.held (laws.one_spelling c.args.engine.now) (laws.keys_have_texts c.args.engine.now) c.requires.fits.root c.requires.fits.held c.start_turn.new.held c.in-Ok.turn c.args.line.now c.in-Ok.ensures.turn

pub returns-in-Err-clause-fits : goal.returns-in-Err-clause-fits
returns-in-Err-clause-fits g c =
    marked_core (g.E.Engine.meaning c.args.engine.now) (g.E.Engine.unpack c.args.engine.now) c.args.self.now.root c.args.self.now.held c.start_turn.new.held c.requires.fits.root c.requires.fits.held c.in-Err.ensures.same

pub returns-in-Err-clause-spared : goal.returns-in-Err-clause-spared
returns-in-Err-clause-spared g c = λ spared.
    let short = line_short (g.E.Engine.meaning c.args.engine.now) (g.E.Engine.unpack c.args.engine.now) c.args.self.now.root c.args.self.now.held c.start_turn.ensures.within c.args.line.now spared in
    let ok = c.in-Err.ensures.spared spared short in
    cc

pub returns-in-Ok-clause-quits : goal.returns-in-Ok-clause-quits
returns-in-Ok-clause-quits g c =
    line_settled (g.E.Engine.meaning c.args.engine.now) (g.E.Engine.unpack c.args.engine.now) c.args.self.now.root c.args.self.now.held (g.E.Engine.meaning c.args.engine.now).face c.start_turn.new.held c.in-Ok.turn c.args.line.now c.in-Ok.ensures.turn

pub returns-in-Err-clause-quits : goal.returns-in-Err-clause-quits
returns-in-Err-clause-quits g c = not_quit (quits_line c.args.line.now) (λ is.
    let spared = quits_spared (g.E.Engine.meaning c.args.engine.now) (g.E.Engine.unpack c.args.engine.now) c.args.self.now.root c.args.self.now.held c.args.line.now is in
    let short = line_short (g.E.Engine.meaning c.args.engine.now) (g.E.Engine.unpack c.args.engine.now) c.args.self.now.root c.args.self.now.held c.start_turn.ensures.within c.args.line.now spared in
    let ok = c.in-Err.ensures.spared spared short in
    let no : ⊥ = cc in
    no)

pub returns-in-Ok-clause-unchanged : goal.returns-in-Ok-clause-unchanged
returns-in-Ok-clause-unchanged g c =
    settled_unchanged (g.E.Engine.meaning c.args.engine.now) (g.E.Engine.unpack c.args.engine.now) c.args.self.now.root c.args.self.now.held (g.E.Engine.meaning c.args.engine.now).face c.start_turn.new.held c.in-Ok.turn
    (line_next (g.E.Engine.meaning c.args.engine.now) (g.E.Engine.unpack c.args.engine.now) c.args.self.now.root c.args.self.now.held c.args.line.now) c.in-Ok.ensures.turn

pub returns-in-Err-clause-unchanged : goal.returns-in-Err-clause-unchanged
returns-in-Err-clause-unchanged g c = λ asking. c.in-Err.ensures.same
