use Rattle.std.proofs.Common.{rules, ◌≡◌, refl, sym, subst}
use Rattle.session_core.specs.declared.core_of.At.{At}
use Rattle.session_core.specs.declared.core_of.At.TheVariants.{Idle, Asking, Replying, Quitting, Marked}
use Rattle.session_core.specs.declared.stages.Answer.TheVariants.{Replied}
use Rattle.session_core.specs.Standing.{Feeds, IsAsked}
use Rattle.session_core.proofs.core_of.SessionCore.feed.Goals as goal

pub returns-in-Asking-clause-feeds : goal.returns-in-Asking-clause-feeds
returns-in-Asking-clause-feeds g c =
    let is : c.args.self.now.at ≡ Asking c.in-Asking.stage = search rules in
    subst (λ (a : At). Feeds (g.E.Engine.meaning c.args.engine.now) (g.E.Engine.unpack c.args.engine.now) c.args.self.now.root c.args.self.now.held a c.args.answer c.go_on.new.self.held c.go_on.new.self.at c.go_on.result)
    (sym is) c.go_on.ensures.goes

pub returns-in-Replying-clause-memory : goal.returns-in-Replying-clause-memory
returns-in-Replying-clause-memory g c = λ memory.
    let is : c.args.self.now.at ≡ Replying = search rules in
    let asked : c.args.answer ≡ Replied = subst (λ (a : At). IsAsked (g.E.Engine.meaning c.args.engine.now) (g.E.Engine.unpack c.args.engine.now) c.args.self.now.held a c.args.answer) is c.requires.asked in
    let no : ⊥ = cc in
    absurd no

pub returns-in-Quitting-clause-memory : goal.returns-in-Quitting-clause-memory
returns-in-Quitting-clause-memory g c = λ memory.
    let is : c.args.self.now.at ≡ Quitting = search rules in
    let asked : c.args.answer ≡ Replied = subst (λ (a : At). IsAsked (g.E.Engine.meaning c.args.engine.now) (g.E.Engine.unpack c.args.engine.now) c.args.self.now.held a c.args.answer) is c.requires.asked in
    let no : ⊥ = cc in
    absurd no

pub returns-in-Marked-clause-memory : goal.returns-in-Marked-clause-memory
returns-in-Marked-clause-memory g c = λ memory.
    let is : c.args.self.now.at ≡ Marked = search rules in
    let asked : c.args.answer ≡ Replied = subst (λ (a : At). IsAsked (g.E.Engine.meaning c.args.engine.now) (g.E.Engine.unpack c.args.engine.now) c.args.self.now.held a c.args.answer) is c.requires.asked in
    let no : ⊥ = cc in
    absurd no

pub returns-in-Idle-clause-memory : goal.returns-in-Idle-clause-memory
returns-in-Idle-clause-memory g c =
    let is : c.args.self.now.at ≡ Idle = search rules in
    let no : ⊥ = subst (λ (a : At). IsAsked (g.E.Engine.meaning c.args.engine.now) (g.E.Engine.unpack c.args.engine.now) c.args.self.now.held a c.args.answer) is c.requires.asked in
    absurd no

pub returns-in-Asking-clause-unchanged : goal.returns-in-Asking-clause-unchanged
returns-in-Asking-clause-unchanged g c = c.go_on.ensures.unchanged

pub returns-in-Idle-clause-unchanged : goal.returns-in-Idle-clause-unchanged
returns-in-Idle-clause-unchanged g c = λ asking. refl

pub returns-in-Replying-clause-unchanged : goal.returns-in-Replying-clause-unchanged
returns-in-Replying-clause-unchanged g c = λ asking. refl

pub returns-in-Quitting-clause-unchanged : goal.returns-in-Quitting-clause-unchanged
returns-in-Quitting-clause-unchanged g c = λ asking. refl

pub returns-in-Marked-clause-unchanged : goal.returns-in-Marked-clause-unchanged
returns-in-Marked-clause-unchanged g c = λ asking. refl
