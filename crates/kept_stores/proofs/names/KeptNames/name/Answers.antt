use Rattle.kept_stores.proofs.Numbers.{numbered, grown}
use Rattle.kept_stores.proofs.names.KeptNames.name.Goals as goal

pub returns-clause-number : goal.returns-clause-number
returns-clause-number g c = numbered (g.E.Engine.meaning c.args.self.now.of.value) (g.E.Engine.unpack c.args.self.now.of.value) c.args.self.now.names c.name.new.self c.args.state c.in_ok-number.number
    c.requires.names c.requires.state c.name.ensures.distinct c.in_ok-number.ensures.exact c.in_ok-number.ensures.number c.in_ok-number.ensures.within

pub returns-clause-grows : goal.returns-clause-grows
returns-clause-grows g c = grown (g.E.Engine.meaning c.args.self.now.of.value) (g.E.Engine.unpack c.args.self.now.of.value) c.args.self.now.names c.name.new.self c.args.state c.requires.names c.in_ok-number.ensures.exact
