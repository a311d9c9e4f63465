use Rattle.session_core.proofs.core_of.settle.Goals as goal

pub returns-in-Refuses-clause-settled : goal.returns-in-Refuses-clause-settled
returns-in-Refuses-clause-settled c = rw c.in-Refuses.is (c.refuse.ensures.turn c.args.held.now)

pub returns-in-Quits-clause-settled : goal.returns-in-Quits-clause-settled
returns-in-Quits-clause-settled c = rw c.in-Quits.is (c.quit.ensures.turn c.args.held.now)
