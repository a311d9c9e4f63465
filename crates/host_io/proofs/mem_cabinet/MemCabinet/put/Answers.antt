use Rattle.std.proofs.Common.{sym, subst, List, rules}
use Rattle.host_io.specs.Memory.{Writes}
use Rattle.host_io.specs.declared.mem_cabinet.MemDocument.{MemDocument}
use Rattle.host_io.proofs.Placing.{writes_at, writes_new}
use Rattle.host_io.proofs.mem_cabinet.MemCabinet.put.Goals as goal

pub returns-in-Some-clause-put : goal.returns-in-Some-clause-put
returns-in-Some-clause-put c = subst (λ (new : List MemDocument). Writes c.args.self.now.documents c.args.document new) (sym c.set.ensures) (writes_at c.args.self.now.documents c.in-Some.place c.args.document (search rules))

pub returns-in_ok-push-in-None-clause-put : goal.returns-in_ok-push-in-None-clause-put
returns-in_ok-push-in-None-clause-put c = subst (λ (new : List MemDocument). Writes c.args.self.now.documents c.args.document new) (sym c.in_ok-push-in-None.ensures.ok) (writes_new c.args.self.now.documents c.args.document (search rules))
