use Rattle.host_top.proofs.Stopping.{refused_by}
use Rattle.host_top.proofs.top.load.Goals as goal

pub returns-in-Ok-None-clause-stopped : goal.returns-in-Ok-None-clause-stopped
returns-in-Ok-None-clause-stopped g c =
    refused_by (g.O.Opener.document_of c.args.opener.now c.args.name.now) c.in-Ok.text.items c.in-Ok.ensures.told c.in-Ok.ensures.within
    (rw c.deref.ensures.value at (c.in-Ok-None.ensures.refused c.in-Ok-None.field-0-is))
