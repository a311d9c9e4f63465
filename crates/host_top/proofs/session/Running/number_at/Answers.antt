use Rattle.std.proofs.Common.{rules}
use Rattle.host_top.proofs.Sessions.{number_none}
use Rattle.host_top.proofs.session.Running.number_at.Goals as goal

pub returns-in-None : goal.returns-in-None
returns-in-None c names numbered = number_none names c.args.self.now.steps.items c.args.position numbered.first (search rules) (search rules)
