use Rattle.std.proofs.Common.{rules, ap, List, ◌+◌}
use Rattle.animator.specs.declared.model.Step.{Step}
use Rattle.animator.specs.declared.model.Session.{Session}
use Rattle.host_top.proofs.Sessions.{added_shown, numbered_added}
use Rattle.host_top.proofs.session.Running.add.Goals as goal

pub returns-clause-session : goal.returns-clause-session
returns-clause-session c =
    let make : List Step → Session = λ steps. record { steps = steps; position = c.args.self.now.position + 1 } in
    ap make (added_shown c.args.self.now.steps.items c.push_reserved.new.self.items c.args.self.now.position c.args.shown (search rules))

pub returns-clause-numbered : goal.returns-clause-numbered
returns-clause-numbered c names numbered here = numbered_added names c.args.self.now _ c.args.shown numbered here (search rules) (search rules)
