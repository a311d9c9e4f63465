use Rattle.std.proofs.Common.{rules}
use Rattle.host_io.proofs.Taking.{takes}
use Rattle.host_io.proofs.mem_source.MemSourceSource.take.Goals as goal

pub returns-clause-taken : goal.returns-clause-taken
returns-clause-taken c = takes c.args.self.now.bytes _ c.args.self.now.at _ (search rules) (search rules) (λ none. search rules)
