use Rattle.std.proofs.Common.{rules, ◌≡◌, ◌<◌, length, take, arith}
use Rattle.host_top.proofs.Giving.{passes}
use Rattle.host_top.proofs.reader.take_line.Goals as goal

pub returns-then-room-eq0-clause-limit : goal.returns-then-room-eq0-clause-limit
returns-then-room-eq0-clause-limit g c is =
    passes (g.S.Source.left c.args.source.now) c.args.room.now c.loop-room.line.items (g.S.Source.left c.loop-room.source) c.in-Ok.field-0 _ (g.S.Source.left c.take.new.self)
    c.loop-room.invariant.taken c.in-Ok.ensures.taken (search rules) (search rules) c.loop-room.invariant.one
