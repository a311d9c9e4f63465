use Rattle.std.proofs.Common.{◌≡◌, drop}
use Rattle.host_io.specs.Memory.{session_in}
use Rattle.host_io.proofs.mem_opener.find_session.Given as goal

abbrev pub invariant-loop-session : goal.invariant-loop-session
invariant-loop-session l = session_in (drop l.session-index l.sessions) l.name ≡ session_in l.sessions l.name
