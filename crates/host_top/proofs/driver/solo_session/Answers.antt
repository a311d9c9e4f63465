use Rattle.std.proofs.Common.{rules, ◌≡◌, length}
use Rattle.host_top.proofs.driver.solo_session.Goals as goal

pub returns-clause-animated : goal.returns-clause-animated
returns-clause-animated g c =
    let count : c.len.result ≡ length c.run_lines-end.new.marks.items = search rules in
    let marks : c.from_vec.result ≡ c.run_lines-end.new.marks.items = search rules in
    simp (count, marks) c.run_lines-end.ensures.animated
