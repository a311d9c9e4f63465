use Rattle.std.proofs.Common.{rules, ◌≡◌, ◌++◌, length, take, drop, sym, ap, ◌∙◌}
use Rattle.std.proofs.lemmas.List.{take_at}
use Rattle.type_schemes.specs.Schemes.{with_scheme}
use Rattle.type_schemes.proofs.Demands.{demanded_any}
use Rattle.type_schemes.proofs.demanding.demand.Goals as goal

pub returns : goal.returns
returns c =
    let behind : c.put_behind.new.rows.items ≡ with_scheme c.args.rows.now.items c.scheme_of.result.now = search rules in
    let slice : c.as_mut_slice.result.now ≡ c.put_behind.new.rows.items = c.as_mut_slice.ensures.value in
    let len : c.put_behind.new.rows.len ≡ length c.put_behind.new.rows.items = search rules in
    let at : c.len-at.result ≡ length c.args.rows.now.items = search rules in
    let kept : length c.make_alike.new.rows ≡ length c.as_mut_slice.result.now = c.make_alike.auto.rows in
    let front = take_at c.make_alike.new.rows (drop (length c.make_alike.new.rows) c.put_behind.new.rows.items) c.put_behind.new.rows.len (kept ∙ ap length slice ∙ sym len) in
    demanded_any c.args.rows.now.items c.put_behind.new.rows.items c.as_mut_slice.result.now c.make_alike.new.rows _ c.scheme_of.result.now c.args.rule c.args.left c.args.right c.args.whole c.len-at.result c.make_alike.result
    c.requires.table c.requires.left c.requires.right c.requires.whole behind c.scheme_of.ensures slice at front c.make_alike.ensures
