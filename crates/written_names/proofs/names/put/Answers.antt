use Rattle.std.proofs.Common.{rules, ◌≡◌, ◌||◌, ap, ◌∙◌, bytes_eq}
use Rattle.written_names.specs.Names.{in_set}
use Rattle.written_names.proofs.Which.{put_name}
use Rattle.written_names.proofs.names.put.Goals as goal

-- the key has the name's bytes
pub returns : goal.returns
returns c =
    let is_name : c.in_ok-key.key.items ≡ c.args.name.now = search rules in
    λ x. put_name c.in_ok-key.key.items c.args.set.now c.insert.new.self c.in_ok-insert.ensures.updates x
    ∙ ap (λ n. bytes_eq x n || in_set c.args.set.now x) is_name
