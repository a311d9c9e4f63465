use Rattle.std.proofs.Common.{rules, ◌≡◌, ap, ◌∙◌, cond, Some, bytes_eq}
use Rattle.b_names.specs.Index.{place_in}
use Rattle.b_names.proofs.Names.{put_at}
use Rattle.b_names.proofs.places.put.Goals as goal

-- the key has the name's bytes
pub returns : goal.returns
returns c =
    let is_name : c.in_ok-key.key.items ≡ c.args.name.now = search rules in
    λ x. put_at c.in_ok-key.key.items c.args.places.now c.insert.new.self c.args.place c.in_ok-insert.ensures.updates x
    ∙ ap (λ n. cond (bytes_eq x n) (Some c.args.place) (place_in c.args.places.now x)) is_name
