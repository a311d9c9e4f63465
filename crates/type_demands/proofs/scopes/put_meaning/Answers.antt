use Rattle.std.proofs.Common.{rules, ◌≡◌, ap, ◌∙◌, cond, Some, bytes_eq}
use Rattle.type_demands.specs.Scopes.{meaning_in}
use Rattle.type_demands.proofs.Frames.{put_at}
use Rattle.type_demands.proofs.scopes.put_meaning.Goals as goal

-- the key has the name's bytes
pub returns : goal.returns
returns c =
    let is_name : c.in_ok-key.key.items ≡ c.args.name.now = search rules in
    λ x. put_at c.in_ok-key.key.items c.args.meanings.now c.insert.new.self c.args.meaning c.in_ok-insert.ensures.updates x
    ∙ ap (λ n. cond (bytes_eq x n) (Some c.args.meaning) (meaning_in c.args.meanings.now x)) is_name
