use Rattle.std.proofs.Common.{ℕ, ◌∙◌, ◌-◌, ◌^◌, arith, ap, min, [], zero-add}
use Rattle.engine_face.specs.Keys.{same_bytes, bytes_same}
use Rattle.engine_face.specs.Misses.{misses_of_uses}
use Rattle.engine_face.specs.StoreLaws.{misses_of_rule}
use Rattle.engine_face.specs.Stores.{empty_store}
use Rattle.step_cache.proofs.laws.misses_of_lists.Goals as goal

pub returns : goal.returns
returns c = λ lists capacity uses. misses_of_rule same_bytes bytes_same lists (empty_store capacity) uses (omega arith)
    ∙ ap (λ (n : ℕ). min n (2 ^ 64 - 1)) (zero-add (misses_of_uses same_bytes capacity [] uses))
