use Rattle.std.proofs.Common.{ℕ, ◌∙◌, ◌-◌, ◌^◌, arith, ap, min, [], zero-add}
use Rattle.engine_face.specs.Misses.{misses_of_uses}
use Rattle.engine_face.specs.StoreLaws.{misses_of_rule}
use Rattle.engine_face.specs.Stores.{empty_store}
use Rattle.value_cache.specs.Keys.{same_key, keys_same}
use Rattle.value_cache.proofs.laws.misses_of_values.Goals as goal

pub returns : goal.returns
returns c = λ values capacity uses. misses_of_rule same_key keys_same values (empty_store capacity) uses (omega arith)
    ∙ ap (λ (n : ℕ). min n (2 ^ 64 - 1)) (zero-add (misses_of_uses same_key capacity [] uses))
