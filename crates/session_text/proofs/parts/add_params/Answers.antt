use Rattle.std.proofs.Common.{◌≡◌, ◌<◌, ◌+◌, ◌++◌, ℕ, List, length, OnOk, OnErr, subst}
use Rattle.session_text.proofs.Lengths.{params_some}
use Rattle.session_text.proofs.parts.add_params.Goals as goal

pub returns-in-len1-up-clause-added : goal.returns-in-len1-up-clause-added
returns-in-len1-up-clause-added c =
    let P : List ℕ → Type 0 = λ t. OnOk c.add_some_params.result (c.add_some_params.new.out ≡ c.args.out.now ++ t) in
    subst P (params_some c.args.face.now c.args.values.now c.in-len1-up.len_at_least) c.add_some_params.ensures.added

pub returns-in-len1-up-clause-long : goal.returns-in-len1-up-clause-long
returns-in-len1-up-clause-long c =
    let P : List ℕ → Type 0 = λ t. OnErr c.add_some_params.result (64 < length c.args.out.now + length t) in
    subst P (params_some c.args.face.now c.args.values.now c.in-len1-up.len_at_least) c.add_some_params.ensures.long
