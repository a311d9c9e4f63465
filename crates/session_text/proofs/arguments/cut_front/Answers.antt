use Rattle.std.proofs.Common.{◌≡◌, ◌≤◌, length, arith}
use Rattle.std.specs.List.{prefix_len}
use Rattle.std.proofs.lemmas.List.Sums.{prefix_len-le-length}
use Rattle.b_lex.specs.Bytes.{is_blank}
use Rattle.session_text.proofs.arguments.cut_front.Goals as goal

pub split_at-requires : goal.split_at-requires
split_at-requires c =
    let is : c.blanks_len.result ≡ prefix_len is_blank c.args.bytes.now = c.blanks_len.ensures in
    let within : prefix_len is_blank c.args.bytes.now ≤ length c.args.bytes.now = prefix_len-le-length is_blank c.args.bytes.now in
    omega arith
