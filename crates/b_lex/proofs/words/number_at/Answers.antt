use Rattle.std.proofs.Common.{◌≡◌, ◌≤◌, length, arith}
use Rattle.std.specs.List.{prefix_len}
use Rattle.std.proofs.lemmas.List.Sums.{prefix_len-le-length}
use Rattle.b_lex.specs.Bytes.{is_digit}
use Rattle.b_lex.proofs.words.number_at.Goals as goal

pub split_at-requires : goal.split_at-requires
split_at-requires c =
    let is : c.digits_len.result ≡ prefix_len is_digit c.args.text.now = c.digits_len.ensures in
    let within : prefix_len is_digit c.args.text.now ≤ length c.args.text.now = prefix_len-le-length is_digit c.args.text.now in
    omega arith
