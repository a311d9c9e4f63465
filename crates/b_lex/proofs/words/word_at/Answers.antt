use Rattle.std.proofs.Common.{◌≡◌, ◌≤◌, length, arith}
use Rattle.std.specs.List.{prefix_len}
use Rattle.std.proofs.lemmas.List.Sums.{prefix_len-le-length}
use Rattle.b_lex.specs.Bytes.{is_name_byte}
use Rattle.b_lex.proofs.words.word_at.Goals as goal

pub split_at-requires : goal.split_at-requires
split_at-requires c =
    let is : c.name_len.result ≡ prefix_len is_name_byte c.args.text.now = c.name_len.ensures in
    let within : prefix_len is_name_byte c.args.text.now ≤ length c.args.text.now = prefix_len-le-length is_name_byte c.args.text.now in
    omega arith
