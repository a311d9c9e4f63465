use Rattle.std.proofs.Common.{◌≡◌, ◌≤◌, not, length, arith}
use Rattle.std.specs.List.{prefix_len}
use Rattle.std.proofs.lemmas.List.Sums.{prefix_len-le-length}
use Rattle.b_lex.specs.Bytes.{is_blank}
use Rattle.session_text.proofs.arguments.cut_word.Goals as goal

pub split_at-requires : goal.split_at-requires
split_at-requires c =
    let is : c.word_len.result ≡ prefix_len (λ b. not (is_blank b)) c.args.bytes.now = c.word_len.ensures in
    let within : prefix_len (λ b. not (is_blank b)) c.args.bytes.now ≤ length c.args.bytes.now = prefix_len-le-length (λ b. not (is_blank b)) c.args.bytes.now in
    omega arith
