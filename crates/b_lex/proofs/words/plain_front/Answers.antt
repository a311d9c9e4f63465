use Rattle.std.proofs.Common.{◌≡◌, ◌≤◌, length, arith}
use Rattle.std.specs.List.{prefix_len}
use Rattle.std.proofs.lemmas.List.Sums.{prefix_len-le-length}
use Rattle.b_lex.specs.Bytes.{is_in_line}
use Rattle.b_lex.proofs.words.plain_front.Goals as goal

pub overflow_add-result : goal.overflow_add-result
overflow_add-result c =
    let inside = c.split_at-then-starts_with-2.result.1.now in
    let is : c.line_len.result ≡ prefix_len is_in_line inside = c.line_len.ensures in
    let most : prefix_len is_in_line inside ≤ length inside = prefix_len-le-length is_in_line inside in
    omega (arith, c.split_at-then-starts_with-2.ensures.back_len)
