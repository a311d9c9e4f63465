use Rattle.std.proofs.Common.{◌≡◌, ◌∙◌, [], ◌∷◌, Some, None, true, false, sym, ap, refl, arith}
use Rattle.std.proofs.lemmas.Result.{err_from_is_err_and}
use Rattle.b_machine_grammar.specs.declared.words.Word.TheVariants as word
use Rattle.b_machine_grammar.specs.declared.words.Separator.TheVariants as at
use Rattle.b_machine_grammar.specs.Cuts.{cut, cut_at}
use Rattle.b_machine_grammar.specs.Grammar as grammar
use Rattle.b_stretches.specs.Stretches.{pieces, next_of}
use Rattle.b_read_parts.proofs.Forms as simple
use Rattle.b_read_parts.specs.Parts as spec
use Rattle.b_read_parts.proofs.simple.bracketed.Goals as goal

pub returns-then-is_bracketed : goal.returns-then-is_bracketed
returns-then-is_bracketed c = simple.in_brackets (pieces c.args.s) c.written.result (sym c.if-is_bracketed.ensures) c.written.ensures

pub returns-else-is_bracketed : goal.returns-else-is_bracketed
returns-else-is_bracketed c = simple.no_brackets (pieces c.args.s) c.stuck.result c.stuck.ensures (sym c.if-is_bracketed.ensures)
