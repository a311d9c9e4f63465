use Rattle.std.proofs.Common.{◌≡◌, ◌∙◌, [], ◌∷◌, Some, None, true, false, sym, ap, refl, arith}
use Rattle.std.proofs.lemmas.Result.{err_from_is_err_and}
use Rattle.b_machine_grammar.specs.declared.words.Word.TheVariants as word
use Rattle.b_machine_grammar.specs.declared.words.Separator.TheVariants as at
use Rattle.b_machine_grammar.specs.Cuts.{cut, cut_at}
use Rattle.b_machine_grammar.specs.Grammar as grammar
use Rattle.b_stretches.specs.Stretches.{pieces, next_of}
use Rattle.b_read_parts.proofs.Forms as simple
use Rattle.b_read_parts.specs.Parts as spec
use Rattle.b_read_parts.proofs.simple.writing.Goals as goal

pub returns-then-is_applied : goal.returns-then-is_applied
returns-then-is_applied c = simple.writes_at (pieces c.args.front) (pieces c.args.back) c.args.word c.args.at c.update.result c.in-Becomes.is (sym c.if-is_applied.ensures) c.update.ensures

pub returns-else-is_applied : goal.returns-else-is_applied
returns-else-is_applied c = simple.writes_to (pieces c.args.front) (pieces c.args.back) c.args.word c.args.at c.assignment.result c.in-Becomes.is (sym c.if-is_applied.ensures) c.assignment.ensures

pub returns-in_default : goal.returns-in_default
returns-in_default c = simple.writes_else (pieces c.args.front) (pieces c.args.back) c.args.word c.args.at c.choice_from.result c.in_default.not-Becomes c.choice_from.ensures
