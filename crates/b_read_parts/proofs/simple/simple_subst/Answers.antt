use Rattle.std.proofs.Common.{◌≡◌, ◌∙◌, [], ◌∷◌, Some, None, true, false, sym, ap, refl, arith}
use Rattle.std.proofs.lemmas.Result.{err_from_is_err_and}
use Rattle.b_machine_grammar.specs.declared.words.Word.TheVariants as word
use Rattle.b_machine_grammar.specs.declared.words.Separator.TheVariants as at
use Rattle.b_machine_grammar.specs.Cuts.{cut, cut_at}
use Rattle.b_machine_grammar.specs.Grammar as grammar
use Rattle.b_stretches.specs.Stretches.{pieces, next_of}
use Rattle.b_read_parts.proofs.Forms as simple
use Rattle.b_read_parts.specs.Parts as spec
use Rattle.b_read_parts.proofs.simple.simple_subst.Goals as goal

pub returns-in-None : goal.returns-in-None
returns-in-None c = simple.simple_none (pieces c.args.s) c.without_becoming.result (sym c.cut-split.ensures.1 ∙ ap next_of c.in-None.is) c.without_becoming.ensures

pub returns-in-Some : goal.returns-in-Some
returns-in-Some c = simple.simple_some (pieces c.args.s) c.writing.result (pieces c.cut-split.result.front) ((c.in-Some.word, c.in-Some.lexeme.now), pieces c.in-Some.back) c.cut-split.ensures.0 (sym c.cut-split.ensures.1 ∙ ap next_of c.in-Some.is) c.writing.ensures
