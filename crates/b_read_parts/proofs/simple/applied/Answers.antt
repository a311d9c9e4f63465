use Rattle.std.proofs.Common.{◌≡◌, ◌∙◌, [], ◌∷◌, Some, None, true, false, sym, ap, refl, arith}
use Rattle.std.proofs.lemmas.Result.{err_from_is_err_and}
use Rattle.b_machine_grammar.specs.declared.words.Word.TheVariants as word
use Rattle.b_machine_grammar.specs.declared.words.Separator.TheVariants as at
use Rattle.b_machine_grammar.specs.Cuts.{cut, cut_at}
use Rattle.b_machine_grammar.specs.Grammar as grammar
use Rattle.b_stretches.specs.Stretches.{pieces, next_of}
use Rattle.b_read_parts.proofs.Forms as simple
use Rattle.b_read_parts.specs.Parts as spec
use Rattle.b_read_parts.proofs.simple.applied.Goals as goal

pub returns-in_err-tree : goal.returns-in_err-tree
returns-in_err-tree c =
    let p = err_from_is_err_and c.from_residual.result c.from_residual.ensures.1 in
    rw (p.1, p.2) (simple.applied_unread (pieces c.args.s) c.in_err-tree.field-0.0 c.in_err-tree.ensures)

pub returns-in-Some : goal.returns-in-Some
returns-in-Some c = (c.in_ok-tree.tree, c.in_ok-tree.ensures, sym c.applied_in.ensures ∙ c.in-Some.is)

pub returns-in-None : goal.returns-in-None
returns-in-None c = simple.not_applied (pieces c.args.s) c.stuck.result c.in_ok-tree.tree c.stuck.ensures c.in_ok-tree.ensures (sym c.applied_in.ensures ∙ c.in-None.is)
