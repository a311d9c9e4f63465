use Rattle.std.proofs.Common.{◌∙◌, ap, sym, subst, false}
use Rattle.std.specs.Str.{IsUtf8}
use Rattle.b_lex.specs.Spelling.{unescape}
use Rattle.b_lex.proofs.Unescaped.{text_inside, text_utf8}
use Rattle.b_lex.proofs.values.text_value.Goals as goal

pub returns-clause-bytes : goal.returns-clause-bytes
returns-clause-bytes c = c.in_ok-found.ensures ∙ ap (unescape false) c.inside.ensures

pub returns-clause-value : goal.returns-clause-value
returns-clause-value c value text = c.in_ok-found.ensures ∙ ap (unescape false) c.inside.ensures ∙ text_inside c.args.spelling.now value text

pub returns-clause-utf8 : goal.returns-clause-utf8
returns-clause-utf8 c value text =
    subst IsUtf8 (sym (c.in_ok-found.ensures ∙ ap (unescape false) c.inside.ensures ∙ text_inside c.args.spelling.now value text)) (text_utf8 c.args.spelling.now value text)
