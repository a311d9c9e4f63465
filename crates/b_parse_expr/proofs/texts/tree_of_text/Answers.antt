use Rattle.std.proofs.Common.{◌≡◌, ◌∙◌, List, length, subst}
use Rattle.b_grammar.specs.declared.Lexeme.{Lexeme}
use Rattle.b_parse_expr.specs.Parsing.{IsCheckedTree}
use Rattle.b_parse_expr.proofs.texts.tree_of_text.Goals as goal

pub returns-in-Ok : goal.returns-in-Ok
returns-in-Ok c =
    subst (λ (ls : List Lexeme). IsCheckedTree ls (length c.args.text.now) c.checked_tree.result) (c.as_slice.ensures.value ∙ c.in-Ok.ensures) c.checked_tree.ensures
