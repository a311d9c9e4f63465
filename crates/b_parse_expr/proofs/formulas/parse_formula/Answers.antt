use Rattle.std.proofs.Common.{◌∷◌, Option, Err, subst}
use Rattle.b_ast.specs.declared.Formula.{Formula}
use Rattle.b_definitions.specs.declared.arranging.Disorder.{Disorder}
use Rattle.b_definitions.specs.Arranging.{IsInCircle, Arranges}
use Rattle.b_parse_expr.specs.Verdicts.{ParsesBy}
use Rattle.b_parse_expr.proofs.formulas.parse_formula.Goals as goal

-- the arranged table means the same
pub returns-in-Ok-clause-parses : goal.returns-in-Ok-clause-parses
returns-in-Ok-clause-parses c h =
    subst (λ (stands : Formula → Option Formula). ParsesBy stands c.args.text.now c.args.tokens.now c.parse_formula_in_order.result) (λ i t. c.in-Ok.ensures.means t i) c.parse_formula_in_order.ensures

pub returns-in-Ok-clause-circle : goal.returns-in-Ok-clause-circle
returns-in-Ok-clause-circle c h = absurd (c.in-Ok.ensures.exact h)

-- a definition in a circle
pub returns-in-Err-Circle-clause-parses : goal.returns-in-Err-Circle-clause-parses
returns-in-Err-Circle-clause-parses c n =
    let h : IsInCircle c.args.defs.defs c.in-Err-Circle.field-0-0 = subst (λ (d : Disorder). Arranges c.args.defs.defs (Err d)) c.in-Err-Circle.field-0-is c.in-Err-Circle.ensures.arranges in
    absurd (n (c.in-Err-Circle.field-0-0 ∷ h.0, h.1))
