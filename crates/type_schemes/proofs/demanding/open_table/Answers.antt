use Rattle.std.proofs.Common.{rules, ◌≡◌, replicate, sym, subst}
use Rattle.type_table.specs.declared.rows.Row.TheVariants as row
use Rattle.type_schemes.specs.Growing.{IsOpenTable}
use Rattle.type_schemes.proofs.Opening.{all_open}
use Rattle.type_schemes.proofs.demanding.open_table.Goals as goal

pub returns : goal.returns
returns c =
    let same : c.in_ok-rows.rows.items ≡ replicate c.args.parts row.Open = c.in_ok-rows.ensures.items_if_clones_equal (λ y h. search rules) in
    subst (IsOpenTable c.args.parts) (sym same) (all_open c.args.parts)
