use Rattle.std.proofs.Common.{◌≡◌, ◌≤◌, ◌<◌, ◌^◌, ◌∙◌, Bool, true, false, Some, None, drop, rules, arith, sym}
use Rattle.b_values.specs.Reading.{is_name}
use Rattle.b_values.proofs.ReadingSteps.{not_named, element_found, element_small, element_large}
use Rattle.b_values.proofs.reading.read_element.Goals as goal

pub returns-then-not-is_name : goal.returns-then-not-is_name
returns-then-not-is_name c =
    not_named c.args.sets.now c.args.set c.args.text.now c.args.at c.blanks_end-from.result c.name_end-to.result c.blanks_end-from.ensures.skipped c.name_end-to.ensures.past c.name_end-to.ensures.place
    (sym c.is_name.ensures ∙ (let f : c.is_name.result ≡ false = search rules in f))

pub returns-then-index : goal.returns-then-index
returns-then-index c =
    element_found c.args.sets.now c.args.set c.args.text.now c.args.at c.blanks_end-from.result c.name_end-to.result c.blanks_end-from.ensures.skipped c.name_end-to.ensures.past c.name_end-to.ensures.place (Some c.in-Some.index)
    (sym c.is_name.ensures ∙ (let f : c.is_name.result ≡ true = search rules in f)) c.in-Some.ensures
    ∙ element_large c.args.set c.in-Some.index _ (let h = c.if-index.true in omega arith)

pub returns-else-index : goal.returns-else-index
returns-else-index c =
    let first = c.blanks_end-from.ensures.place in
    let second = c.name_end-to.ensures.place in
    let on = first.0 in
    let later = second.0 in (
      element_found c.args.sets.now c.args.set c.args.text.now c.args.at c.blanks_end-from.result c.name_end-to.result c.blanks_end-from.ensures.skipped c.name_end-to.ensures.past c.name_end-to.ensures.place (Some c.in-Some.index)
          (sym c.is_name.ensures ∙ (let f : c.is_name.result ≡ true = search rules in f)) c.in-Some.ensures
          ∙ element_small c.args.set c.in-Some.index _ (let h = c.if-index.false in omega arith),
      (omega arith, second.1),
    )

pub returns-in-None : goal.returns-in-None
returns-in-None c =
    element_found c.args.sets.now c.args.set c.args.text.now c.args.at c.blanks_end-from.result c.name_end-to.result c.blanks_end-from.ensures.skipped c.name_end-to.ensures.past c.name_end-to.ensures.place None
    (sym c.is_name.ensures ∙ (let f : c.is_name.result ≡ true = search rules in f)) c.in-None.ensures
