use Rattle.std.proofs.Common.{rules, ◌≡◌, ◌<◌, ◌≤◌, length, take, drop, arith, sym, ap, ◌∙◌, subst}
use Rattle.std.proofs.lemmas.List.{take_at}
use Rattle.type_table.specs.Tables.{IsTable}
use Rattle.type_formulas.proofs.Rows.{known_one}
use Rattle.type_formulas.proofs.known.know.Goals as goal

pub unify-requires-clause-table : goal.unify-requires-clause-table
unify-requires-clause-table c = subst IsTable (sym c.as_mut_slice.ensures.value) c.in_ok-part.ensures.table

pub unify-requires-clause-first : goal.unify-requires-clause-first
unify-requires-clause-first c = subst (λ l. c.args.i < length l) (sym c.as_mut_slice.ensures.value) (let a = c.requires.inside in let b = c.in_ok-part.ensures.longer in omega arith)

pub unify-requires-clause-second : goal.unify-requires-clause-second
unify-requires-clause-second c = subst (λ l. c.in_ok-part.part < length l) (sym c.as_mut_slice.ensures.value) c.in_ok-part.ensures.inside

pub returns : goal.returns
returns c =
    let slice : c.as_mut_slice.result.now ≡ c.put_type.new.rows.items = c.as_mut_slice.ensures.value in
    let len : c.put_type.new.rows.len ≡ length c.put_type.new.rows.items = search rules in
    let kept : length c.unify.new.rows ≡ length c.as_mut_slice.result.now = c.unify.auto.rows in
    let front = take_at c.unify.new.rows (drop (length c.unify.new.rows) c.put_type.new.rows.items) c.put_type.new.rows.len (kept ∙ ap length slice ∙ sym len) in
    known_one c.args.rows.now.items c.put_type.new.rows.items c.as_mut_slice.result.now c.unify.new.rows _ c.args.ty.now c.in_ok-part.part c.args.i c.unify.result c.requires.inside c.in_ok-part.ensures slice front c.unify.ensures
