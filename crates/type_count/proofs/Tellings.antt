-- A type told within a budget.
use Rattle.std.proofs.Common.{◌≡◌, ◌≤◌, ◌<◌, ◌+◌, ◌-◌, ℕ, List, length, arith, refl, sym, ap, ◌∙◌, subst, Option, Some, None}
use Rattle.std.specs.Prelude.{Ok, Err}
use Rattle.b_values.specs.declared.types.Ty.{Ty}
use Rattle.b_values.specs.declared.types.Ty.TheVariants.{Pair, Set}
use Rattle.type_table.specs.declared.rows.Basic.{Basic}
use Rattle.type_table.specs.declared.rows.Row.{Row}
use Rattle.type_table.specs.declared.rows.Row.TheVariants as row
use Rattle.type_table.specs.Types.{type_nodes, basic_type}
use Rattle.type_table.specs.TypeLaws.{nodes-Set, nodes-Pair, nodes-basic, nodes_some}
use Rattle.type_table.specs.Tables.{row_at, EndsAt, Reads, basic_part, set_part, pair_part}
use Rattle.type_table.specs.TableLaws.{View, view, one_reading}
use Rattle.type_count.specs.declared.telling.Told.{Told}
use Rattle.type_count.specs.Typings.{never, IsReadable, TellsOf}
use Rattle.type_count.specs.Telling.{Tells}

pub told_zero : (rows : List Row) (i budget : ℕ) → budget ≡ 0 → Tells rows i budget (Ok None)
told_zero rows i budget e r = let n = nodes_some r.0 in let m = r.2 in absurd (omega arith)

module _ (rows : List Row) (i end budget : ℕ) (at : EndsAt rows i end) (some : 1 ≤ budget) where
  seen : (t : Ty) → Reads rows never i t → View rows never end t (row_at rows end)
  seen t r = view rows never end t (at.read never t r)

  pub tell_open : row_at rows end ≡ row.Open → Tells rows i budget (Ok None)
  tell_open e r = let v = subst (View rows never end r.0) e (seen r.0 r.1) in absurd cc

  pub tell_basic : (b : Basic) (told : Told) → row_at rows end ≡ row.Basic b → told.ty ≡ basic_type b → told.left ≡ budget - 1 → Tells rows i budget (Ok (Some told))
  tell_basic b told e f g = (
    subst (Reads rows never i) (sym f) (at.reads never (basic_type b) (basic_part b e)),
    (let n = ap type_nodes f in let m = nodes-basic b in omega arith),
  )

  pub tell_set_none : (j : ℕ) → row_at rows end ≡ row.Set j → Tells rows j (budget - 1) (Ok None) → Tells rows i budget (Ok None)
  tell_set_none j e f r =
      let v = subst (View rows never end r.0) e (seen r.0 r.1) in
      f (v.0, v.1, (let n = ap type_nodes v.2 in let m = nodes-Set v.0 in let k = r.2 in omega arith))

  pub tell_set : (j : ℕ) (inner told : Told) → row_at rows end ≡ row.Set j → Tells rows j (budget - 1) (Ok (Some inner)) → told.ty ≡ Set inner.ty → told.left ≡ inner.left → Tells rows i budget (Ok (Some told))
  tell_set j inner told e f g h = (
    subst (Reads rows never i) (sym g) (at.reads never (Set inner.ty) (set_part j inner.ty e f.0)),
    (let n = ap type_nodes g in let m = nodes-Set inner.ty in let k = f.1 in omega arith),
  )

  pub tell_first_none : (j k : ℕ) → row_at rows end ≡ row.Pair j k → Tells rows j (budget - 1) (Ok None) → Tells rows i budget (Ok None)
  tell_first_none j k e f r =
      let v = subst (View rows never end r.0) e (seen r.0 r.1) in
      f (v.0, v.2, (let n = ap type_nodes v.4 in let m = nodes-Pair v.0 v.1 in let k = r.2 in omega arith))

  pub tell_second_none : (j k : ℕ) (first : Told) → row_at rows end ≡ row.Pair j k → Tells rows j (budget - 1) (Ok (Some first)) → Tells rows k first.left (Ok None) → Tells rows i budget (Ok None)
  tell_second_none j k first e f g r =
      let v = subst (View rows never end r.0) e (seen r.0 r.1) in
      let same = one_reading rows never j v.0 first.ty v.2 f.0 in
      g (v.1, v.3, (let n = ap type_nodes v.4 in let m = nodes-Pair v.0 v.1 in let k = r.2 in let l = f.1 in let o = ap type_nodes same in omega arith))

  pub tell_pair : (j k : ℕ) (first second told : Told) → row_at rows end ≡ row.Pair j k → Tells rows j (budget - 1) (Ok (Some first)) → Tells rows k first.left (Ok (Some second)) → told.ty ≡ Pair first.ty second.ty → told.left ≡ second.left → Tells rows i budget (Ok (Some told))
  tell_pair j k first second told e f g h l = (
    subst (Reads rows never i) (sym h) (at.reads never (Pair first.ty second.ty) (pair_part j k first.ty second.ty e f.0 g.0)),
    (let n = ap type_nodes h in let m = nodes-Pair first.ty second.ty in let a = f.1 in let b = g.1 in omega arith),
  )

pub told_none : (rows : List Row) (i budget : ℕ) → Tells rows i budget (Ok None) → TellsOf rows i budget (Ok None)
told_none rows i budget f = f

pub told_some : (rows : List Row) (i budget : ℕ) (told : Told) → Tells rows i budget (Ok (Some told)) → TellsOf rows i budget (Ok (Some told.ty))
told_some rows i budget told f = (f.0, (let a = f.1 in omega arith))
