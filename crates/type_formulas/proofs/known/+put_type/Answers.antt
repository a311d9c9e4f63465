use Rattle.type_table.specs.declared.rows.Basic.TheVariants as basic
use Rattle.type_formulas.proofs.Rows.{put_basic_row}
use Rattle.type_formulas.proofs.known.+put_type.Goals as goal

pub returns-in-Int : goal.returns-in-Int
returns-in-Int t c = put_basic_row c.args.rows.now.items c.put_basic.new.rows.items basic.Int c.args.ty.now c.put_basic.result c.requires.table c.in-Int.is c.put_basic.ensures.place c.put_basic.ensures.rows

pub returns-in-Truth : goal.returns-in-Truth
returns-in-Truth t c = put_basic_row c.args.rows.now.items c.put_basic-in-Truth.new.rows.items basic.Truth c.args.ty.now c.put_basic-in-Truth.result c.requires.table c.in-Truth.is c.put_basic-in-Truth.ensures.place c.put_basic-in-Truth.ensures.rows

pub returns-in-Text : goal.returns-in-Text
returns-in-Text t c = put_basic_row c.args.rows.now.items c.put_basic-in-Text.new.rows.items basic.Text c.args.ty.now c.put_basic-in-Text.result c.requires.table c.in-Text.is c.put_basic-in-Text.ensures.place c.put_basic-in-Text.ensures.rows

pub returns-in-Elem : goal.returns-in-Elem
returns-in-Elem t c = put_basic_row c.args.rows.now.items c.put_basic-in-Elem.new.rows.items _ c.args.ty.now c.put_basic-in-Elem.result c.requires.table c.in-Elem.is c.put_basic-in-Elem.ensures.place c.put_basic-in-Elem.ensures.rows
