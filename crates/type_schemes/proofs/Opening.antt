-- A table of open rows.
use Rattle.std.proofs.Common.{◌≡◌, ◌≤◌, ◌<◌, ◌⊎◌, ℕ, List, length, replicate, get_or, arith, refl, sym, ap, ◌∙◌, subst, inl, inr}
use Rattle.std.proofs.lemmas.Bool.{cases_lt}
use Rattle.std.proofs.lemmas.List.{length-replicate, get_or-replicate, get_or_past}
use Rattle.type_table.specs.declared.rows.Row.{Row}
use Rattle.type_table.specs.declared.rows.Row.TheVariants as row
use Rattle.type_table.specs.Types.{type_nodes}
use Rattle.type_table.specs.Tables.{Typing, Fits, row_at, Solves, IsRow, IsTable}
use Rattle.type_count.specs.Typings.{IsTyping}
use Rattle.type_schemes.specs.Growing.{IsOpenTable}

open_at : (parts i : ℕ) → row_at (replicate parts row.Open) i ≡ row.Open
open_at parts i = elim (cases_lt i parts) [
  | inl h ↦ get_or-replicate parts i row.Open row.Open h
  | inr h ↦ get_or_past (replicate parts row.Open) i row.Open (let n = length-replicate parts row.Open in omega arith)
]

open_rows : (parts : ℕ) → IsTable (replicate parts row.Open)
unfolding IsTable
open_rows parts i = subst (IsRow (length (replicate parts row.Open)) i) (sym (open_at parts i)) tt

open_solves : (parts : ℕ) (s : Typing) → Solves s (replicate parts row.Open)
unfolding Solves
open_solves parts s i = subst (Fits s (s i)) (sym (open_at parts i)) tt

pub all_open : (parts : ℕ) → IsOpenTable parts (replicate parts row.Open)
all_open parts = record {
  table = open_rows parts;
  count = length-replicate parts row.Open;
  any = λ limit s small. record { solves = open_solves parts s; small = λ i h. small i (let n = length-replicate parts row.Open in omega arith) };
}
