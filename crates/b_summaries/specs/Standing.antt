-- What the record of a text says: the table, what is told of its first definitions, and the parameters of the text.
use Rattle.std.specs.Prelude.{◌≡◌, ℕ, nat_lt, if◌then◌else◌, List, [], length, map, take, Option, Some, None, slice_get, option_map, option_and_then, Result, Ok, Err}
use Rattle.b_ast.specs.declared.Sort.{Sort}
use Rattle.b_ast.specs.declared.machine.Def.{Def}
use Rattle.b_ast.specs.declared.Formula.{Formula}
use Rattle.b_ast.specs.declared.FormulaText.{FormulaText}
use Rattle.b_ast.specs.declared.Link.{Link}
use Rattle.b_ast.specs.declared.After.{After}
use Rattle.std.specs.Option.{option_copied}
use Rattle.b_names.specs.declared.places.Index.{Index}
use Rattle.b_names.specs.declared.places.TableIndex.{TableIndex}
use Rattle.b_names.specs.Index.{IsIndexOfNames}
use Rattle.b_expand.specs.Standing as expand
use Rattle.b_expand.specs.Answers.{text_of}
use Rattle.b_expand.specs.Expansion.{all_of}
use Rattle.b_expand.specs.declared.faults.Unfit.{Unfit}
use Rattle.b_expand.specs.declared.faults.Unfit.TheVariants.{NotASentence, TooDeep, TooWide}
use Rattle.b_expand.specs.declared.faults.Unexpanded.{Unexpanded}
use Rattle.b_expand.specs.declared.faults.Unexpanded.TheVariants.{Refused, Memory}
use Rattle.b_summaries.specs.declared.summary.Facts.{Facts}
use Rattle.b_summaries.specs.declared.summary.Summary.{Summary}
use Rattle.b_summaries.specs.declared.summary.Told.{Told}
use Rattle.b_summaries.specs.declared.texts.Text.{Text}
use Rattle.b_summaries.specs.Making.{substituted}
use Rattle.b_summaries.specs.Summaries as summed
use Rattle.b_summaries.specs.Summaries.{Meaning, Meanings, Reading, Form, Side}

-- the index answers for every name as a search through the table does, and through the parameters of each definition
abbrev pub IsIndexed : List Def → TableIndex → Type 0
IsIndexed table index = expand.IsIndexed table index

-- the index is that of a text's parameters, and there is none without parameters
unfoldable pub ArePlaces : List (List ℕ) → Option Index → Type 0
ArePlaces params None = params ≡ []
ArePlaces params (Some index) = IsIndexOfNames params index

-- what a use of the definition at a place gives, which may use those before it
abbrev pub meaning_in : List Def → ℕ → Option Meaning
meaning_in table i = option_map (λ d. summed.meaning_of table (summed.meanings table (take i table)) d.params d.body) (slice_get table i)

-- what is told of a definition is what its meaning tells
unfoldable pub AreTold : List Def → List (Option Told) → Type 0
AreTold table known = (i : ℕ) (t : Option Told) → slice_get known i ≡ Some t → option_map (λ m. m.told) (meaning_in table i) ≡ Some t

-- the index and what is told are those of the table, and the places those of the parameters
pub record IsReady (t : Text) : Type 0 where
  pub indexed : IsIndexed t.table.now t.index.now
  pub told : AreTold t.table.now t.known.now
  pub places : ArePlaces t.params.now (option_copied t.places)

abbrev pub means_in : Text → Meanings
means_in t = summed.meanings t.table.now (take (length t.known.now) t.table.now)

abbrev pub meaning_at : Text → ℕ → Option Meaning
meaning_at t i = meaning_in t.table.now i

-- the place, where it is one of so many first ones
abbrev pub place_below : ℕ → Option ℕ → Option ℕ
place_below k o = option_and_then (λ i. if nat_lt i k then Some i else None) o

abbrev pub reading_in : Text → Formula → Reading
reading_in t = summed.reading t.table.now t.params.now (means_in t)

abbrev pub form_in : Text → After → Form
form_in t = summed.form_of t.table.now t.params.now (means_in t)

abbrev pub side_in : Text → Link → Side
side_in t = summed.side_of t.table.now t.params.now (means_in t)

abbrev pub summary_in : Text → Formula → Option Summary
summary_in t e = (reading_in t e).tree

-- the definition that the head of a row calls
abbrev pub called_in : Text → Formula → Option (ℕ × Meaning)
called_in t e = summed.called t.params.now (means_in t) (reading_in t e).name

abbrev pub row_in : Text → Formula → List After → Option Summary
row_in t e fs = summed.row (called_in t e) (reading_in t e) (map (form_in t) fs)

abbrev pub plain_row_in : Text → Formula → List After → Option Summary
plain_row_in t e fs = summed.plain_row (reading_in t e).tree (map (form_in t) fs)

abbrev pub arguments_in : Text → Formula → Option (List Summary)
arguments_in t e = all_of (reading_in t e).arguments

abbrev pub operands_in : Text → List Link → Option (List Summary)
operands_in t ls = all_of (map (λ l. l.operand) (map (side_in t) ls))

-- a use of a definition with its arguments
abbrev pub used_at : Option Meaning → ℕ → List Summary → Option Summary
used_at m depth us = option_and_then (λ m. option_and_then (λ t. substituted t depth us) m.told) m

abbrev pub used_in : Text → ℕ → ℕ → List Summary → Option Summary
used_in t i depth us = used_at (meaning_at t i) depth us

-- ---- verdicts

-- the sort of a tree within the limits
abbrev pub limited : ℕ → ℕ → Sort → Result Sort Unfit
limited depth nodes s = if nat_lt 100 depth then Err TooDeep else if nat_lt 1000000 nodes then Err TooWide else Ok s

abbrev pub depth_or_none : Option ℕ → ℕ
depth_or_none None = 0
depth_or_none (Some d) = d

-- the sort of the text that a tree is, or why it is none
abbrev pub verdict_of : Option Facts → Result Sort Unfit
verdict_of None = Err NotASentence
verdict_of (Some f) = limited (depth_or_none f.size.depth) f.size.nodes f.sort

-- the text that a tree of a sort is
abbrev pub text_by : Sort → Option Formula → Result FormulaText Unfit
text_by s None = Err NotASentence
text_by s (Some e) = Ok (text_of s e)

abbrev pub judged_by : Result Sort Unfit → Option Formula → Result FormulaText Unfit
judged_by (Err why) o = Err why
judged_by (Ok s) o = text_by s o

-- a text, unless memory ran out
abbrev pub IsNoRefusal : Result FormulaText Unexpanded → Type 0
IsNoRefusal (Ok f) = Unit {0}
IsNoRefusal (Err (Refused why at)) = ⊥
IsNoRefusal (Err Memory) = Unit {0}
