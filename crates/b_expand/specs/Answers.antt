-- The answer to the call that expands a formula.
use Rattle.std.specs.Prelude.{◌≡◌, nat_lt, if◌then◌else◌, List, Option, Some, None, Result, Ok, Err}
use Rattle.b_ast.specs.declared.Sort.{Sort}
use Rattle.b_ast.specs.declared.Sort.TheVariants as sort
use Rattle.b_ast.specs.declared.machine.Def.{Def}
use Rattle.b_ast.specs.declared.Formula.{Formula}
use Rattle.b_ast.specs.declared.FormulaText.{FormulaText}
use Rattle.b_ast.specs.declared.FormulaText.TheVariants as text
use Rattle.b_ast.specs.Sorts.{sort_of}
use Rattle.b_expand.specs.Places.{node_total, deepest}
use Rattle.b_expand.specs.Expansion.{expansion}
use Rattle.b_expand.specs.declared.faults.Unfit.{Unfit}
use Rattle.b_expand.specs.declared.faults.Unfit.TheVariants.{NotASentence, TooDeep, TooWide}
use Rattle.b_expand.specs.declared.faults.Unexpanded.{Unexpanded}
use Rattle.b_expand.specs.declared.faults.Unexpanded.TheVariants.{Refused, Memory}

-- an expression or a predicate, by its sort
abbrev pub text_of : Sort → Formula → FormulaText
text_of sort.Expression e = text.Expr (record { formula = e })
text_of sort.Predicate e = text.Pred (record { formula = e })
text_of sort.Implication e = text.Pred (record { formula = e })

-- a tree within the limits
abbrev pub limited : Formula → Sort → Result FormulaText Unfit
limited e s = if nat_lt 100 (deepest e) then Err TooDeep else if nat_lt 1000000 (node_total e) then Err TooWide else Ok (text_of s e)

abbrev pub sorted_text : Formula → Option Sort → Result FormulaText Unfit
sorted_text e None = Err NotASentence
sorted_text e (Some s) = limited e s

-- the text that the expanded tree is, or why it is none
abbrev pub judged : Option Formula → Result FormulaText Unfit
judged None = Err NotASentence
judged (Some e) = sorted_text e (sort_of e)

-- the answer is that of the expanded tree; want of memory is free, and so is the place of a refusal
abbrev pub Answers : Result FormulaText Unfit → Result FormulaText Unexpanded → Type 0
Answers wanted (Ok t) = wanted ≡ Ok t
Answers wanted (Err (Refused why at)) = wanted ≡ Err why
Answers wanted (Err Memory) = Unit {0}

abbrev pub AnswersFormula : List Def → Formula → Result FormulaText Unexpanded → Type 0
AnswersFormula ds t result = Answers (judged (expansion ds t)) result
