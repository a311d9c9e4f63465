-- How the operators and words of formulas are spelled, and how tight operators bind.
use Rattle.std.specs.Prelude.{ℕ, List, codes}
use Rattle.b_ast.specs.declared.Operator.{Operator}
use Rattle.b_ast.specs.declared.Operator.TheVariants as operator
pub use Rattle.b_ast.specs.Priorities.{priority}
use Rattle.b_ast.specs.declared.Function.{Function}
use Rattle.b_ast.specs.declared.Function.TheVariants as function
use Rattle.b_ast.specs.declared.Constant.{Constant}
use Rattle.b_ast.specs.declared.Constant.TheVariants as constant
use Rattle.b_ast.specs.declared.Quantifier.{Quantifier}
use Rattle.b_ast.specs.declared.Quantifier.TheVariants as quantifier
use Rattle.b_ast.specs.declared.Collector.{Collector}
use Rattle.b_ast.specs.declared.Collector.TheVariants as collector

-- the sign or word of an operator
abbrev pub sign_of : Operator → List ℕ
sign_of operator.Power = codes "**"
sign_of operator.Times = codes "*"
sign_of operator.Divide = codes "/"
sign_of operator.Modulo = codes "mod"
sign_of operator.Plus = codes "+"
sign_of operator.Minus = codes "-"
sign_of operator.Interval = codes ".."
sign_of operator.Maplet = codes "|->"
sign_of operator.Union = codes "\\/"
sign_of operator.Intersection = codes "/\\"
sign_of operator.Concatenation = codes "^"
sign_of operator.Prepend = codes "->"
sign_of operator.Append = codes "<-"
sign_of operator.Take = codes "/|\\"
sign_of operator.Drop = codes "\\|/"
sign_of operator.DomainRestriction = codes "<|"
sign_of operator.RangeRestriction = codes "|>"
sign_of operator.DomainSubtraction = codes "<<|"
sign_of operator.RangeSubtraction = codes "|>>"
sign_of operator.Overriding = codes "<+"
sign_of operator.DirectProduct = codes "><"
sign_of operator.Relations = codes "<->"
sign_of operator.PartialFunctions = codes "+->"
sign_of operator.TotalFunctions = codes "-->"
sign_of operator.PartialInjections = codes ">+>"
sign_of operator.TotalInjections = codes ">->"
sign_of operator.PartialSurjections = codes "+->>"
sign_of operator.TotalSurjections = codes "-->>"
sign_of operator.TotalBijections = codes ">->>"
sign_of operator.Member = codes ":"
sign_of operator.NotMember = codes "/:"
sign_of operator.Subset = codes "<:"
sign_of operator.NotSubset = codes "/<:"
sign_of operator.StrictSubset = codes "<<:"
sign_of operator.NotStrictSubset = codes "/<<:"
sign_of operator.Equal = codes "="
sign_of operator.NotEqual = codes "/="
sign_of operator.Less = codes "<"
sign_of operator.Greater = codes ">"
sign_of operator.LessOrEqual = codes "<="
sign_of operator.GreaterOrEqual = codes ">="
sign_of operator.Equivalence = codes "<=>"
sign_of operator.And = codes "&"
sign_of operator.Or = codes "or"
sign_of operator.Implication = codes "=>"
sign_of operator.Composition = codes ";"
sign_of operator.ParallelProduct = codes "||"
sign_of operator.Comma = codes ","

-- the word of a function
abbrev pub function_word : Function → List ℕ
function_word function.Pow = codes "POW"
function_word function.Pow1 = codes "POW1"
function_word function.Fin = codes "FIN"
function_word function.Fin1 = codes "FIN1"
function_word function.Union = codes "union"
function_word function.Inter = codes "inter"
function_word function.Dom = codes "dom"
function_word function.Ran = codes "ran"
function_word function.Id = codes "id"
function_word function.Closure = codes "closure"
function_word function.Closure1 = codes "closure1"
function_word function.Card = codes "card"
function_word function.Min = codes "min"
function_word function.Max = codes "max"
function_word function.Succ = codes "succ"
function_word function.Pred = codes "pred"
function_word function.Seq = codes "seq"
function_word function.Seq1 = codes "seq1"
function_word function.Iseq = codes "iseq"
function_word function.Perm = codes "perm"
function_word function.Size = codes "size"
function_word function.First = codes "first"
function_word function.Last = codes "last"
function_word function.Front = codes "front"
function_word function.Tail = codes "tail"
function_word function.Rev = codes "rev"
function_word function.Conc = codes "conc"
function_word function.Bool = codes "bool"
function_word function.Not = codes "not"
function_word function.Prj1 = codes "prj1"
function_word function.Prj2 = codes "prj2"
function_word function.Iterate = codes "iterate"

-- a constant word
abbrev pub constant_word : Constant → List ℕ
constant_word constant.Integer = codes "INTEGER"
constant_word constant.Natural = codes "NATURAL"
constant_word constant.Natural1 = codes "NATURAL1"
constant_word constant.Int = codes "INT"
constant_word constant.Nat = codes "NAT"
constant_word constant.Nat1 = codes "NAT1"
constant_word constant.String = codes "STRING"
constant_word constant.Bool = codes "BOOL"
constant_word constant.True = codes "TRUE"
constant_word constant.False = codes "FALSE"
constant_word constant.MinInt = codes "MININT"
constant_word constant.MaxInt = codes "MAXINT"

-- the sign of a quantifier
abbrev pub quantifier_sign : Quantifier → List ℕ
quantifier_sign quantifier.Exists = codes "#"
quantifier_sign quantifier.ForAll = codes "!"

-- the sign or word of a collector
abbrev pub collector_word : Collector → List ℕ
collector_word collector.Lambda = codes "%"
collector_word collector.Sum = codes "SIGMA"
collector_word collector.Product = codes "PI"
collector_word collector.Union = codes "UNION"
collector_word collector.Inter = codes "INTER"

-- ---- how tight a neighbour binds: a tree that binds no tighter than its neighbour stands in brackets

-- directly inside brackets
abbrev pub inside : ℕ
inside = 0

-- a whole formula and the parts of IF: there `;` and `||` of relations need brackets
abbrev pub alone : ℕ
alone = 20

-- a minus before an operand
abbrev pub sign : ℕ
sign = 210

-- the forms after an operand
abbrev pub forms : ℕ
forms = 250
