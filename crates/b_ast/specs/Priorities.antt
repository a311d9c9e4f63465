-- The table of priorities.
use Rattle.std.specs.Prelude.{ℕ}
use Rattle.b_ast.specs.declared.Operator.{Operator}
use Rattle.b_ast.specs.declared.Operator.TheVariants as operator

-- how tightly an operator binds: a higher number binds tighter
abbrev pub priority : Operator → ℕ
-- 200: **
priority operator.Power = 200
-- 190: * / mod
priority operator.Times = 190
priority operator.Divide = 190
priority operator.Modulo = 190
-- 180: + -
priority operator.Plus = 180
priority operator.Minus = 180
-- 170: ..
priority operator.Interval = 170
-- 160: |-> \/ /\ ^ -> <- /|\ \|/ <| |> <<| |>> <+ ><
priority operator.Maplet = 160
priority operator.Union = 160
priority operator.Intersection = 160
priority operator.Concatenation = 160
priority operator.Prepend = 160
priority operator.Append = 160
priority operator.Take = 160
priority operator.Drop = 160
priority operator.DomainRestriction = 160
priority operator.RangeRestriction = 160
priority operator.DomainSubtraction = 160
priority operator.RangeSubtraction = 160
priority operator.Overriding = 160
priority operator.DirectProduct = 160
-- 125: <-> +-> --> >+> >-> +->> -->> >->>
priority operator.Relations = 125
priority operator.PartialFunctions = 125
priority operator.TotalFunctions = 125
priority operator.PartialInjections = 125
priority operator.TotalInjections = 125
priority operator.PartialSurjections = 125
priority operator.TotalSurjections = 125
priority operator.TotalBijections = 125
-- 60: : /: <: /<: <<: /<<: = /= < > <= >=
priority operator.Member = 60
priority operator.NotMember = 60
priority operator.Subset = 60
priority operator.NotSubset = 60
priority operator.StrictSubset = 60
priority operator.NotStrictSubset = 60
priority operator.Equal = 60
priority operator.NotEqual = 60
priority operator.Less = 60
priority operator.Greater = 60
priority operator.LessOrEqual = 60
priority operator.GreaterOrEqual = 60
-- 50: <=>
priority operator.Equivalence = 50
-- 40: & or
priority operator.And = 40
priority operator.Or = 40
-- 30: =>
priority operator.Implication = 30
-- 20: ; ||
priority operator.Composition = 20
priority operator.ParallelProduct = 20
-- a comma is no operator of a text
priority operator.Comma = 0
