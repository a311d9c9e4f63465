use Rattle.std.proofs.Common.{◌+◌, ◌*◌, length}
use Rattle.b_read_expr.proofs.Exits.{PartsRead, LinksRead, AftersRead, ItemsRead}
use Rattle.b_read_expr.proofs.reading.+reading.Given as goal

-- more brackets may open, or a smaller part is read
abbrev pub decreases-list : goal.decreases-list
decreases-list l = 60 * l.depth + 16

abbrev pub decreases-links : goal.decreases-links
decreases-links l = 60 * l.depth + 15

abbrev pub decreases-formula : goal.decreases-formula
decreases-formula l = 60 * l.depth + 14

abbrev pub decreases-parts : goal.decreases-parts
decreases-parts l = 60 * l.depth + 13

abbrev pub decreases-operand : goal.decreases-operand
decreases-operand l = 60 * l.depth + 12

abbrev pub decreases-row : goal.decreases-row
decreases-row l = 60 * l.depth + 11

abbrev pub decreases-form : goal.decreases-form
decreases-form l = 60 * l.depth + 10

abbrev pub decreases-afters : goal.decreases-afters
decreases-afters l = 60 * l.depth + 9

abbrev pub decreases-after : goal.decreases-after
decreases-after l = 60 * l.depth + 8

abbrev pub decreases-marked : goal.decreases-marked
decreases-marked l = 60 * l.depth + 7

abbrev pub decreases-call : goal.decreases-call
decreases-call l = 60 * l.depth + 6

abbrev pub decreases-quantified : goal.decreases-quantified
decreases-quantified l = 60 * l.depth + 5

abbrev pub decreases-collected : goal.decreases-collected
decreases-collected l = 60 * l.depth + 5

abbrev pub decreases-conditional : goal.decreases-conditional
decreases-conditional l = 60 * l.depth + 5

abbrev pub decreases-curly : goal.decreases-curly
decreases-curly l = 60 * l.depth + 5

abbrev pub decreases-enclosed : goal.decreases-enclosed
decreases-enclosed l = 60 * l.depth + 4

abbrev pub decreases-listing : goal.decreases-listing
decreases-listing l = 60 * l.depth + 3

abbrev pub decreases-items : goal.decreases-items
decreases-items l = 60 * l.depth + 2

abbrev pub decreases-contents : goal.decreases-contents
decreases-contents l = 60 * l.depth + 1

abbrev pub invariant-parts-loop-operator : goal.invariant-parts-loop-operator
invariant-parts-loop-operator l = PartsRead l.depth l.levels l.lexemes l.all l.rest

abbrev pub decreases-parts-loop-operator : goal.decreases-parts-loop-operator
decreases-parts-loop-operator l = length l.rest

abbrev pub invariant-links-loop-at : goal.invariant-links-loop-at
invariant-links-loop-at l = LinksRead l.depth l.operator l.lexemes l.all l.rest

abbrev pub decreases-links-loop-at : goal.decreases-links-loop-at
decreases-links-loop-at l = length l.rest

abbrev pub invariant-afters-loop-opener : goal.invariant-afters-loop-opener
invariant-afters-loop-opener l = AftersRead l.depth l.lexemes l.all l.rest

abbrev pub decreases-afters-loop-opener : goal.decreases-afters-loop-opener
decreases-afters-loop-opener l = length l.rest

abbrev pub invariant-items-loop-after : goal.invariant-items-loop-after
invariant-items-loop-after l = ItemsRead l.depth l.lexemes l.all l.rest

abbrev pub decreases-items-loop-after : goal.decreases-items-loop-after
decreases-items-loop-after l = length l.rest
