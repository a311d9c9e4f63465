-- Operators that may stand in a written chain may stand in a printed one, once commas are maplets.
use Rattle.std.proofs.Common.{◌≡◌, ◌≢◌, true, List, [], ◌∷◌, map, arith, refl, sym, ap}
use Rattle.std.specs.List.{AllByRecursion}
use Rattle.b_ast.specs.declared.Operator.{Operator}
use Rattle.b_ast.specs.declared.Operator.TheVariants as operator
use Rattle.b_grammar.specs.Grammar.{priority, may_chain}
use Rattle.b_expand.specs.Expansion.{expanded_operator}
use Rattle.b_reading_back.specs.Printable.{MayChain}
use Rattle.b_printable.specs.Written.{MayStand}

-- no comma is left
no_comma_left : (o : Operator) → expanded_operator o ≢ operator.Comma
no_comma_left operator.Comma e = absurd (cc)
no_comma_left o e = absurd (cc)

-- only a comma has no priority
no_priority : (o : Operator) → priority o ≡ 0 → o ≡ operator.Comma
no_priority operator.Comma e = refl
no_priority o e = absurd (omega arith)

-- an operator beside a comma of its priority is one
beside_comma : (q : Operator) → priority q ≡ 0 → priority (expanded_operator q) ≡ 160
beside_comma q e = ap (λ (o : Operator). priority (expanded_operator o)) (no_priority q e)

-- operators of one priority stay so
same_priority : (q o : Operator) → priority q ≡ priority o → priority (expanded_operator q) ≡ priority (expanded_operator o)
same_priority operator.Comma o k = sym (beside_comma o (sym k))
same_priority q operator.Comma k = beside_comma q k
same_priority q o k = k

-- of each beside the first
same_priorities : (o : Operator) (os : List Operator) → AllByRecursion (λ q. priority q ≡ priority o) os → AllByRecursion (λ q. priority q ≡ priority (expanded_operator o)) (map expanded_operator os)
same_priorities o [] h = tt
same_priorities o (q ∷ os) h = (same_priority q o h.0, same_priorities o os h.1)

-- two operators that may stand side by side
one_more : (o : Operator) (q : Operator) (os : List Operator) → may_chain (priority o) (o ∷ q ∷ os) ≡ true → may_chain (priority (expanded_operator o)) (expanded_operator o ∷ expanded_operator q ∷ map expanded_operator os) ≡ true
one_more operator.Comma q os h = refl
one_more o q os h = h

-- as many operators of the priority may stand
still_chains : (o : Operator) (os : List Operator) → may_chain (priority o) (o ∷ os) ≡ true → may_chain (priority (expanded_operator o)) (expanded_operator o ∷ map expanded_operator os) ≡ true
still_chains o [] h = refl
still_chains o (q ∷ os) h = one_more o q os h

-- the operators of a written chain, expanded, may stand in a printable one
pub may_chain_expanded : (os : List Operator) → MayStand os → MayChain (map expanded_operator os)
may_chain_expanded [] h = absurd h
may_chain_expanded (o ∷ os) h = (no_comma_left o, same_priorities o os h.0, still_chains o os h.1)
