-- Induction over substitutions, layer by layer.
use Rattle.std.proofs.Common.{List, [], ◌∷◌, map, subst, Option, Some, None}
use Rattle.std.specs.List.{AllByRecursion}
use Rattle.b_ast.specs.declared.machine.Subst.{Subst, roll-Subst, map-Subst, ind-Subst}
use Rattle.b_ast.specs.declared.machine.Subst.TheOpen.{Subst-F, Branch-F, CaseBranch-F, Step-F}
use Rattle.b_ast.specs.declared.machine.Branch.{Branch, roll-Branch, map-Branch}
use Rattle.b_ast.specs.declared.machine.CaseBranch.{CaseBranch, roll-CaseBranch, map-CaseBranch}
use Rattle.b_ast.specs.declared.machine.Step.{Step, roll-Step, map-Step}

-- of a part that may be absent
abbrev pub Perhaps : {X : Type 0} → (X → Type 0) → Option X → Type 0
Perhaps P None = Unit {0}
Perhaps P (Some x) = P x

module _ (PB : Branch → Type 0) (PC : CaseBranch → Type 0) (PK : Step → Type 0) (PS : Subst → Type 0) where
  -- of each part right below
  abbrev pub BelowBranch : Branch-F Subst Branch CaseBranch Step → Type 0
  BelowBranch b = PS b.body

  abbrev pub BelowCase : CaseBranch-F Subst Branch CaseBranch Step → Type 0
  BelowCase b = PS b.body

  abbrev pub BelowStep : Step-F Subst Branch CaseBranch Step → Type 0
  BelowStep k = PS k.body

  abbrev pub Below : Subst-F Subst Branch CaseBranch Step → Type 0
  Below (Subst-F.Block at r) = PS r
  Below (Subst-F.Guarded at g p r) = PS r
  Below (Subst-F.If at bs o) = AllByRecursion PB bs × Perhaps PS o
  Below (Subst-F.Select at bs o) = AllByRecursion PB bs × Perhaps PS o
  Below (Subst-F.Choice at rs) = AllByRecursion PS rs
  Below (Subst-F.Case at e bs o) = AllByRecursion PC bs × Perhaps PS o
  Below (Subst-F.Any at xs p r) = PS r
  Below (Subst-F.Let at xs es r) = PS r
  Below (Subst-F.Chain r ks) = PS r × AllByRecursion PK ks
  Below x = Unit {0}

  abbrev B' : Type 0
  B' = (v : Branch) × PB v

  abbrev C' : Type 0
  C' = (v : CaseBranch) × PC v

  abbrev K' : Type 0
  K' = (v : Step) × PK v

  abbrev S' : Type 0
  S' = (v : Subst) × PS v

  each_of : {X : Type 0} (P : X → Type 0) (es : List ((v : X) × P v)) → AllByRecursion P (map (λ (e : (v : X) × P v). e.0) es)
  each_of P [] = tt
  each_of P (e ∷ es) = (e.1, each_of P es)

  below_branch : (y : Branch-F S' B' C' K') → BelowBranch (map-Branch S' B' C' K' Subst Branch CaseBranch Step (λ e. e.0) (λ e. e.0) (λ e. e.0) (λ e. e.0) y)
  below_branch b = b.body.1

  below_case : (y : CaseBranch-F S' B' C' K') → BelowCase (map-CaseBranch S' B' C' K' Subst Branch CaseBranch Step (λ e. e.0) (λ e. e.0) (λ e. e.0) (λ e. e.0) y)
  below_case b = b.body.1

  below_step : (y : Step-F S' B' C' K') → BelowStep (map-Step S' B' C' K' Subst Branch CaseBranch Step (λ e. e.0) (λ e. e.0) (λ e. e.0) (λ e. e.0) y)
  below_step k = k.body.1

  below_of : (y : Subst-F S' B' C' K') → Below (map-Subst S' B' C' K' Subst Branch CaseBranch Step (λ e. e.0) (λ e. e.0) (λ e. e.0) (λ e. e.0) y)
  below_of (Subst-F.Block at r) = r.1
  below_of (Subst-F.Guarded at g p r) = r.1
  below_of (Subst-F.If at bs None) = (each_of PB bs, tt)
  below_of (Subst-F.If at bs (Some r)) = (each_of PB bs, r.1)
  below_of (Subst-F.Select at bs None) = (each_of PB bs, tt)
  below_of (Subst-F.Select at bs (Some r)) = (each_of PB bs, r.1)
  below_of (Subst-F.Choice at rs) = each_of PS rs
  below_of (Subst-F.Case at e bs None) = (each_of PC bs, tt)
  below_of (Subst-F.Case at e bs (Some r)) = (each_of PC bs, r.1)
  below_of (Subst-F.Any at xs p r) = r.1
  below_of (Subst-F.Let at xs es r) = r.1
  below_of (Subst-F.Chain r ks) = (r.1, each_of PK ks)
  below_of x = tt

  -- what holds of a layer whose parts have it holds of every substitution
  pub by_layers : ((x : Branch-F Subst Branch CaseBranch Step) → BelowBranch x → PB (roll-Branch x)) → ((x : CaseBranch-F Subst Branch CaseBranch Step) → BelowCase x → PC (roll-CaseBranch x))
      → ((x : Step-F Subst Branch CaseBranch Step) → BelowStep x → PK (roll-Step x)) → ((x : Subst-F Subst Branch CaseBranch Step) → Below x → PS (roll-Subst x)) → (u : Subst) → PS u
  by_layers on_branch on_case on_step on_subst =
      ind-Subst PS PB PC PK
      (λ x y is. on_subst x (subst Below is (below_of y)))
      (λ x y is. on_branch x (subst BelowBranch is (below_branch y)))
      (λ x y is. on_case x (subst BelowCase is (below_case y)))
      (λ x y is. on_step x (subst BelowStep is (below_step y)))
