-- What an expression mentions: variables of a binder, and words for sets without an end.
use Rattle.std.specs.Prelude.{ℕ, ◌+◌, ◌-◌, max, nat_lt, Bool, true, false, ◌||◌, if◌then◌else◌, List, [], ◌∷◌}
use Rattle.b_ranges.specs.declared.sides.Side.{Side}
use Rattle.b_ranges.specs.declared.sides.Slots.{Slots}
use Rattle.b_tree.specs.declared.Binder.{Binder, fold-Binder}
use Rattle.b_tree.specs.declared.Clause.{Clause, fold-Clause}
use Rattle.b_tree.specs.declared.Collection.{Collection, fold-Collection}
use Rattle.b_tree.specs.declared.ExprTree.{ExprTree, fold-ExprTree}
use Rattle.b_tree.specs.declared.ExprTree.TheOpen.{ExprTree-F, Link-F, Plan-F, PredTree-F, Binder-F, Clause-F, Collection-F, Power-F, Sides-F, Universal-F, Variable-F}
use Rattle.b_tree.specs.declared.Link.{Link, fold-Link}
use Rattle.b_tree.specs.declared.Power.{Power, fold-Power}
use Rattle.b_tree.specs.declared.PredTree.{PredTree, fold-PredTree}
use Rattle.b_tree.specs.declared.Sides.{Sides, fold-Sides}
use Rattle.b_tree.specs.declared.Universal.{Universal, fold-Universal}
use Rattle.b_tree.specs.declared.operators.BinaryOperator.{BinaryOperator}
use Rattle.b_tree.specs.declared.operators.BinaryOperator.TheVariants as binary
use Rattle.b_tree.specs.declared.operators.Family.{Family}
use Rattle.b_tree.specs.declared.operators.Family.TheVariants as family
use Rattle.b_tree.specs.declared.operators.Word.{Word}
use Rattle.b_tree.specs.declared.operators.Word.TheVariants as word

abbrev pub nothing : Side
nothing = record { needs = 0; endless = false; strings = false }

-- what two parts mention
abbrev pub both : Side → Side → Side
both a b = record { needs = max a.needs b.needs; endless = a.endless || b.endless; strings = a.strings || b.strings }

abbrev pub all_of : Side → List Side → Side
all_of a [] = a
all_of a (b ∷ bs) = all_of (both a b) bs

-- words in brackets of application, image, comprehension or bool don't count
abbrev pub shielded : Side → Side
shielded a = record { needs = a.needs; endless = false; strings = false }

-- how many variables must have values: a variable's slot needs it and those before it
abbrev pub needs : Slots → ℕ → ℕ
needs s i = if nat_lt i s.base then 0 else if nat_lt (i - s.base) s.count then i - s.base + 1 else 0

abbrev pub slot_side : Slots → ℕ → Side
slot_side s i = record { needs = needs s i; endless = false; strings = false }

-- a set without an end
abbrev pub endless : Side
endless = record { needs = 0; endless = true; strings = false }

abbrev pub word_side : Word → Side
word_side word.Integer = endless
word_side word.Natural = endless
word_side word.Natural1 = endless
word_side word.String = record { needs = 0; endless = true; strings = true }
word_side word.Bool = nothing

abbrev pub family_side : Family → Side
family_side family.Sequences = endless
family_side family.NonemptySequences = endless
family_side f = nothing

-- the right operand of application and image stands in their brackets
abbrev pub operand_side : BinaryOperator → Side → Side
operand_side binary.Apply a = shielded a
operand_side binary.Image a = shielded a
operand_side op a = a

module _ (slots : Slots) where
  abbrev pub expr_step : ExprTree-F Side Side Side Side Side Side Side Side Side Side Side → Side
  expr_step (ExprTree-F.Number n) = nothing
  expr_step (ExprTree-F.Truth b) = nothing
  expr_step (ExprTree-F.Text s) = nothing
  expr_step (ExprTree-F.Element set i) = nothing
  expr_step (ExprTree-F.Slot i) = slot_side slots i
  expr_step (ExprTree-F.Given p set size) = nothing
  expr_step (ExprTree-F.Word p w) = word_side w
  expr_step (ExprTree-F.Unary op p a) = a
  expr_step (ExprTree-F.ExprTree::Chain a links) = all_of a links
  expr_step (ExprTree-F.Powers ps a) = all_of a ps
  expr_step (ExprTree-F.Over f p a) = both (family_side f) a
  expr_step (ExprTree-F.Between op p s) = s
  expr_step (ExprTree-F.Set p es) = all_of nothing es
  expr_step (ExprTree-F.Sequence p es) = all_of nothing es
  expr_step (ExprTree-F.Bool p) = shielded p
  expr_step (ExprTree-F.If p a b) = both p (both a b)
  expr_step (ExprTree-F.Comprehension p b) = shielded b
  expr_step (ExprTree-F.Collected c p k) = k

  abbrev pub link_step : Link-F Side Side Side Side Side Side Side Side Side Side Side → Side
  link_step (Link-F.After op p) = nothing
  link_step (Link-F.With op p e) = operand_side op e

  -- ranges are made of a binder's predicate, and mention nothing besides
  abbrev pub plan_step : Plan-F Side Side Side Side Side Side Side Side Side Side Side → Side
  plan_step p = nothing

  abbrev pub pred_step : PredTree-F Side Side Side Side Side Side Side Side Side Side Side → Side
  pred_step PredTree-F.True = nothing
  pred_step (PredTree-F.Compare op a b) = both a b
  pred_step (PredTree-F.Member op a b) = both a b
  pred_step (PredTree-F.PredTree::Chain p cs) = all_of p cs
  pred_step (PredTree-F.Not p) = p
  pred_step (PredTree-F.Exists b) = b
  pred_step (PredTree-F.ForAll u) = u

  abbrev pub binder_step : Binder-F Side Side Side Side Side Side Side Side Side Side Side → Side
  binder_step b = b.predicate

  abbrev pub clause_step : Clause-F Side Side Side Side Side Side Side Side Side Side Side → Side
  clause_step c = c.predicate

  abbrev pub collection_step : Collection-F Side Side Side Side Side Side Side Side Side Side Side → Side
  collection_step k = both k.binder k.value

  abbrev pub power_step : Power-F Side Side Side Side Side Side Side Side Side Side Side → Side
  power_step p = p.base

  abbrev pub sides_step : Sides-F Side Side Side Side Side Side Side Side Side Side Side → Side
  sides_step s = both s.left s.right

  abbrev pub universal_step : Universal-F Side Side Side Side Side Side Side Side Side Side Side → Side
  universal_step u = both u.binder u.consequent

  abbrev pub variable_step : Variable-F Side Side Side Side Side Side Side Side Side Side Side → Side
  variable_step v = nothing

  -- what an expression mentions
  abbrev pub side_of : ExprTree → Side
  side_of = fold-ExprTree Side Side Side Side Side Side Side Side Side Side Side expr_step link_step plan_step pred_step binder_step clause_step collection_step power_step sides_step universal_step variable_step

  abbrev pub link_of : Link → Side
  link_of = fold-Link Side Side Side Side Side Side Side Side Side Side Side expr_step link_step plan_step pred_step binder_step clause_step collection_step power_step sides_step universal_step variable_step

  abbrev pub pred_of : PredTree → Side
  pred_of = fold-PredTree Side Side Side Side Side Side Side Side Side Side Side expr_step link_step plan_step pred_step binder_step clause_step collection_step power_step sides_step universal_step variable_step

  abbrev pub binder_of : Binder → Side
  binder_of = fold-Binder Side Side Side Side Side Side Side Side Side Side Side expr_step link_step plan_step pred_step binder_step clause_step collection_step power_step sides_step universal_step variable_step

  abbrev pub clause_of : Clause → Side
  clause_of = fold-Clause Side Side Side Side Side Side Side Side Side Side Side expr_step link_step plan_step pred_step binder_step clause_step collection_step power_step sides_step universal_step variable_step

  abbrev pub collection_of : Collection → Side
  collection_of = fold-Collection Side Side Side Side Side Side Side Side Side Side Side expr_step link_step plan_step pred_step binder_step clause_step collection_step power_step sides_step universal_step variable_step

  abbrev pub power_of : Power → Side
  power_of = fold-Power Side Side Side Side Side Side Side Side Side Side Side expr_step link_step plan_step pred_step binder_step clause_step collection_step power_step sides_step universal_step variable_step

  abbrev pub sides_of : Sides → Side
  sides_of = fold-Sides Side Side Side Side Side Side Side Side Side Side Side expr_step link_step plan_step pred_step binder_step clause_step collection_step power_step sides_step universal_step variable_step

  abbrev pub universal_of : Universal → Side
  universal_of = fold-Universal Side Side Side Side Side Side Side Side Side Side Side expr_step link_step plan_step pred_step binder_step clause_step collection_step power_step sides_step universal_step variable_step
