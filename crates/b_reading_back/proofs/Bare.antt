-- What a tree is apart from places.
use Rattle.std.proofs.Common.{◌≡◌, ℕ, List, map, sym, ap, ◌∙◌}
use Rattle.b_ast.specs.declared.Place.{Place}
use Rattle.b_ast.specs.declared.Bound.{Bound}
use Rattle.b_ast.specs.declared.Constant.{Constant}
use Rattle.b_ast.specs.declared.Function.{Function}
use Rattle.b_ast.specs.declared.Quantifier.{Quantifier}
use Rattle.b_ast.specs.declared.Collector.{Collector}
use Rattle.b_ast.specs.declared.Operator.{Operator}
use Rattle.b_ast.specs.declared.Formula.{Formula, fold-roll-Formula}
use Rattle.b_ast.specs.declared.Formula.TheVariants as formula
use Rattle.b_ast.specs.declared.Link.{Link, roll-Link, fold-roll-Link}
use Rattle.b_ast.specs.declared.After.{After, fold-roll-After}
use Rattle.b_ast.specs.declared.After.TheVariants as after
use Rattle.b_ast.specs.declared.After.TheOpen.{Formula-F, After-F}
use Rattle.b_grammar.specs.Grammar.{Part, link}
use Rattle.b_reading_back.specs.Places.{nowhere, bare, bare_link, bare_after, bare_bounds, after_step, link_step, formula_step}

pub bare-Number : (at : Place) (n : ℕ) → bare (formula.Number at n) ≡ formula.Number nowhere n
bare-Number at n = ap bare (sym (formula.rolls-Number at n)) ∙ fold-roll-Formula After Formula Link after_step formula_step link_step (Formula-F.Number at n)

pub bare-Text : (at : Place) (s : List ℕ) → bare (formula.Text at s) ≡ formula.Text nowhere s
bare-Text at s = ap bare (sym (formula.rolls-Text at s)) ∙ fold-roll-Formula After Formula Link after_step formula_step link_step (Formula-F.Text at s)

pub bare-Name : (at : Place) (s : List ℕ) → bare (formula.Name at s) ≡ formula.Name nowhere s
bare-Name at s = ap bare (sym (formula.rolls-Name at s)) ∙ fold-roll-Formula After Formula Link after_step formula_step link_step (Formula-F.Name at s)

pub bare-Old : (at : Place) (s : List ℕ) → bare (formula.Old at s) ≡ formula.Old nowhere s
bare-Old at s = ap bare (sym (formula.rolls-Old at s)) ∙ fold-roll-Formula After Formula Link after_step formula_step link_step (Formula-F.Old at s)

pub bare-Constant : (at : Place) (c : Constant) → bare (formula.Constant at c) ≡ formula.Constant nowhere c
bare-Constant at c = ap bare (sym (formula.rolls-Constant at c)) ∙ fold-roll-Formula After Formula Link after_step formula_step link_step (Formula-F.Constant at c)

pub bare-Negative : (at : Place) (e : Formula) → bare (formula.Negative at e) ≡ formula.Negative nowhere (bare e)
bare-Negative at e = ap bare (sym (formula.rolls-Negative at e)) ∙ fold-roll-Formula After Formula Link after_step formula_step link_step (Formula-F.Negative at e)

pub bare-Chain : (e : Formula) (ls : List Link) → bare (formula.Chain e ls) ≡ formula.Chain (bare e) (map bare_link ls)
bare-Chain e ls = ap bare (sym (formula.rolls-Chain e ls)) ∙ fold-roll-Formula After Formula Link after_step formula_step link_step (Formula-F.Chain e ls)

pub bare-Row : (e : Formula) (fs : List After) → bare (formula.Row e fs) ≡ formula.Row (bare e) (map bare_after fs)
bare-Row e fs = ap bare (sym (formula.rolls-Row e fs)) ∙ fold-roll-Formula After Formula Link after_step formula_step link_step (Formula-F.Row e fs)

pub bare-Call : (at : Place) (f : Function) (us : List Formula) → bare (formula.Call at f us) ≡ formula.Call nowhere f (map bare us)
bare-Call at f us = ap bare (sym (formula.rolls-Call at f us)) ∙ fold-roll-Formula After Formula Link after_step formula_step link_step (Formula-F.Call at f us)

pub bare-Set : (at : Place) (us : List Formula) → bare (formula.Set at us) ≡ formula.Set nowhere (map bare us)
bare-Set at us = ap bare (sym (formula.rolls-Set at us)) ∙ fold-roll-Formula After Formula Link after_step formula_step link_step (Formula-F.Set at us)

pub bare-Sequence : (at : Place) (us : List Formula) → bare (formula.Sequence at us) ≡ formula.Sequence nowhere (map bare us)
bare-Sequence at us = ap bare (sym (formula.rolls-Sequence at us)) ∙ fold-roll-Formula After Formula Link after_step formula_step link_step (Formula-F.Sequence at us)

pub bare-Comprehension : (at : Place) (ns : List Bound) (p : Formula) → bare (formula.Comprehension at ns p) ≡ formula.Comprehension nowhere (bare_bounds ns) (bare p)
bare-Comprehension at ns p = ap bare (sym (formula.rolls-Comprehension at ns p)) ∙ fold-roll-Formula After Formula Link after_step formula_step link_step (Formula-F.Comprehension at ns p)

pub bare-Quantified : (at : Place) (q : Quantifier) (ns : List Bound) (p : Formula) → bare (formula.Quantified at q ns p) ≡ formula.Quantified nowhere q (bare_bounds ns) (bare p)
bare-Quantified at q ns p = ap bare (sym (formula.rolls-Quantified at q ns p)) ∙ fold-roll-Formula After Formula Link after_step formula_step link_step (Formula-F.Quantified at q ns p)

pub bare-Collected : (at : Place) (c : Collector) (ns : List Bound) (p e : Formula) → bare (formula.Collected at c ns p e) ≡ formula.Collected nowhere c (bare_bounds ns) (bare p) (bare e)
bare-Collected at c ns p e = ap bare (sym (formula.rolls-Collected at c ns p e)) ∙ fold-roll-Formula After Formula Link after_step formula_step link_step (Formula-F.Collected at c ns p e)

pub bare-If : (at : Place) (p e f : Formula) → bare (formula.If at p e f) ≡ formula.If nowhere (bare p) (bare e) (bare f)
bare-If at p e f = ap bare (sym (formula.rolls-If at p e f)) ∙ fold-roll-Formula After Formula Link after_step formula_step link_step (Formula-F.If at p e f)

pub bare-Converse : (at : Place) → bare_after (after.Converse at) ≡ after.Converse nowhere
bare-Converse at = ap bare_after (sym (after.rolls-Converse at)) ∙ fold-roll-After After Formula Link after_step formula_step link_step (After-F.Converse at)

pub bare-Apply : (at : Place) (e : Formula) → bare_after (after.Apply at e) ≡ after.Apply nowhere (bare e)
bare-Apply at e = ap bare_after (sym (after.rolls-Apply at e)) ∙ fold-roll-After After Formula Link after_step formula_step link_step (After-F.Apply at e)

pub bare-Image : (at : Place) (e : Formula) → bare_after (after.Image at e) ≡ after.Image nowhere (bare e)
bare-Image at e = ap bare_after (sym (after.rolls-Image at e)) ∙ fold-roll-After After Formula Link after_step formula_step link_step (After-F.Image at e)

-- an operator and its right operand without a place
abbrev pub joined_link : Operator → Formula → Link
joined_link o b = roll-Link (record { operator = o; at = nowhere; operand = b })

pub bare-link : (l : Part) → bare_link (link l) ≡ joined_link l.0 (bare l.2)
bare-link l = fold-roll-Link After Formula Link after_step formula_step link_step (record { operator = l.0; at = l.1; operand = l.2 })
