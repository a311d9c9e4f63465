-- Each form that a formula demands names parts of the formula, or parts that names mean.
use Rattle.std.proofs.Common.{◌≡◌, ◌≤◌, ◌<◌, ◌+◌, ℕ, suc, Bool, true, false, cond, List, [], ◌∷◌, ◌++◌, length, drop, map, Option, Some, None, arith, refl, sym, ap, ◌∙◌, subst, inl, inr, bytes_eq}
use Rattle.std.specs.List.{AllByRecursion}
use Rattle.b_ast.specs.declared.Bound.{Bound}
use Rattle.b_ast.specs.declared.Operator.{Operator}
use Rattle.b_ast.specs.declared.Operator.TheVariants as operator
use Rattle.b_ast.specs.declared.Collector.{Collector}
use Rattle.b_ast.specs.declared.Collector.TheVariants as collector
use Rattle.b_ast.specs.declared.Formula.{Formula, roll-Formula, map-Formula, fold-roll-Formula}
use Rattle.b_ast.specs.declared.Link.{Link, roll-Link, fold-roll-Link}
use Rattle.b_ast.specs.declared.After.{After, roll-After, map-After, fold-roll-After}
use Rattle.b_ast.specs.declared.After.TheOpen.{Formula-F, Link-F, After-F}
use Rattle.type_schemes.specs.declared.rules.Rule.{Rule}
use Rattle.type_schemes.specs.declared.rules.Rule.TheVariants as rule
use Rattle.type_schemes.specs.declared.rules.Reading.{Reading}
use Rattle.type_schemes.specs.declared.rules.Reading.TheVariants as reading
use Rattle.type_schemes.specs.Rules.{reading_of, function_rule, constant_rule}
use Rattle.type_schemes.specs.declared.forms.Form.{Form}
use Rattle.type_choices.specs.Forms.{IsReading, IsForm, AreForms}
use Rattle.type_demands.specs.declared.demands.Meaning.{Meaning}
use Rattle.type_demands.specs.declared.demands.Demand.{Demand}
use Rattle.type_demands.specs.declared.demands.Demand.TheVariants.{Keep, Unknown, Twice}
use Rattle.type_demands.specs.Scopes.{Scope, bound_at, bind, names_of, all_differ}
use Rattle.type_demands.specs.Demands.{Said, Step, keeping, obeying, alone, named, old_part, old_named, over, over_two, called, steps_parts, steps_whole, steps_demands, stepped, step, each_parts, each_demands, if_empty, listed, twice_if, twice, couple_whole, couple_demands, tuple_parts, tuple_whole, tuple_demands, true_or_false, comprehension, quantified, bound_parts, bound_whole, bound_demands, is_coupled, collected_as, collected, either_branch, after_step, link_step, formula_step, said, link_said, after_said}
use Rattle.type_formulas.specs.Typings.{forms_in}
use Rattle.type_formulas.proofs.Layers.{Below, BelowAfter, BelowLink, by_layers}

-- each form names parts below c
abbrev pub Within : ℕ → List Demand → Type 0
Within c ds = AreForms c (forms_in ds)

pub within_both : (c : ℕ) (ds es : List Demand) → Within c ds → Within c es → Within c (ds ++ es)
within_both c [] es h k = k
within_both c (Keep f ∷ ds) es h k = (h.0, within_both c ds es h.1 k)
within_both c (Unknown ∷ ds) es h k = within_both c ds es h k
within_both c (Twice ∷ ds) es h k = within_both c ds es h k

-- each name means a part below c
pub record Bounded (c : ℕ) (scope : Scope) : Type 0 where
  pub bounded : (x : List ℕ) (m : Meaning) → scope x ≡ Some m → m.part < c

pub first_or_later : (c n : ℕ) (later : Option Meaning) (m : Meaning) → n < c → (later ≡ Some m → m.part < c) → (t : Bool) → cond t (Some (bound_at n)) later ≡ Some m → m.part < c
first_or_later c n later m h k true e = let f : bound_at n ≡ m = cc in let g = ap (λ (x : Meaning). x.part) f in omega arith
first_or_later c n later m h k false e = k e

bind_bounded : (c : ℕ) (bs : List (List ℕ)) (n : ℕ) (scope : Scope) → Bounded c scope → n + length bs ≤ c → Bounded c (bind bs n scope)
bind_bounded c [] n scope b h = b
bind_bounded c (y ∷ bs) n scope b h = record { bounded = λ x m e. first_or_later c n (bind bs (n + 1) scope x) m (omega arith) ((bind_bounded c bs (n + 1) scope b (omega arith)).bounded x m) (bytes_eq x y) e }

length_names : (ns : List Bound) → length (names_of ns) ≡ length ns
length_names [] = refl
length_names (b ∷ ns) = ap suc (length_names ns)

pub names_bounded : (c : ℕ) (ns : List Bound) (n : ℕ) (scope : Scope) → Bounded c scope → n + length ns ≤ c → Bounded c (bind (names_of ns) n scope)
names_bounded c ns n scope b h = bind_bounded c (names_of ns) n scope b (let l = length_names ns in omega arith)

-- ---- trees and steps

pub record IsSaid (e : Said) : Type 0 where
  pub some : 1 ≤ e.parts
  pub whole : (n : ℕ) → e.whole n < n + e.parts
  pub within : (c : ℕ) (scope : Scope) (n : ℕ) → Bounded c scope → n + e.parts ≤ c → Within c (e.demands scope n)

pub record IsStepSaid (k : Step) : Type 0 where
  pub some : 1 ≤ k.parts
  pub within : (c : ℕ) (scope : Scope) (l n : ℕ) → Bounded c scope → l < c → n + k.parts ≤ c → Within c (k.demands scope l n)

kept : (c : ℕ) (r : Reading) (l m w : ℕ) → IsReading r → l < c → m < c → w < c → Within c (keeping r l m w ∷ [])
kept c r l m w is hl hm hw = (record { left = hl; right = hm; whole = hw; reading = is }, tt)

pub kept_by : (c : ℕ) (q : Rule) (l m w : ℕ) → l < c → m < c → w < c → Within c (obeying q l m w ∷ [])
kept_by c q l m w hl hm hw = kept c (reading.One q) l m w tt hl hm hw

is_alone : (q : Rule) → IsSaid (alone q)
is_alone q = record { some = omega arith; whole = λ n. omega arith; within = λ c scope n b h. kept_by c q n n n (omega arith) (omega arith) (omega arith) }

pub named_within : (c : ℕ) (o : Option Meaning) (n : ℕ) → ((m : Meaning) → o ≡ Some m → m.part < c) → n < c → Within c (named o n ∷ [])
named_within c None n h k = tt
named_within c (Some m) n h k = kept_by c rule.Alike m.part m.part n (h m refl) (h m refl) k

old_part_within : (c : ℕ) (o : Bool) (p n : ℕ) → p < c → n < c → Within c (old_part o p n ∷ [])
old_part_within c true p n h k = kept_by c rule.Alike p p n h h k
old_part_within c false p n h k = tt

old_within : (c : ℕ) (o : Option Meaning) (n : ℕ) → ((m : Meaning) → o ≡ Some m → m.part < c) → n < c → Within c (old_named o n ∷ [])
old_within c None n h k = tt
old_within c (Some m) n h k = old_part_within c m.has_old m.part n (h m refl) k

is_over : (q : Rule) (e : Said) → IsSaid e → IsSaid (over q e)
is_over q e i = record {
  some = omega arith;
  whole = λ n. omega arith;
  within = λ c scope n b h.
      let w = i.whole (n + 1) in
      within_both c (e.demands scope (n + 1)) (obeying q (e.whole (n + 1)) (e.whole (n + 1)) n ∷ []) (i.within c scope (n + 1) b (omega arith))
      (kept_by c q (e.whole (n + 1)) (e.whole (n + 1)) n (omega arith) (omega arith) (omega arith));
}

is_over_two : (q : Rule) (e f : Said) → IsSaid e → IsSaid f → IsSaid (over_two q e f)
is_over_two q e f i j = record {
  some = omega arith;
  whole = λ n. omega arith;
  within = λ c scope n b h.
      let w = i.whole (n + 1) in
      let v = j.whole (n + 1 + e.parts) in
      within_both c (e.demands scope (n + 1) ++ f.demands scope (n + 1 + e.parts)) (obeying q (e.whole (n + 1)) (f.whole (n + 1 + e.parts)) n ∷ [])
      (within_both c (e.demands scope (n + 1)) (f.demands scope (n + 1 + e.parts)) (i.within c scope (n + 1) b (omega arith)) (j.within c scope (n + 1 + e.parts) b (omega arith)))
      (kept_by c q (e.whole (n + 1)) (f.whole (n + 1 + e.parts)) n (omega arith) (omega arith) (omega arith));
}

is_called : (q : Rule) (es : List Said) → AllByRecursion IsSaid es → IsSaid (called q es)
is_called q [] i = record { some = omega arith; whole = λ n. omega arith; within = λ c scope n b h. tt }
is_called q (e ∷ []) i = is_over q e i.0
is_called q (e ∷ f ∷ []) i = is_over_two q e f i.0 i.1.0
is_called q (e ∷ f ∷ g ∷ es) i = record { some = omega arith; whole = λ n. omega arith; within = λ c scope n b h. tt }

steps_last : (l n : ℕ) (ks : List Step) → AllByRecursion IsStepSaid ks → l < n → steps_whole l n ks < n + steps_parts ks
steps_last l n [] i h = omega arith
steps_last l n (k ∷ ks) i h = let s = i.0.some in let r = steps_last n (n + k.parts) ks i.1 (omega arith) in omega arith

steps_within : (c : ℕ) (scope : Scope) (l n : ℕ) (ks : List Step) → AllByRecursion IsStepSaid ks → Bounded c scope → l < c → n + steps_parts ks ≤ c → Within c (steps_demands scope l n ks)
steps_within c scope l n [] i b hl h = tt
steps_within c scope l n (k ∷ ks) i b hl h =
    let s = i.0.some in
    within_both c (k.demands scope l n) (steps_demands scope n (n + k.parts) ks) (i.0.within c scope l n b hl (omega arith))
    (steps_within c scope n (n + k.parts) ks i.1 b (omega arith) (omega arith))

is_stepped : (e : Said) (ks : List Step) → IsSaid e → AllByRecursion IsStepSaid ks → IsSaid (stepped e ks)
is_stepped e ks i j = record {
  some = (let s = i.some in omega arith);
  whole = λ n. let w = i.whole n in let r = steps_last (e.whole n) (n + e.parts) ks j w in omega arith;
  within = λ c scope n b h.
      let w = i.whole n in
      within_both c (e.demands scope n) (steps_demands scope (e.whole n) (n + e.parts) ks) (i.within c scope n b (omega arith))
      (steps_within c scope (e.whole n) (n + e.parts) ks j b (omega arith) (omega arith));
}

is_step : (r : Reading) (e : Said) → IsReading r → IsSaid e → IsStepSaid (step r e)
is_step r e is i = record {
  some = omega arith;
  within = λ c scope l n b hl h.
      let w = i.whole (n + 1) in
      within_both c (e.demands scope (n + 1)) (keeping r l (e.whole (n + 1)) n ∷ []) (i.within c scope (n + 1) b (omega arith))
      (kept c r l (e.whole (n + 1)) n is hl (omega arith) (omega arith));
}

each_within : (q : Rule) (c : ℕ) (scope : Scope) (w n : ℕ) (es : List Said) → AllByRecursion IsSaid es → Bounded c scope → w < c → n + each_parts es ≤ c → Within c (each_demands q scope w n es)
each_within q c scope w n [] i b hw h = tt
each_within q c scope w n (e ∷ es) i b hw h =
    let v = i.0.whole n in
    within_both c (e.demands scope n) (obeying q (e.whole n) (e.whole n) w ∷ each_demands q scope w (n + e.parts) es) (i.0.within c scope n b (omega arith))
    ((kept_by c q (e.whole n) (e.whole n) w (omega arith) (omega arith) hw).0, each_within q c scope w (n + e.parts) es i.1 b hw (omega arith))

empty_within : (q : Rule) (c n : ℕ) (es : List Said) → n < c → Within c (if_empty q n es)
empty_within q c n [] h = kept_by c q n n n h h h
empty_within q c n (e ∷ es) h = tt

is_listed : (p q : Rule) (es : List Said) → AllByRecursion IsSaid es → IsSaid (listed p q es)
is_listed p q es i = record {
  some = omega arith;
  whole = λ n. omega arith;
  within = λ c scope n b h.
      within_both c (if_empty p n es) (each_demands q scope n (n + 1) es) (empty_within p c n es (omega arith)) (each_within q c scope n (n + 1) es i b (omega arith) (omega arith));
}

pub twice_within : (c : ℕ) (t : Bool) → Within c (twice_if t)
twice_within c true = tt
twice_within c false = tt

-- ---- couples of names

couple_last : (l n : ℕ) (bs : List Bound) → l < n → couple_whole l n bs < n + length bs
couple_last l n [] h = omega arith
couple_last l n (b ∷ bs) h = let r = couple_last n (n + 1) bs (omega arith) in omega arith

couple_within : (c l r n : ℕ) (bs : List Bound) → l < n → r + length bs ≤ n → n + length bs ≤ c → Within c (couple_demands l r n bs)
couple_within c l r n [] hl hr h = tt
couple_within c l r n (b ∷ bs) hl hr h = ((kept_by c rule.Couple l r n (omega arith) (omega arith) (omega arith)).0, couple_within c n (r + 1) (n + 1) bs (omega arith) (omega arith) (omega arith))

tuple_last : (ns : List Bound) (n k : ℕ) → 1 ≤ k → tuple_whole ns n < n + tuple_parts ns + k
tuple_last [] n k h = omega arith
tuple_last (b ∷ bs) n k h = let r = couple_last n (n + length (b ∷ bs)) bs (omega arith) in omega arith

tuple_within : (c : ℕ) (ns : List Bound) (n : ℕ) → n + tuple_parts ns ≤ c → Within c (tuple_demands ns n)
tuple_within c [] n h = tt
tuple_within c (b ∷ bs) n h = couple_within c n (n + 1) (n + length (b ∷ bs)) bs (omega arith) (omega arith) (omega arith)

pub predicate_within : (c : ℕ) (p : Said) (scope : Scope) (n : ℕ) → IsSaid p → Bounded c scope → n + p.parts ≤ c → Within c (true_or_false p scope n)
predicate_within c p scope n i b h =
    let w = i.whole n in
    within_both c (p.demands scope n) (obeying rule.Truth (p.whole n) (p.whole n) (p.whole n) ∷ []) (i.within c scope n b h) (kept_by c rule.Truth (p.whole n) (p.whole n) (p.whole n) (omega arith) (omega arith) (omega arith))

-- ---- binders

is_comprehension : (ns : List Bound) (p : Said) → IsSaid p → IsSaid (comprehension ns p)
is_comprehension ns p i = record {
  some = omega arith;
  whole = λ n. omega arith;
  within = λ c scope n b h.
      let s = i.some in
      let inner = bind (names_of ns) (n + 1) scope in
      let at = n + 1 + tuple_parts ns in
      let t = tuple_whole ns (n + 1) in
      let last = tuple_last ns (n + 1) p.parts s in
      within_both c (twice ns ++ tuple_demands ns (n + 1) ++ true_or_false p inner at) (obeying rule.Singleton t t n ∷ [])
      (within_both c (twice ns ++ tuple_demands ns (n + 1)) (true_or_false p inner at)
      (within_both c (twice ns) (tuple_demands ns (n + 1)) (twice_within c (all_differ (names_of ns))) (tuple_within c ns (n + 1) (omega arith)))
      (predicate_within c p inner at i (names_bounded c ns (n + 1) scope b (omega arith)) (omega arith)))
      (kept_by c rule.Singleton t t n (omega arith) (omega arith) (omega arith));
}

is_quantified : (ns : List Bound) (p : Said) → IsSaid p → IsSaid (quantified ns p)
is_quantified ns p i = record {
  some = omega arith;
  whole = λ n. omega arith;
  within = λ c scope n b h.
      let inner = bind (names_of ns) (n + 1) scope in
      let at = n + 1 + length ns in
      let w = i.whole at in
      within_both c (twice ns ++ p.demands inner at) (obeying rule.Predicate (p.whole at) (p.whole at) n ∷ [])
      (within_both c (twice ns) (p.demands inner at) (twice_within c (all_differ (names_of ns))) (i.within c inner at (names_bounded c ns (n + 1) scope b (omega arith)) (omega arith)))
      (kept_by c rule.Predicate (p.whole at) (p.whole at) n (omega arith) (omega arith) (omega arith));
}

bound_some : (k : Bool) (ns : List Bound) → length ns ≤ bound_parts k ns
bound_some true ns = omega arith
bound_some false ns = omega arith

bound_last : (k : Bool) (ns : List Bound) (n m : ℕ) → 1 ≤ m → bound_whole k ns n < n + bound_parts k ns + m
bound_last true ns n m h = tuple_last ns n m h
bound_last false ns n m h = omega arith

bound_within : (c : ℕ) (k : Bool) (ns : List Bound) (n : ℕ) → n + bound_parts k ns ≤ c → Within c (bound_demands k ns n)
bound_within c true ns n h = tuple_within c ns n h
bound_within c false ns n h = tt

collected_within : (c : ℕ) (k : Collector) (t e w : ℕ) → t < c → e < c → w < c → Within c (collected_as k t e w ∷ [])
collected_within c collector.Lambda t e w ht he hw = kept_by c rule.Collected t e w ht he hw
collected_within c collector.Sum t e w ht he hw = kept_by c rule.Number e e w he he hw
collected_within c collector.Product t e w ht he hw = kept_by c rule.Number e e w he he hw
collected_within c collector.Union t e w ht he hw = kept_by c rule.SetAlike e e w he he hw
collected_within c collector.Inter t e w ht he hw = kept_by c rule.SetAlike e e w he he hw

is_collected : (k : Collector) (ns : List Bound) (p e : Said) → IsSaid p → IsSaid e → IsSaid (collected k ns p e)
is_collected k ns p e i j = record {
  some = omega arith;
  whole = λ n. omega arith;
  within = λ c scope n b h.
      let s = i.some in
      let q = is_coupled k in
      let several = bound_some q ns in
      let inner = bind (names_of ns) (n + 1) scope in
      let bounded = names_bounded c ns (n + 1) scope b (omega arith) in
      let at = n + 1 + bound_parts q ns in
      let t = bound_whole q ns (n + 1) in
      let last = bound_last q ns (n + 1) p.parts s in
      let w = j.whole (at + p.parts) in
      let told = twice ns ++ bound_demands q ns (n + 1) in
      within_both c (told ++ true_or_false p inner at ++ e.demands inner (at + p.parts)) (collected_as k t (e.whole (at + p.parts)) n ∷ [])
      (within_both c (told ++ true_or_false p inner at) (e.demands inner (at + p.parts))
      (within_both c told (true_or_false p inner at)
      (within_both c (twice ns) (bound_demands q ns (n + 1)) (twice_within c (all_differ (names_of ns))) (bound_within c q ns (n + 1) (omega arith)))
      (predicate_within c p inner at i bounded (omega arith)))
      (j.within c inner (at + p.parts) bounded (omega arith)))
      (collected_within c k t (e.whole (at + p.parts)) n (omega arith) (omega arith) (omega arith));
}

is_either : (p e f : Said) → IsSaid p → IsSaid e → IsSaid f → IsSaid (either_branch p e f)
is_either p e f i j k = record {
  some = omega arith;
  whole = λ n. omega arith;
  within = λ c scope n b h.
      let at = n + 1 + p.parts in
      let w = j.whole at in
      let v = k.whole (at + e.parts) in
      let ends = obeying rule.Alike (f.whole (at + e.parts)) (f.whole (at + e.parts)) n ∷ [] in
      within_both c (true_or_false p scope (n + 1) ++ e.demands scope at) (obeying rule.Alike (e.whole at) (e.whole at) n ∷ (f.demands scope (at + e.parts) ++ ends))
      (within_both c (true_or_false p scope (n + 1)) (e.demands scope at) (predicate_within c p scope (n + 1) i b (omega arith)) (j.within c scope at b (omega arith))) (
        (kept_by c rule.Alike (e.whole at) (e.whole at) n (omega arith) (omega arith) (omega arith)).0,
        within_both c (f.demands scope (at + e.parts)) ends (k.within c scope (at + e.parts) b (omega arith)) (kept_by c rule.Alike (f.whole (at + e.parts)) (f.whole (at + e.parts)) n (omega arith) (omega arith) (omega arith)),
      );
}

-- ---- readings of operators

is_reading : (o : Operator) → IsReading (reading_of o)
is_reading operator.Power = tt
is_reading operator.Times = (refl, inr refl)
is_reading operator.Divide = tt
is_reading operator.Modulo = tt
is_reading operator.Plus = tt
is_reading operator.Minus = (refl, inl refl)
is_reading operator.Interval = tt
is_reading operator.Maplet = tt
is_reading operator.Union = tt
is_reading operator.Intersection = tt
is_reading operator.Concatenation = tt
is_reading operator.Prepend = tt
is_reading operator.Append = tt
is_reading operator.Take = tt
is_reading operator.Drop = tt
is_reading operator.DomainRestriction = tt
is_reading operator.RangeRestriction = tt
is_reading operator.DomainSubtraction = tt
is_reading operator.RangeSubtraction = tt
is_reading operator.Overriding = tt
is_reading operator.DirectProduct = tt
is_reading operator.Relations = tt
is_reading operator.PartialFunctions = tt
is_reading operator.TotalFunctions = tt
is_reading operator.PartialInjections = tt
is_reading operator.TotalInjections = tt
is_reading operator.PartialSurjections = tt
is_reading operator.TotalSurjections = tt
is_reading operator.TotalBijections = tt
is_reading operator.Member = tt
is_reading operator.NotMember = tt
is_reading operator.Subset = tt
is_reading operator.NotSubset = tt
is_reading operator.StrictSubset = tt
is_reading operator.NotStrictSubset = tt
is_reading operator.Equal = tt
is_reading operator.NotEqual = tt
is_reading operator.Less = tt
is_reading operator.Greater = tt
is_reading operator.LessOrEqual = tt
is_reading operator.GreaterOrEqual = tt
is_reading operator.Equivalence = tt
is_reading operator.And = tt
is_reading operator.Or = tt
is_reading operator.Implication = tt
is_reading operator.Composition = tt
is_reading operator.ParallelProduct = tt
is_reading operator.Comma = tt

-- ---- layer by layer

abbrev PF : Formula → Type 0
PF t = IsSaid (said t)

abbrev PA : After → Type 0
PA f = IsStepSaid (after_said f)

abbrev PL : Link → Type 0
PL l = IsStepSaid (link_said l)

abbrev read : Formula-F After Formula Link → Formula-F Step Said Step
read = map-Formula After Formula Link Step Said Step after_said said link_said

abbrev read_after : After-F After Formula Link → After-F Step Said Step
read_after = map-After After Formula Link Step Said Step after_said said link_said

all_of : {X Y : Type 0} (P : Y → Type 0) (f : X → Y) (xs : List X) → AllByRecursion (λ x. P (f x)) xs → AllByRecursion P (map f xs)
all_of P f [] h = tt
all_of P f (x ∷ xs) h = (h.0, all_of P f xs h.1)

layer_is : (x : Formula-F After Formula Link) → Below PA PF PL x → IsSaid (formula_step (read x))
layer_is (Formula-F.Number at k) h = is_alone rule.Integer
layer_is (Formula-F.Text at s) h = is_alone rule.Text
layer_is (Formula-F.Name at x) h = record { some = omega arith; whole = λ n. omega arith; within = λ c scope n b k. named_within c (scope x) n (b.bounded x) (omega arith) }
layer_is (Formula-F.Old at x) h = record { some = omega arith; whole = λ n. omega arith; within = λ c scope n b k. old_within c (scope x) n (b.bounded x) (omega arith) }
layer_is (Formula-F.Constant at k) h = is_alone (constant_rule k)
layer_is (Formula-F.Negative at e) h = is_over rule.Number (said e) h
layer_is (Formula-F.Chain e ls) h = is_stepped (said e) (map link_said ls) h.0 (all_of IsStepSaid link_said ls h.1)
layer_is (Formula-F.Row e fs) h = is_stepped (said e) (map after_said fs) h.0 (all_of IsStepSaid after_said fs h.1)
layer_is (Formula-F.Call at f es) h = is_called (function_rule f) (map said es) (all_of IsSaid said es h)
layer_is (Formula-F.Set at es) h = is_listed rule.EmptySet rule.Singleton (map said es) (all_of IsSaid said es h)
layer_is (Formula-F.Sequence at es) h = is_listed rule.EmptySequence rule.SequenceOf (map said es) (all_of IsSaid said es h)
layer_is (Formula-F.Comprehension at ns p) h = is_comprehension ns (said p) h
layer_is (Formula-F.Quantified at q ns p) h = is_quantified ns (said p) h
layer_is (Formula-F.Collected at k ns p e) h = is_collected k ns (said p) (said e) h.0 h.1
layer_is (Formula-F.If at p e f) h = is_either (said p) (said e) (said f) h.0 h.1 h.2

after_is : (x : After-F After Formula Link) → BelowAfter PA PF PL x → IsStepSaid (after_step (read_after x))
after_is (After-F.Converse at) h = record { some = omega arith; within = λ c scope l n b hl k. kept_by c rule.Converse l l n hl hl (omega arith) }
after_is (After-F.Apply at e) h = is_step (reading.One rule.Application) (said e) tt h
after_is (After-F.Image at e) h = is_step (reading.One rule.Image) (said e) tt h

link_is : (x : Link-F After Formula Link) → BelowLink PA PF PL x → IsStepSaid (step (reading_of x.operator) (said x.operand))
link_is x h = is_step (reading_of x.operator) (said x.operand) (is_reading x.operator) h

on_formula : (x : Formula-F After Formula Link) → Below PA PF PL x → PF (roll-Formula x)
on_formula x h = subst IsSaid (sym (fold-roll-Formula Step Said Step after_step formula_step link_step x)) (layer_is x h)

on_after : (x : After-F After Formula Link) → BelowAfter PA PF PL x → PA (roll-After x)
on_after x h = subst IsStepSaid (sym (fold-roll-After Step Said Step after_step formula_step link_step x)) (after_is x h)

on_link : (x : Link-F After Formula Link) → BelowLink PA PF PL x → PL (roll-Link x)
on_link x h = subst IsStepSaid (sym (fold-roll-Link Step Said Step after_step formula_step link_step x)) (link_is x h)

pub said_within : (t : Formula) → IsSaid (said t)
said_within t = by_layers PA PF PL on_after on_formula on_link t

pub names_known : (c : ℕ) (bs : List (List ℕ)) (n : ℕ) (scope : Scope) → Bounded c scope → n + length bs ≤ c → Bounded c (bind bs n scope)
names_known = bind_bounded
