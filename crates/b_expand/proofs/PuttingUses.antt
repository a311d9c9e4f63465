-- What a tree stands for, with and without looking whether all is in order, and the uses of definitions.
use Rattle.std.proofs.Common.{◌≡◌, ℕ, Bool, true, false, ◌==◌, cond, List, [], ◌∷◌, map, length, Option, Some, None, refl, sym, ap, ◌∙◌, subst}
use Rattle.std.specs.Prelude.{option_and_then, is_some, bytes_eq, position, slice_get}
use Rattle.std.proofs.lemmas.Bool.Decides.{Decides-eqb}
use Rattle.b_ast.specs.declared.Place.{Place}
use Rattle.b_ast.specs.declared.Sort.{Sort}
use Rattle.b_ast.specs.declared.Formula.{Formula}
use Rattle.b_ast.specs.declared.Formula.TheVariants as formula
use Rattle.b_ast.specs.Sorts.{sort_of, fits}
use Rattle.b_expand.specs.Places.{brackets, deeper_place, deeper}
use Rattle.b_expand.specs.Expansion.{Scope, tree_of, Meaning, Meanings, Reading, Expands, both, all_of, sorted, of_sort, used_with, used, named, called}
use Rattle.b_expand.specs.Filling as filling
use Rattle.b_expand.specs.Filling.{Part, Insert, Inserts, Filling, trees_of}
use Rattle.b_expand.proofs.PuttingNames.{Gives, gives_some, looks, stands_for}

-- a scope by its parts
abbrev pub scope : ℕ → List (List ℕ) → List Formula → Scope
scope n ps ts = record { round = n; params = ps; trees = ts }

-- ---- the same parts

-- where the one gives something, the other is that, in scopes with a tree for each parameter
pub record Puts {X : Type 0} (e : Expands X) (f : Scope → X) : Type 0 where
  pub gives : (n : ℕ) (ps : List (List ℕ)) (ts : List Formula) → length ts ≡ length ps → Gives (e (scope n ps ts)) (f (scope n ps ts))

-- a part that is a tree
abbrev pub PutsPart : Expands Formula → Part → Type 0
PutsPart e p = Puts e p.tree

-- lists of which each holds with its partner
abbrev pub Pairwise : {X Y : Type 0} → (X → Y → Type 0) → List X → List Y → Type 0
Pairwise P [] [] = Unit {0}
Pairwise P [] (y ∷ ys) = ⊥
Pairwise P (x ∷ xs) [] = ⊥
Pairwise P (x ∷ xs) (y ∷ ys) = P x y × Pairwise P xs ys

-- a tree reads the same
pub record Reads (r : Reading) (f : Filling) : Type 0 where
  pub name : r.name ≡ f.name
  pub tree : PutsPart r.tree f.part
  pub arguments : Pairwise PutsPart r.arguments f.arguments

-- what a definition means is the same
pub record SameMeaning (m : Meaning) (i : Insert) : Type 0 where
  pub params : m.params ≡ i.params
  pub body : (n : ℕ) (ts : List Formula) → length ts ≡ length m.params → Gives (m.body (scope n m.params ts)) (i.body (scope n m.params ts))

-- what a name means is the same
abbrev pub SameMeant : Option Meaning → Option Insert → Type 0
SameMeant None None = Unit {0}
SameMeant None (Some i) = ⊥
SameMeant (Some m) None = ⊥
SameMeant (Some m) (Some i) = SameMeaning m i

-- what names mean is the same
pub record SameNames (means : Meanings) (inserts : Inserts) : Type 0 where
  pub at : (x : List ℕ) → SameMeant (means x) (inserts x)

-- ---- what is there, from what is made of it

-- a value, and what it was made from
pub record Fed {X Y : Type 0} (f : X → Option Y) (o : Option X) (t : Y) : Type 0 where
  pub from : X
  pub is : o ≡ Some from
  pub gave : f from ≡ Some t

-- what was made was made from something
pub fed : {X Y : Type 0} (f : X → Option Y) (o : Option X) (t : Y) → option_and_then f o ≡ Some t → Fed f o t
fed f None t e = absurd (cc)
fed f (Some x) t e = record { from = x; is = refl; gave = e }

-- a list, and the parts that it was made from
pub record Split {X : Type 0} (o : Option X) (p : Option (List X)) (es : List X) : Type 0 where
  pub first : X
  pub rest : List X
  pub first_is : o ≡ Some first
  pub rest_is : p ≡ Some rest
  pub whole : first ∷ rest ≡ es

-- a list that was made from parts
pub split : {X : Type 0} (o : Option X) (p : Option (List X)) (es : List X) → both (λ x xs. x ∷ xs) o p ≡ Some es → Split o p es
split None p es e = absurd (cc)
split (Some x) None es e = absurd (cc)
split (Some x) (Some xs) es e = record { first = x; rest = xs; first_is = refl; rest_is = refl; whole = cc }

-- what is there after a test passed it
pub tested : {X : Type 0} (b : Bool) (o : Option X) (t : X) → cond b o None ≡ Some t → (b ≡ true) × (o ≡ Some t)
tested true o t e = (refl, e)
tested false o t e = absurd (cc)

-- what is left after a test was there before
kept : {X : Type 0} (b : Bool) (x t : X) → cond b (Some x) None ≡ Some t → Some x ≡ Some t
kept true x t e = e
kept false x t e = absurd (cc)

-- a tree with a sort is the tree
pub sorted_is : (o : Option Formula) (t : Formula) → sorted o ≡ Some t → o ≡ Some t
sorted_is None t e = absurd (cc)
sorted_is (Some x) t e = kept (is_some (sort_of x)) x t e

-- a tree of the wanted sort is the tree
pub of_sort_is : (wanted : Sort) (o : Option Formula) (t : Formula) → of_sort wanted o ≡ Some t → o ≡ Some t
of_sort_is wanted None t e = absurd (cc)
of_sort_is wanted (Some x) t e = kept (fits wanted (sort_of x)) x t e

-- ---- the arguments of a use

-- the arguments of a use are those that expand
pub arguments_same : (n : ℕ) (ps : List (List ℕ)) (ts : List Formula) → length ts ≡ length ps → (args : List (Expands Formula)) (parts : List Part) → Pairwise PutsPart args parts
    → (es : List Formula) → all_of (map sorted (map (λ a. a (scope n ps ts)) args)) ≡ Some es → trees_of parts (scope n ps ts) ≡ es
arguments_same n ps ts l [] [] h es e = cc
arguments_same n ps ts l [] (p ∷ parts) h es e = absurd h
arguments_same n ps ts l (g ∷ args) [] h es e = absurd h
arguments_same n ps ts l (g ∷ args) (p ∷ parts) h es e = go (split (sorted (g (scope n ps ts))) (all_of (map sorted (map (λ a. a (scope n ps ts)) args))) es e) (arguments_same n ps ts l args parts h.1)
  where
    go : Split (sorted (g (scope n ps ts))) (all_of (map sorted (map (λ a. a (scope n ps ts)) args))) es
        → ((es : List Formula) → all_of (map sorted (map (λ a. a (scope n ps ts)) args)) ≡ Some es → trees_of parts (scope n ps ts) ≡ es)
        → trees_of (p ∷ parts) (scope n ps ts) ≡ es
    go k more =
        ap (λ (t : Formula). t ∷ trees_of parts (scope n ps ts)) (h.0.gives n ps ts l k.first (sorted_is (g (scope n ps ts)) k.first k.first_is))
        ∙ (ap (λ (us : List Formula). k.first ∷ us) (more k.rest k.rest_is) ∙ k.whole)

-- ---- uses

-- a use gives what its definition's body becomes
pub gives_used : (m : Meaning) (i : Insert) → SameMeaning m i → (depth n : ℕ) (ps : List (List ℕ)) (ts : List Formula) → length ts ≡ length ps → (args : List (Expands Formula)) (parts : List Part) → Pairwise PutsPart args parts
    → Gives (used depth m (scope n ps ts) (map (λ a. a (scope n ps ts)) args)) (filling.used depth i (scope n ps ts) parts)
gives_used m i s depth n ps ts l args parts h t e = by (fed (used_with depth m (scope n ps ts)) (all_of (map sorted (map (λ a. a (scope n ps ts)) args))) t e)
  where
    by : Fed (used_with depth m (scope n ps ts)) (all_of (map sorted (map (λ a. a (scope n ps ts)) args))) t → filling.used depth i (scope n ps ts) parts ≡ t
    by k =
        let w = tested (length k.from == length m.params) (of_sort m.sort (m.body (scope (brackets (brackets n depth) 1) m.params k.from))) t k.gave in
        let long : length k.from ≡ length m.params = (Decides-eqb (length k.from) (length m.params)).0 w.0 in
        ap (λ (es : List Formula). i.body (scope (brackets (brackets n depth) 1) i.params es)) (arguments_same n ps ts l args parts h k.from k.is)
        ∙ (ap (λ (qs : List (List ℕ)). i.body (scope (brackets (brackets n depth) 1) qs k.from)) (sym s.params)
        ∙ s.body (brackets (brackets n depth) 1) k.from long t (of_sort_is m.sort (m.body (scope (brackets (brackets n depth) 1) m.params k.from)) t w.1))

-- ---- names

-- what a name stands for is what it becomes
gives_named : (m : Option Meaning) (i : Option Insert) → SameMeant m i → (n : ℕ) (ps : List (List ℕ)) (ts : List Formula) → length ts ≡ length ps → (o : Option Formula) (at : Place) (x : List ℕ)
    → Gives (named m o (scope n ps ts) at x) (filling.named i o (scope n ps ts) at x)
gives_named m i h n ps ts l (Some e) at x = gives_some (deeper (brackets 1 at.depth) e)
gives_named None None h n ps ts l None at x = gives_some (formula.Name (deeper_place n at) x)
gives_named None (Some i) h n ps ts l None at x = absurd h
gives_named (Some m) None h n ps ts l None at x = absurd h
gives_named (Some m) (Some i) h n ps ts l None at x = gives_used m i h at.depth n ps ts l [] [] tt

-- a name gives what it becomes
pub name_puts : (means : Meanings) (inserts : Inserts) → SameNames means inserts → (at : Place) (x : List ℕ)
    → Puts (λ s. named (means x) (tree_of s x) s at x) (λ s. filling.named (inserts x) (tree_of s x) s at x)
name_puts means inserts h at x = record { gives = λ n ps ts l. gives_named (means x) (inserts x) (h.at x) n ps ts l (tree_of (scope n ps ts) x) at x }

-- ---- names that are called

-- what a name calls is the same
abbrev pub SameCalled : Option (ℕ × Meaning) → Option (ℕ × Insert) → Type 0
SameCalled None None = Unit {0}
SameCalled None (Some i) = ⊥
SameCalled (Some m) None = ⊥
SameCalled (Some m) (Some i) = (m.0 ≡ i.0) × SameMeaning m.1 i.1

-- a definition is called only if it has parameters
same_with_params : (m : Meaning) (i : Insert) → SameMeaning m i → (depth : ℕ) (b : Bool) → SameCalled (cond b None (Some (depth, m))) (cond b None (Some (depth, i)))
same_with_params m i h depth true = tt
same_with_params m i h depth false = (refl, h)

-- the definition that a name means, called
same_meant : (m : Option Meaning) (i : Option Insert) → SameMeant m i → (depth : ℕ)
    → SameCalled (option_and_then (λ m. cond (length m.params == 0) None (Some (depth, m))) m) (option_and_then (λ i. cond (length i.params == 0) None (Some (depth, i))) i)
same_meant None None h depth = tt
same_meant None (Some i) h depth = absurd h
same_meant (Some m) None h depth = absurd h
same_meant (Some m) (Some i) h depth =
    subst (λ (qs : List (List ℕ)). SameCalled (cond (length m.params == 0) None (Some (depth, m))) (cond (length qs == 0) None (Some (depth, i)))) h.params (same_with_params m i h depth (length m.params == 0))

-- a parameter calls nothing
same_unless : (c : Option (ℕ × Meaning)) (d : Option (ℕ × Insert)) → SameCalled c d → (b : Bool) → SameCalled (cond b None c) (cond b None d)
same_unless c d h true = tt
same_unless c d h false = h

-- a name calls the same
pub same_called : (means : Meanings) (inserts : Inserts) → SameNames means inserts → (n : ℕ) (ps : List (List ℕ)) (ts : List Formula) → length ts ≡ length ps → (name : Option (ℕ × List ℕ))
    → SameCalled (called means (scope n ps ts) name) (filling.called inserts ps name)
same_called means inserts h n ps ts l None = tt
same_called means inserts h n ps ts l (Some x) =
    let same : is_some (position (bytes_eq x.1) ps) ≡ is_some (option_and_then (slice_get ts) (position (bytes_eq x.1) ps)) = sym (stands_for ps ts x.1 l) ∙ sym (ap is_some (looks ps ts x.1)) in
    subst (λ (b : Bool). SameCalled (called means (scope n ps ts) (Some x)) (cond b None (option_and_then (λ i. cond (length i.params == 0) None (Some (x.0, i))) (inserts x.1)))) (sym same)
    (same_unless (option_and_then (λ m. cond (length m.params == 0) None (Some (x.0, m))) (means x.1)) (option_and_then (λ i. cond (length i.params == 0) None (Some (x.0, i))) (inserts x.1)) (same_meant (means x.1) (inserts x.1) (h.at x.1) x.0)
    (is_some (option_and_then (slice_get ts) (position (bytes_eq x.1) ps))))
