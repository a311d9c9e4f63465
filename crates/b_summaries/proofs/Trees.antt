-- What is known of trees from what is known of their parts.
use Rattle.std.proofs.Common.{◌≡◌, ℕ, ◌+◌, Bool, true, false, cond, List, [], ◌∷◌, map, sum, Option, Some, None, refl, sym, ap, ◌∙◌, arith}
use Rattle.std.specs.Prelude.{option_map, option_and_then, max, ◌&&◌}
use Rattle.std.proofs.lemmas.List.Sums.{sum_by-cons}
use Rattle.b_ast.specs.declared.Sort.{Sort}
use Rattle.b_ast.specs.declared.Sort.TheVariants as sort
use Rattle.b_ast.specs.declared.Operator.{Operator}
use Rattle.b_ast.specs.declared.Formula.{Formula}
use Rattle.b_ast.specs.Sorts.{Sorted, sort_of, fits, given, all_fit, link_fits, links_fit, all_true}
use Rattle.b_expand.specs.Places.{node_total, deepest, greatest}
use Rattle.b_expand.specs.Expansion.{both, all_of}
use Rattle.b_summaries.specs.declared.summary.Size.{Size}
use Rattle.b_summaries.specs.declared.summary.Facts.{Facts}
use Rattle.b_summaries.specs.Sizes.{counted, plus, together, asking, met, sized, size_of, facts_of, known}
use Rattle.b_summaries.specs.Values.{facts_from}
use Rattle.b_summaries.proofs.Sums.{size_by, together_assoc}
use Rattle.b_summaries.proofs.Adding.{both_none}

-- ---- facts by a test

-- facts where a test passes
abbrev pub given_facts : Bool → Sort → Size → Option Facts
given_facts b s z = cond b (Some (facts_from s z)) None

-- a size where a test passes
abbrev pub given_size : Bool → Size → Option Size
given_size b z = cond b (Some z) None

pub given_map : (b : Bool) (s : Sort) (z : Size) → option_map (λ s. facts_from s z) (given b s) ≡ given_facts b s z
given_map true s z = refl
given_map false s z = refl

pub given_formed : (b : Bool) (s : Sort) (z : Size) → option_map (facts_from s) (given_size b z) ≡ given_facts b s z
given_formed true s z = refl
given_formed false s z = refl

-- what is asked for by one sort
pub met_asking : (w s : Sort) → met (asking w) s ≡ fits w (Some s)
met_asking sort.Expression sort.Expression = refl
met_asking sort.Expression sort.Predicate = refl
met_asking sort.Expression sort.Implication = refl
met_asking sort.Predicate sort.Expression = refl
met_asking sort.Predicate sort.Predicate = refl
met_asking sort.Predicate sort.Implication = refl
met_asking sort.Implication sort.Expression = refl
met_asking sort.Implication sort.Predicate = refl
met_asking sort.Implication sort.Implication = refl

fits_none : (w : Sort) → fits w None ≡ false
fits_none sort.Expression = refl
fits_none sort.Predicate = refl
fits_none sort.Implication = refl

-- the size of a tree of the wanted sort
pub sized_tree : (w : Sort) (e : Formula) → sized (asking w) (facts_of e) ≡ given_size (fits w (sort_of e)) (size_of e)
sized_tree w e = go (sort_of e)
  where
    go : (o : Sorted) → sized (asking w) (option_map (λ s. facts_from s (size_of e)) o) ≡ given_size (fits w o) (size_of e)
    go None = ap (λ b. given_size b (size_of e)) (sym (fits_none w))
    go (Some s) = ap (λ b. given_size b (size_of e)) (met_asking w s)

-- ---- one more part

pub two_tests : (a b : Bool) (x y : Size) → together (given_size a x) (given_size b y) ≡ given_size (a && b) (plus x y)
two_tests true true x y = refl
two_tests true false x y = refl
two_tests false b x y = refl

-- with one more tree of a sort
abbrev pub adding : Sort → Option Formula → Option Size → Option Size
adding w o z = together z (sized (asking w) (known o))

-- with one more place
abbrev pub placing : ℕ → Option Size → Option Size
placing d z = together z (Some (record { nodes = 0; depth = Some d }))

pub adding_tree : (w : Sort) (e : Formula) (b : Bool) (z : Size) → adding w (Some e) (given_size b z) ≡ given_size (b && fits w (sort_of e)) (plus z (size_of e))
adding_tree w e b z = ap (together (given_size b z)) (sized_tree w e) ∙ two_tests b (fits w (sort_of e)) z (size_of e)

pub adding_none : (w : Sort) (z : Option Size) → adding w None z ≡ None
adding_none w z = both_none plus z

-- a place and then a tree is one part
pub place_tree : (w : Sort) (e : Formula) (d : ℕ) (b : Bool) (z : Size)
    → adding w (Some e) (placing d (given_size b z)) ≡ given_size (b && fits w (sort_of e)) (plus z (record { nodes = counted (node_total e); depth = Some (max d (deepest e)) }))
place_tree w e d b z =
    together_assoc (given_size b z) (Some (record { nodes = 0; depth = Some d })) (sized (asking w) (facts_of e))
    ∙ (ap (λ o. together (given_size b z) (together (Some (record { nodes = 0; depth = Some d })) o)) (sized_tree w e)
    ∙ (ap (together (given_size b z)) (two_tests true (fits w (sort_of e)) (record { nodes = 0; depth = Some d }) (size_of e))
    ∙ (two_tests b (fits w (sort_of e)) z (plus (record { nodes = 0; depth = Some d }) (size_of e))
    ∙ ap (λ y. given_size (b && fits w (sort_of e)) (plus z y)) (size_by _ _ _ _ (omega arith) refl))))

-- ---- many parts

-- one part after the other
abbrev pub adds : {X : Type 0} → (X → Option Size → Option Size) → List X → Option Size → Option Size
adds f [] z = z
adds f (x ∷ xs) z = adds f xs (f x z)

abbrev pub every : {X : Type 0} → (X → Bool) → List X → Bool
every p [] = true
every p (x ∷ xs) = p x && every p xs

abbrev pub sizes : {X : Type 0} → (X → Size) → Size → List X → Size
sizes f z [] = z
sizes f z (x ∷ xs) = sizes f (plus z (f x)) xs

and_true : (b : Bool) → (b && true) ≡ b
and_true true = refl
and_true false = refl

pub and_assoc : (a b c : Bool) → ((a && b) && c) ≡ (a && (b && c))
and_assoc true b c = refl
and_assoc false b c = refl

module _ {X : Type 0} (test : X → Bool) (size : X → Size) (add : Option X → Option Size → Option Size)
    (none : (z : Option Size) → add None z ≡ None) (missing : (o : Option X) → add o None ≡ None)
    (some : (x : X) (b : Bool) (z : Size) → add (Some x) (given_size b z) ≡ given_size (b && test x) (plus z (size x))) where
  -- without a part there is nothing
  pub none_added : (os : List (Option X)) → adds add os None ≡ None
  none_added [] = refl
  none_added (o ∷ os) = ap (adds add os) (missing o) ∙ none_added os

  -- what all parts are
  abbrev pub whole : Bool → Size → List X → Option Size
  whole b z xs = given_size (b && every test xs) (sizes size z xs)

  more_added : (x : X) (b : Bool) (z : Size) (w : Option (List X)) → option_and_then (whole (b && test x) (plus z (size x))) w ≡ option_and_then (whole b z) (both (λ x xs. x ∷ xs) (Some x) w)
  more_added x b z None = refl
  more_added x b z (Some xs) = ap (λ c. given_size c (sizes size (plus z (size x)) xs)) (and_assoc b (test x) (every test xs))

  pub all_added : (os : List (Option X)) (b : Bool) (z : Size) → adds add os (given_size b z) ≡ option_and_then (whole b z) (all_of os)
  all_added [] b z = ap (λ b. given_size b z) (sym (and_true b))
  all_added (None ∷ os) b z = ap (adds add os) (none (given_size b z)) ∙ none_added os
  all_added (Some x ∷ os) b z = ap (adds add os) (some x b z) ∙ (all_added os (b && test x) (plus z (size x)) ∙ more_added x b z (all_of os))

-- ---- sums

sum-more : (n : ℕ) (ns : List ℕ) → sum (n ∷ ns) ≡ n + sum ns
sum-more n ns = sum_by-cons (λ n. n) n ns

-- the sizes of all parts
pub sizes_sum : {X : Type 0} (nodes depth : X → ℕ) (xs : List X) (n d : ℕ)
    → sizes (λ x. record { nodes = counted (nodes x); depth = Some (depth x) }) (record { nodes = counted n; depth = Some d }) xs ≡ record { nodes = counted (n + sum (map nodes xs)); depth = Some (greatest d (map depth xs)) }
sizes_sum nodes depth [] n d = size_by _ _ _ _ (omega arith) refl
sizes_sum {X} nodes depth (x ∷ xs) n d =
    ap (λ z. sizes (λ (x : X). record { nodes = counted (nodes x); depth = Some (depth x) }) z xs) (size_by _ _ _ _ (omega arith) refl)
    ∙ (sizes_sum nodes depth xs (n + nodes x) (max d (depth x))
    ∙ size_by _ _ _ _ (let e = sum-more (nodes x) (map nodes xs) in omega arith) refl)

-- ---- tests

pub fit_every : (w : Sort) (es : List Formula) → all_fit w (map sort_of es) ≡ every (λ e. fits w (sort_of e)) es
fit_every w [] = refl
fit_every w (e ∷ es) = ap (λ b. fits w (sort_of e) && b) (fit_every w es)

pub links_every : {X : Type 0} (f : X → Operator × Sorted) (xs : List X) → links_fit (map f xs) ≡ every (λ x. link_fits (f x)) xs
links_every f [] = refl
links_every f (x ∷ xs) = ap (λ b. link_fits (f x) && b) (links_every f xs)

pub true_every : {X : Type 0} (f : X → Bool) (xs : List X) → all_true (map f xs) ≡ every f xs
true_every f [] = refl
true_every f (x ∷ xs) = ap (λ b. f x && b) (true_every f xs)
