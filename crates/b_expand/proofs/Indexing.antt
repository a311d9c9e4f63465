-- What the index of a table answers for a text, which may use the first definitions.
use Rattle.std.proofs.Common.{◌≡◌, ℕ, zero, suc, ◌+◌, ◌<◌, ◌≤◌, Bool, true, false, not, cond, List, [], ◌∷◌, take, length, Option, Some, None, refl, sym, ap, ◌∙◌, rules, arith}
use Rattle.std.specs.Prelude.{◌==◌, IfSome, IsSome, nat_lt, bytes_eq, position, slice_get, option_map}
use Rattle.std.specs.List.{position_from}
use Rattle.std.proofs.lemmas.Bool.{ltb-true, lt-ltb}
use Rattle.std.proofs.lemmas.Iterator.Adapters.{position_from-zero}
use Rattle.b_ast.specs.declared.machine.Def.{Def}
use Rattle.b_ast.specs.declared.machine.DefBody.{DefBody}
use Rattle.b_ast.specs.declared.machine.DefBody.TheVariants as body
use Rattle.b_names.specs.declared.places.Index.{Index}
use Rattle.b_names.specs.declared.places.TableIndex.{TableIndex}
use Rattle.b_names.specs.Index.{IsIndexOf, IsIndexOfNames, AreOfParameters, place_of}
use Rattle.b_expand.specs.Filling.{Inserts, insert_of, inserts, params_of}
use Rattle.b_expand.specs.Standing.{until, IsIndexed, params_at, means_at, insert_of_first}

-- a place below a bound stays
below_bound : (bound i : ℕ) → i < bound → until bound (Some i) ≡ Some i
below_bound bound i h = ap (λ (b : Bool). cond b (Some i) None) (lt-ltb i bound h)

-- a place from a bound on doesn't
from_bound : (bound i : ℕ) → bound ≤ i → until bound (Some i) ≡ None
from_bound bound i h = cases (nat_lt i bound) refl
  where
    cases : (b : Bool) → nat_lt i bound ≡ b → cond b (Some i) None ≡ None
    cases true e = let k : i < bound = ltb-true i bound e in absurd (omega arith)
    cases false e = refl

-- a search that counts from a place finds none before it
none_before : (p : Def → Bool) (ds : List Def) (bound n : ℕ) → bound ≤ n → until bound (position_from p n ds) ≡ None
none_before p [] bound n h = refl
none_before p (d ∷ ds) bound n h = cases (p d) (none_before p ds bound (n + 1) (omega arith))
  where
    cases : (b : Bool) → until bound (position_from p (n + 1) ds) ≡ None → until bound (cond b (Some n) (position_from p (n + 1) ds)) ≡ None
    cases true k = from_bound bound n h
    cases false k = k

-- a search through the first definitions finds what lies among them
place_among : (p : Def → Bool) (ds : List Def) (n i : ℕ) → position_from p n (take i ds) ≡ until (n + i) (position_from p n ds)
place_among p [] n zero = refl
place_among p [] n (suc i) = refl
place_among p (d ∷ ds) n zero = sym (none_before p (d ∷ ds) (n + zero) n (omega arith))
place_among p (d ∷ ds) n (suc i) = cases (p d) (place_among p ds (n + 1) i)
  where
    cases : (b : Bool) → position_from p (n + 1) (take i ds) ≡ until ((n + 1) + i) (position_from p (n + 1) ds) → cond b (Some n) (position_from p (n + 1) (take i ds)) ≡ until (n + suc i) (cond b (Some n) (position_from p (n + 1) ds))
    cases true k = sym (below_bound (n + suc i) n (omega arith))
    cases false k = let same : (n + 1) + i ≡ n + suc i = omega arith in k ∙ ap (λ bound. until bound (position_from p (n + 1) ds)) same

-- the place of a name among the first definitions
pub place_take : (ds : List Def) (i : ℕ) (x : List ℕ) → place_of (take i ds) x ≡ until i (place_of ds x)
place_take ds i x =
    let same : 0 + i ≡ i = omega arith in
    position_from-zero (λ (d : Def). bytes_eq x d.name) (take i ds)
    ∙ (place_among (λ (d : Def). bytes_eq x d.name) ds 0 i
    ∙ (ap (λ bound. until bound (position_from (λ (d : Def). bytes_eq x d.name) 0 ds)) same
    ∙ ap (until i) (sym (position_from-zero (λ (d : Def). bytes_eq x d.name) ds))))

-- an index of a table is one of its definitions
pub definitions_known : (ds : List Def) (index : TableIndex) → IsIndexed ds index → IsIndexOf ds index.definitions
unfolding IsIndexed
definitions_known ds index h = h.definitions

-- what an index answers below a place is the place among the definitions before it
pub first_known : (ds : List Def) (k : ℕ) (x : List ℕ) (answer place : Option ℕ) → answer ≡ place_of ds x → place ≡ until k answer → place ≡ place_of (take k ds) x
first_known ds k x answer place a p = p ∙ (ap (until k) a ∙ sym (place_take ds k x))

-- ---- parameters

none_at : {X : Type 0} (xs : List X) (k : ℕ) → slice_get xs k ≡ None → length xs ≤ k
none_at [] k e = omega arith
none_at (x ∷ xs) zero e = absurd (cc)
none_at (x ∷ xs) (suc k) e = let h = none_at xs k e in omega arith

some_at : {X : Type 0} (xs : List X) (k : ℕ) (x : X) → slice_get xs k ≡ Some x → k < length xs
some_at [] k x e = absurd (none k e)
  where
    none : (k : ℕ) → slice_get [] k ≡ Some x → ⊥
    none zero e = absurd (cc)
    none (suc k) e = absurd (cc)
some_at (y ∷ xs) zero x e = omega arith
some_at (y ∷ xs) (suc k) x e = let h = some_at xs k x e in omega arith

pub past_end : {X : Type 0} (xs : List X) (k : ℕ) → length xs ≤ k → slice_get xs k ≡ None
past_end [] zero h = refl
past_end [] (suc k) h = refl
past_end (x ∷ xs) zero h = absurd (omega arith)
past_end (x ∷ xs) (suc k) h = past_end xs k (omega arith)

of_definition_at : (ds : List Def) (k : ℕ) (i : Index) → IfSome (slice_get ds k) (λ d. IsIndexOfNames d.params i) → k < length ds → IsIndexOfNames (params_at ds k) i
of_definition_at ds k i h w = go (slice_get ds k) refl h
  where
    go : (o : Option Def) → slice_get ds k ≡ o → IfSome o (λ d. IsIndexOfNames d.params i) → IsIndexOfNames (params_of o) i
    go None e h = let n = none_at ds k e in absurd (omega arith)
    go (Some d) e h = h

-- the index of the parameters of the definition at a place
pub parameters_known : (ds : List Def) (index : TableIndex) → IsIndexed ds index → (ps : List Index) → ps ≡ index.parameters → (k : ℕ) (i : Index) → Some i ≡ slice_get ps k → IsIndexOfNames (params_at ds k) i
unfolding IsIndexed AreOfParameters
parameters_known ds index h ps same k i e =
    let at : slice_get index.parameters k ≡ Some i = sym (e ∙ ap (λ (ps : List Index). slice_get ps k) same) in
    let w = some_at index.parameters k i at in
    let n = h.as_many in
    of_definition_at ds k i (h.parameters k i at) (omega arith)

-- without an index there are no parameters
pub no_parameters : (ds : List Def) (index : TableIndex) → IsIndexed ds index → (ps : List Index) → ps ≡ index.parameters → (k : ℕ) → None ≡ slice_get ps k → (x : List ℕ) → None ≡ position (bytes_eq x) (params_at ds k)
unfolding IsIndexed
no_parameters ds index h ps same k e x =
    let w = none_at index.parameters k (sym (e ∙ ap (λ (ps : List Index). slice_get ps k) same)) in
    let n = h.as_many in
    ap (λ (o : Option Def). position (bytes_eq x) (params_of o)) (sym (past_end ds k (omega arith)))

-- ---- the definitions that a text may use

-- what stands among the first definitions stands in the table
taken_at : (ds : List Def) (k i : ℕ) (d : Def) → slice_get (take k ds) i ≡ Some d → slice_get ds i ≡ Some d
taken_at [] zero i d e = e
taken_at [] (suc k) i d e = e
taken_at (a ∷ ds) zero i d e = absurd (none i e)
  where
    none : (i : ℕ) → slice_get [] i ≡ Some d → ⊥
    none zero e = absurd (cc)
    none (suc i) e = absurd (cc)
taken_at (a ∷ ds) (suc k) zero d e = e
taken_at (a ∷ ds) (suc k) (suc i) d e = taken_at ds k i d e

-- the first of the first definitions are the first
taken_twice : (ds : List Def) (k i : ℕ) → i < length (take k ds) → take i (take k ds) ≡ take i ds
taken_twice ds k zero h = refl
taken_twice [] zero (suc i) h = refl
taken_twice [] (suc k) (suc i) h = refl
taken_twice (a ∷ ds) zero (suc i) h = absurd (omega arith)
taken_twice (a ∷ ds) (suc k) (suc i) h = ap (λ (es : List Def). a ∷ es) (taken_twice ds k i (omega arith))

pub params_of_insert : (means : Inserts) (ps : List (List ℕ)) (b : DefBody) → (insert_of means ps b).params ≡ ps
params_of_insert means ps (body.Expr e) = refl
params_of_insert means ps (body.Pred p) = refl
params_of_insert means ps (body.Subst u) = refl

same_def : (ds : List Def) (k i : ℕ) (e d : Def) → slice_get (take k ds) i ≡ Some e → Some d ≡ slice_get ds i → e ≡ d
same_def ds k i e d f g = let h : Some d ≡ Some e = g ∙ taken_at ds k i e f in cc

-- a definition that a text may use has the parameters of the one at its place
pub has_params : (ds : List Def) (k i : ℕ) (d : Def) → Some d ≡ slice_get ds i → (b : Bool) → b ≡ not (length d.params == 0) → IfSome (insert_of_first (take k ds) i) (λ m. b ≡ not (length m.params == 0))
has_params ds k i d at b h = go (slice_get (take k ds) i) refl
  where
    go : (o : Option Def) → slice_get (take k ds) i ≡ o → IfSome (option_map (λ d. insert_of (inserts (take i (take k ds))) d.params d.body) o) (λ m. b ≡ not (length m.params == 0))
    go None e = tt
    go (Some f) e =
        h ∙ ap (λ (ps : List (List ℕ)). not (length ps == 0)) (sym (params_of_insert (inserts (take i (take k ds))) f.params f.body ∙ ap (λ (d : Def). d.params) (same_def ds k i f d e at)))

pub has_no_params : (ds : List Def) (k i : ℕ) → None ≡ slice_get ds i → (b : Bool) → IfSome (insert_of_first (take k ds) i) (λ m. b ≡ not (length m.params == 0))
has_no_params ds k i at b = go (slice_get (take k ds) i) refl
  where
    go : (o : Option Def) → slice_get (take k ds) i ≡ o → IfSome (option_map (λ d. insert_of (inserts (take i (take k ds))) d.params d.body) o) (λ m. b ≡ not (length m.params == 0))
    go None e = tt
    go (Some f) e = let g : None ≡ Some f = at ∙ taken_at ds k i f e in absurd (cc)

-- what a definition that a text may use means
pub insert_known : (ds : List Def) (k i : ℕ) (d : Def) → Some d ≡ slice_get ds i → IsSome (insert_of_first (take k ds) i) → insert_of_first (take k ds) i ≡ Some (insert_of (means_at ds i) (params_at ds i) d.body)
insert_known ds k i d at there = go (slice_get (take k ds) i) refl there
  where
    go : (o : Option Def) → slice_get (take k ds) i ≡ o → IsSome (option_map (λ d. insert_of (inserts (take i (take k ds))) d.params d.body) o)
        → insert_of_first (take k ds) i ≡ Some (insert_of (means_at ds i) (params_at ds i) d.body)
    go None e there = absurd (search rules)
    go (Some f) e there =
        ap (option_map (λ d. insert_of (inserts (take i (take k ds))) d.params d.body)) e
        ∙ (ap (λ (d : Def). Some (insert_of (inserts (take i (take k ds))) d.params d.body)) (same_def ds k i f d e at)
        ∙ (ap (λ (es : List Def). Some (insert_of (inserts es) d.params d.body)) (taken_twice ds k i (some_at (take k ds) i f e))
        ∙ ap (λ (o : Option Def). Some (insert_of (means_at ds i) (params_of o) d.body)) at))

pub insert_unknown : (ds : List Def) (k i : ℕ) → None ≡ slice_get ds i → IsSome (insert_of_first (take k ds) i) → ⊥
insert_unknown ds k i at there = go (slice_get (take k ds) i) refl there
  where
    go : (o : Option Def) → slice_get (take k ds) i ≡ o → IsSome (option_map (λ d. insert_of (inserts (take i (take k ds))) d.params d.body) o) → ⊥
    go None e there = absurd (search rules)
    go (Some f) e there = let g : None ≡ Some f = at ∙ taken_at ds k i f e in absurd (cc)
