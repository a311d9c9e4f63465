-- Arguments of uses, and the scopes of texts.
use Rattle.std.proofs.Common.{◌≡◌, ℕ, zero, suc, ◌+◌, ◌-◌, ◌≤◌, List, [], ◌∷◌, ◌++◌, map, take, length, get_or, Option, Some, None, refl, sym, ap, subst, ◌∙◌, ◌<◌, rules, arith}
use Rattle.std.specs.Prelude.{IsSome, IfOk, Result, slice_get, option_map}
use Rattle.b_ast.specs.declared.Place.{Place}
use Rattle.b_ast.specs.declared.Formula.{Formula}
use Rattle.b_ast.specs.declared.Link.{Link}
use Rattle.b_ast.specs.declared.After.{After}
use Rattle.b_ast.specs.declared.machine.Def.{Def}
use Rattle.b_expand.specs.declared.standing.Frame.{Frame}
use Rattle.b_expand.specs.Places.{brackets, deeper, raised_place, raised, moved, moved_after}
use Rattle.b_expand.specs.Expansion as expansion
use Rattle.b_expand.specs.Expansion.{Scope}
use Rattle.b_expand.specs.Filling.{Part, Insert, Inserts, Filling, Form, filling, form_of, side_of, sides, parts, total, form_total, used, used_steps, called_steps, named, row, applied, trees_of, forms, first_arguments, later_forms, insert_of, inserts, params_of, filled}
use Rattle.b_expand.specs.Standing.{first_part, parts_in, body_of, means_at, params_at, insert_of_first, trees_at, steps_at}
use Rattle.std.proofs.lemmas.List.{take_all}
use Rattle.b_expand.proofs.Indexing.{past_end, insert_known, params_of_insert}
use Rattle.b_expand.proofs.Moving.{deeper_twice, moved_row, not_raised}

-- ---- what stands at a place

-- at a place of a list that is made of another
pub get_map : {X Y : Type 0} (f : X → Y) (xs : List X) (i : ℕ) → slice_get (map f xs) i ≡ option_map f (slice_get xs i)
get_map f [] zero = refl
get_map f [] (suc i) = refl
get_map f (x ∷ xs) zero = refl
get_map f (x ∷ xs) (suc i) = get_map f xs i

-- an argument after the first
pub part_later : (means : Inserts) (e : Formula) (ls : List Link) (i j : ℕ) → i ≡ 1 + j → slice_get (map (λ l. (side_of means l).operand) ls) j ≡ slice_get (first_part means (Some e) ls) i
part_later means e ls zero j h = absurd (omega arith)
part_later means e ls (suc i) j h = let same : j ≡ i = omega arith in ap (slice_get (map (λ l. (side_of means l).operand) ls)) same ∙ go ls i
  where
    go : (ls : List Link) (i : ℕ) → slice_get (map (λ l. (side_of means l).operand) ls) i ≡ slice_get (sides (map (side_of means) ls)) i
    go [] zero = refl
    go [] (suc i) = refl
    go (l ∷ ls) zero = refl
    go (l ∷ ls) (suc i) = go ls i

pub operand_at : (means : Inserts) (ls : List Link) (j : ℕ) (o : Option Link) → o ≡ slice_get ls j → option_map (λ l. (side_of means l).operand) o ≡ slice_get (map (λ l. (side_of means l).operand) ls) j
operand_at means ls j o e = ap (option_map (λ l. (side_of means l).operand)) e ∙ sym (get_map (λ l. (side_of means l).operand) ls j)

-- a number that is not zero follows one
pub not_zero : (n : ℕ) → (n ≡ 0 → ⊥) → n ≡ 1 + (n - 1)
not_zero zero e = absurd (e refl)
not_zero (suc n) e = omega arith

-- ---- lists that are made of lists

-- one more of a list that is made of another
pub one_more : {X Y : Type 0} (f : X → Y) (xs : List X) (i : ℕ) (x : X) → i < length xs → x ≡ get_or xs i x → map f (take i xs) ++ f x ∷ [] ≡ map f (take (suc i) xs)
one_more f [] i x h e = absurd (omega arith)
one_more {X} {Y} f (y ∷ xs) zero x h e = ap (λ (z : X). f z ∷ []) e
one_more {X} {Y} f (y ∷ xs) (suc i) x h e = ap (λ (ys : List Y). f y ∷ ys) (one_more f xs i x (omega arith) e)

-- lists that are made in three steps
fused : {W X Y Z : Type 0} (f : Y → Z) (g : X → Y) (h : W → X) (ws : List W) → map f (map g (map h ws)) ≡ map (λ w. f (g (h w))) ws
fused f g h [] = refl
fused {W} {X} {Y} {Z} f g h (w ∷ ws) = ap (λ (zs : List Z). f (g (h w)) ∷ zs) (fused f g h ws)

-- one more part of a list that is made in three steps
pub next_part : {W X Y Z : Type 0} (f : Y → Z) (g : X → Y) (h : W → X) (ws : List W) (i : ℕ) (w : W) → i < length ws → w ≡ get_or ws i w
    → (zs : List Z) → zs ≡ map f (map g (map h (take i ws))) → (z : Z) → z ≡ f (g (h w)) → (new : List Z) → new ≡ zs ++ z ∷ [] → new ≡ map f (map g (map h (take (i + 1) ws)))
next_part {W} {X} {Y} {Z} f g h ws i w k e zs so z is new n =
    let on : suc i ≡ i + 1 = omega arith in
    n
    ∙ (ap (λ (zs : List Z). zs ++ z ∷ []) (so ∙ fused f g h (take i ws))
    ∙ (ap (λ (z : Z). map (λ w. f (g (h w))) (take i ws) ++ z ∷ []) is
    ∙ (one_more (λ w. f (g (h w))) ws i w k e ∙ (sym (fused f g h (take (suc i) ws)) ∙ ap (λ (n : ℕ). map f (map g (map h (take n ws)))) on))))

-- ---- the arguments for parameters

-- the tree of an argument is that for its parameter
pub tree_from : (ds : List Def) (f g : Frame) (gs fs : List Frame) → fs ≡ g ∷ gs → (i : ℕ) (o : Option Part) → o ≡ slice_get (parts_in (means_at ds g.place) f.arguments) i
    → option_map (λ a. a.tree (record { round = g.round; params = params_at ds g.place; trees = trees_at ds g gs })) o ≡ slice_get (trees_at ds f fs) i
tree_from ds f g gs fs q i o e =
    ap (option_map (λ (a : Part). a.tree (record { round = g.round; params = params_at ds g.place; trees = trees_at ds g gs }))) e
    ∙ (sym (get_map (λ (a : Part). a.tree (record { round = g.round; params = params_at ds g.place; trees = trees_at ds g gs })) (parts_in (means_at ds g.place) f.arguments) i)
    ∙ ap (λ (fs : List Frame). slice_get (trees_at ds f fs) i) (sym q))

-- and so are its steps
pub steps_from : (ds : List Def) (f g : Frame) (gs fs : List Frame) → fs ≡ g ∷ gs → (i : ℕ) (o : Option Part) → o ≡ slice_get (parts_in (means_at ds g.place) f.arguments) i
    → option_map (λ a. a.steps (params_at ds g.place) (steps_at ds g gs)) o ≡ slice_get (steps_at ds f fs) i
steps_from ds f g gs fs q i o e =
    ap (option_map (λ (a : Part). a.steps (params_at ds g.place) (steps_at ds g gs))) e
    ∙ (sym (get_map (λ (a : Part). a.steps (params_at ds g.place) (steps_at ds g gs)) (parts_in (means_at ds g.place) f.arguments) i)
    ∙ ap (λ (fs : List Frame). slice_get (steps_at ds f fs) i) (sym q))

-- a text outside has no arguments
pub none_from : (ds : List Def) (f : Frame) (fs : List Frame) → fs ≡ [] → (i : ℕ) → None ≡ slice_get (trees_at ds f fs) i
none_from ds f [] h zero = refl
none_from ds f [] h (suc i) = refl
none_from ds f (g ∷ gs) h i = absurd (cc)

-- ---- a formula outside

-- what a formula outside becomes is the formula with its definitions put in
pub at_top : (ds : List Def) (t : Formula) → moved (raised_place None) ((filling (means_at ds (length ds)) t).part.tree (record { round = 0; params = params_at ds (length ds); trees = [] })) ≡ filled ds t
at_top ds t =
    not_raised ((filling (means_at ds (length ds)) t).part.tree (record { round = 0; params = params_at ds (length ds); trees = [] }))
    ∙ (ap (λ (es : List Def). (filling (inserts es) t).part.tree (record { round = 0; params = params_at ds (length ds); trees = [] })) (take_all (length ds) ds (omega arith))
    ∙ ap (λ (o : Option Def). (filling (inserts ds) t).part.tree (record { round = 0; params = params_of o; trees = [] })) (past_end ds (length ds) (omega arith)))

-- ---- uses

-- a parameter's tree under all its brackets
pub raised_named : {E : Type 0} (o : Option ℕ) (m : Option Insert) (s : Scope) (at : Place) (x : List ℕ) (found : Option Formula) (e : Formula) → found ≡ Some e → (res : Result Formula E) → IfOk res (λ r. r ≡ moved (raised_place (Some (raised o (brackets 1 at.depth)))) e)
    → IfOk res (λ r. r ≡ moved (raised_place o) (named m found s at x))
raised_named o m s at x found e f res h =
    subst (λ (z : Formula). IfOk res (λ r. r ≡ z)) (sym (deeper_twice o (brackets 1 at.depth) e) ∙ ap (moved (raised_place o)) (is m ∙ ap (λ (found : Option Formula). named m found s at x) (sym f))) h
  where
    is : (m : Option Insert) → deeper (brackets 1 at.depth) e ≡ named m (Some e) s at x
    is None = refl
    is (Some i) = refl

-- a name that means a definition and no parameter
pub named_use : (m w : Option Insert) → IsSome m → m ≡ w → (o : Option Formula) → o ≡ None → (s : Scope) (at : Place) (x : List ℕ) → body_of m (brackets (brackets s.round at.depth) 1) [] ≡ named w o s at x
named_use None w k e o n s at x = absurd (search rules)
named_use (Some m) w k e o n s at x = ap (λ (w : Option Insert). named w None s at x) e ∙ ap (λ (o : Option Formula). named w o s at x) (sym n)

-- the steps of a use are those of the body
pub use_steps : (ds : List Def) (g f : Frame) (gs fs : List Frame) (i : ℕ) (d : Def) → Some d ≡ slice_get ds i → IsSome (insert_of_first (take g.place ds) i) → fs ≡ g ∷ gs
    → used_steps (insert_of_first (take g.place ds) i) (map (λ p. p.steps (params_at ds g.place) (steps_at ds g gs)) (parts_in (means_at ds g.place) f.arguments)) ≡ (insert_of (means_at ds i) (params_at ds i) d.body).steps (steps_at ds f fs)
use_steps ds g f gs fs i d at there q =
    ap (λ (m : Option Insert). used_steps m (steps_at ds f (g ∷ gs))) (insert_known ds g.place i d at there)
    ∙ ap (λ (fs : List Frame). (insert_of (means_at ds i) (params_at ds i) d.body).steps (steps_at ds f fs)) (sym q)

-- the tree of a use is that of the body
pub use_tree : (ds : List Def) (g f : Frame) (gs fs : List Frame) (i : ℕ) (d : Def) → Some d ≡ slice_get ds i → IsSome (insert_of_first (take g.place ds) i) → fs ≡ g ∷ gs → (round here : ℕ) → here ≡ round
    → (insert_of (means_at ds i) (params_at ds i) d.body).body (record { round = here; params = params_at ds i; trees = trees_at ds f fs })
    ≡ body_of (insert_of_first (take g.place ds) i) round (trees_of (parts_in (means_at ds g.place) f.arguments) (record { round = g.round; params = params_at ds g.place; trees = trees_at ds g gs }))
use_tree ds g f gs fs i d at there q round here r =
    ap (λ (n : ℕ). (insert_of (means_at ds i) (params_at ds i) d.body).body (record { round = n; params = params_at ds i; trees = trees_at ds f fs })) r
    ∙ (ap (λ (fs : List Frame). (insert_of (means_at ds i) (params_at ds i) d.body).body (record { round = round; params = params_at ds i; trees = trees_at ds f fs })) q
    ∙ (ap (λ (ps : List (List ℕ)). (insert_of (means_at ds i) (params_at ds i) d.body).body (record { round = round; params = ps; trees = trees_at ds f (g ∷ gs) })) (sym (params_of_insert (means_at ds i) (params_at ds i) d.body))
    ∙ ap (λ (m : Option Insert). body_of m round (trees_at ds f (g ∷ gs))) (sym (insert_known ds g.place i d at there))))

-- a row whose head means a definition, and which begins with arguments
called_tree : (m : Option Insert) → IsSome m → (depth : ℕ) (r : Filling) (fs gs : List Form) (args : List Part) (s : Scope) → first_arguments fs ≡ Some args → gs ≡ later_forms fs
    → expansion.row_of (body_of m (brackets (brackets s.round depth) 1) (trees_of args s)) (forms gs s) ≡ row (option_map (λ m. (depth, m)) m) r fs s
called_tree None k depth r fs gs args s e g = absurd (search rules)
called_tree (Some m) k depth r fs gs args s e g =
    ap (λ (gs : List Form). expansion.row_of (used depth m s args) (forms gs s)) g ∙ ap (λ (a : Option (List Part)). applied (depth, m) a r fs s) (sym e)

-- the answer of a call along an equation
pub ok_along : {E : Type 0} (res : Result Formula E) (x y : Formula) → x ≡ y → IfOk res (λ e. e ≡ x) → IfOk res (λ e. e ≡ y)
ok_along res x y e h = subst (λ (z : Formula). IfOk res (λ o. o ≡ z)) e h

-- the row of a use, from its parts, under all brackets
pub called_row : {E : Type 0} (f : Place → Place) (m : Option Insert) → IsSome m → (depth : ℕ) (r : Filling) (fs gs : List Form) (args : List Part) (s : Scope) → first_arguments fs ≡ Some args → gs ≡ later_forms fs
    → (u : Formula) → u ≡ moved f (body_of m (brackets (brackets s.round depth) 1) (trees_of args s))
    → (rest : List After) → rest ≡ map (moved_after f) (forms gs s)
    → (res : Result Formula E) → IfOk res (λ e. e ≡ expansion.row_of u rest) → IfOk res (λ e. e ≡ moved f (row (option_map (λ m. (depth, m)) m) r fs s))
called_row f m k depth r fs gs args s e g u p rest q res i =
    ok_along res (expansion.row_of u rest) (moved f (row (option_map (λ m. (depth, m)) m) r fs s))
    (ap (λ (u : Formula). expansion.row_of u rest) p
    ∙ (ap (λ (rest : List After). expansion.row_of (moved f (body_of m (brackets (brackets s.round depth) 1) (trees_of args s))) rest) q
    ∙ (moved_row f (body_of m (brackets (brackets s.round depth) 1) (trees_of args s)) (forms gs s) ∙ ap (moved f) (called_tree m k depth r fs gs args s e g)))) i

-- a row whose head means a definition, and which begins without arguments
plain_tree : (m : Option Insert) (depth : ℕ) (r : Filling) (fs : List Form) (s : Scope) → first_arguments fs ≡ None → row None r fs s ≡ row (option_map (λ m. (depth, m)) m) r fs s
plain_tree None depth r fs s e = refl
plain_tree (Some m) depth r fs s e = ap (λ (a : Option (List Part)). applied (depth, m) a r fs s) (sym e)

pub plain_row : {E : Type 0} (f : Place → Place) (m : Option Insert) (depth : ℕ) (r : Filling) (fs : List Form) (s : Scope) → first_arguments fs ≡ None → (res : Result Formula E) → IfOk res (λ e. e ≡ moved f (row None r fs s)) → IfOk res (λ e. e ≡ moved f (row (option_map (λ m. (depth, m)) m) r fs s))
plain_row f m depth r fs s e res h = ok_along res (moved f (row None r fs s)) (moved f (row (option_map (λ m. (depth, m)) m) r fs s)) (ap (moved f) (plain_tree m depth r fs s e)) h

-- ---- steps

-- a part has at most what all have
pub part_of_total : (means : Inserts) (ps : List (List ℕ)) (ns : List ℕ) (us : List Formula) (i : ℕ) (d : Formula) → i < length us → (filling means (get_or us i d)).part.steps ps ns ≤ total (parts (map (filling means) us)) ps ns
part_of_total means ps ns [] i d h = absurd (omega arith)
part_of_total means ps ns (u ∷ us) zero d h = omega arith
part_of_total means ps ns (u ∷ us) (suc i) d h = let k = part_of_total means ps ns us i d (omega arith) in omega arith

pub link_of_total : (means : Inserts) (ps : List (List ℕ)) (ns : List ℕ) (ls : List Link) (i : ℕ) (d : Link) → i < length ls → (side_of means (get_or ls i d)).operand.steps ps ns ≤ total (sides (map (side_of means) ls)) ps ns
link_of_total means ps ns [] i d h = absurd (omega arith)
link_of_total means ps ns (l ∷ ls) zero d h = omega arith
link_of_total means ps ns (l ∷ ls) (suc i) d h = let k = link_of_total means ps ns ls i d (omega arith) in omega arith

pub form_of_total : (means : Inserts) (ps : List (List ℕ)) (ns : List ℕ) (fs : List After) (i : ℕ) (d : After) → i < length fs → (form_of means (get_or fs i d)).steps ps ns ≤ form_total (map (form_of means) fs) ps ns
form_of_total means ps ns [] i d h = absurd (omega arith)
form_of_total means ps ns (f ∷ fs) zero d h = omega arith
form_of_total means ps ns (f ∷ fs) (suc i) d h = let k = form_of_total means ps ns fs i d (omega arith) in omega arith

-- the forms after the first have fewer steps
pub fewer_forms : (fs : List Form) (ps : List (List ℕ)) (ns : List ℕ) → form_total (later_forms fs) ps ns ≤ form_total fs ps ns
fewer_forms [] ps ns = omega arith
fewer_forms (f ∷ fs) ps ns = omega arith

-- the steps of a call are those of the use
pub call_steps : (m : Option Insert) (depth : ℕ) (o : Option (List Part)) (args : List Part) (ps : List (List ℕ)) (ns : List ℕ) → o ≡ Some args → used_steps m (map (λ a. a.steps ps ns) args) ≡ called_steps (option_map (λ m. (depth, m)) m) o ps ns
call_steps None depth o args ps ns e = ap (λ (o : Option (List Part)). called_steps None o ps ns) (sym e)
call_steps (Some m) depth o args ps ns e = ap (λ (o : Option (List Part)). called_steps (Some (depth, m)) o ps ns) (sym e)
