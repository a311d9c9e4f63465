-- What a gathering holds after one more, after several in turn, and at the end.
use Rattle.std.proofs.Common.{◌≡◌, ◌+◌, ◌<◌, ℕ, List, [], ◌∷◌, ◌++◌, map, length, get_or, take, drop, Option, Some, None, Result, Ok, Err, append_assoc, append-nil, refl, sym, ap, ◌∙◌, subst, inl}
use Rattle.std.specs.Prelude.{OnOk, IfErr}
use Rattle.std.specs.List.{flat_map, cons_option}
use Rattle.std.proofs.lemmas.List.{take_more, take-append-drop}
use Rattle.ascending.specs.Ascending.{In, insert, set_of}
use Rattle.ascending.specs.Members.{in_append}
use Rattle.b_values.specs.Values.{value_cmp}
use Rattle.b_values.specs.declared.values.Value.{Value}
use Rattle.set_making.specs.declared.OpFault.{OpFault}
use Rattle.set_making.specs.declared.OpFault.TheVariants.{Fault, Memory}
use Rattle.set_making.specs.Making.{set_with, Answers, FaultOf}
use Rattle.set_making.specs.MakingLaws.{gathered_more, gathered_fault, gathered_all, fault_of_more}
use Rattle.b_relations.specs.Joining.{Adds}
use Rattle.b_relations.specs.Relations.{couples_in, parts}
use Rattle.b_relations.proofs.Steps.{rest_at}

front_in : (xs ys : List Value) (z : Value) → In z xs → In z (xs ++ ys)
front_in xs ys z h = (in_append z xs ys).1 (inl h)

-- ---- one call

pub adds_one : (old new : List Value) (v : Value) (r : Result (Unit {0}) OpFault) → OnOk r (new ≡ insert value_cmp v old) → IfErr r (λ e. FaultOf (set_with old) e) → Adds old (v ∷ []) r new
adds_one old new v (Ok done) a b = λ xs e. gathered_more old new xs v e a
adds_one old new v (Err f) a b = λ xs e. gathered_fault old xs (xs ++ v ∷ []) f e (front_in xs (v ∷ [])) b

pub adds_none : (old : List Value) → Adds old [] (Ok tt) old
adds_none old xs e = e ∙ ap (set_of value_cmp) (sym (append-nil xs))

-- ---- in turn

-- what was added, and one more piece
pub adds_more : (old mid new a b : List Value) → Adds old a (Ok tt) mid → Adds mid b (Ok tt) new → Adds old (a ++ b) (Ok tt) new
adds_more old mid new a b h k xs e = k (xs ++ a) (h xs e) ∙ ap (set_of value_cmp) (append_assoc xs a b)

-- a fault at a piece is that of the whole
pub adds_fault : (old mid new a b rest : List Value) (f : OpFault) → Adds old a (Ok tt) mid → Adds mid b (Err f) new → Adds old (a ++ (b ++ rest)) (Err f) new
adds_fault old mid new a b rest f h k xs e =
    let same : ((xs ++ a) ++ b) ++ rest ≡ xs ++ (a ++ (b ++ rest)) = append_assoc (xs ++ a) b rest ∙ append_assoc xs a (b ++ rest) in
    fault_of_more ((xs ++ a) ++ b) (xs ++ (a ++ (b ++ rest))) f (λ z m. subst (In z) same (front_in ((xs ++ a) ++ b) rest z m)) (k (xs ++ a) (h xs e))

-- ---- over a list

pub flat_append : {X : Type 0} (F : X → List Value) (xs ys : List X) → flat_map F (xs ++ ys) ≡ flat_map F xs ++ flat_map F ys
flat_append F [] ys = refl
flat_append F (x ∷ xs) ys = ap (λ l. F x ++ l) (flat_append F xs ys) ∙ sym (append_assoc (F x) (flat_map F xs) (flat_map F ys))

-- the pieces up to a place, and the one there
pub flat_at : {X : Type 0} (F : X → List Value) (xs : List X) (i : ℕ) (x : X) → i < length xs → x ≡ get_or xs i x → flat_map F (take (i + 1) xs) ≡ flat_map F (take i xs) ++ F x
flat_at F xs i x h e =
    ap (flat_map F) (take_more xs i x h ∙ ap (λ y. take i xs ++ y ∷ []) (sym e))
    ∙ flat_append F (take i xs) (x ∷ []) ∙ ap (λ l. flat_map F (take i xs) ++ l) (append-nil (F x))

-- all pieces are those up to a place, the one there, and those after it
pub flat_split : {X : Type 0} (F : X → List Value) (xs : List X) (i : ℕ) (x : X) → i < length xs → x ≡ get_or xs i x → flat_map F xs ≡ flat_map F (take i xs) ++ (F x ++ flat_map F (drop (i + 1) xs))
flat_split F xs i x h e =
    ap (flat_map F) (sym (take-append-drop i xs) ∙ ap (λ l. take i xs ++ l) (rest_at xs i x h e))
    ∙ flat_append F (take i xs) (x ∷ drop (i + 1) xs)

-- a loop's step
pub adds_step : {X : Type 0} (F : X → List Value) (xs : List X) (i : ℕ) (x : X) (old mid new : List Value) → i < length xs → x ≡ get_or xs i x
    → Adds old (flat_map F (take i xs)) (Ok tt) mid → Adds mid (F x) (Ok tt) new → Adds old (flat_map F (take (i + 1) xs)) (Ok tt) new
adds_step F xs i x old mid new h e a b = subst (λ l. Adds old l (Ok tt) new) (sym (flat_at F xs i x h e)) (adds_more old mid new (flat_map F (take i xs)) (F x) a b)

-- a loop's fault
pub adds_stop : {X : Type 0} (F : X → List Value) (xs : List X) (i : ℕ) (x : X) (old mid new : List Value) (f : OpFault) → i < length xs → x ≡ get_or xs i x
    → Adds old (flat_map F (take i xs)) (Ok tt) mid → Adds mid (F x) (Err f) new → Adds old (flat_map F xs) (Err f) new
adds_stop F xs i x old mid new f h e a b = subst (λ l. Adds old l (Err f) new) (sym (flat_split F xs i x h e)) (adds_fault old mid new (flat_map F (take i xs)) (F x) (flat_map F (drop (i + 1) xs)) f a b)

-- ---- from nothing

pub answers_gathered : (more new : List Value) (r : Result Value OpFault) → Adds [] more (Ok tt) new → Answers (set_with new) r → Answers (set_with more) r
answers_gathered more new r a b = gathered_all new more r (a [] refl) b

pub fault_gathered : (more new : List Value) (f : OpFault) → Adds [] more (Err f) new → FaultOf (set_with more) f
fault_gathered more new f a = a [] refl

-- a fault of a row is its answer
pub answer_of_fault : (xs : List Value) (f : OpFault) → FaultOf (set_with xs) f → Answers (set_with xs) (Err f)
answer_of_fault xs (Fault k) h = h
answer_of_fault xs Memory h = h

-- ---- pieces by members are pieces by couples

of_option : {Y : Type 0} (f : Value × Value → List Y) (m : Value) (ps : List (Value × Value)) → flat_map f (cons_option (parts m) ps) ≡ flat_map f (couples_in (m ∷ [])) ++ flat_map f ps
of_option f m ps = go (parts m)
  where
    go : (o : Option (Value × Value)) → flat_map f (cons_option o ps) ≡ flat_map f (cons_option o []) ++ flat_map f ps
    go None = refl
    go (Some p) = ap (λ l. l ++ flat_map f ps) (sym (append-nil (f p)))

pub by_members : {Y : Type 0} (f : Value × Value → List Y) (xs : List Value) → flat_map (λ m. flat_map f (couples_in (m ∷ []))) xs ≡ flat_map f (couples_in xs)
by_members f [] = refl
by_members f (m ∷ xs) = ap (λ l. flat_map f (couples_in (m ∷ [])) ++ l) (by_members f xs) ∙ sym (of_option f m (couples_in xs))

pub map_is_flat : {X Y : Type 0} (f : X → Y) (xs : List X) → map f xs ≡ flat_map (λ x. f x ∷ []) xs
map_is_flat f [] = refl
map_is_flat f (x ∷ xs) = ap (λ l. f x ∷ l) (map_is_flat f xs)

pub map_by_members : {Y : Type 0} (f : Value × Value → Y) (xs : List Value) → flat_map (λ m. map f (couples_in (m ∷ []))) xs ≡ map f (couples_in xs)
map_by_members f [] = refl
map_by_members f (m ∷ xs) = ap (λ l. map f (couples_in (m ∷ [])) ++ l) (map_by_members f xs) ∙ sym (go (parts m))
  where
    go : (o : Option (Value × Value)) → map f (cons_option o (couples_in xs)) ≡ map f (cons_option o []) ++ map f (couples_in xs)
    go None = refl
    go (Some p) = refl
