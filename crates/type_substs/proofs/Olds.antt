-- The frame of old values, name by name.
use Rattle.std.proofs.Common.{◌≡◌, ℕ, ◌≤◌, ◌<◌, ◌+◌, Bool, true, false, cond, List, [], ◌∷◌, ◌++◌, length, drop, get_or, map, bytes_eq, Vec, Option, Some, None, zero, suc, arith, sym, refl, ap, ◌∙◌, subst}
use Rattle.std.specs.Prelude.{option_map}
use Rattle.std.specs.HashMap.{HashMap}
use Rattle.std.specs.Cmp.Lexicographic.{bytes_decides}
use Rattle.std.proofs.lemmas.List.{drop_all, drop_more}
use Rattle.b_ast.specs.declared.Bound.{Bound}
use Rattle.type_demands.specs.declared.demands.Meaning.{Meaning}
use Rattle.type_demands.specs.Scopes.{Scope, names_of, meaning_in, or_else}
use Rattle.type_substs.specs.Told.{written, with_old, put_written}

-- ---- lists of names

length_names : (ns : List Bound) → length (names_of ns) ≡ length ns
length_names [] = refl
length_names (b ∷ ns) = ap suc (length_names ns)

get_name : (ns : List Bound) (i : ℕ) (d : Bound) → get_or (names_of ns) i d.name ≡ (get_or ns i d).name
get_name [] i d = refl
get_name (b ∷ ns) zero d = refl
get_name (b ∷ ns) (suc i) d = get_name ns i d

drop_names : (ns : List Bound) (i : ℕ) (d : Bound) → i < length ns → drop i (names_of ns) ≡ (get_or ns i d).name ∷ drop (i + 1) (names_of ns)
drop_names ns i d h = let l = length_names ns in drop_more (names_of ns) i d.name (omega arith) ∙ ap (λ x. x ∷ drop (i + 1) (names_of ns)) (get_name ns i d)

-- ---- old values

-- what means nothing outside has no old value
without_old : (bs : List (List ℕ)) (scope : Scope) (x : List ℕ) → scope x ≡ None → with_old bs scope x ≡ None
without_old [] scope x e = e
without_old (b ∷ bs) scope x e = cases (without_old bs scope x e) (bytes_eq x b)
  where
    cases : with_old bs scope x ≡ None → (t : Bool) → cond t (option_map written (scope x)) (with_old bs scope x) ≡ None
    cases h true = ap (option_map written) e
    cases h false = h

-- the names from i on are in the map
pub record IsOld {Y S : Type 0} (ns : List Bound) (scope : Scope) (i : ℕ) (meanings : HashMap (Vec ℕ Y) Meaning S) : Type 0 where
  pub within : i ≤ length ns
  pub olds : (x : List ℕ) → or_else (meaning_in meanings x) (scope x) ≡ with_old (drop i (names_of ns)) scope x

pub old_none : {Y S : Type 0} (ns : List Bound) (scope : Scope) (meanings : HashMap (Vec ℕ Y) Meaning S) → ((x : List ℕ) → meaning_in meanings x ≡ None) → IsOld ns scope (length ns) meanings
old_none ns scope meanings e =
    let d = drop_all (length ns) (names_of ns) (let l = length_names ns in omega arith) in
    record {
      within = omega arith;
      olds = λ x. ap (λ o. or_else o (scope x)) (e x) ∙ ap (λ l. with_old l scope x) (sym d);
    }

one_more : (scope : Scope) (b x : List ℕ) (bs : List (List ℕ)) (before : Option Meaning) (o : Option Meaning) → scope b ≡ o → or_else before (scope x) ≡ with_old bs scope x → (t : Bool) → bytes_eq x b ≡ t
    → or_else (put_written o b x before) (scope x) ≡ cond t (option_map written (scope x)) (with_old bs scope x)
one_more scope b x bs before None e h true t =
    let same : scope x ≡ None = ap scope ((bytes_decides x b).0 t) ∙ e in
    h ∙ without_old bs scope x same ∙ sym (ap (option_map written) same)
one_more scope b x bs before None e h false t = h
one_more scope b x bs before (Some m) e h true t =
    let same : scope x ≡ Some m = ap scope ((bytes_decides x b).0 t) ∙ e in
    ap (λ u. or_else (cond u (Some (written m)) before) (scope x)) t ∙ sym (ap (option_map written) same)
one_more scope b x bs before (Some m) e h false t = ap (λ u. or_else (cond u (Some (written m)) before) (scope x)) t ∙ h

pub old_more : {Y S : Type 0} (ns : List Bound) (scope : Scope) (i : ℕ) (b : Bound) (old new : HashMap (Vec ℕ Y) Meaning S) → i < length ns → b ≡ get_or ns i b → IsOld ns scope (i + 1) old
    → ((x : List ℕ) → meaning_in new x ≡ put_written (scope b.name) b.name x (meaning_in old x)) → IsOld ns scope i new
old_more ns scope i b old new inside is g put =
    let rest = drop (i + 1) (names_of ns) in
    let d : drop i (names_of ns) ≡ b.name ∷ rest = drop_names ns i b inside ∙ ap (λ (c : Bound). c.name ∷ rest) (sym is) in
    record {
      within = omega arith;
      olds = λ x.
          ap (λ o. or_else o (scope x)) (put x)
          ∙ one_more scope b.name x rest (meaning_in old x) (scope b.name) refl (g.olds x) (bytes_eq x b.name) refl
          ∙ ap (λ l. with_old l scope x) (sym d);
    }

pub old_all : {Y S : Type 0} (ns : List Bound) (scope : Scope) (i : ℕ) (meanings : HashMap (Vec ℕ Y) Meaning S) → i ≡ 0 → IsOld ns scope i meanings → (x : List ℕ) → or_else (meaning_in meanings x) (scope x) ≡ with_old (names_of ns) scope x
old_all ns scope i meanings e g x = g.olds x ∙ ap (λ k. with_old (drop k (names_of ns)) scope x) e
