-- Frames of bound names.
use Rattle.std.proofs.Common.{◌≡◌, ℕ, ◌≤◌, ◌<◌, ◌+◌, Bool, true, false, cond, List, [], ◌∷◌, ◌++◌, length, take, drop, get_or, map, bytes_eq, Vec, Option, Some, None, zero, suc, arith, sym, refl, ap, ◌∙◌, subst}
use Rattle.std.specs.Prelude.{not, ◌&&◌, is_some}
use Rattle.std.proofs.Math.Path.{fun_ext}
use Rattle.std.specs.HashMap.{HashMap, UpdatesBy}
use Rattle.std.specs.Map.{lookup, IsKeyTest, AreApart, KeepsOthers}
use Rattle.std.specs.Cmp.Lexicographic.{bytes_decides, nat_list_eq_equiv}
use Rattle.std.proofs.lemmas.List.{take_more, take_all, drop_more, drop_all}
use Rattle.b_ast.specs.declared.Bound.{Bound}
use Rattle.type_demands.specs.declared.demands.Meaning.{Meaning}
use Rattle.type_demands.specs.declared.scopes.Frame.{Frame}
use Rattle.type_demands.specs.Scopes.{Scope, nothing_known, bound_at, bind, names_of, all_differ, meaning_in, or_else, scope_from, scope_of, without_last}

-- ---- the innermost frame first

pub last_frame : (outer : Scope) (fs : List Frame) (f : Frame) (x : List ℕ) → scope_from outer (fs ++ f ∷ []) x ≡ or_else (meaning_in f.meanings x) (scope_from outer fs x)
last_frame outer [] f x = refl
last_frame outer (g ∷ fs) f x = last_frame (λ y. or_else (meaning_in g.meanings y) (outer y)) fs f x

module _ (fs : List Frame) (i : ℕ) (f : Frame) (x : List ℕ) (inside : i < length fs) (is : f ≡ get_or fs i f) (so_far : scope_of fs x ≡ scope_of (take (i + 1) fs) x) where
  this_frame : scope_of fs x ≡ or_else (meaning_in f.meanings x) (scope_of (take i fs) x)
  this_frame =
      so_far ∙ ap (λ (l : List Frame). scope_of l x) (take_more fs i f inside)
      ∙ last_frame nothing_known (take i fs) (get_or fs i f) x
      ∙ ap (λ (g : Frame). or_else (meaning_in g.meanings x) (scope_of (take i fs) x)) (sym is)

  pub found_in : (m : Meaning) → meaning_in f.meanings x ≡ Some m → Some m ≡ scope_of fs x
  found_in m e = sym (this_frame ∙ ap (λ o. or_else o (scope_of (take i fs) x)) e)

  pub found_before : meaning_in f.meanings x ≡ None → scope_of fs x ≡ scope_of (take i fs) x
  found_before e = this_frame ∙ ap (λ o. or_else o (scope_of (take i fs) x)) e

pub all_frames : (fs : List Frame) (x : List ℕ) → scope_of fs x ≡ scope_of (take (length fs) fs) x
all_frames fs x = ap (λ (l : List Frame). scope_of l x) (sym (take_all (length fs) fs (omega arith)))

pub found_nowhere : (fs : List Frame) (i : ℕ) (x : List ℕ) → i ≡ 0 → scope_of fs x ≡ scope_of (take i fs) x → None ≡ scope_of fs x
found_nowhere fs i x e so_far = sym (so_far ∙ ap (λ n. scope_of (take n fs) x) e)

-- ---- a name put into a map

apart : (x name key : List ℕ) → bytes_eq x name ≡ false → bytes_eq name key ≡ true → bytes_eq x key ≡ false
apart x name key n y = nat_list_eq_equiv.symm x key ∙ sym (nat_list_eq_equiv.congr name key x y) ∙ (nat_list_eq_equiv.symm name x ∙ n)

others : {K : Type 0} (eq : K → K → Bool) (test : K → Bool) (old new : List (K × Meaning)) → KeepsOthers eq test old new → (other : K → Bool) → IsKeyTest eq other → AreApart test other → lookup other new ≡ lookup other old
unfolding KeepsOthers
others eq test old new h = h

pub put_at : {Y S : Type 0} (name : List ℕ) (old new : HashMap (Vec ℕ Y) Meaning S) (m : Meaning) → UpdatesBy (λ k l. bytes_eq k.items l.items) (λ k. bytes_eq name k.items) old new (Some m) → (x : List ℕ) → meaning_in new x ≡ cond (bytes_eq x name) (Some m) (meaning_in old x)
put_at name old new m h x = cases (bytes_eq x name) refl
  where
    cases : (b : Bool) → bytes_eq x name ≡ b → meaning_in new x ≡ cond b (Some m) (meaning_in old x)
    cases true e = subst (λ y. meaning_in new y ≡ Some m) (sym ((bytes_decides x name).0 e)) h.1
    cases false e = others _ _ _ _ h.3 (λ k. bytes_eq x k.items) (λ k l. nat_list_eq_equiv.congr x k.items l.items) (λ k. apart x name k.items e)

-- ---- names bound one by one, the last one first

-- whether a name is bound doesn't hang on the parts' numbers
same_known : (bs : List (List ℕ)) (n m : ℕ) (x : List ℕ) → is_some (bind bs n nothing_known x) ≡ is_some (bind bs m nothing_known x)
same_known [] n m x = refl
same_known (b ∷ bs) n m x = cases (same_known bs (n + 1) (m + 1) x) (bytes_eq x b)
  where
    cases : is_some (bind bs (n + 1) nothing_known x) ≡ is_some (bind bs (m + 1) nothing_known x) → (c : Bool) → is_some (cond c (Some (bound_at n)) (bind bs (n + 1) nothing_known x)) ≡ is_some (cond c (Some (bound_at m)) (bind bs (m + 1) nothing_known x))
    cases h true = refl
    cases h false = h

get_name : {X : Type 0} (name : X → List ℕ) (ns : List X) (i : ℕ) (d : X) → get_or (map name ns) i (name d) ≡ name (get_or ns i d)
get_name name [] i d = refl
get_name name (b ∷ ns) zero d = refl
get_name name (b ∷ ns) (suc i) d = get_name name ns i d

length_names : {X : Type 0} (name : X → List ℕ) (ns : List X) → length (map name ns) ≡ length ns
length_names name [] = refl
length_names name (b ∷ ns) = ap suc (length_names name ns)

drop_names : {X : Type 0} (name : X → List ℕ) (ns : List X) (i : ℕ) (d : X) → i < length ns → drop i (map name ns) ≡ name (get_or ns i d) ∷ drop (i + 1) (map name ns)
drop_names name ns i d h =
    let l = length_names name ns in
    drop_more (map name ns) i (name d) (omega arith) ∙ ap (λ x. x ∷ drop (i + 1) (map name ns)) (get_name name ns i d)

-- the names from i on are in the map, their parts counted from the start
pub record IsOpening {X Y S : Type 0} (name : X → List ℕ) (ns : List X) (start i : ℕ) (meanings : HashMap (Vec ℕ Y) Meaning S) (differ : Bool) : Type 0 where
  pub within : i ≤ length ns
  pub bound : (x : List ℕ) → meaning_in meanings x ≡ bind (drop i (map name ns)) (start + i) nothing_known x
  pub differ_is : differ ≡ all_differ (drop i (map name ns))

pub opening_none : {X Y S : Type 0} (name : X → List ℕ) (ns : List X) (start : ℕ) (meanings : HashMap (Vec ℕ Y) Meaning S) → ((x : List ℕ) → meaning_in meanings x ≡ None) → IsOpening name ns start (length ns) meanings true
opening_none name ns start meanings e =
    let d = drop_all (length ns) (map name ns) (let l = length_names name ns in omega arith) in
    record {
      within = omega arith;
      bound = λ x. e x ∙ ap (λ l. bind l (start + length ns) nothing_known x) (sym d);
      differ_is = ap all_differ (sym d);
    }

pub opening_more : {X Y S : Type 0} (name : X → List ℕ) (ns : List X) (start i : ℕ) (b : X) (old new : HashMap (Vec ℕ Y) Meaning S) (differ fresh more : Bool) → i < length ns → b ≡ get_or ns i b → IsOpening name ns start (i + 1) old differ
    → ((x : List ℕ) → meaning_in new x ≡ cond (bytes_eq x (name b)) (Some (bound_at (start + i))) (meaning_in old x))
    → fresh ≡ not (is_some (meaning_in old (name b))) → more ≡ (fresh && differ) → IsOpening name ns start i new more
opening_more name ns start i b old new differ fresh more inside is g put f m =
    let rest = drop (i + 1) (map name ns) in
    let d : drop i (map name ns) ≡ name b ∷ rest = drop_names name ns i b inside ∙ ap (λ c. name c ∷ rest) (sym is) in
    let n : start + (i + 1) ≡ start + i + 1 = omega arith in
    record {
      within = omega arith;
      bound = λ x.
          put x ∙ ap (cond (bytes_eq x (name b)) (Some (bound_at (start + i)))) (g.bound x ∙ ap (λ k. bind rest k nothing_known x) n)
          ∙ ap (λ l. bind l (start + i) nothing_known x) (sym d);
      differ_is =
          m
          ∙ ap (λ c. c && differ) (f ∙ ap not (ap is_some (g.bound (name b)) ∙ same_known rest (start + (i + 1)) 0 (name b)))
          ∙ ap (λ c. not (is_some (bind rest 0 nothing_known (name b))) && c) g.differ_is
          ∙ ap all_differ (sym d);
    }

pub opening_all : {X Y S : Type 0} (name : X → List ℕ) (ns : List X) (start i : ℕ) (meanings : HashMap (Vec ℕ Y) Meaning S) (differ : Bool) → i ≡ 0 → IsOpening name ns start i meanings differ → ((x : List ℕ) → meaning_in meanings x ≡ bind (map name ns) start nothing_known x) × (differ ≡ all_differ (map name ns))
opening_all name ns start i meanings differ e g = (
  λ x. g.bound x ∙ ap (λ k. bind (drop k (map name ns)) (start + k) nothing_known x) e ∙ ap (λ k. bind (map name ns) k nothing_known x) (omega arith),
  g.differ_is ∙ ap (λ k. all_differ (drop k (map name ns))) e,
)

-- ---- a frame more

bind_over : (bs : List (List ℕ)) (n : ℕ) (outer : Scope) (x : List ℕ) → or_else (bind bs n nothing_known x) (outer x) ≡ bind bs n outer x
bind_over [] n outer x = refl
bind_over (b ∷ bs) n outer x = cases (bind_over bs (n + 1) outer x) (bytes_eq x b)
  where
    cases : or_else (bind bs (n + 1) nothing_known x) (outer x) ≡ bind bs (n + 1) outer x → (c : Bool) → or_else (cond c (Some (bound_at n)) (bind bs (n + 1) nothing_known x)) (outer x) ≡ cond c (Some (bound_at n)) (bind bs (n + 1) outer x)
    cases h true = refl
    cases h false = h

pub framed : (fs : List Frame) (f : Frame) (bs : List (List ℕ)) (n : ℕ) → ((x : List ℕ) → meaning_in f.meanings x ≡ bind bs n nothing_known x) → scope_of (fs ++ f ∷ []) ≡ bind bs n (scope_of fs)
framed fs f bs n e = fun_ext (λ x. last_frame nothing_known fs f x ∙ ap (λ o. or_else o (scope_of fs x)) (e x) ∙ bind_over bs n (scope_of fs) x)

pub without_pushed : (fs : List Frame) (f : Frame) → without_last (fs ++ f ∷ []) ≡ fs
without_pushed [] f = refl
without_pushed (g ∷ []) f = refl
without_pushed (g ∷ h ∷ fs) f = ap (λ (l : List Frame). g ∷ l) (without_pushed (h ∷ fs) f)
