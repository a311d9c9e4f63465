-- Values of a type within the limit of nodes may be packed.
use Rattle.std.proofs.Common.{◌≡◌, ◌∙◌, ◌<◌, ◌≤◌, ◌^◌, sym, ap, subst, refl, ℕ, suc, ◌+◌, arith, List, [], ◌∷◌, ◌++◌, map, length, sum}
use Rattle.std.specs.List.{AllByRecursion}
use Rattle.b_values.specs.Layers.{Below, by_layers, lift, unlift}
use Rattle.b_values.specs.SizeLaws.{count_at}
use Rattle.b_values.specs.TypeLaws.{typed_at}
use Rattle.b_values.specs.Types.{FitsFace, HasType, HaveTypes, LayerHasType}
use Rattle.b_values.specs.declared.types.Face.{Face}
use Rattle.b_values.specs.declared.values.State.{State}
use Rattle.b_values.specs.declared.values.State.TheVariants.{Root, Constants, Running}
use Rattle.b_values.specs.Values.{IsKept, node_count}
use Rattle.b_values.specs.declared.types.NameFace.{NameFace}
use Rattle.b_values.specs.declared.types.SetFace.{SetFace}
use Rattle.b_values.specs.declared.types.Ty.{Ty, out-Ty}
use Rattle.b_values.specs.declared.types.Ty.TheOpen.{Ty-F}
use Rattle.b_values.specs.declared.values.Value.{Value, out-Value, roll-Value, out-roll-Value, roll-out-Value, every_here-Value, every_held-Value, every_made-Value}
use Rattle.b_values.specs.declared.values.Value.TheOpen.{Value-F}
use Rattle.b_values.specs.declared.values.Value.TheVariants.{outs-Pair, outs-Set, outs-Text, Pair, Set, Text}
use Rattle.engine_face.specs.Typing.{AreOfTypes, IsStateOf, values_in}
use Rattle.engine_face.specs.Words.{WordsFit}
use Rattle.pack_state.specs.CompleteLaws.{counts_fit, longer, part_of_sum}
use Rattle.pack_state.specs.Packable.{LayerShort, IsShort}

made : (x : Value-F Value) → Below IsShort x → LayerShort x → IsShort (roll-Value x)
made x k a = let r = lift IsShort x k in every_made-Value LayerShort x r.0 r.1 a

parts_short : (v : Value) → IsShort v → Below IsShort (out-Value v)
parts_short v h = unlift IsShort (out-Value v) (every_held-Value LayerShort v h)

pub text_short : (s : List ℕ) → IsShort (Text s) → length s < 2 ^ 32
text_short s h = subst LayerShort (outs-Text s) (every_here-Value LayerShort (Text s) h)

pub couple_short : (a b : Value) → IsShort (Pair a b) → IsShort a × IsShort b
couple_short a b h = subst (Below IsShort) (outs-Pair a b) (parts_short (Pair a b) h)

pub set_short : (xs : List Value) → IsShort (Set xs) → length xs < 2 ^ 32
set_short xs h = subst LayerShort (outs-Set xs) (every_here-Value LayerShort (Set xs) h)

pub members_short : (xs : List Value) → IsShort (Set xs) → AllByRecursion IsShort xs
members_short xs h = subst (Below IsShort) (outs-Set xs) (parts_short (Set xs) h)

module _ (sets : List SetFace) where
  abbrev Packs : Value → Type 0
  Packs v = (t : Ty) → HasType sets t v → node_count v ≤ 1000000 → IsShort v

  all_short : (t : Ty) (xs : List Value) → AllByRecursion Packs xs → AllByRecursion (HasType sets t) xs → AllByRecursion (λ x. node_count x ≤ 1000000) xs → AllByRecursion IsShort xs
  all_short t [] k h s = tt
  all_short t (x ∷ xs) k h s = (k.0 t h.0 s.0, all_short t xs k.1 h.1 s.1)

  by_layer : (d : Ty-F Ty) (x : Value-F Value) → Below Packs x → LayerHasType sets (HasType sets) d x → node_count (roll-Value x) ≤ 1000000 → IsShort (roll-Value x)
  by_layer Ty-F.Int (Value-F.Int n) k l s = made (Value-F.Int n) tt tt
  by_layer Ty-F.Truth (Value-F.Truth b) k l s = made (Value-F.Truth b) tt tt
  by_layer Ty-F.Text (Value-F.Text t) k l s = made (Value-F.Text t) tt l.short
  by_layer (Ty-F.Elem n) (Value-F.Elem set index) k l s = made (Value-F.Elem set index) tt tt
  by_layer (Ty-F.Pair t u) (Value-F.Pair a b) k l s =
      let sizes = part_of_sum 1000000 (node_count a) (node_count b) (subst (λ (n : ℕ). n ≤ 1000000) (count_at (roll-Value (Value-F.Pair a b)) (Value-F.Pair a b) (out-roll-Value (Value-F.Pair a b))) s) in
      made (Value-F.Pair a b) (k.0 t l.0 sizes.0, k.1 u l.1 sizes.1) tt
  by_layer (Ty-F.Set t) (Value-F.Set xs) k l s =
      let counted : 1 + sum (map node_count xs) ≤ 1000000 = subst (λ (n : ℕ). n ≤ 1000000) (count_at (roll-Value (Value-F.Set xs)) (Value-F.Set xs) (out-roll-Value (Value-F.Set xs))) s in
      let long = longer xs in
      made (Value-F.Set xs) (all_short t xs k l (counts_fit 1000000 xs (omega (arith, counted)))) (omega (arith, counted, long))
  by_layer d x k l s = absurd l

  -- a value of a type within the limit may be packed
  pub typed_short : (v : Value) → Packs v
  typed_short = by_layers Packs (λ x k t h s. by_layer (out-Ty t) x k ((typed_at sets t (out-Ty t) (roll-Value x) x refl (out-roll-Value x)).0 h) s)

  pub all_typed_short : (names : List NameFace) (vs : List Value) → HaveTypes sets names vs → AllByRecursion IsKept vs → AllByRecursion IsShort vs
  all_typed_short [] [] h k = tt
  all_typed_short [] (v ∷ vs) h k = absurd h
  all_typed_short (n ∷ names) [] h k = absurd h
  all_typed_short (n ∷ names) (v ∷ vs) h k = (typed_short v n.ty h.0 k.0.size, all_typed_short names vs h.1 k.1)

  -- with the words that were seen while it was packed, it is a value of the machine
  pub packed_typed : (names : List NameFace) (vs : List Value) → HaveTypes sets names vs → AllByRecursion IsKept vs → AllByRecursion WordsFit vs → AreOfTypes sets names vs
  packed_typed [] [] h k w = tt
  packed_typed [] (v ∷ vs) h k w = absurd h
  packed_typed (n ∷ names) [] h k w = absurd h
  packed_typed (n ∷ names) (v ∷ vs) h k w = (record { typed = h.0; kept = k.0; words = w.0 }, packed_typed names vs h.1 k.1 w.1)

parts_kept : (P : Value → Type 0) (xs ys : List Value) → AllByRecursion P (xs ++ ys) → AllByRecursion P xs × AllByRecursion P ys
parts_kept P [] ys h = (tt, h)
parts_kept P (x ∷ xs) ys h = let more = parts_kept P xs ys h.1 in ((h.0, more.0), more.1)

pub constants_short : (face : Face) (s : State) (cs : List Value) → s ≡ Constants cs → FitsFace face s → AllByRecursion IsKept (values_in s) → AllByRecursion IsShort cs
constants_short face s cs e h k =
    all_typed_short face.sets face.constants cs (subst (FitsFace face) e h) (subst (λ (s : State). AllByRecursion IsKept (values_in s)) e k)

pub running_short : (face : Face) (s : State) (cs vs : List Value) → s ≡ Running cs vs → FitsFace face s → AllByRecursion IsKept (values_in s) → AllByRecursion IsShort cs × AllByRecursion IsShort vs
running_short face s cs vs e h k =
    let fits = subst (FitsFace face) e h in
    let kept = parts_kept IsKept cs vs (subst (λ (s : State). AllByRecursion IsKept (values_in s)) e k) in
    (all_typed_short face.sets face.constants cs fits.0 kept.0, all_typed_short face.sets face.variables vs fits.1 kept.1)

pub constants_state : (face : Face) (s : State) (cs : List Value) → s ≡ Constants cs → FitsFace face s → AllByRecursion IsKept (values_in s) → AllByRecursion WordsFit cs → IsStateOf face s
constants_state face s cs e h k w =
    subst (IsStateOf face) (sym e) (packed_typed face.sets face.constants cs (subst (FitsFace face) e h) (subst (λ (s : State). AllByRecursion IsKept (values_in s)) e k) w)

pub running_state : (face : Face) (s : State) (cs vs : List Value) → s ≡ Running cs vs → FitsFace face s → AllByRecursion IsKept (values_in s) → AllByRecursion WordsFit cs → AllByRecursion WordsFit vs → IsStateOf face s
running_state face s cs vs e h k w x =
    let fits = subst (FitsFace face) e h in
    let kept = parts_kept IsKept cs vs (subst (λ (s : State). AllByRecursion IsKept (values_in s)) e k) in
    subst (IsStateOf face) (sym e) (packed_typed face.sets face.constants cs fits.0 kept.0 w, packed_typed face.sets face.variables vs fits.1 kept.1 x)

names_fit : (sets : List SetFace) (names : List NameFace) (vs : List Value) → AreOfTypes sets names vs → HaveTypes sets names vs × AllByRecursion IsKept vs
names_fit sets [] [] h = (tt, tt)
names_fit sets [] (v ∷ vs) h = absurd h
names_fit sets (n ∷ names) [] h = absurd h
names_fit sets (n ∷ names) (v ∷ vs) h = let more = names_fit sets names vs h.1 in ((h.0.typed, more.0), (h.0.kept, more.1))

kept_both : (xs ys : List Value) → AllByRecursion IsKept xs → AllByRecursion IsKept ys → AllByRecursion IsKept (xs ++ ys)
kept_both [] ys h k = k
kept_both (x ∷ xs) ys h k = (h.0, kept_both xs ys h.1 k)

-- a state of the machine may be packed
pub state_fits : (face : Face) (s : State) → IsStateOf face s → FitsFace face s × AllByRecursion IsKept (values_in s)
state_fits face Root h = (tt, tt)
state_fits face (Constants cs) h = names_fit face.sets face.constants cs h
state_fits face (Running cs vs) h =
    let first = names_fit face.sets face.constants cs h.0 in
    let second = names_fit face.sets face.variables vs h.1 in
    ((first.0, second.0), kept_both cs vs first.1 second.1)
