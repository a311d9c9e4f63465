-- What it is that the words of a value fit, at each kind.
use Rattle.std.proofs.Common.{◌≡◌, ◌<◌, ◌^◌, ℕ, ℤ, Bool, List, [], ◌∷◌, subst}
use Rattle.std.specs.List.{AllByRecursion}
use Rattle.b_values.specs.Layers.{Below, by_layers, lift, unlift}
use Rattle.b_values.specs.Reading.{FitsNumber, LayerFits, NumbersFit}
use Rattle.engine_face.specs.Words.{LayerWords, WordsFit}
use Rattle.b_values.specs.declared.values.Value.{Value, out-Value, roll-Value, out-roll-Value, every_here-Value, every_held-Value, every_made-Value}
use Rattle.b_values.specs.declared.values.Value.TheOpen.{Value-F}
use Rattle.b_values.specs.declared.values.Value.TheVariants.{Int, Truth, Text, Elem, Pair, Set, outs-Int, outs-Elem, outs-Pair, outs-Set, rolls-Int, rolls-Truth, rolls-Text, rolls-Elem, rolls-Pair, rolls-Set}

pub parts_fit : (v : Value) → WordsFit v → Below WordsFit (out-Value v)
parts_fit v h = unlift WordsFit (out-Value v) (every_held-Value LayerWords v h)

pub words_made : (x : Value-F Value) → Below WordsFit x → LayerWords x → WordsFit (roll-Value x)
words_made x k a = let r = lift WordsFit x k in every_made-Value LayerWords x r.0 r.1 a

pub words-Int : (n : ℤ) → FitsNumber n → WordsFit (Int n)
words-Int n h = subst WordsFit (rolls-Int n) (words_made (Value-F.Int n) tt h)

pub words-Truth : (b : Bool) → WordsFit (Truth b)
words-Truth b = subst WordsFit (rolls-Truth b) (words_made (Value-F.Truth b) tt tt)

pub words-Text : (s : List ℕ) → WordsFit (Text s)
words-Text s = subst WordsFit (rolls-Text s) (words_made (Value-F.Text s) tt tt)

pub words-Elem : (set index : ℕ) → index < 2 ^ 32 → WordsFit (Elem set index)
words-Elem set index h = subst WordsFit (rolls-Elem set index) (words_made (Value-F.Elem set index) tt h)

pub words-Pair : (a b : Value) → WordsFit a → WordsFit b → WordsFit (Pair a b)
words-Pair a b h k = subst WordsFit (rolls-Pair a b) (words_made (Value-F.Pair a b) (h, k) tt)

pub words-Set : (xs : List Value) → AllByRecursion WordsFit xs → WordsFit (Set xs)
words-Set xs h = subst WordsFit (rolls-Set xs) (words_made (Value-F.Set xs) h tt)

pub number_fits : (n : ℤ) → WordsFit (Int n) → FitsNumber n
number_fits n h = subst LayerWords (outs-Int n) (every_here-Value LayerWords (Int n) h)

pub couple_fits : (a b : Value) → WordsFit (Pair a b) → WordsFit a × WordsFit b
couple_fits a b h = subst (Below WordsFit) (outs-Pair a b) (parts_fit (Pair a b) h)

pub members_fit : (xs : List Value) → WordsFit (Set xs) → AllByRecursion WordsFit xs
members_fit xs h = subst (Below WordsFit) (outs-Set xs) (parts_fit (Set xs) h)

pub index_fits : (set index : ℕ) → WordsFit (Elem set index) → index < 2 ^ 32
index_fits set index h = subst LayerWords (outs-Elem set index) (every_here-Value LayerWords (Elem set index) h)

-- ---- numbers alone

number_layer : (x : Value-F Value) → LayerWords x → LayerFits x
number_layer (Value-F.Int n) h = h
number_layer (Value-F.Truth b) h = tt
number_layer (Value-F.Text s) h = tt
number_layer (Value-F.Elem s i) h = tt
number_layer (Value-F.Pair a b) h = tt
number_layer (Value-F.Set xs) h = tt

abbrev FitBoth : Value → Type 0
FitBoth v = WordsFit v → NumbersFit v

all_fit : (xs : List Value) → AllByRecursion FitBoth xs → AllByRecursion WordsFit xs → AllByRecursion NumbersFit xs
all_fit [] k h = tt
all_fit (x ∷ xs) k h = (k.0 h.0, all_fit xs k.1 h.1)

parts_fit_both : (x : Value-F Value) → Below FitBoth x → Below WordsFit x → Below NumbersFit x
parts_fit_both (Value-F.Int n) k h = tt
parts_fit_both (Value-F.Truth b) k h = tt
parts_fit_both (Value-F.Text s) k h = tt
parts_fit_both (Value-F.Elem s i) k h = tt
parts_fit_both (Value-F.Pair a b) k h = (k.0 h.0, k.1 h.1)
parts_fit_both (Value-F.Set xs) k h = all_fit xs k h

numbers_made : (x : Value-F Value) → Below NumbersFit x → LayerFits x → NumbersFit (roll-Value x)
numbers_made x k a = let r = lift NumbersFit x k in every_made-Value LayerFits x r.0 r.1 a

-- the numbers of a value whose words fit
pub numbers_fit : (v : Value) → WordsFit v → NumbersFit v
numbers_fit = by_layers FitBoth (λ x k h.
    let parts = subst (Below WordsFit) (out-roll-Value x) (parts_fit (roll-Value x) h) in
    let here = subst LayerWords (out-roll-Value x) (every_here-Value LayerWords (roll-Value x) h) in
    numbers_made x (parts_fit_both x k parts) (number_layer x here))
