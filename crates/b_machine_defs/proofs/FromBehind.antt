-- Definitions that are taken from behind.
use Rattle.std.proofs.Common.{◌≡◌, ℕ, suc, ◌+◌, List, [], ◌∷◌, ◌++◌, map, length, reverse, refl, sym, ap, ◌∙◌, append_assoc, arith}
use Rattle.std.specs.Prelude.{slice_get}
use Rattle.std.proofs.lemmas.List.{reverse-append}
use Rattle.b_ast.specs.declared.machine.Def.{Def}
use Rattle.b_machine_grammar.specs.declared.trees.DefText.{DefText}
use Rattle.b_machine_defs.specs.declared.kinds.Kind.{Kind}
use Rattle.b_machine_defs.specs.Declaring.{unsorted, def_as, all_as, kind_or_expression}

-- the last of a list comes first from behind
turned_last : {X : Type 0} (xs : List X) (x : X) → reverse (xs ++ x ∷ []) ≡ x ∷ reverse xs
turned_last xs x = reverse-append xs (x ∷ [])

-- one more of those from behind
pub one_more_mapped : (left rest : List DefText) (t : DefText) (defs more all : List Def) → defs ++ map unsorted (reverse left) ≡ all → left ≡ rest ++ t ∷ [] → more ≡ defs ++ unsorted t ∷ [] → more ++ map unsorted (reverse rest) ≡ all
one_more_mapped left rest t defs more all h e f =
    ap (λ (ds : List Def). ds ++ map unsorted (reverse rest)) f
    ∙ (append_assoc defs (unsorted t ∷ []) (map unsorted (reverse rest))
    ∙ (ap (λ (ts : List DefText). defs ++ map unsorted ts) (sym (turned_last rest t))
    ∙ (ap (λ (ts : List DefText). defs ++ map unsorted (reverse ts)) (sym e) ∙ h)))

declared_last : (ks : List Kind) (i : ℕ) (ds : List Def) (d : Def) (n : ℕ) → n ≡ i + length ds → all_as ks i (ds ++ d ∷ []) ≡ all_as ks i ds ++ def_as (kind_or_expression (slice_get ks n)) d ∷ []
declared_last ks i [] d n e = let k : i ≡ n = omega arith in ap (λ (n : ℕ). def_as (kind_or_expression (slice_get ks n)) d ∷ []) k
declared_last ks i (c ∷ ds) d n e = ap (λ (xs : List Def). def_as (kind_or_expression (slice_get ks i)) c ∷ xs) (declared_last ks (i + 1) ds d n (omega arith))

-- one more of those that are declared from behind
pub declared_on : (ks : List Kind) (left rest all found more : List Def) (d new : Def) → all_as ks 0 left ++ reverse found ≡ all_as ks 0 all → left ≡ rest ++ d ∷ [] → new ≡ def_as (kind_or_expression (slice_get ks (length rest))) d → more ≡ found ++ new ∷ []
    → all_as ks 0 rest ++ reverse more ≡ all_as ks 0 all
declared_on ks left rest all found more d new h e n f =
    ap (λ (m : List Def). all_as ks 0 rest ++ reverse m) f
    ∙ (ap (λ (m : List Def). all_as ks 0 rest ++ m) (turned_last found new)
    ∙ (ap (λ (c : Def). all_as ks 0 rest ++ c ∷ reverse found) n
    ∙ (sym (append_assoc (all_as ks 0 rest) (def_as (kind_or_expression (slice_get ks (length rest))) d ∷ []) (reverse found))
    ∙ (ap (λ (m : List Def). m ++ reverse found) (sym (declared_last ks 0 rest d (length rest) (omega arith)))
    ∙ (ap (λ (m : List Def). all_as ks 0 m ++ reverse found) (sym e) ∙ h)))))
