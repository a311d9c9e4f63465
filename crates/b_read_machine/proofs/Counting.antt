-- Places in definitions, lexeme by lexeme.
use Rattle.std.proofs.Common.{◌≡◌, ◌<◌, ◌≤◌, ◌+◌, ℕ, zero, suc, Bool, true, false, List, [], ◌∷◌, ◌++◌, length, get_or, set, arith, refl, sym, ap, ◌∙◌, subst, append_assoc, append-nil, length-append}
use Rattle.std.proofs.lemmas.List.{set_at, get_or_at}
use Rattle.b_grammar.specs.declared.Lexeme.{Lexeme}
use Rattle.b_machine_grammar.specs.declared.words.Word.{Word}
use Rattle.b_machine_grammar.specs.Cuts.{Piece}
use Rattle.b_stretches.specs.Stretches.{zipped}
use Rattle.b_read_machine.specs.Texts.{in_definitions, counts_less, recounted, counted_from}

zipped_append : (a c : List Word) (b d : List Lexeme) → length a ≡ length b → zipped (a ++ c) (b ++ d) ≡ zipped a b ++ zipped c d
zipped_append [] c [] d e = refl
zipped_append [] c (l ∷ b) d e = absurd (cc)
zipped_append (w ∷ a) c [] d e = absurd (cc)
zipped_append (w ∷ a) c (l ∷ b) d e = let same : length a ≡ length b = omega (arith, e) in ap (λ r. (w, l) ∷ r) (zipped_append a c b d same)

-- so many lexemes are counted anew, and these words are left
pub record IsCounted (ws : List Word) (old cur : List Lexeme) (rest : List Word) (inside : Bool) (count : ℕ) : Type 0 where
  pub done : List Word
  pub front : List Lexeme
  pub back : List Lexeme
  pub words : ws ≡ done ++ rest
  pub lexemes : cur ≡ front ++ back
  pub words_long : length done ≡ count
  pub long : length front ≡ count
  pub same : counted_from false (zipped ws old) ≡ zipped done front ++ counted_from inside (zipped rest back)

pub count_begin : (ws : List Word) (old : List Lexeme) → IsCounted ws old old ws false 0
count_begin ws old = record { done = []; front = []; back = old; words = refl; lexemes = refl; words_long = refl; long = refl; same = refl }

module _ (ws : List Word) (old cur : List Lexeme) (rest : List Word) (inside : Bool) (count : ℕ) (k : IsCounted ws old cur rest inside count) where
  pub count_within : count ≤ length cur
  count_within =
      let long : length k.front ≡ count = k.long in
      let total : length cur ≡ length k.front + length k.back = ap length k.lexemes ∙ length-append k.front k.back in
      omega arith

  all_zipped : zipped ws cur ≡ zipped k.done k.front ++ zipped rest k.back
  all_zipped = ap (λ v. zipped v cur) k.words ∙ ap (zipped (k.done ++ rest)) k.lexemes ∙ zipped_append k.done rest k.front k.back (k.words_long ∙ sym k.long)

  ended : zipped rest k.back ≡ [] → zipped ws cur ≡ counted_from false (zipped ws old)
  ended e = all_zipped ∙ ap (λ l. zipped k.done k.front ++ l) e ∙ ap (λ l. zipped k.done k.front ++ counted_from inside l) (sym e) ∙ sym k.same

  pub no_words : rest ≡ [] → zipped ws cur ≡ counted_from false (zipped ws old)
  no_words e = ended (ap (λ v. zipped v k.back) e)

  pub no_lexemes : count ≡ length cur → zipped ws cur ≡ counted_from false (zipped ws old)
  no_lexemes e = ended (ap (zipped rest) empty ∙ nothing rest)
    where
      nothing : (v : List Word) → zipped v [] ≡ []
      nothing [] = refl
      nothing (w ∷ v) = refl

      of : (b : List Lexeme) → length b ≡ 0 → b ≡ []
      of [] h = refl
      of (l ∷ b) h = absurd (omega (arith, h))

      empty : k.back ≡ []
      empty =
          let long : length k.front ≡ count = k.long in
          let total : length cur ≡ length k.front + length k.back = ap length k.lexemes ∙ length-append k.front k.back in
          of k.back (omega (arith, e, long, total))

  module _ (w : Word) (more : List Word) (e : rest ≡ w ∷ more) (within : count < length cur) (d l' : Lexeme) (b : Bool) (less : b ≡ counts_less inside w) (made_so : l' ≡ recounted b (get_or cur count d)) (next : Bool) (goes : next ≡ in_definitions inside w) where
    pub count_on : IsCounted ws old (set cur count l') more next (count + 1)
    count_on = subst (λ (n : Bool). IsCounted ws old (set cur count l') more n (count + 1)) (sym goes) (go k.back refl)
      where
        go : (rests : List Lexeme) → k.back ≡ rests → IsCounted ws old (set cur count l') more (in_definitions inside w) (count + 1)
        go [] f =
            let long : length k.front ≡ count = k.long in
            let total : length cur ≡ length k.front + 0 = ap length k.lexemes ∙ length-append k.front k.back ∙ ap (λ b. length k.front + length b) f in
            absurd (omega (arith, within, long, total))
        go (x ∷ xs) f =
            let whole : cur ≡ k.front ++ x ∷ xs = k.lexemes ∙ ap (λ v. k.front ++ v) f in
            let read : get_or cur count d ≡ x = ap (λ v. get_or v count d) whole ∙ get_or_at k.front x xs d count k.long in
            let made : recounted (counts_less inside w) x ≡ l' = ap (recounted (counts_less inside w)) (sym read) ∙ ap (λ v. recounted v (get_or cur count d)) (sym less) ∙ sym made_so in
            let both : length k.done ≡ length k.front = k.words_long ∙ sym k.long in
            let behind : List Piece = counted_from (in_definitions inside w) (zipped more xs) in
            record {
              done = k.done ++ w ∷ [];
              front = k.front ++ l' ∷ [];
              back = xs;
              words = k.words ∙ ap (λ v. k.done ++ v) e ∙ sym (append_assoc k.done (w ∷ []) more);
              lexemes = ap (λ v. set v count l') whole ∙ set_at k.front x xs l' count k.long ∙ sym (append_assoc k.front (l' ∷ []) xs);
              words_long = let long : length k.done ≡ count = k.words_long in length-append k.done (w ∷ []) ∙ omega (arith, long);
              long = let long : length k.front ≡ count = k.long in length-append k.front (l' ∷ []) ∙ omega (arith, long);
              same =
                  k.same
                  ∙ ap (λ v. zipped k.done k.front ++ counted_from inside (zipped v k.back)) e
                  ∙ ap (λ v. zipped k.done k.front ++ counted_from inside (zipped (w ∷ more) v)) f
                  ∙ ap (λ v. zipped k.done k.front ++ (w, v) ∷ behind) made
                  ∙ sym (append_assoc (zipped k.done k.front) ((w, l') ∷ []) behind)
                  ∙ ap (λ v. v ++ behind) (sym (zipped_append k.done (w ∷ []) k.front (l' ∷ []) both));
            }
