-- A text has one reading.
use Rattle.std.proofs.Common.{◌≡◌, ◌≢◌, ◌∙◌, ap, sym, subst, refl, ℕ, ◌+◌, ◌<◌, Bool, true, false, Option, Some, None, List, [], ◌∷◌, ◌++◌, length, drop, arith, append_assoc, length-append}
use Rattle.std.specs.Prelude.{encode_utf8, ◌==◌}
use Rattle.std.specs.Bool.{MatchBool}
use Rattle.std.specs.Char.{IsScalar}
use Rattle.std.specs.Str.{StartsWithNoChar}
use Rattle.std.proofs.lemmas.Bool.{eqb-true, eqb-false}
use Rattle.std.proofs.lemmas.Str.{encode_same, char_from_byte}
use Rattle.b_lex.specs.declared.tokens.Token.{Token}
use Rattle.b_lex.specs.declared.tokens.TokenKind.{TokenKind}
use Rattle.b_lex.specs.declared.tokens.LexKind.{LexKind}
use Rattle.b_lex.specs.declared.tokens.LexKind.TheVariants.{BadByte, OpenString}
use Rattle.b_lex.specs.declared.fronts.Front.{Front}
use Rattle.b_lex.specs.declared.fronts.Front.TheVariants.{Skip, Take, Stop}
use Rattle.b_lex.specs.Strings.{IsBody, IsStringEnd, IsEscapeEnd, IsStringFront, is_plain, escape_of, closed_front}
use Rattle.b_lex.specs.Fronts.{Begins, front_of}
use Rattle.b_lex.specs.Reading.{Reads, AreTokens, IsFirstFault}
use Rattle.b_lex.proofs.Chars.{some}

-- no part of a string stands here
record Ends (after : List ℕ) : Type 0 where
  no_char : (c : ℕ) (rest : List ℕ) → IsScalar c → is_plain c ≡ true → after ≡ encode_utf8 c ++ rest → ⊥
  no_escape : (letter b : ℕ) (rest : List ℕ) → escape_of letter ≡ Some b → after ≡ 92 ∷ letter ∷ rest → ⊥

-- a byte that is no plain character begins none
not_plain : (b c : ℕ) (after rest : List ℕ) → b < 128 → is_plain b ≡ false → is_plain c ≡ true → b ∷ after ≡ encode_utf8 c ++ rest → ⊥
not_plain b c after rest small special plain is =
    let same : c ≡ b = char_from_byte (b ∷ after) rest c is small (omega arith) in
    let other : is_plain c ≡ false = ap is_plain same ∙ special in cc

first_same : (a b : ℕ) (xs ys : List ℕ) → a ∷ xs ≡ b ∷ ys → a ≡ b
first_same a b xs ys e = cc

rest_same : (a b : ℕ) (xs ys : List ℕ) → a ∷ xs ≡ b ∷ ys → xs ≡ ys
rest_same a b xs ys e = cc

ends_nothing : Ends []
ends_nothing = record {
  no_char = λ c rest s p is. let long : length {A = ℕ} [] ≡ length (encode_utf8 c) + length rest = ap length is ∙ length-append (encode_utf8 c) rest in let here : 0 < length (encode_utf8 c) = some c in omega arith;
  no_escape = λ letter b rest e is. let long : length {A = ℕ} [] ≡ length (92 ∷ letter ∷ rest) = ap length is in omega arith;
}

-- a quote or LF ends a part
ends_special : (b : ℕ) (after : List ℕ) → b < 128 → is_plain b ≡ false → b ≢ 92 → Ends (b ∷ after)
ends_special b after small special other = record {
  no_char = λ c rest s p is. not_plain b c after rest small special p is;
  no_escape = λ letter x rest e is. other (first_same b 92 after (letter ∷ rest) is);
}

escape_stuck : (letter b : ℕ) (rest : List ℕ) (n : ℕ) (after : List ℕ) (front : Front) → IsEscapeEnd n after front → escape_of letter ≡ Some b → after ≡ letter ∷ rest → ⊥
escape_stuck letter b rest n [] front ends e is = cc
escape_stuck letter b rest n (x ∷ after) front ends e is = by_line (x == 10) refl ends
  where
    same : x ≡ letter
    same = first_same x letter after rest is

    by_line : (t : Bool) → (x == 10) ≡ t → MatchBool t (front ≡ Stop OpenString 0) ((escape_of x ≡ None) × (front ≡ Stop BadByte (n + 2))) → ⊥
    by_line true line h = let ten : letter ≡ 10 = sym same ∙ eqb-true x 10 line in let none : escape_of letter ≡ None = ap escape_of ten in cc
    by_line false line h = let none : escape_of letter ≡ None = ap escape_of (sym same) ∙ h.0 in cc

end_ends : (n m : ℕ) (after : List ℕ) (front : Front) → IsStringEnd n m after front → Ends after
end_ends n m [] front h = ends_nothing
end_ends n m (b ∷ after) front h = by_quote (b == 34) refl h
  where
    by_slash : (t : Bool) → (b == 92) ≡ t → MatchBool t (IsEscapeEnd n after front) (StartsWithNoChar (b ∷ after) × (front ≡ Stop BadByte (n + 1))) → Ends (b ∷ after)
    by_slash true e h = let is : b ≡ 92 = eqb-true b 92 e in record {
      no_char = λ c rest s p same. not_plain b c after rest (omega arith) (ap is_plain is) p same;
      no_escape = λ letter x rest f same. escape_stuck letter x rest n after front h f (rest_same b 92 after (letter ∷ rest) same);
    }
    by_slash false e h = record {
      no_char = λ c rest s p same. h.0 c rest s same;
      no_escape = λ letter x rest f same. eqb-false b 92 e (first_same b 92 after (letter ∷ rest) same);
    }

    by_line : (t : Bool) → (b == 10) ≡ t → MatchBool t (front ≡ Stop OpenString 0) (MatchBool (b == 92) (IsEscapeEnd n after front) (StartsWithNoChar (b ∷ after) × (front ≡ Stop BadByte (n + 1)))) → Ends (b ∷ after)
    by_line true e h = let is : b ≡ 10 = eqb-true b 10 e in ends_special b after (omega arith) (ap is_plain is) (λ other. omega arith)
    by_line false e h = by_slash (b == 92) refl h

    by_quote : (t : Bool) → (b == 34) ≡ t → MatchBool t (front ≡ closed_front n m) (MatchBool (b == 10) (front ≡ Stop OpenString 0) (MatchBool (b == 92) (IsEscapeEnd n after front) (StartsWithNoChar (b ∷ after) × (front ≡ Stop BadByte (n + 1))))) → Ends (b ∷ after)
    by_quote true e h = let is : b ≡ 34 = eqb-true b 34 e in ends_special b after (omega arith) (ap is_plain is) (λ other. omega arith)
    by_quote false e h = by_line (b == 10) refl h

-- the part of a string that is read first, as far as it goes
record Same (a b v w x y : List ℕ) : Type 0 where
  body : a ≡ b
  value : v ≡ w
  after : x ≡ y

slash_is_no_char : (c letter : ℕ) (rest more : List ℕ) → is_plain c ≡ true → 92 ∷ letter ∷ rest ≡ encode_utf8 c ++ more → ⊥
slash_is_no_char c letter rest more plain is = not_plain 92 c (letter ∷ rest) more (omega arith) refl plain is

bodies_one : (a v b w x y : List ℕ) → IsBody a v → IsBody b w → a ++ x ≡ b ++ y → Ends x → Ends y → Same a b v w x y
bodies_one a v b w x y IsBody.empty IsBody.empty is ex ey = record { body = refl; value = refl; after = is }
bodies_one a v b w x y IsBody.empty (IsBody.plain c body value s p more) is ex ey = absurd (ex.no_char c (body ++ y) s p (is ∙ append_assoc (encode_utf8 c) body y))
bodies_one a v b w x y IsBody.empty (IsBody.escaped letter byte body value e more) is ex ey = absurd (ex.no_escape letter byte (body ++ y) e is)
bodies_one a v b w x y (IsBody.plain c body value s p more) IsBody.empty is ex ey = absurd (ey.no_char c (body ++ x) s p (sym is ∙ append_assoc (encode_utf8 c) body x))
bodies_one a v b w x y (IsBody.escaped letter byte body value e more) IsBody.empty is ex ey = absurd (ey.no_escape letter byte (body ++ x) e (sym is))
bodies_one a v b w x y (IsBody.plain c body value s p more) (IsBody.plain d body' value' s' p' more') is ex ey =
    let heads = encode_same c d (body ++ x) (body' ++ y) (sym (append_assoc (encode_utf8 c) body x) ∙ is ∙ append_assoc (encode_utf8 d) body' y) in
    let rest = bodies_one body value body' value' x y more more' heads.1 ex ey in
    let bytes : encode_utf8 c ≡ encode_utf8 d = ap encode_utf8 heads.0 in
    record {
      body = ap (λ t. t ++ body) bytes ∙ ap (λ t. encode_utf8 d ++ t) rest.body;
      value = ap (λ t. t ++ value) bytes ∙ ap (λ t. encode_utf8 d ++ t) rest.value;
      after = rest.after;
    }
bodies_one a v b w x y (IsBody.plain c body value s p more) (IsBody.escaped letter byte body' value' e more') is ex ey =
    absurd (slash_is_no_char c letter (body' ++ y) (body ++ x) p (sym is ∙ append_assoc (encode_utf8 c) body x))
bodies_one a v b w x y (IsBody.escaped letter byte body value e more) (IsBody.plain c body' value' s p more') is ex ey =
    absurd (slash_is_no_char c letter (body ++ x) (body' ++ y) p (is ∙ append_assoc (encode_utf8 c) body' y))
bodies_one a v b w x y (IsBody.escaped letter byte body value e more) (IsBody.escaped letter' byte' body' value' e' more') is ex ey =
    let tails = rest_same 92 92 (letter ∷ (body ++ x)) (letter' ∷ (body' ++ y)) is in
    let letters : letter ≡ letter' = first_same letter letter' (body ++ x) (body' ++ y) tails in
    let rest = bodies_one body value body' value' x y more more' (rest_same letter letter' (body ++ x) (body' ++ y) tails) ex ey in
    let bytes : Some byte ≡ Some byte' = sym e ∙ ap escape_of letters ∙ e' in
    let byte_same : byte ≡ byte' = cc in
    record {
      body = ap (λ t. 92 ∷ t ∷ body) letters ∙ ap (λ t. 92 ∷ letter' ∷ t) rest.body;
      value = ap (λ t. t ∷ value) byte_same ∙ ap (λ t. byte' ∷ t) rest.value;
      after = rest.after;
    }

both : (t : Bool) (P Q P' Q' R : Type 0) → (P → P' → R) → (Q → Q' → R) → MatchBool t P Q → MatchBool t P' Q' → R
both true P Q P' Q' R f g h k = f h k
both false P Q P' Q' R f g h k = g h k

joint : (f g x : Front) → f ≡ x → g ≡ x → f ≡ g
joint f g x p q = p ∙ sym q

escapes_one : (n : ℕ) (after : List ℕ) (f g : Front) → IsEscapeEnd n after f → IsEscapeEnd n after g → f ≡ g
escapes_one n [] f g h k = h ∙ sym k
escapes_one n (b ∷ after) f g h k = both (b == 10) _ _ _ _ (f ≡ g) (joint f g (Stop OpenString 0)) (λ p q. joint f g (Stop BadByte (n + 2)) p.1 q.1) h k

ends_one : (n m : ℕ) (after : List ℕ) (f g : Front) → IsStringEnd n m after f → IsStringEnd n m after g → f ≡ g
ends_one n m [] f g h k = h ∙ sym k
ends_one n m (b ∷ after) f g h k =
    both (b == 34) _ _ _ _ (f ≡ g) (joint f g (closed_front n m))
    (both (b == 10) _ _ _ _ (f ≡ g) (joint f g (Stop OpenString 0))
    (both (b == 92) _ _ _ _ (f ≡ g) (escapes_one n after f g) (λ p q. joint f g (Stop BadByte (n + 1)) p.1 q.1)))
    h k

strings_one : (text : List ℕ) (f g : Front) → IsStringFront text f → IsStringFront text g → f ≡ g
strings_one text f g s t =
    let one = bodies_one s.body s.value t.body t.value s.after t.after s.stands t.stands (sym s.is ∙ t.is) (end_ends (length s.body) (length s.value) s.after f s.ends) (end_ends (length t.body) (length t.value) t.after g t.ends) in
    let moved = subst (λ x. IsStringEnd (length s.body) (length s.value) x g) (sym one.after)
    (subst (λ x. IsStringEnd (length s.body) (length x) t.after g) (sym one.value)
    (subst (λ x. IsStringEnd (length x) (length t.value) t.after g) (sym one.body) t.ends)) in
    ends_one (length s.body) (length s.value) s.after f g s.ends moved

pub fronts_one : (text : List ℕ) (f g : Front) → Begins text f → Begins text g → f ≡ g
fronts_one [] f g h k = absurd h
fronts_one (b ∷ text) f g h k = both (b == 34) _ _ _ _ (f ≡ g) (strings_one text f g) (joint f g (front_of (b ∷ text))) h k

-- one place further on, read again
again : (at n m : ℕ) (text : List ℕ) (tokens : List Token) (fault : Option (LexKind × ℕ)) → n ≡ m → Reads (at + m) (drop m text) tokens fault → Reads (at + n) (drop n text) tokens fault
again at n m text tokens fault same r = subst (λ k. Reads (at + k) (drop k text) tokens fault) (sym same) r

pub readings_one : (at : ℕ) (text : List ℕ) (a b : List Token) (e f : Option (LexKind × ℕ)) → Reads at text a e → Reads at text b f → (a ≡ b) × (e ≡ f)
readings_one at text a b e f (Reads.ended _) (Reads.ended _) = (refl, refl)
readings_one at text a b e f (Reads.ended _) (Reads.skips _ m _ us g h s) = absurd h
readings_one at text a b e f (Reads.ended _) (Reads.takes _ m kind _ us g h s) = absurd h
readings_one at text a b e f (Reads.ended _) (Reads.stops _ m kind _ h) = absurd h
readings_one at text a b e f (Reads.skips _ n _ ts g h r) (Reads.ended _) = absurd h
readings_one at text a b e f (Reads.takes _ n kind _ ts g h r) (Reads.ended _) = absurd h
readings_one at text a b e f (Reads.stops _ n kind _ h) (Reads.ended _) = absurd h
readings_one at text a b e f (Reads.skips _ n _ ts g h r) (Reads.skips _ m _ us k i s) =
    let one : Skip n ≡ Skip m = fronts_one text (Skip n) (Skip m) h i in
    let same : n ≡ m = cc in
    readings_one (at + n) (drop n text) ts us g k r (again at n m text us k same s)
readings_one at text a b e f (Reads.skips _ n _ ts g h r) (Reads.takes _ m kind _ us k i s) = absurd (let one : Skip n ≡ Take kind m = fronts_one text (Skip n) (Take kind m) h i in cc)
readings_one at text a b e f (Reads.skips _ n _ ts g h r) (Reads.stops _ m kind _ i) = absurd (let one : Skip n ≡ Stop kind m = fronts_one text (Skip n) (Stop kind m) h i in cc)
readings_one at text a b e f (Reads.takes _ n kind _ ts g h r) (Reads.skips _ m _ us k i s) = absurd (let one : Take kind n ≡ Skip m = fronts_one text (Take kind n) (Skip m) h i in cc)
readings_one at text a b e f (Reads.takes _ n kind _ ts g h r) (Reads.takes _ m other _ us k i s) =
    let one : Take kind n ≡ Take other m = fronts_one text (Take kind n) (Take other m) h i in
    let same : n ≡ m = cc in
    let kinds : kind ≡ other = cc in
    let rest = readings_one (at + n) (drop n text) ts us g k r (again at n m text us k same s) in
    let token : ℕ → TokenKind → Token = λ l t. record { kind = t; from = at; to = at + l } in
    (ap (λ l. token l kind ∷ ts) same ∙ ap (λ t. token m t ∷ ts) kinds ∙ ap (λ l. token m other ∷ l) rest.0, rest.1)
readings_one at text a b e f (Reads.takes _ n kind _ ts g h r) (Reads.stops _ m other _ i) = absurd (let one : Take kind n ≡ Stop other m = fronts_one text (Take kind n) (Stop other m) h i in cc)
readings_one at text a b e f (Reads.stops _ n kind _ h) (Reads.skips _ m _ us k i s) = absurd (let one : Stop kind n ≡ Skip m = fronts_one text (Stop kind n) (Skip m) h i in cc)
readings_one at text a b e f (Reads.stops _ n kind _ h) (Reads.takes _ m other _ us k i s) = absurd (let one : Stop kind n ≡ Take other m = fronts_one text (Stop kind n) (Take other m) h i in cc)
readings_one at text a b e f (Reads.stops _ n kind _ h) (Reads.stops _ m other _ i) =
    let one : Stop kind n ≡ Stop other m = fronts_one text (Stop kind n) (Stop other m) h i in
    let same : n ≡ m = cc in
    let kinds : kind ≡ other = cc in
    (refl, ap (λ l. Some (kind, at + l)) same ∙ ap (λ t. Some (t, at + m)) kinds)

pub one_row : (text : List ℕ) (a b : List Token) → AreTokens text a → AreTokens text b → a ≡ b
one_row text a b r s = (readings_one 0 text a b None None r s).0

pub one_fault : (text : List ℕ) (k l : LexKind) (i j : ℕ) → IsFirstFault text k i → IsFirstFault text l j → (k ≡ l) × (i ≡ j)
one_fault text k l i j r s =
    let one : Some (k, i) ≡ Some (l, j) = (readings_one 0 text r.0 s.0 (Some (k, i)) (Some (l, j)) r.1 s.1).1 in
    let pair : (k, i) ≡ (l, j) = cc in
    (ap (λ (p : LexKind × ℕ). p.0) pair, ap (λ (p : LexKind × ℕ). p.1) pair)

pub apart : (text : List ℕ) (a : List Token) (k : LexKind) (i : ℕ) → AreTokens text a → IsFirstFault text k i → ⊥
apart text a k i r s = let one : ◌≡◌ {A = Option (LexKind × ℕ)} None (Some (k, i)) = (readings_one 0 text a s.0 None (Some (k, i)) r s.1).1 in cc
