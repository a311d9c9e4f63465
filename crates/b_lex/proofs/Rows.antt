-- A text read up to a place.
use Rattle.std.proofs.Common.{◌≡◌, sym, subst, ℕ, ◌+◌, ◌<◌, ◌≤◌, Option, Some, None, List, [], ◌∷◌, ◌++◌, length, drop, arith, append_assoc, append-nil}
use Rattle.std.proofs.lemmas.List.{length-drop, drop_all, drop-drop}
use Rattle.b_lex.specs.declared.tokens.Token.{Token}
use Rattle.b_lex.specs.declared.tokens.TokenKind.{TokenKind}
use Rattle.b_lex.specs.declared.tokens.LexKind.{LexKind}
use Rattle.b_lex.specs.declared.fronts.Front.TheVariants.{Skip, Take, Stop}
use Rattle.b_lex.specs.Fronts.{Begins}
use Rattle.b_lex.specs.Reading.{Reads, AreTokens, IsFirstFault, AreSpans}

-- the tokens up to a place, whatever stands behind it
pub record ReadTo (text : List ℕ) (at : ℕ) (tokens : List Token) : Type 0 where
  pub reads : (more : List Token) (fault : Option (LexKind × ℕ)) → Reads at (drop at text) more fault → Reads 0 text (tokens ++ more) fault
  pub within : at ≤ length text
  pub spans : (more : List Token) → AreSpans at (length text) more → AreSpans 0 (length text) (tokens ++ more)

pub start : (text : List ℕ) → ReadTo text 0 []
start text = record { reads = λ more fault r. r; within = omega arith; spans = λ more s. s }

behind : (text : List ℕ) (at n : ℕ) → drop n (drop at text) ≡ drop (at + n) text
behind text at n = drop-drop n at text

pub earlier : (at n len : ℕ) (more : List Token) → AreSpans (at + n) len more → AreSpans at len more
earlier at n len [] s = tt
earlier at n len (token ∷ more) s = (omega (arith, s.0), s.1, s.2, s.3)

pub skip : (text : List ℕ) (at n : ℕ) (tokens : List Token) → ReadTo text at tokens → Begins (drop at text) (Skip n) → n ≤ length (drop at text) → ReadTo text (at + n) tokens
skip text at n tokens so_far begins most = record {
  reads = λ more fault r. so_far.reads more fault (Reads.skips at n (drop at text) more fault begins (subst (λ t. Reads (at + n) t more fault) (sym (behind text at n)) r));
  within = omega (arith, length-drop at text, so_far.within);
  spans = λ more s. so_far.spans more (earlier at n (length text) more s);
}

pub take_token : (text : List ℕ) (at n : ℕ) (kind : TokenKind) (tokens : List Token) → ReadTo text at tokens → Begins (drop at text) (Take kind n) → 0 < n → n ≤ length (drop at text)
    → ReadTo text (at + n) (tokens ++ record { kind = kind; from = at; to = at + n } ∷ [])
take_token text at n kind tokens so_far begins some most =
    let token : Token = record { kind = kind; from = at; to = at + n } in
    let room : at + n ≤ length text = omega (arith, length-drop at text, so_far.within) in record {
      reads = λ more fault r. subst (λ ts. Reads 0 text ts fault) (sym (append_assoc tokens (token ∷ []) more))
          (so_far.reads (token ∷ more) fault (Reads.takes at n kind (drop at text) more fault begins (subst (λ t. Reads (at + n) t more fault) (sym (behind text at n)) r)));
      within = room;
      spans = λ more s. subst (AreSpans 0 (length text)) (sym (append_assoc tokens (token ∷ []) more)) (so_far.spans (token ∷ more) (omega arith, omega arith, room, s));
    }

pub stop : (text : List ℕ) (at n : ℕ) (kind : LexKind) (tokens : List Token) → ReadTo text at tokens → Begins (drop at text) (Stop kind n) → IsFirstFault text kind (at + n)
stop text at n kind tokens so_far begins = (tokens ++ [], so_far.reads [] (Some (kind, at + n)) (Reads.stops at n kind (drop at text) begins))

pub end_tokens : (text : List ℕ) (at : ℕ) (tokens : List Token) → ReadTo text at tokens → length text ≤ at → AreTokens text tokens
end_tokens text at tokens so_far all =
    subst (λ ts. Reads 0 text ts None) (append-nil tokens) (so_far.reads [] None (subst (λ t. Reads at t [] None) (sym (drop_all at text all)) (Reads.ended at)))

pub end_spans : (text : List ℕ) (at : ℕ) (tokens : List Token) → ReadTo text at tokens → AreSpans 0 (length text) tokens
end_spans text at tokens so_far = subst (AreSpans 0 (length text)) (append-nil tokens) (so_far.spans [] tt)
