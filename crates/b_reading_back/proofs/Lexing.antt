-- Texts that are read as tokens with given symbols.
use Rattle.std.proofs.Common.{◌≡◌, ℕ, ◌+◌, ◌-◌, Bool, true, List, [], ◌∷◌, ◌++◌, length, take, drop, map, None, refl, sym, ap, ◌∙◌, subst, append_assoc, length-append, arith}
use Rattle.std.specs.Prelude.{not}
use Rattle.std.specs.List.{slice_range}
use Rattle.std.proofs.Math.Seq.{take-append_seam, drop-append_seam}
use Rattle.std.proofs.lemmas.List.{map-append}
use Rattle.b_lex.specs.declared.tokens.Token.{Token}
use Rattle.b_lex.specs.declared.tokens.TokenKind.{TokenKind}
use Rattle.b_lex.specs.Bytes.{is_name_byte}
use Rattle.b_lex.specs.Reading.{Reads, spelling}
use Rattle.b_grammar.specs.declared.Symbol.{Symbol}
use Rattle.b_grammar.specs.Symbols.{symbol_of, lexemes_from, depth_after}
use Rattle.b_reading_back.specs.Laws.{symbols}

-- a token by its kind and its spelling
abbrev pub Spelled : Type 0
Spelled = TokenKind × List ℕ

abbrev pub meaning : Spelled → Symbol
meaning w = symbol_of w.0 w.1

-- in front of what follows, a token of this kind with this spelling is taken
abbrev pub IsTaken : TokenKind → List ℕ → List ℕ → Type 0
IsTaken kind word rest =
    (at : ℕ) (tokens : List Token) → Reads (at + length word) (drop (length word) (word ++ rest)) tokens None → Reads at (word ++ rest) (record { kind = kind; from = at; to = at + length word } ∷ tokens) None

-- a text has these tokens; a space separates
pub data Spells : List ℕ → List Spelled → Type 0 where
  ended : Spells [] []
  skips : (rest : List ℕ) (ws : List Spelled) → Spells rest ws → Spells (32 ∷ rest) ws
  takes : (kind : TokenKind) (word rest : List ℕ) (ws : List Spelled) → IsTaken kind word rest → Spells rest ws → Spells (word ++ rest) ((kind, word) ∷ ws)

-- the tokens of a text behind another text
pub record ReadBehind (before text : List ℕ) (ws : List Spelled) : Type 0 where
  pub tokens : List Token
  pub reads : Reads (length before) text tokens None
  pub means : (machine : Bool) (depth : ℕ) → symbols (lexemes_from machine (before ++ text) depth tokens) ≡ map meaning ws

-- what stands between two texts
between_is : (before word rest : List ℕ) → slice_range (before ++ (word ++ rest)) (length before) (length before + length word) ≡ word
between_is before word rest =
    let dropped : drop (length before) (before ++ (word ++ rest)) ≡ word ++ rest = drop-append_seam before (word ++ rest) in
    let long : (length before + length word) - length before ≡ length word = omega arith in
    ap (take ((length before + length word) - length before)) dropped ∙ ap (λ n. take n (word ++ rest)) long ∙ take-append_seam word rest

pub read_behind : (before text : List ℕ) (ws : List Spelled) → Spells text ws → ReadBehind before text ws
read_behind before text ws Spells.ended = record { tokens = []; reads = Reads.ended (length before); means = λ machine depth. refl }
read_behind before text ws (Spells.skips rest more s) =
    let r = read_behind (before ++ 32 ∷ []) rest ws s in
    let here : Reads (length before + 1) rest r.tokens None = subst (λ (n : ℕ). Reads n rest r.tokens None) (length-append before (32 ∷ [])) r.reads in
    record {
      tokens = r.tokens;
      reads = Reads.skips (length before) 1 (32 ∷ rest) r.tokens None refl here;
      means = λ machine depth. ap (λ (l : List ℕ). symbols (lexemes_from machine l depth r.tokens)) (sym (append_assoc before (32 ∷ []) rest)) ∙ r.means machine depth;
    }
read_behind before text ws (Spells.takes kind word rest more begins s) =
    let r = read_behind (before ++ word) rest more s in
    let token : Token = record { kind = kind; from = length before; to = length before + length word } in
    record {
      tokens = token ∷ r.tokens;
      reads = begins (length before) r.tokens
          (subst (λ (l : List ℕ). Reads (length before + length word) l r.tokens None) (sym (drop-append_seam word rest)) (subst (λ (n : ℕ). Reads n rest r.tokens None) (length-append before word) r.reads));
      means = λ machine depth.
          ap (λ (w : List ℕ). symbol_of kind w ∷ symbols (lexemes_from machine (before ++ (word ++ rest)) (depth_after (spelling (before ++ (word ++ rest)) token) depth) r.tokens)) (between_is before word rest)
          ∙ ap (λ (l : List ℕ). symbol_of kind word ∷ symbols (lexemes_from machine l (depth_after (spelling (before ++ (word ++ rest)) token) depth) r.tokens)) (sym (append_assoc before word rest))
          ∙ ap (λ (ss : List Symbol). symbol_of kind word ∷ ss) (r.means machine (depth_after (spelling (before ++ (word ++ rest)) token) depth));
    }

-- ---- parts of a text

-- before a text of this sort, these bytes are read as these symbols
pub record Lexes (F : List ℕ → Type 0) (bytes : List ℕ) (ss : List Symbol) : Type 0 where
  pub lex : (rest : List ℕ) (ws : List Spelled) → F rest → Spells rest ws → (vs : List Spelled) × Spells (bytes ++ rest) (vs ++ ws) × (map meaning vs ≡ ss)

abbrev pub Any : List ℕ → Type 0
Any rest = Unit {0}

-- what follows doesn't lengthen a word
abbrev pub ends_word : List ℕ → Bool
ends_word [] = true
ends_word (b ∷ bytes) = not (is_name_byte b)

abbrev pub Apart : List ℕ → Type 0
Apart rest = ends_word rest ≡ true

pub nothing : (F : List ℕ → Type 0) → Lexes F [] []
nothing F = record { lex = λ rest ws f s. ([], s, refl) }

pub joined : (F G : List ℕ → Type 0) (a b : List ℕ) (ss rs : List Symbol) → Lexes F a ss → Lexes G b rs → ((rest : List ℕ) → G rest → F (b ++ rest)) → Lexes G (a ++ b) (ss ++ rs)
joined F G a b ss rs p q h = record { lex = go }
  where
    go : (rest : List ℕ) (ws : List Spelled) → G rest → Spells rest ws → (vs : List Spelled) × Spells ((a ++ b) ++ rest) (vs ++ ws) × (map meaning vs ≡ ss ++ rs)
    go rest ws g s =
        let y = q.lex rest ws g s in
        let x = p.lex (b ++ rest) (y.0 ++ ws) (h rest g) y.1 in (
          x.0 ++ y.0,
          subst (λ (l : List ℕ). Spells l ((x.0 ++ y.0) ++ ws)) (sym (append_assoc a b rest)) (subst (λ (l : List Spelled). Spells (a ++ (b ++ rest)) l) (sym (append_assoc x.0 y.0 ws)) x.1),
          map-append meaning x.0 y.0 ∙ ap (λ (l : List Symbol). l ++ map meaning y.0) x.2 ∙ ap (λ (l : List Symbol). ss ++ l) y.2,
        )

pub freely : (F : List ℕ → Type 0) (a : List ℕ) (ss : List Symbol) → Lexes Any a ss → Lexes F a ss
freely F a ss p = record { lex = λ rest ws f s. p.lex rest ws tt s }

pub token : (F : List ℕ → Type 0) (kind : TokenKind) (word : List ℕ) (z : Symbol) → symbol_of kind word ≡ z → ((rest : List ℕ) → F rest → IsTaken kind word rest) → Lexes F word (z ∷ [])
token F kind word z means begins = record { lex = λ rest ws f s. ((kind, word) ∷ [], Spells.takes kind word rest ws (begins rest f) s, ap (λ (y : Symbol). y ∷ []) means) }

pub gap : Lexes Any (32 ∷ []) []
gap = record { lex = λ rest ws f s. ([], Spells.skips rest ws s, refl) }
