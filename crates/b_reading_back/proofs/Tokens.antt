-- Each token of a canonical text is read as its symbol.
use Rattle.std.proofs.Common.{inl, inr, ◌≡◌, ◌≢◌, ℕ, ◌+◌, ◌-◌, ◌^◌, ◌<◌, ◌≤◌, ◌==◌, Bool, true, false, cond, ◌&&◌, List, [], ◌∷◌, ◌++◌, length, None, refl, sym, ap, ◌∙◌, subst, arith, nat_le, nat_lt}
use Rattle.std.specs.Prelude.{not, codes, nat_eq, ◌||◌, ◌*◌}
use Rattle.std.specs.Char.{digit_value}
use Rattle.std.specs.List.{take_while, list_all, starts_with}
use Rattle.std.specs.Fmt.{decimal}
use Rattle.std.specs.Str.Parse as parse
use Rattle.std.proofs.lemmas.Bool.{cond-true, and_parts, and_from, or_cases, or_parts, ne_eqb, leb-true, ltb-true, lt-ltb, le-ltb, le-leb}
use Rattle.std.proofs.lemmas.Bool.Decides.{nat_tests}
use Rattle.std.proofs.lemmas.Fmt.{decimal_is_IsNumeral_wide}
use Rattle.std.proofs.lemmas.List.Sums.{take_while-cons}
use Rattle.b_ast.specs.declared.Constant.{Constant}
use Rattle.b_ast.specs.declared.Constant.TheVariants as constant
use Rattle.b_ast.specs.declared.Function.{Function}
use Rattle.b_ast.specs.declared.Function.TheVariants as function
use Rattle.b_ast.specs.declared.Quantifier.{Quantifier}
use Rattle.b_ast.specs.declared.Quantifier.TheVariants as quantifier
use Rattle.b_ast.specs.declared.Collector.{Collector}
use Rattle.b_ast.specs.declared.Collector.TheVariants as collector
use Rattle.b_ast.specs.declared.Operator.{Operator}
use Rattle.b_ast.specs.declared.Operator.TheVariants as operator
use Rattle.b_lex.specs.declared.tokens.TokenKind.{TokenKind}
use Rattle.b_lex.specs.declared.tokens.TokenKind.TheVariants as kind
use Rattle.b_lex.specs.Tables.{signs, words, left_out_words, is_reserved}
use Rattle.b_lex.specs.Bytes as byte
use Rattle.b_lex.specs.Bytes.{is_letter, is_digit, is_name_byte, is_space}
use Rattle.b_lex.specs.Reading.{Reads}
use Rattle.b_lex.specs.Fronts.{Begins, word_front, number_front}
use Rattle.b_lex.specs.Spelling.{is_identifier}
use Rattle.b_grammar.specs.declared.Mark.{Mark}
use Rattle.b_grammar.specs.declared.Mark.TheVariants as sign
use Rattle.b_grammar.specs.declared.Symbol.{Symbol}
use Rattle.b_grammar.specs.declared.Symbol.TheVariants as symbol
use Rattle.b_grammar.specs.Symbols.{symbol_of, fixed_of, spellings, number_symbol}
use Rattle.b_print.specs.Spellings.{sign_of, function_word, constant_word, quantifier_sign, collector_word}
use Rattle.b_reading_back.proofs.Lexing.{Lexes, IsTaken, Any, Apart, ends_word, token, joined, gap}

-- ---- signs and words that one byte follows

abbrev kind_of : Operator → TokenKind
kind_of operator.Modulo = kind.Word
kind_of operator.Or = kind.Word
kind_of o = kind.Sign

abbrev Spaced : List ℕ → Type 0
Spaced rest = (more : List ℕ) × (rest ≡ 32 ∷ more)

operator_begins : (o : Operator) (more : List ℕ) → IsTaken (kind_of o) (sign_of o) (32 ∷ more)
unfolding signs words left_out_words
operator_begins operator.Power more = λ at tokens r. Reads.takes at 2 kind.Sign (42 ∷ 42 ∷ 32 ∷ more) tokens None refl r
operator_begins o more = λ at tokens r. Reads.takes at (length (sign_of o)) (kind_of o) (sign_of o ++ 32 ∷ more) tokens None refl r

operator_means : (o : Operator) → o ≢ operator.Comma → symbol_of (kind_of o) (sign_of o) ≡ symbol.Operator o
unfolding fixed_of spellings
operator_means operator.Comma e = absurd (e refl)
operator_means o e = refl

-- ` o ` with its spaces
pub operator_reads : (o : Operator) → o ≢ operator.Comma → Lexes Any (32 ∷ (sign_of o ++ 32 ∷ [])) (symbol.Operator o ∷ [])
operator_reads o e =
    joined Any Any (32 ∷ []) (sign_of o ++ 32 ∷ []) [] (symbol.Operator o ∷ []) gap
    (joined Spaced Any (sign_of o) (32 ∷ []) (symbol.Operator o ∷ []) []
    (token Spaced (kind_of o) (sign_of o) (symbol.Operator o) (operator_means o e) (λ rest f. subst (λ (l : List ℕ). IsTaken (kind_of o) (sign_of o) l) (sym f.1) (operator_begins o f.0)))
    gap (λ rest g. (rest, refl)))
    (λ rest g. tt)

abbrev Opened : List ℕ → Type 0
Opened rest = (more : List ℕ) × (rest ≡ 40 ∷ more)

function_begins : (f : Function) (more : List ℕ) → IsTaken kind.Word (function_word f) (40 ∷ more)
unfolding signs words left_out_words
function_begins function.Pow more = λ at tokens r. Reads.takes at 3 kind.Word (codes "POW" ++ 40 ∷ more) tokens None refl r
function_begins f more = λ at tokens r. Reads.takes at (length (function_word f)) kind.Word (function_word f ++ 40 ∷ more) tokens None refl r

function_means : (f : Function) → symbol_of kind.Word (function_word f) ≡ symbol.Function f
unfolding fixed_of spellings
function_means function.Pow = refl
function_means f = refl

pub function_reads : (f : Function) → Lexes Opened (function_word f) (symbol.Function f ∷ [])
function_reads f = token Opened kind.Word (function_word f) (symbol.Function f) (function_means f) (λ rest g. subst (λ (l : List ℕ). IsTaken kind.Word (function_word f) l) (sym g.1) (function_begins f g.0))

-- ---- signs that nothing lengthens

abbrev pub spelling_of_mark : Mark → List ℕ
spelling_of_mark sign.RoundOpen = codes "("
spelling_of_mark sign.RoundClose = codes ")"
spelling_of_mark sign.CurlyOpen = codes "{"
spelling_of_mark sign.CurlyClose = codes "}"
spelling_of_mark sign.SquareOpen = codes "["
spelling_of_mark sign.SquareClose = codes "]"
spelling_of_mark sign.Comma = codes ","
spelling_of_mark sign.Converse = codes "~"
spelling_of_mark sign.Old = codes "$0"
spelling_of_mark m = []

abbrev pub is_plain_mark : Mark → Bool
is_plain_mark sign.RoundOpen = true
is_plain_mark sign.RoundClose = true
is_plain_mark sign.CurlyOpen = true
is_plain_mark sign.CurlyClose = true
is_plain_mark sign.SquareOpen = true
is_plain_mark sign.SquareClose = true
is_plain_mark sign.Comma = true
is_plain_mark sign.Converse = true
is_plain_mark sign.Old = true
is_plain_mark m = false

mark_begins : (m : Mark) (rest : List ℕ) → is_plain_mark m ≡ true → IsTaken kind.Sign (spelling_of_mark m) rest
unfolding signs
mark_begins sign.RoundOpen rest e = λ at tokens r. Reads.takes at 1 kind.Sign (codes "(" ++ rest) tokens None refl r
mark_begins sign.RoundClose rest e = λ at tokens r. Reads.takes at 1 kind.Sign (codes ")" ++ rest) tokens None refl r
mark_begins sign.CurlyOpen rest e = λ at tokens r. Reads.takes at 1 kind.Sign (codes "{" ++ rest) tokens None refl r
mark_begins sign.CurlyClose rest e = λ at tokens r. Reads.takes at 1 kind.Sign (codes "}" ++ rest) tokens None refl r
mark_begins sign.SquareOpen rest e = λ at tokens r. Reads.takes at 1 kind.Sign (codes "[" ++ rest) tokens None refl r
mark_begins sign.SquareClose rest e = λ at tokens r. Reads.takes at 1 kind.Sign (codes "]" ++ rest) tokens None refl r
mark_begins sign.Comma rest e = λ at tokens r. Reads.takes at 1 kind.Sign (codes "," ++ rest) tokens None refl r
mark_begins sign.Converse rest e = λ at tokens r. Reads.takes at 1 kind.Sign (codes "~" ++ rest) tokens None refl r
mark_begins sign.Old rest e = λ at tokens r. Reads.takes at 2 kind.Sign (codes "$0" ++ rest) tokens None refl r
mark_begins m rest e = absurd (cc)

mark_means : (m : Mark) → is_plain_mark m ≡ true → symbol_of kind.Sign (spelling_of_mark m) ≡ symbol.Mark m
unfolding fixed_of spellings
mark_means sign.RoundOpen e = refl
mark_means sign.RoundClose e = refl
mark_means sign.CurlyOpen e = refl
mark_means sign.CurlyClose e = refl
mark_means sign.SquareOpen e = refl
mark_means sign.SquareClose e = refl
mark_means sign.Comma e = refl
mark_means sign.Converse e = refl
mark_means sign.Old e = refl
mark_means m e = absurd (cc)

pub mark_reads : (F : List ℕ → Type 0) (m : Mark) → is_plain_mark m ≡ true → Lexes F (spelling_of_mark m) (symbol.Mark m ∷ [])
mark_reads F m e = token F kind.Sign (spelling_of_mark m) (symbol.Mark m) (mark_means m e) (λ rest f. mark_begins m rest e)

quantifier_begins : (q : Quantifier) (rest : List ℕ) → IsTaken kind.Sign (quantifier_sign q) rest
unfolding signs
quantifier_begins quantifier.Exists rest = λ at tokens r. Reads.takes at 1 kind.Sign (codes "#" ++ rest) tokens None refl r
quantifier_begins quantifier.ForAll rest = λ at tokens r. Reads.takes at 1 kind.Sign (codes "!" ++ rest) tokens None refl r

quantifier_means : (q : Quantifier) → symbol_of kind.Sign (quantifier_sign q) ≡ symbol.Quantifier q
unfolding fixed_of spellings
quantifier_means quantifier.Exists = refl
quantifier_means quantifier.ForAll = refl

pub quantifier_reads : (q : Quantifier) → Lexes Any (quantifier_sign q) (symbol.Quantifier q ∷ [])
quantifier_reads q = token Any kind.Sign (quantifier_sign q) (symbol.Quantifier q) (quantifier_means q) (λ rest f. quantifier_begins q rest)

lambda_begins : (rest : List ℕ) → IsTaken kind.Sign (codes "%") rest
unfolding signs
lambda_begins rest = λ at tokens r. Reads.takes at 1 kind.Sign (codes "%" ++ rest) tokens None refl r

lambda_means : symbol_of kind.Sign (codes "%") ≡ symbol.Collector collector.Lambda
unfolding fixed_of spellings
lambda_means = refl

pub lambda_reads : Lexes Any (codes "%") (symbol.Collector collector.Lambda ∷ [])
lambda_reads = token Any kind.Sign (codes "%") (symbol.Collector collector.Lambda) lambda_means (λ rest f. lambda_begins rest)

-- SIGMA, PI, UNION and INTER before a bracket
collector_begins : (c : Collector) (more : List ℕ) → c ≢ collector.Lambda → IsTaken kind.Word (collector_word c) (40 ∷ more)
unfolding signs words left_out_words
collector_begins collector.Lambda more e = absurd (e refl)
collector_begins c more e = λ at tokens r. Reads.takes at (length (collector_word c)) kind.Word (collector_word c ++ 40 ∷ more) tokens None refl r

collector_means : (c : Collector) → c ≢ collector.Lambda → symbol_of kind.Word (collector_word c) ≡ symbol.Collector c
unfolding fixed_of spellings
collector_means collector.Lambda e = absurd (e refl)
collector_means c e = refl

pub collector_reads : (c : Collector) → c ≢ collector.Lambda → Lexes Opened (collector_word c) (symbol.Collector c ∷ [])
collector_reads c e = token Opened kind.Word (collector_word c) (symbol.Collector c) (collector_means c e) (λ rest g. subst (λ (l : List ℕ). IsTaken kind.Word (collector_word c) l) (sym g.1) (collector_begins c g.0 e))

-- ---- the dot of a binder, the bar, the words of IF

dot_begins : (more : List ℕ) → IsTaken kind.Sign (codes ".") (40 ∷ more)
unfolding signs
dot_begins more = λ at tokens r. Reads.takes at 1 kind.Sign (46 ∷ 40 ∷ more) tokens None refl r

dot_means : symbol_of kind.Sign (codes ".") ≡ symbol.Mark sign.Dot
unfolding fixed_of spellings
dot_means = refl

-- `.(`
pub dot_reads : Lexes Any (codes ".(") (symbol.Mark sign.Dot ∷ symbol.Mark sign.RoundOpen ∷ [])
dot_reads =
    joined Opened Any (codes ".") (codes "(") (symbol.Mark sign.Dot ∷ []) (symbol.Mark sign.RoundOpen ∷ [])
    (token Opened kind.Sign (codes ".") (symbol.Mark sign.Dot) dot_means (λ rest g. subst (λ (l : List ℕ). IsTaken kind.Sign (codes ".") l) (sym g.1) (dot_begins g.0)))
    (mark_reads Any sign.RoundOpen refl) (λ rest g. (rest, refl))

bar_begins : (more : List ℕ) → IsTaken kind.Sign (codes "|") (32 ∷ more)
unfolding signs
bar_begins more = λ at tokens r. Reads.takes at 1 kind.Sign (124 ∷ 32 ∷ more) tokens None refl r

bar_means : symbol_of kind.Sign (codes "|") ≡ symbol.Mark sign.Bar
unfolding fixed_of spellings
bar_means = refl

-- ` | `
pub bar_reads : Lexes Any (codes " | ") (symbol.Mark sign.Bar ∷ [])
bar_reads =
    joined Any Any (32 ∷ []) (codes "| ") [] (symbol.Mark sign.Bar ∷ []) gap
    (joined Spaced Any (codes "|") (32 ∷ []) (symbol.Mark sign.Bar ∷ []) []
    (token Spaced kind.Sign (codes "|") (symbol.Mark sign.Bar) bar_means (λ rest g. subst (λ (l : List ℕ). IsTaken kind.Sign (codes "|") l) (sym g.1) (bar_begins g.0)))
    gap (λ rest g. (rest, refl)))
    (λ rest g. tt)

if_begins : (more : List ℕ) → IsTaken kind.Word (codes "IF") (32 ∷ more)
unfolding words left_out_words
if_begins more = λ at tokens r. Reads.takes at 2 kind.Word (codes "IF" ++ 32 ∷ more) tokens None refl r

then_begins : (more : List ℕ) → IsTaken kind.Word (codes "THEN") (32 ∷ more)
unfolding words left_out_words
then_begins more = λ at tokens r. Reads.takes at 4 kind.Word (codes "THEN" ++ 32 ∷ more) tokens None refl r

else_begins : (more : List ℕ) → IsTaken kind.Word (codes "ELSE") (32 ∷ more)
unfolding words left_out_words
else_begins more = λ at tokens r. Reads.takes at 4 kind.Word (codes "ELSE" ++ 32 ∷ more) tokens None refl r

if_means : symbol_of kind.Word (codes "IF") ≡ symbol.Mark sign.If
unfolding fixed_of spellings
if_means = refl

then_means : symbol_of kind.Word (codes "THEN") ≡ symbol.Mark sign.Then
unfolding fixed_of spellings
then_means = refl

else_means : symbol_of kind.Word (codes "ELSE") ≡ symbol.Mark sign.Else
unfolding fixed_of spellings
else_means = refl

end_means : symbol_of kind.Word (codes "END") ≡ symbol.Mark sign.End
unfolding fixed_of spellings
end_means = refl

spaced : (word : List ℕ) (z : Symbol) → symbol_of kind.Word word ≡ z → ((more : List ℕ) → IsTaken kind.Word word (32 ∷ more)) → Lexes Any (word ++ 32 ∷ []) (z ∷ [])
spaced word z means begins =
    joined Spaced Any word (32 ∷ []) (z ∷ []) [] (token Spaced kind.Word word z means (λ rest g. subst (λ (l : List ℕ). IsTaken kind.Word word l) (sym g.1) (begins g.0))) gap (λ rest g. (rest, refl))

pub if_reads : Lexes Any (codes "IF ") (symbol.Mark sign.If ∷ [])
if_reads = spaced (codes "IF") (symbol.Mark sign.If) if_means if_begins

pub then_reads : Lexes Any (codes " THEN ") (symbol.Mark sign.Then ∷ [])
then_reads = joined Any Any (32 ∷ []) (codes "THEN ") [] (symbol.Mark sign.Then ∷ []) gap (spaced (codes "THEN") (symbol.Mark sign.Then) then_means then_begins) (λ rest g. tt)

pub else_reads : Lexes Any (codes " ELSE ") (symbol.Mark sign.Else ∷ [])
else_reads = joined Any Any (32 ∷ []) (codes "ELSE ") [] (symbol.Mark sign.Else ∷ []) gap (spaced (codes "ELSE") (symbol.Mark sign.Else) else_means else_begins) (λ rest g. tt)

-- ---- words that something else follows

-- a run ends where a byte fails
pub run_ends : (p : ℕ → Bool) (word : List ℕ) (rest : List ℕ) → list_all p word ≡ true → take_while p rest ≡ [] → take_while p (word ++ rest) ≡ word
run_ends p [] rest e f = f
run_ends p (b ∷ word) rest e f =
    let c = and_parts (p b) (list_all p word) e in
    take_while-cons p b (word ++ rest) ∙ ap (λ (t : Bool). cond t (b ∷ take_while p (word ++ rest)) []) c.0 ∙ ap (λ (l : List ℕ). b ∷ l) (run_ends p word rest c.1 f)

names_end : (rest : List ℕ) → ends_word rest ≡ true → take_while is_name_byte rest ≡ []
names_end [] e = refl
names_end (b ∷ rest) e =
    let no : is_name_byte b ≡ false = turned (is_name_byte b) e in
    take_while-cons is_name_byte b rest ∙ ap (λ (t : Bool). cond t (b ∷ take_while is_name_byte rest) []) no
  where
    turned : (t : Bool) → not t ≡ true → t ≡ false
    turned true e = absurd (cc)
    turned false e = refl

chain_four : {X : Type 0} (t u v w : Bool) (A B C D E : X) → t ≡ false → u ≡ false → v ≡ false → w ≡ true → cond t A (cond u B (cond v C (cond w D E))) ≡ D
chain_four t u v w A B C D E a b c d = rw (a, b, c, d) refl

chain_five : {X : Type 0} (t u v w x : Bool) (A B C D E F : X) → t ≡ false → u ≡ false → v ≡ false → w ≡ false → x ≡ true → cond t A (cond u B (cond v C (cond w D (cond x E F)))) ≡ E
chain_five t u v w x A B C D E F a b c d e = rw (a, b, c, d, e) refl

no_slash : (b : ℕ) (next : ℕ) (text : List ℕ) → (47 ≡ b → ⊥) → starts_with nat_eq (b ∷ text) (47 ∷ next ∷ []) ≡ false
no_slash b next text h = rw (ne_eqb 47 b h) refl

four_apart : (b : ℕ) → (b ≡ 32 → ⊥) → (b ≡ 9 → ⊥) → (b ≡ 13 → ⊥) → (b ≡ 10 → ⊥) → is_space b ≡ false
four_apart b h k l m = rw (ne_eqb b 32 h, ne_eqb b 9 k, ne_eqb b 13 l, ne_eqb b 10 m) refl

pub letter_range : (b : ℕ) → is_letter b ≡ true → (65 ≤ b) × (b ≤ 122)
letter_range b e = elim (or_cases (nat_le 65 b && nat_le b 90) (nat_le 97 b && nat_le b 122) e) [
  | inl h ↦ (let c = and_parts (nat_le 65 b) (nat_le b 90) h in let l : 65 ≤ b = leb-true 65 b c.0 in let m : b ≤ 90 = leb-true b 90 c.1 in (omega arith, omega arith))
  | inr h ↦ (let c = and_parts (nat_le 97 b) (nat_le b 122) h in let l : 97 ≤ b = leb-true 97 b c.0 in let m : b ≤ 122 = leb-true b 122 c.1 in (omega arith, omega arith))
]

-- a letter begins a word
letter_begins : (b : ℕ) (text : List ℕ) → is_letter b ≡ true → Begins (b ∷ text) (word_front (take_while is_name_byte (b ∷ text)))
letter_begins b text e =
    let range : (65 ≤ b) × (b ≤ 122) = letter_range b e in
    let low : 65 ≤ b = range.0 in
    rw (ne_eqb b 34 (λ h. omega arith))
    (sym (chain_four (starts_with nat_eq (b ∷ text) (codes "/*")) (starts_with nat_eq (b ∷ text) (codes "//")) (is_space b) (is_letter b) _ _ _ (word_front (take_while is_name_byte (b ∷ text))) _
    (no_slash b 42 text (λ h. omega arith)) (no_slash b 47 text (λ h. omega arith)) (four_apart b (λ h. omega arith) (λ h. omega arith) (λ h. omega arith) (λ h. omega arith)) e))

name_bytes : (b : ℕ) → is_letter b ≡ true → is_name_byte b ≡ true
name_bytes b e = rw e refl

pub word_begins : (word rest : List ℕ) → is_identifier word ≡ true → Apart rest → Begins (word ++ rest) (word_front word)
word_begins [] rest e f = absurd (cc)
word_begins (b ∷ word) rest e f =
    let c = and_parts (is_letter b) (list_all is_name_byte word) e in
    let all : list_all is_name_byte (b ∷ word) ≡ true = and_from (is_name_byte b) (list_all is_name_byte word) (name_bytes b c.0) c.1 in
    subst (λ (w : List ℕ). Begins (b ∷ (word ++ rest)) (word_front w)) (run_ends is_name_byte (b ∷ word) rest all (names_end rest f)) (letter_begins b (word ++ rest) c.0)

-- the kind of a word
abbrev word_kind : List ℕ → TokenKind
word_kind word = cond (is_reserved word) kind.Word kind.Name

word_taken : (word rest : List ℕ) → is_identifier word ≡ true → Apart rest → IsTaken (word_kind word) word rest
word_taken word rest e f = λ at tokens r. Reads.takes at (length word) (word_kind word) (word ++ rest) tokens None (word_begins word rest e f) r

pub name_reads : (x : List ℕ) → is_identifier x ≡ true → is_reserved x ≡ false → Lexes Apart x (symbol.Name x ∷ [])
name_reads x e r =
    token Apart kind.Name x (symbol.Name x) refl
    (λ rest f. subst (λ (k : TokenKind). IsTaken k x rest) (ap (λ (t : Bool). cond t kind.Word kind.Name) r) (word_taken x rest e f))

reserved_reads : (word : List ℕ) (z : Symbol) → is_identifier word ≡ true → is_reserved word ≡ true → symbol_of kind.Word word ≡ z → Lexes Apart word (z ∷ [])
reserved_reads word z e r means =
    token Apart kind.Word word z means
    (λ rest f. subst (λ (k : TokenKind). IsTaken k word rest) (ap (λ (t : Bool). cond t kind.Word kind.Name) r) (word_taken word rest e f))

constant_word_is : (c : Constant) → (is_identifier (constant_word c) ≡ true) × (is_reserved (constant_word c) ≡ true)
unfolding words left_out_words
constant_word_is constant.Integer = (refl, refl)
constant_word_is c = (refl, refl)

constant_means : (c : Constant) → symbol_of kind.Word (constant_word c) ≡ symbol.Constant c
unfolding fixed_of spellings
constant_means constant.Integer = refl
constant_means c = refl

pub constant_reads : (c : Constant) → Lexes Apart (constant_word c) (symbol.Constant c ∷ [])
constant_reads c = reserved_reads (constant_word c) (symbol.Constant c) (constant_word_is c).0 (constant_word_is c).1 (constant_means c)

end_reserved : is_reserved (codes "END") ≡ true
unfolding words left_out_words
end_reserved = refl

-- ` END`
pub end_reads : Lexes Apart (codes " END") (symbol.Mark sign.End ∷ [])
end_reads = joined Any Apart (32 ∷ []) (codes "END") [] (symbol.Mark sign.End ∷ []) gap (reserved_reads (codes "END") (symbol.Mark sign.End) refl end_reserved end_means) (λ rest g. tt)

-- ---- numbers

pub digit_is : (c : ℕ) → digit_value c < 10 → (48 ≤ c) × (c < 58)
digit_is c h = (low (nat_lt c 48) refl, high (nat_lt c 58) refl)
  where
    low : (t : Bool) → nat_lt c 48 ≡ t → 48 ≤ c
    low true e = let big : digit_value c ≡ 36 = ap (λ (t : Bool). cond t 36 (cond (nat_lt c 58) (c - 48) (cond (nat_lt c 65) 36 (cond (nat_lt c 91) (c - 55) (cond (nat_lt c 97) 36 (cond (nat_lt c 123) (c - 87) 36)))))) e in absurd (omega arith)
    low false e = grind (arith, nat_tests)

    high : (t : Bool) → nat_lt c 58 ≡ t → c < 58
    high true e = ltb-true c 58 e
    high false e = grind (arith, nat_tests)

digit_as : (c : ℕ) → digit_value c < 10 → digit_value c ≡ c - 48
digit_as c h =
    let d = digit_is c h in
    let a : nat_lt c 48 ≡ false = le-ltb c 48 d.0 in
    let b : nat_lt c 58 ≡ true = lt-ltb c 58 d.1 in
    rw (a, b) refl

digit_test : (c : ℕ) → digit_value c < 10 → is_digit c ≡ true
digit_test c h =
    let d = digit_is c h in
    and_from (nat_le 48 c) (nat_le c 57) (le-leb 48 c d.0) (le-leb c 57 (let e : c < 58 = d.1 in omega arith))

all_digits : (ds : List ℕ) → parse.AllDigits 10 ds → list_all is_digit ds ≡ true
all_digits [] h = refl
all_digits (c ∷ ds) h = and_from (is_digit c) (list_all is_digit ds) (digit_test c h.0) (all_digits ds h.1)

value_same : (high : ℕ) (ds : List ℕ) → parse.AllDigits 10 ds → byte.decimal_from high ds ≡ parse.digits_value_after 10 high ds
value_same high [] h = refl
value_same high (c ∷ ds) h = ap (λ (v : ℕ). byte.decimal_from (high * 10 + v) ds) (sym (digit_as c h.0)) ∙ value_same (high * 10 + digit_value c) ds h.1

digits_end : (rest : List ℕ) → ends_word rest ≡ true → take_while is_digit rest ≡ []
digits_end [] e = refl
digits_end (b ∷ rest) e =
    let name : is_name_byte b ≡ false = turned (is_name_byte b) e in
    let parts = or_parts (is_letter b || is_digit b) (b == 95) name in
    let no = or_parts (is_letter b) (is_digit b) parts.0 in
    take_while-cons is_digit b rest ∙ ap (λ (t : Bool). cond t (b ∷ take_while is_digit rest) []) no.1
  where
    turned : (t : Bool) → not t ≡ true → t ≡ false
    turned true e = absurd (cc)
    turned false e = refl

-- a digit begins a number
digit_begins : (b : ℕ) (text : List ℕ) → (48 ≤ b) × (b < 58) → is_digit b ≡ true → Begins (b ∷ text) (number_front (take_while is_digit (b ∷ text)))
digit_begins b text range e =
    let low : 48 ≤ b = range.0 in
    let high : b < 58 = range.1 in
    let no_letter : is_letter b ≡ false = letterless b high in
    rw (ne_eqb b 34 (λ h. omega arith))
    (sym (chain_five (starts_with nat_eq (b ∷ text) (codes "/*")) (starts_with nat_eq (b ∷ text) (codes "//")) (is_space b) (is_letter b) (is_digit b)
    _ _ _ _ (number_front (take_while is_digit (b ∷ text))) _
    (no_slash b 42 text (λ h. omega arith)) (no_slash b 47 text (λ h. omega arith)) (four_apart b (λ h. omega arith) (λ h. omega arith) (λ h. omega arith) (λ h. omega arith)) no_letter e))
  where
    letterless : (c : ℕ) → c < 58 → is_letter c ≡ false
    letterless c h =
        let a : nat_le 65 c ≡ false = grind (arith, nat_tests) in
        let b : nat_le 97 c ≡ false = grind (arith, nat_tests) in
        rw (a, b) refl

pub digits_begin : (ds rest : List ℕ) → 0 < length ds → parse.AllDigits 10 ds → Apart rest → Begins (ds ++ rest) (number_front ds)
digits_begin [] rest some all f = absurd (omega arith)
digits_begin (b ∷ ds) rest some all f =
    subst (λ (w : List ℕ). Begins (b ∷ (ds ++ rest)) (number_front w)) (run_ends is_digit (b ∷ ds) rest (all_digits (b ∷ ds) all) (digits_end rest f)) (digit_begins b (ds ++ rest) (digit_is b all.0) (digit_test b all.0))

pub number_reads : (n : ℕ) → n ≤ 2 ^ 127 - 1 → Lexes Apart (decimal n) (symbol.Number n ∷ [])
number_reads n h =
    let small : n < 10 ^ 64 = omega arith in
    let d = decimal_is_IsNumeral_wide n small in
    let value : byte.decimal (decimal n) ≡ n = value_same 0 (decimal n) d.0.1 ∙ d.1 in
    let fits : nat_le n (2 ^ 127 - 1) ≡ true = le-leb n (2 ^ 127 - 1) h in
    token Apart kind.Number (decimal n) (symbol.Number n) (ap number_symbol value ∙ ap (λ (t : Bool). cond t (symbol.Number n) symbol.Other) fits)
    (λ rest f. λ at tokens r.
    Reads.takes at (length (decimal n)) kind.Number (decimal n ++ rest) tokens None
    (subst (Begins (decimal n ++ rest)) (cond-true (nat_le (byte.decimal (decimal n)) (2 ^ 127 - 1)) _ _ (ap (λ (v : ℕ). nat_le v (2 ^ 127 - 1)) value ∙ fits)) (digits_begin (decimal n) rest d.0.0 d.0.1 f)) r)
