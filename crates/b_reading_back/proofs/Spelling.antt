-- The canonical text of a tree is read as the symbols of the tree.
use Rattle.std.proofs.Common.{◌≡◌, ◌≢◌, ℕ, ◌-◌, ◌^◌, ◌<◌, ◌≤◌, Bool, true, false, cond, List, [], ◌∷◌, ◌++◌, length, map, None, refl, sym, ap, ◌∙◌, subst, append_assoc, append-nil, flat_map, arith, nat_le}
use Rattle.std.specs.Prelude.{codes, nat_eq, decimal}
use Rattle.std.specs.List.{AllByRecursion}
use Rattle.std.specs.Str.Parse.{AllDigits}
use Rattle.std.proofs.lemmas.Bool.{and_parts, ne_eqb, le-leb, leb-true}
use Rattle.std.proofs.lemmas.Fmt.{decimal_is_IsNumeral_wide}
use Rattle.b_ast.specs.declared.Bound.{Bound}
use Rattle.b_ast.specs.declared.Constant.{Constant}
use Rattle.b_ast.specs.declared.Constant.TheVariants as constant
use Rattle.b_ast.specs.declared.Function.{Function}
use Rattle.b_ast.specs.declared.Function.TheVariants as function
use Rattle.b_ast.specs.declared.Quantifier.{Quantifier}
use Rattle.b_ast.specs.declared.Quantifier.TheVariants as quantifier
use Rattle.b_ast.specs.declared.Collector.{Collector}
use Rattle.b_ast.specs.declared.Collector.TheVariants as collector
use Rattle.b_ast.specs.declared.Operator.{Operator}
use Rattle.b_ast.specs.declared.Operator.TheVariants as operator
use Rattle.b_ast.specs.declared.Formula.{Formula, roll-Formula, out-Formula, map-Formula, fold-roll-Formula, out-roll-Formula, every_here-Formula, every_held-Formula}
use Rattle.b_ast.specs.declared.Link.{Link, roll-Link, out-Link, fold-roll-Link, out-roll-Link, every_held-Link}
use Rattle.b_ast.specs.declared.After.{After, roll-After, out-After, map-After, fold-roll-After, out-roll-After, every_held-After}
use Rattle.b_ast.specs.declared.After.TheOpen.{Formula-F, Link-F, After-F}
use Rattle.b_lex.specs.declared.tokens.TokenKind.TheVariants as kind
use Rattle.b_lex.specs.Reading.{Reads}
use Rattle.b_lex.specs.Fronts.{sign_front}
use Rattle.b_reading_back.proofs.Minus.{minus_alone}
use Rattle.b_lex.specs.Bytes.{is_letter}
use Rattle.b_lex.specs.Spelling.{is_identifier}
use Rattle.b_grammar.specs.declared.Mark.{Mark}
use Rattle.b_grammar.specs.declared.Mark.TheVariants as sign
use Rattle.b_grammar.specs.declared.Symbol.{Symbol}
use Rattle.b_grammar.specs.declared.Symbol.TheVariants as symbol
use Rattle.b_grammar.specs.Grammar.{priority}
use Rattle.b_grammar.specs.Symbols.{symbol_of, fixed_of, spellings}
use Rattle.b_print.specs.Spellings as print
use Rattle.b_print.specs.Texts as texts
use Rattle.b_print.specs.Texts.{text_at, link_text, after_text}
use Rattle.b_reading_back.specs.Printable.{Anything, LayerIsPrintable, MayChain, operators, IsName, AreNames, IsPrintable, IsPrintableLink, IsPrintableAfter}
use Rattle.b_reading_back.specs.Symbols as written
use Rattle.b_reading_back.specs.Symbols.{Row, Joined, symbols_at, after_symbols, link_symbols}
use Rattle.b_expand.proofs.Layers.{Below, BelowAfter, BelowLink, by_layers, unlift, unlift_link, unlift_after}
use Rattle.b_reading_back.proofs.Lexing.{Lexes, IsTaken, Any, Apart, ends_word, nothing, joined, freely, token}
use Rattle.b_reading_back.proofs.Tokens.{spelling_of_mark, operator_reads, function_reads, mark_reads, quantifier_reads, lambda_reads, collector_reads, dot_reads, bar_reads, if_reads, then_reads, else_reads, end_reads, name_reads, constant_reads, number_reads, digit_is, letter_range}
use Rattle.b_reading_back.proofs.Quotes.{string_reads}

-- ---- names

same_bytes : (F : List ℕ → Type 0) (a b : List ℕ) (ss : List Symbol) → a ≡ b → Lexes F b ss → Lexes F a ss
same_bytes F a b ss e p = subst (λ (l : List ℕ). Lexes F l ss) (sym e) p

-- names with commas between them, and what stands behind them
names_read : (m : Mark) (tail : List ℕ) → Lexes Any tail (symbol.Mark m ∷ []) → ((rest : List ℕ) → Apart (tail ++ rest)) → (ns : List Bound) → ns ≢ [] → AllByRecursion (λ b. IsName b.name) ns
    → Lexes Any (texts.names ns ++ tail) (written.names_to m ns)
names_read m tail p apart [] ne h = absurd (ne refl)
names_read m tail p apart (b ∷ []) ne h =
    same_bytes Any ((b.name ++ []) ++ tail) (b.name ++ tail) (symbol.Name b.name ∷ symbol.Mark m ∷ []) (ap (λ (l : List ℕ). l ++ tail) (append-nil b.name))
    (joined Apart Any b.name tail (symbol.Name b.name ∷ []) (symbol.Mark m ∷ []) (name_reads b.name h.0.0 h.0.1) p (λ rest g. apart rest))
names_read m tail p apart (b ∷ c ∷ cs) ne h =
    let more = names_read m tail p apart (c ∷ cs) (λ i. absurd (cc)) h.1 in
    same_bytes Any (texts.names (b ∷ c ∷ cs) ++ tail) (b.name ++ (44 ∷ (texts.names (c ∷ cs) ++ tail))) (written.names_to m (b ∷ c ∷ cs)) (append_assoc b.name (44 ∷ texts.names (c ∷ cs)) tail)
    (joined Apart Any b.name (44 ∷ (texts.names (c ∷ cs) ++ tail)) (symbol.Name b.name ∷ []) (symbol.Mark sign.Comma ∷ written.names_to m (c ∷ cs)) (name_reads b.name h.0.0 h.0.1)
    (joined Any Any (codes ",") (texts.names (c ∷ cs) ++ tail) (symbol.Mark sign.Comma ∷ []) (written.names_to m (c ∷ cs)) (mark_reads Any sign.Comma refl) more (λ rest g. tt))
    (λ rest g. refl))

-- `(x,y).(`
in_brackets : (ns : List Bound) → AreNames ns → Lexes Any (texts.round (texts.names ns) ++ codes ".(") (written.bracketed_names ns)
in_brackets ns h =
    joined Any Any (texts.round (texts.names ns)) (codes ".(") (symbol.Mark sign.RoundOpen ∷ written.names_to sign.RoundClose ns) written.dot
    (joined Any Any (codes "(") (texts.names ns ++ codes ")") (symbol.Mark sign.RoundOpen ∷ []) (written.names_to sign.RoundClose ns) (mark_reads Any sign.RoundOpen refl)
    (names_read sign.RoundClose (codes ")") (mark_reads Any sign.RoundClose refl) (λ rest. refl) ns h.0 h.1) (λ rest g. tt))
    dot_reads (λ rest g. tt)

binder_read : (ns : List Bound) → AreNames ns → Lexes Any (texts.binder_names ns ++ codes ".(") (written.binder_names ns)
binder_read [] h = absurd (h.0 refl)
binder_read (b ∷ []) h = joined Apart Any b.name (codes ".(") (symbol.Name b.name ∷ []) written.dot (name_reads b.name h.1.0.0 h.1.0.1) dot_reads (λ rest g. refl)
binder_read (b ∷ c ∷ cs) h = in_brackets (b ∷ c ∷ cs) h

collector_read : (c : Collector) (ns : List Bound) → AreNames ns → Lexes Any (texts.collected_front c ns) (symbol.Collector c ∷ written.collector_names c ns)
collector_read c ns h = go c
  where
    worded : (c : Collector) → c ≢ collector.Lambda → Lexes Any ((print.collector_word c ++ texts.round (texts.names ns)) ++ codes ".(") (symbol.Collector c ∷ written.bracketed_names ns)
    worded c e =
        same_bytes Any ((print.collector_word c ++ texts.round (texts.names ns)) ++ codes ".(") (print.collector_word c ++ (texts.round (texts.names ns) ++ codes ".(")) (symbol.Collector c ∷ written.bracketed_names ns)
        (append_assoc (print.collector_word c) (texts.round (texts.names ns)) (codes ".("))
        (joined (λ rest. (more : List ℕ) × (rest ≡ 40 ∷ more)) Any (print.collector_word c) (texts.round (texts.names ns) ++ codes ".(") (symbol.Collector c ∷ []) (written.bracketed_names ns) (collector_reads c e) (in_brackets ns h)
        (λ rest g. (((texts.names ns ++ 41 ∷ []) ++ codes ".(") ++ rest, refl)))

    go : (c : Collector) → Lexes Any (texts.collected_front c ns) (symbol.Collector c ∷ written.collector_names c ns)
    go collector.Lambda =
        same_bytes Any ((codes "%" ++ texts.binder_names ns) ++ codes ".(") (codes "%" ++ (texts.binder_names ns ++ codes ".(")) (symbol.Collector collector.Lambda ∷ written.binder_names ns)
        (append_assoc (codes "%") (texts.binder_names ns) (codes ".("))
        (joined Any Any (codes "%") (texts.binder_names ns ++ codes ".(") (symbol.Collector collector.Lambda ∷ []) (written.binder_names ns) lambda_reads (binder_read ns h) (λ rest g. tt))
    go collector.Sum = worded collector.Sum (λ e. absurd (cc))
    go collector.Product = worded collector.Product (λ e. absurd (cc))
    go collector.Union = worded collector.Union (λ e. absurd (cc))
    go collector.Inter = worded collector.Inter (λ e. absurd (cc))

-- ---- a minus

-- what may stand behind a minus
abbrev pub Fresh : List ℕ → Type 0
Fresh bytes = (b : ℕ) × (more : List ℕ) × (bytes ≡ b ∷ more) × (b ≡ 45 → ⊥) × (b ≡ 62 → ⊥)

minus_begins : (b : ℕ) (more : List ℕ) → nat_eq 45 b ≡ false → nat_eq 62 b ≡ false → IsTaken kind.Sign (codes "-") (b ∷ more)
minus_begins b more e f = λ at tokens r. Reads.takes at 1 kind.Sign (45 ∷ b ∷ more) tokens None (ap sign_front (sym (minus_alone b more e f))) r

minus_means : symbol_of kind.Sign (codes "-") ≡ symbol.Operator operator.Minus
unfolding fixed_of spellings
minus_means = refl

minus_reads : Lexes Fresh (codes "-") (symbol.Operator operator.Minus ∷ [])
minus_reads =
    token Fresh kind.Sign (codes "-") (symbol.Operator operator.Minus) minus_means
    (λ rest f. subst (λ (l : List ℕ). IsTaken kind.Sign (codes "-") l) (sym f.2) (minus_begins f.0 f.1 (ne_eqb 45 f.0 (λ e. f.3 (sym e))) (ne_eqb 62 f.0 (λ e. f.4 (sym e)))))

fresh_more : (bytes rest : List ℕ) → Fresh bytes → Fresh (bytes ++ rest)
fresh_more bytes rest f = (f.0, f.1 ++ rest, ap (λ (l : List ℕ). l ++ rest) f.2, f.3, f.4)

name_fresh : (x : List ℕ) → is_identifier x ≡ true → Fresh x
name_fresh [] e = absurd (cc)
name_fresh (b ∷ x) e =
    let c = and_parts (is_letter b) _ e in
    let r : (65 ≤ b) × (b ≤ 122) = letter_range b c.0 in
    let low : 65 ≤ b = r.0 in
    (b, x, refl, λ i. omega arith, λ i. omega arith)

number_fresh : (n : ℕ) → n ≤ 2 ^ 127 - 1 → Fresh (decimal n)
number_fresh n h =
    let small : n < 10 ^ 64 = omega arith in
    let d = decimal_is_IsNumeral_wide n small in
    go (decimal n) d.0.0 d.0.1
  where
    go : (ds : List ℕ) → 0 < length ds → AllDigits 10 ds → Fresh ds
    go [] some all = absurd (omega arith)
    go (c ∷ ds) some all =
        let r : (48 ≤ c) × (c < 58) = digit_is c all.0 in
        let low : 48 ≤ c = r.0 in
        let high : c < 58 = r.1 in
        (c, ds, refl, λ i. omega arith, λ i. omega arith)

constant_fresh : (c : Constant) → is_identifier (print.constant_word c) ≡ true
constant_fresh constant.Integer = refl
constant_fresh c = refl

function_fresh : (f : Function) → is_identifier (print.function_word f) ≡ true
function_fresh function.Pow = refl
function_fresh f = refl

-- ---- brackets

in_round : (bytes : List ℕ) (ss : List Symbol) → Lexes Apart bytes ss → Lexes Any (texts.round bytes) (written.round ss)
in_round bytes ss p =
    joined Any Any (codes "(") (bytes ++ codes ")") (symbol.Mark sign.RoundOpen ∷ []) (written.ended ss sign.RoundClose) (mark_reads Any sign.RoundOpen refl)
    (joined Apart Any bytes (codes ")") ss (symbol.Mark sign.RoundClose ∷ []) p (mark_reads Any sign.RoundClose refl) (λ rest g. refl))
    (λ rest g. tt)

guarded_read : (own n : ℕ) (bytes : List ℕ) (ss : List Symbol) → Lexes Apart bytes ss → Lexes Apart (texts.guarded own bytes n) (written.guarded own ss n)
guarded_read own n bytes ss p = go (nat_le own n)
  where
    go : (t : Bool) → Lexes Apart ((cond t (codes "(") [] ++ bytes) ++ cond t (codes ")") []) (cond t (written.round ss) ss)
    go true = freely Apart (texts.round bytes) (written.round ss) (in_round bytes ss p)
    go false = same_bytes Apart (bytes ++ []) bytes ss (append-nil bytes) p

guarded_fresh : (own n : ℕ) (bytes : List ℕ) → own ≤ n → Fresh (texts.guarded own bytes n)
guarded_fresh own n bytes h =
    subst (λ (t : Bool). Fresh ((cond t (codes "(") [] ++ bytes) ++ cond t (codes ")") [])) (sym (le-leb own n h)) (40, bytes ++ codes ")", refl, λ i. omega arith, λ i. omega arith)

guarded_inside : (own n : ℕ) (bytes : List ℕ) → Fresh bytes → Fresh (texts.guarded own bytes n)
guarded_inside own n bytes f = go (nat_le own n)
  where
    go : (t : Bool) → Fresh ((cond t (codes "(") [] ++ bytes) ++ cond t (codes ")") [])
    go true = (40, bytes ++ codes ")", refl, λ i. omega arith, λ i. omega arith)
    go false = fresh_more bytes [] f

quantifier_fresh : (q : Quantifier) → Fresh (print.quantifier_sign q)
quantifier_fresh quantifier.Exists = (35, [], refl, λ i. omega arith, λ i. omega arith)
quantifier_fresh quantifier.ForAll = (33, [], refl, λ i. omega arith, λ i. omega arith)

collector_fresh : (c : Collector) → Fresh (print.collector_word c)
collector_fresh collector.Lambda = (37, [], refl, λ i. omega arith, λ i. omega arith)
collector_fresh collector.Sum = name_fresh (codes "SIGMA") refl
collector_fresh collector.Product = name_fresh (codes "PI") refl
collector_fresh collector.Union = name_fresh (codes "UNION") refl
collector_fresh collector.Inter = name_fresh (codes "INTER") refl

-- ---- parts of a tree

pub record TextGood (t : Formula) : Type 0 where
  pub lexes : (n : ℕ) → Lexes Apart (text_at t n) (symbols_at t n)
  pub fresh : (n : ℕ) → 210 ≤ n → Fresh (text_at t n)

abbrev PF : Formula → Type 0
PF t = IsPrintable t → TextGood t

abbrev AfterGood : After → Type 0
AfterGood a = Lexes Apart (after_text a) (after_symbols a) × ((rest : List ℕ) → Apart (after_text a ++ rest))

abbrev PA : After → Type 0
PA a = IsPrintableAfter a → AfterGood a

record LinkText (l : Link) : Type 0 where
  printed : (link_text l).0 ≡ (out-Link l).operator
  symbol_is : (link_symbols l).0 ≡ (out-Link l).operator
  lexes : (out-Link l).operator ≢ operator.Comma → Lexes Apart (link_text l).1 (symbol.Operator (link_symbols l).0 ∷ (link_symbols l).1)
  starts : (rest : List ℕ) → Apart ((link_text l).1 ++ rest)

abbrev PL : Link → Type 0
PL l = IsPrintableLink l → LinkText l

use_all : {A : Type 0} (P Q : A → Type 0) (xs : List A) → AllByRecursion P xs → AllByRecursion (λ x. P x → Q x) xs → AllByRecursion Q xs
use_all P Q [] p q = tt
use_all P Q (x ∷ xs) p q = (q.0 p.0, use_all P Q xs p.1 q.1)

three : (G : List ℕ → Type 0) (a b c : List ℕ) (ss rs qs : List Symbol) → Lexes Any a ss → Lexes Apart b rs → Lexes G c qs → ((rest : List ℕ) → G rest → Apart (c ++ rest)) → Lexes G ((a ++ b) ++ c) (ss ++ (rs ++ qs))
three G a b c ss rs qs p q r apart =
    subst (λ (l : List Symbol). Lexes G ((a ++ b) ++ c) l) (append_assoc ss rs qs)
    (joined Apart G (a ++ b) c (ss ++ rs) qs (joined Any Apart a b ss rs p q (λ rest g. tt)) r apart)

-- formulas with commas between them
each_apart : (us : List Formula) (rest : List ℕ) → Apart rest → Apart (texts.comma_each (map text_at us) ++ rest)
each_apart [] rest g = g
each_apart (u ∷ us) rest g = refl

each_read : (us : List Formula) → AllByRecursion TextGood us → Lexes Apart (texts.comma_each (map text_at us)) (written.comma_each (map symbols_at us))
each_read [] h = nothing Apart
each_read (u ∷ us) h =
    joined Any Apart (codes ",") (text_at u 0 ++ texts.comma_each (map text_at us)) (symbol.Mark sign.Comma ∷ []) (symbols_at u 0 ++ written.comma_each (map symbols_at us)) (mark_reads Any sign.Comma refl)
    (joined Apart Apart (text_at u 0) (texts.comma_each (map text_at us)) (symbols_at u 0) (written.comma_each (map symbols_at us)) (h.0.lexes 0) (each_read us h.1) (λ rest g. each_apart us rest g))
    (λ rest g. tt)

commas_read : (us : List Formula) → AllByRecursion TextGood us → Lexes Apart (texts.commas (map text_at us)) (written.commas (map symbols_at us))
commas_read [] h = nothing Apart
commas_read (u ∷ us) h = joined Apart Apart (text_at u 0) (texts.comma_each (map text_at us)) (symbols_at u 0) (written.comma_each (map symbols_at us)) (h.0.lexes 0) (each_read us h.1) (λ rest g. each_apart us rest g)

-- forms after an operand
afters_apart : (fs : List After) (rest : List ℕ) → AllByRecursion AfterGood fs → Apart rest → Apart (texts.afters (map after_text fs) ++ rest)
afters_apart [] rest h g = g
afters_apart (f ∷ fs) rest h g = ap ends_word (append_assoc (after_text f) (texts.afters (map after_text fs)) rest) ∙ h.0.1 (texts.afters (map after_text fs) ++ rest)

afters_read : (fs : List After) → AllByRecursion AfterGood fs → Lexes Apart (texts.afters (map after_text fs)) (written.afters (map after_symbols fs))
afters_read [] h = nothing Apart
afters_read (f ∷ fs) h =
    joined Apart Apart (after_text f) (texts.afters (map after_text fs)) (after_symbols f) (written.afters (map after_symbols fs)) h.0.0 (afters_read fs h.1) (λ rest g. afters_apart fs rest h.1 g)

-- operators with their operands
abbrev NoCommas : List Link → Type 0
NoCommas ls = AllByRecursion (λ l. (out-Link l).operator ≢ operator.Comma) ls

links_apart : (ls : List Link) (rest : List ℕ) → AllByRecursion LinkText ls → Apart rest → Apart (texts.links (map link_text ls) ++ rest)
links_apart [] rest h g = g
links_apart (l ∷ ls) rest h g = ap ends_word (append_assoc (link_text l).1 (texts.links (map link_text ls)) rest) ∙ h.0.starts (texts.links (map link_text ls) ++ rest)

links_read : (ls : List Link) → NoCommas ls → AllByRecursion LinkText ls → Lexes Apart (texts.links (map link_text ls)) (written.links (map link_symbols ls))
links_read [] n h = nothing Apart
links_read (l ∷ ls) n h =
    joined Apart Apart (link_text l).1 (texts.links (map link_text ls)) (symbol.Operator (link_symbols l).0 ∷ (link_symbols l).1) (written.links (map link_symbols ls)) (h.0.lexes n.0) (links_read ls n.1 h.1) (λ rest g. links_apart ls rest h.1 g)

comma_loosest : (o q : Operator) → o ≢ operator.Comma → priority q ≡ priority o → q ≢ operator.Comma
comma_loosest o q ne e i =
    let none : priority o ≡ 0 = sym e ∙ ap priority i in
    tight o ne none
  where
    tight : (o : Operator) → o ≢ operator.Comma → priority o ≡ 0 → ⊥
    tight operator.Comma ne e = ne refl
    tight o ne e = absurd (cc)

no_commas : (o : Operator) (ls : List Link) → o ≢ operator.Comma → AllByRecursion (λ q. priority q ≡ priority o) (operators ls) → NoCommas ls
no_commas o [] ne h = tt
no_commas o (l ∷ ls) ne h = (comma_loosest o (out-Link l).operator ne h.0, no_commas o ls ne h.1)

all_no_commas : (ls : List Link) → MayChain (operators ls) → NoCommas ls
all_no_commas [] h = absurd h
all_no_commas (l ∷ ls) h = (h.0, no_commas (out-Link l).operator ls h.0 h.1)

binds_same : (ls : List Link) → AllByRecursion LinkText ls → texts.chain_binds (map link_text ls) ≡ written.chain_binds (map link_symbols ls)
binds_same [] h = refl
binds_same (l ∷ ls) h = ap print.priority (h.0.printed ∙ sym h.0.symbol_is)

binds_small : (ls : List Link) → texts.chain_binds (map link_text ls) ≤ 210
binds_small [] = omega arith
binds_small (l ∷ ls) = small (link_text l).0
  where
    below : (o : Operator) → nat_le (print.priority o) 210 ≡ true
    below operator.Power = refl
    below o = refl

    small : (o : Operator) → print.priority o ≤ 210
    small o = leb-true (print.priority o) 210 (below o)

-- ---- layers

abbrev text_step : Formula-F After Formula Link → ℕ → List ℕ
text_step x = texts.formula_step (map-Formula After Formula Link (List ℕ) texts.Written texts.Joined after_text text_at link_text x)

abbrev symbols_step : Formula-F After Formula Link → ℕ → List Symbol
symbols_step x = written.formula_step (map-Formula After Formula Link Row written.Written Joined after_symbols symbols_at link_symbols x)

abbrev LayerGood : (ℕ → List ℕ) → (ℕ → List Symbol) → Type 0
LayerGood text ss = ((n : ℕ) → Lexes Apart (text n) (ss n)) × ((n : ℕ) → 210 ≤ n → Fresh (text n))

chain_layer : (e : Formula) (ls : List Link) → MayChain (operators ls) → TextGood e → AllByRecursion LinkText ls
    → LayerGood (texts.chain (text_at e) (map link_text ls)) (written.chain (symbols_at e) (map link_symbols ls))
chain_layer e ls may g h =
    let q = texts.chain_binds (map link_text ls) in (
      λ n.
          subst (λ (k : ℕ). Lexes Apart (texts.chain (text_at e) (map link_text ls) n) (written.guarded k (symbols_at e k ++ written.links (map link_symbols ls)) n)) (binds_same ls h)
          (guarded_read q n (text_at e q ++ texts.links (map link_text ls)) (symbols_at e q ++ written.links (map link_symbols ls))
          (joined Apart Apart (text_at e q) (texts.links (map link_text ls)) (symbols_at e q) (written.links (map link_symbols ls)) (g.lexes q) (links_read ls (all_no_commas ls may) h) (λ rest a. links_apart ls rest h a))),
      λ n less. guarded_fresh q n (text_at e q ++ texts.links (map link_text ls)) (let small : q ≤ 210 = binds_small ls in omega arith),
    )

curly_front : (ns : List Bound) → AreNames ns → Lexes Any (texts.comprehension_front ns) (symbol.Mark sign.CurlyOpen ∷ written.names_to sign.Bar ns)
curly_front ns h =
    joined Any Any (codes "{") (texts.names ns ++ codes " | ") (symbol.Mark sign.CurlyOpen ∷ []) (written.names_to sign.Bar ns) (mark_reads Any sign.CurlyOpen refl)
    (names_read sign.Bar (codes " | ") bar_reads (λ rest. refl) ns h.0 h.1) (λ rest g. tt)

quantified_front : (q : Quantifier) (ns : List Bound) → AreNames ns → Lexes Any (texts.quantified_front q ns) (symbol.Quantifier q ∷ written.binder_names ns)
quantified_front q ns h =
    same_bytes Any (texts.quantified_front q ns) (print.quantifier_sign q ++ (texts.binder_names ns ++ codes ".(")) (symbol.Quantifier q ∷ written.binder_names ns) (append_assoc (print.quantifier_sign q) (texts.binder_names ns) (codes ".("))
    (joined Any Any (print.quantifier_sign q) (texts.binder_names ns ++ codes ".(") (symbol.Quantifier q ∷ []) (written.binder_names ns) (quantifier_reads q) (binder_read ns h) (λ rest g. tt))

-- a list in brackets
listed : (opens closes : Mark) (us : List Formula) → Lexes Any (spelling_of_mark opens) (symbol.Mark opens ∷ []) → Lexes Any (spelling_of_mark closes) (symbol.Mark closes ∷ []) → ((rest : List ℕ) → Apart (spelling_of_mark closes ++ rest)) → AllByRecursion TextGood us
    → Lexes Any (spelling_of_mark opens ++ (texts.commas (map text_at us) ++ spelling_of_mark closes)) (symbol.Mark opens ∷ written.ended (written.commas (map symbols_at us)) closes)
listed opens closes us p q apart h =
    joined Any Any (spelling_of_mark opens) (texts.commas (map text_at us) ++ spelling_of_mark closes) (symbol.Mark opens ∷ []) (written.ended (written.commas (map symbols_at us)) closes) p
    (joined Apart Any (texts.commas (map text_at us)) (spelling_of_mark closes) (written.commas (map symbols_at us)) (symbol.Mark closes ∷ []) (commas_read us h) q (λ rest g. apart rest))
    (λ rest g. tt)

quiet : (b : ℕ) (more : List ℕ) → (b ≡ 45 → ⊥) → (b ≡ 62 → ⊥) → Fresh (b ∷ more)
quiet b more h k = (b, more, refl, h, k)

layer_good : (x : Formula-F After Formula Link) → LayerIsPrintable x → Below IsPrintableAfter IsPrintable IsPrintableLink x → Below PA PF PL x → LayerGood (text_step x) (symbols_step x)
layer_good (Formula-F.Number at n) here held below = (λ m. number_reads n here, λ m less. number_fresh n here)
layer_good (Formula-F.Text at s) here held below = (λ m. freely Apart (texts.quoted s) (symbol.Text s ∷ []) (string_reads s here), λ m less. quiet 34 (flat_map texts.spelling_of s ++ 34 ∷ []) (λ i. omega arith) (λ i. omega arith))
layer_good (Formula-F.Name at x) here held below = (λ m. name_reads x here.0 here.1, λ m less. name_fresh x here.0)
layer_good (Formula-F.Old at x) here held below =
    (λ m. joined Apart Apart x (codes "$0") (symbol.Name x ∷ []) (symbol.Mark sign.Old ∷ []) (name_reads x here.0 here.1) (mark_reads Apart sign.Old refl) (λ rest g. refl), λ m less. fresh_more x (codes "$0") (name_fresh x here.0))
layer_good (Formula-F.Constant at c) here held below = (λ m. constant_reads c, λ m less. name_fresh (print.constant_word c) (constant_fresh c))
layer_good (Formula-F.Negative at e) here held below =
    let g : TextGood e = below held in (
      λ n.
          guarded_read 210 n (45 ∷ text_at e 210) (symbol.Operator operator.Minus ∷ symbols_at e 210)
          (joined Fresh Apart (codes "-") (text_at e 210) (symbol.Operator operator.Minus ∷ []) (symbols_at e 210) minus_reads (g.lexes 210) (λ rest a. fresh_more (text_at e 210) rest (g.fresh 210 (omega arith)))),
      λ n less. guarded_fresh 210 n (45 ∷ text_at e 210) less,
    )
layer_good (Formula-F.Chain e ls) here held below = chain_layer e ls here (below.0 held.0) (use_all IsPrintableLink LinkText ls held.1 below.1)
layer_good (Formula-F.Row e fs) here held below =
    let g : TextGood e = below.0 held.0 in
    let h : AllByRecursion AfterGood fs = use_all IsPrintableAfter AfterGood fs held.1 below.1 in (
      λ n.
          guarded_read 250 n (text_at e 250 ++ texts.afters (map after_text fs)) (symbols_at e 250 ++ written.afters (map after_symbols fs))
          (joined Apart Apart (text_at e 250) (texts.afters (map after_text fs)) (symbols_at e 250) (written.afters (map after_symbols fs)) (g.lexes 250) (afters_read fs h) (λ rest a. afters_apart fs rest h a)),
      λ n less. guarded_inside 250 n (text_at e 250 ++ texts.afters (map after_text fs)) (fresh_more (text_at e 250) (texts.afters (map after_text fs)) (g.fresh 250 (omega arith))),
    )
layer_good (Formula-F.Call at f us) here held below =
    let h : AllByRecursion TextGood us = use_all IsPrintable TextGood us held below in (
      λ m.
          joined (λ rest. (more : List ℕ) × (rest ≡ 40 ∷ more)) Apart (print.function_word f) (texts.round (texts.commas (map text_at us))) (symbol.Function f ∷ []) (written.round (written.commas (map symbols_at us))) (function_reads f)
          (freely Apart (texts.round (texts.commas (map text_at us))) (written.round (written.commas (map symbols_at us))) (in_round (texts.commas (map text_at us)) (written.commas (map symbols_at us)) (commas_read us h)))
          (λ rest g. ((texts.commas (map text_at us) ++ 41 ∷ []) ++ rest, refl)),
      λ m less. fresh_more (print.function_word f) (texts.round (texts.commas (map text_at us))) (name_fresh (print.function_word f) (function_fresh f)),
    )
layer_good (Formula-F.Set at us) here held below =
    let h : AllByRecursion TextGood us = use_all IsPrintable TextGood us held below in (
      λ m.
          freely Apart (123 ∷ (texts.commas (map text_at us) ++ 125 ∷ [])) (symbol.Mark sign.CurlyOpen ∷ written.ended (written.commas (map symbols_at us)) sign.CurlyClose)
          (listed sign.CurlyOpen sign.CurlyClose us (mark_reads Any sign.CurlyOpen refl) (mark_reads Any sign.CurlyClose refl) (λ rest. refl) h),
      λ m less. quiet 123 (texts.commas (map text_at us) ++ 125 ∷ []) (λ i. omega arith) (λ i. omega arith),
    )
layer_good (Formula-F.Sequence at us) here held below =
    let h : AllByRecursion TextGood us = use_all IsPrintable TextGood us held below in (
      λ m.
          freely Apart (91 ∷ (texts.commas (map text_at us) ++ 93 ∷ [])) (symbol.Mark sign.SquareOpen ∷ written.ended (written.commas (map symbols_at us)) sign.SquareClose)
          (listed sign.SquareOpen sign.SquareClose us (mark_reads Any sign.SquareOpen refl) (mark_reads Any sign.SquareClose refl) (λ rest. refl) h),
      λ m less. quiet 91 (texts.commas (map text_at us) ++ 93 ∷ []) (λ i. omega arith) (λ i. omega arith),
    )
layer_good (Formula-F.Comprehension at ns p) here held below =
    let g : TextGood p = below held in (
      λ m.
          freely Apart ((texts.comprehension_front ns ++ text_at p 0) ++ codes "}") (symbol.Mark sign.CurlyOpen ∷ (written.names_to sign.Bar ns ++ written.ended (symbols_at p 0) sign.CurlyClose))
          (three Any (texts.comprehension_front ns) (text_at p 0) (codes "}") (symbol.Mark sign.CurlyOpen ∷ written.names_to sign.Bar ns) (symbols_at p 0) (symbol.Mark sign.CurlyClose ∷ [])
          (curly_front ns here) (g.lexes 0) (mark_reads Any sign.CurlyClose refl) (λ rest a. refl)),
      λ m less.
          fresh_more (texts.comprehension_front ns ++ text_at p 0) (codes "}") (fresh_more (texts.comprehension_front ns) (text_at p 0) (quiet 123 (texts.names ns ++ codes " | ") (λ i. omega arith) (λ i. omega arith))),
    )
layer_good (Formula-F.Quantified at q ns p) here held below =
    let g : TextGood p = below held in (
      λ m.
          freely Apart ((texts.quantified_front q ns ++ text_at p 0) ++ codes ")") (symbol.Quantifier q ∷ (written.binder_names ns ++ written.ended (symbols_at p 0) sign.RoundClose))
          (three Any (texts.quantified_front q ns) (text_at p 0) (codes ")") (symbol.Quantifier q ∷ written.binder_names ns) (symbols_at p 0) (symbol.Mark sign.RoundClose ∷ [])
          (quantified_front q ns here) (g.lexes 0) (mark_reads Any sign.RoundClose refl) (λ rest a. refl)),
      λ m less.
          fresh_more (texts.quantified_front q ns ++ text_at p 0) (codes ")") (fresh_more (texts.quantified_front q ns) (text_at p 0)
          (fresh_more (print.quantifier_sign q ++ texts.binder_names ns) (codes ".(") (fresh_more (print.quantifier_sign q) (texts.binder_names ns) (quantifier_fresh q)))),
    )
layer_good (Formula-F.Collected at c ns p e) here held below =
    let g : TextGood p = below.0 held.0 in
    let h : TextGood e = below.1 held.1 in
    let front = symbol.Collector c ∷ written.collector_names c ns in
    let whole = (texts.collected_front c ns ++ text_at p 0) ++ codes " | " in (
      λ m.
          freely Apart ((whole ++ text_at e 0) ++ codes ")") (front ++ (written.ended (symbols_at p 0) sign.Bar ++ written.ended (symbols_at e 0) sign.RoundClose))
          (subst (λ (l : List Symbol). Lexes Any ((whole ++ text_at e 0) ++ codes ")") l) (append_assoc front (written.ended (symbols_at p 0) sign.Bar) (written.ended (symbols_at e 0) sign.RoundClose))
          (three Any whole (text_at e 0) (codes ")") (front ++ written.ended (symbols_at p 0) sign.Bar) (symbols_at e 0) (symbol.Mark sign.RoundClose ∷ [])
          (three Any (texts.collected_front c ns) (text_at p 0) (codes " | ") front (symbols_at p 0) (symbol.Mark sign.Bar ∷ []) (collector_read c ns here) (g.lexes 0) bar_reads (λ rest a. refl))
          (h.lexes 0) (mark_reads Any sign.RoundClose refl) (λ rest a. refl))),
      λ m less.
          fresh_more (whole ++ text_at e 0) (codes ")") (fresh_more whole (text_at e 0) (fresh_more (texts.collected_front c ns ++ text_at p 0) (codes " | ") (fresh_more (texts.collected_front c ns) (text_at p 0)
          (fresh_more (print.collector_word c ++ texts.collector_names c ns) (codes ".(") (fresh_more (print.collector_word c) (texts.collector_names c ns) (collector_fresh c)))))),
    )
layer_good (Formula-F.If at p e f) here held below =
    let g : TextGood p = below.0 held.0 in
    let h : TextGood e = below.1 held.1 in
    let k : TextGood f = below.2 held.2 in
    let start : List Symbol = symbol.Mark sign.If ∷ [] in
    let one = (codes "IF " ++ text_at p 20) ++ codes " THEN " in
    let two = (one ++ text_at e 20) ++ codes " ELSE " in
    let a = written.ended (symbols_at p 20) sign.Then in
    let b = written.ended (symbols_at e 20) sign.Else in
    let c = written.ended (symbols_at f 20) sign.End in (
      λ m.
          subst (λ (l : List Symbol). Lexes Apart ((two ++ text_at f 20) ++ codes " END") l) (append_assoc (start ++ a) b c ∙ append_assoc start a (b ++ c))
          (three Apart two (text_at f 20) (codes " END") ((start ++ a) ++ b) (symbols_at f 20) (symbol.Mark sign.End ∷ [])
          (three Any one (text_at e 20) (codes " ELSE ") (start ++ a) (symbols_at e 20) (symbol.Mark sign.Else ∷ [])
          (three Any (codes "IF ") (text_at p 20) (codes " THEN ") start (symbols_at p 20) (symbol.Mark sign.Then ∷ []) if_reads (g.lexes 20) then_reads (λ rest a. refl))
          (h.lexes 20) else_reads (λ rest a. refl))
          (k.lexes 20) end_reads (λ rest a. refl)),
      λ m less.
          fresh_more (two ++ text_at f 20) (codes " END") (fresh_more two (text_at f 20) (fresh_more (one ++ text_at e 20) (codes " ELSE ") (fresh_more one (text_at e 20)
          (fresh_more (codes "IF " ++ text_at p 20) (codes " THEN ") (fresh_more (codes "IF ") (text_at p 20) (quiet 73 (codes "F ") (λ i. omega arith) (λ i. omega arith))))))),
    )

on_formula : (x : Formula-F After Formula Link) → Below PA PF PL x → PF (roll-Formula x)
on_formula x below h =
    let here : LayerIsPrintable x = subst LayerIsPrintable (out-roll-Formula x) (every_here-Formula Anything LayerIsPrintable Anything (roll-Formula x) h) in
    let out = unlift IsPrintableAfter IsPrintable IsPrintableLink (out-Formula (roll-Formula x)) (every_held-Formula Anything LayerIsPrintable Anything (roll-Formula x) h) in
    let held : Below IsPrintableAfter IsPrintable IsPrintableLink x = subst (λ (y : Formula-F After Formula Link). Below IsPrintableAfter IsPrintable IsPrintableLink y) (out-roll-Formula x) out in
    let good : LayerGood (text_at (roll-Formula x)) (symbols_at (roll-Formula x)) =
    subst (λ (text : ℕ → List ℕ). LayerGood text (symbols_at (roll-Formula x))) (sym (fold-roll-Formula (List ℕ) texts.Written texts.Joined texts.after_step texts.formula_step texts.link_step x))
    (subst (λ (ss : ℕ → List Symbol). LayerGood (text_step x) ss) (sym (fold-roll-Formula Row written.Written Joined written.after_step written.formula_step written.link_step x)) (layer_good x here held below)) in
    record { lexes = good.0; fresh = good.1 }

after_good : (x : After-F After Formula Link) → BelowAfter IsPrintableAfter IsPrintable IsPrintableLink x → BelowAfter PA PF PL x
    → Lexes Apart (texts.after_step (map-After After Formula Link (List ℕ) texts.Written texts.Joined after_text text_at link_text x)) (written.after_step (map-After After Formula Link Row written.Written Joined after_symbols symbols_at link_symbols x))
    × ((rest : List ℕ) → Apart (texts.after_step (map-After After Formula Link (List ℕ) texts.Written texts.Joined after_text text_at link_text x) ++ rest))
after_good (After-F.Converse at) held below = (mark_reads Apart sign.Converse refl, λ rest. refl)
after_good (After-F.Apply at e) held below =
    let g : TextGood e = below held in (freely Apart (texts.round (text_at e 0)) (written.round (symbols_at e 0)) (in_round (text_at e 0) (symbols_at e 0) (g.lexes 0)), λ rest. refl)
after_good (After-F.Image at e) held below =
    let g : TextGood e = below held in (
      freely Apart (91 ∷ (text_at e 0 ++ 93 ∷ [])) (symbol.Mark sign.SquareOpen ∷ written.ended (symbols_at e 0) sign.SquareClose)
          (joined Any Any (codes "[") (text_at e 0 ++ codes "]") (symbol.Mark sign.SquareOpen ∷ []) (written.ended (symbols_at e 0) sign.SquareClose) (mark_reads Any sign.SquareOpen refl)
          (joined Apart Any (text_at e 0) (codes "]") (symbols_at e 0) (symbol.Mark sign.SquareClose ∷ []) (g.lexes 0) (mark_reads Any sign.SquareClose refl) (λ rest a. refl))
          (λ rest a. tt)),
      λ rest. refl,
    )

on_after : (x : After-F After Formula Link) → BelowAfter PA PF PL x → PA (roll-After x)
on_after x below h =
    let out = unlift_after IsPrintableAfter IsPrintable IsPrintableLink (out-After (roll-After x)) (every_held-After Anything LayerIsPrintable Anything (roll-After x) h) in
    let held = subst (λ (y : After-F After Formula Link). BelowAfter IsPrintableAfter IsPrintable IsPrintableLink y) (out-roll-After x) out in
    let good = after_good x held below in
    let text_is = sym (fold-roll-After (List ℕ) texts.Written texts.Joined texts.after_step texts.formula_step texts.link_step x) in (
      subst (λ (text : List ℕ). Lexes Apart text (after_symbols (roll-After x))) text_is
          (subst (λ (ss : List Symbol). Lexes Apart (texts.after_step (map-After After Formula Link (List ℕ) texts.Written texts.Joined after_text text_at link_text x)) ss)
          (sym (fold-roll-After Row written.Written Joined written.after_step written.formula_step written.link_step x)) good.0),
      λ rest. subst (λ (text : List ℕ). Apart (text ++ rest)) text_is (good.1 rest),
    )

on_link : (x : Link-F After Formula Link) → BelowLink PA PF PL x → PL (roll-Link x)
on_link x below h = record {
  printed = ap (λ (j : texts.Joined). j.0) wrote ∙ operator_is;
  symbol_is = ap (λ (j : Joined). j.0) meant ∙ operator_is;
  lexes = λ ne.
      subst (λ (j : texts.Joined). Lexes Apart j.1 (symbol.Operator (link_symbols (roll-Link x)).0 ∷ (link_symbols (roll-Link x)).1)) (sym wrote)
      (subst (λ (j : Joined). Lexes Apart (texts.operator_text x.operator ++ text_at x.operand (print.priority x.operator)) (symbol.Operator j.0 ∷ j.1)) (sym meant)
      (joined Any Apart (texts.operator_text x.operator) (text_at x.operand (print.priority x.operator)) (symbol.Operator x.operator ∷ []) (symbols_at x.operand (print.priority x.operator)) (operator_reads x.operator (λ i. ne (sym operator_is ∙ i))) (g.lexes (print.priority x.operator)) (λ rest a. tt)));
  starts = λ rest. subst (λ (j : texts.Joined). Apart (j.1 ++ rest)) (sym wrote) refl;
}
  where
    part : IsPrintable x.operand
    part =
        let held = unlift_link IsPrintableAfter IsPrintable IsPrintableLink (out-Link (roll-Link x)) (every_held-Link Anything LayerIsPrintable Anything (roll-Link x) h) in
        subst (λ (y : Link-F After Formula Link). BelowLink IsPrintableAfter IsPrintable IsPrintableLink y) (out-roll-Link x) held

    g : TextGood x.operand
    g = below part

    operator_is : x.operator ≡ (out-Link (roll-Link x)).operator
    operator_is = ap (λ (y : Link-F After Formula Link). y.operator) (sym (out-roll-Link x))

    wrote : link_text (roll-Link x) ≡ (x.operator, texts.operator_text x.operator ++ text_at x.operand (print.priority x.operator))
    wrote = fold-roll-Link (List ℕ) texts.Written texts.Joined texts.after_step texts.formula_step texts.link_step x

    meant : link_symbols (roll-Link x) ≡ (x.operator, symbols_at x.operand (print.priority x.operator))
    meant = fold-roll-Link Row written.Written Joined written.after_step written.formula_step written.link_step x

pub text_good : (t : Formula) → IsPrintable t → TextGood t
text_good t = by_layers PA PF PL on_after on_formula on_link t
