-- What is printed is read back.
use Rattle.std.proofs.Common.{◌≡◌, ℕ, false, List, [], ◌++◌, refl, sym, ◌∙◌, subst, append-nil}
use Rattle.b_ast.specs.declared.Formula.{Formula}
use Rattle.b_lex.specs.declared.tokens.Token.{Token}
use Rattle.b_lex.specs.Reading.{AreTokens}
use Rattle.b_lex.proofs.OneReading.{one_row}
use Rattle.b_grammar.specs.Symbols.{lexemes}
use Rattle.b_grammar.specs.Grammar.{IsFormulaText}
use Rattle.b_grammar.proofs.Deeper.{one_text}
use Rattle.b_print.specs.Texts.{text_of}
use Rattle.b_reading_back.specs.Symbols.{symbols_of}
use Rattle.b_reading_back.specs.Places.{bare, IsSameApartFromPlaces}
use Rattle.b_reading_back.specs.Laws.{symbols, HasItsSymbols, IsReadBack, IsReadAsNothingElse, HaveOneText}
use Rattle.b_reading_back.proofs.Blind.{same_text}
use Rattle.b_reading_back.proofs.Reading.{itself}
use Rattle.b_reading_back.proofs.Lexing.{Spells, Spelled, read_behind}
use Rattle.b_reading_back.proofs.Spelling.{text_good}

pub has_symbols : HasItsSymbols
has_symbols t h =
    let p = ((text_good t h).lexes 20).lex [] [] refl Spells.ended in
    let s : Spells (text_of t) p.0 = subst (λ (ws : List Spelled). Spells (text_of t) ws) (append-nil p.0) (subst (λ (l : List ℕ). Spells l (p.0 ++ [])) (append-nil (text_of t)) p.1) in
    let r = read_behind [] (text_of t) p.0 s in
    (r.tokens, r.reads, λ machine. r.means machine 0 ∙ p.2)

pub read_back : IsReadBack
read_back t h machine tokens are =
    let r = has_symbols t h in
    let same : r.0 ≡ tokens = one_row (text_of t) r.0 tokens r.1 are in
    itself t h (lexemes machine (text_of t) tokens) (subst (λ (l : List Token). symbols (lexemes machine (text_of t) l) ≡ symbols_of t) same (r.2 machine))

pub nothing_else : IsReadAsNothingElse
nothing_else t h machine tokens are u k =
    let r = read_back t h machine tokens are in
    subst (λ (v : Formula). bare v ≡ bare t) (one_text (lexemes machine (text_of t) tokens) r.0 u r.1 k) r.2

pub one_canonical : HaveOneText
one_canonical t u h k = (back, same_text t u)
  where
    back : text_of t ≡ text_of u → IsSameApartFromPlaces t u
    back e =
        let r = has_symbols t h in
        let v = read_back t h false r.0 r.1 in
        let other : bare v.0 ≡ bare u =
        nothing_else u k false r.0 (subst (λ (l : List ℕ). AreTokens l r.0) e r.1) v.0 (subst (λ (l : List ℕ). IsFormulaText (lexemes false l r.0) v.0) e v.1) in
        sym v.2 ∙ other
