-- What is answered for substitutions from what is answered for their parts.
use Rattle.std.proofs.Common.{◌≡◌, ◌≢◌, ℕ, zero, suc, Bool, true, false, List, [], ◌∷◌, Option, Some, None, Result, Ok, Err, refl, sym, subst}
use Rattle.b_ast.specs.declared.Place.{Place}
use Rattle.b_ast.specs.declared.machine.Subst.{Subst}
use Rattle.b_ast.specs.declared.machine.Step.{Step}
use Rattle.b_machine_grammar.specs.declared.words.Word.{Word}
use Rattle.b_machine_grammar.specs.declared.words.Word.TheVariants as word
use Rattle.b_machine_grammar.specs.declared.words.Separator.TheVariants as at
use Rattle.b_machine_grammar.specs.Words.{is_word}
use Rattle.b_machine_grammar.specs.Cuts.{Piece, Stands, Next, cut, cut_at, IsNever, IsMade, IsEnded, IsBehindIf, IsRow}
use Rattle.b_machine_grammar.specs.Grammar as grammar
use Rattle.b_machine_grammar.specs.Grammar.{place, begins_block, IsSimple, IsChain, IsSubst}
use Rattle.b_stretches.specs.declared.Unread.{Unread}
use Rattle.b_stretches.specs.Stretches.{IsNoMachine, Answers}
use Rattle.b_stretches.proofs.Reading.{nothing, answers_same}
use Rattle.b_read_subst.specs.Blocks.{inside, IsSkip, IsPart, IsBlock, IsEndedBlock}

-- ---- chains

from_subst : (depth : ℕ) (ts : List Piece) (y : Subst) → IsSubst depth ts y → IsChain (inside depth) ts y
unfolding IsSubst inside
from_subst zero ts y q = q
from_subst (suc d) ts y q = q

to_subst : (depth : ℕ) (ts : List Piece) (y : Subst) → IsChain (inside depth) ts y → IsSubst depth ts y
unfolding IsSubst inside
to_subst zero ts y q = q
to_subst (suc d) ts y q = q

pub subst_answers : (depth : ℕ) (ts : List Piece) (r : Result Subst Unread) → Answers (IsChain (inside depth) ts) r → Answers (IsSubst depth ts) r
subst_answers depth ts r k = answers_same (IsChain (inside depth) ts) (IsSubst depth ts) r (to_subst depth ts) (from_subst depth ts) k

-- ---- one bracket less

pub inside_none : (depth : ℕ) (ts : List Piece) (e : Unread) → depth ≡ zero → IsNoMachine e → Answers (inside depth ts) (Err e)
unfolding inside
inside_none zero ts e z i = nothing (IsNever ts) e i (λ y q. q)
inside_none (suc d) ts e z i = absurd (cc)

pub inside_less : (depth less : ℕ) (ts : List Piece) (r : Result Subst Unread) → depth ≡ suc less → Answers (IsSubst less ts) r → Answers (inside depth ts) r
unfolding inside
inside_less zero less ts r z k = absurd (cc)
inside_less (suc d) less ts r z k = let same : less ≡ d = cc in subst (λ n. Answers (IsSubst n ts) r) same k

-- ---- parts

module _ (P : Stands Subst) (ts : List Piece) (s : Piece) (more : List Piece) (e : ts ≡ s ∷ more) (r : Result Subst Unread) where
  here : Answers (grammar.IsPart P (s ∷ more)) r → Answers (grammar.IsPart P ts) r
  here k = subst (λ l. Answers (grammar.IsPart P l) r) (sym e) k

  pub part_skip : is_word s.0 word.Skip ≡ true → Answers (IsSkip (place s) more) r → Answers (grammar.IsPart P ts) r
  part_skip f k = here (answers_same (IsSkip (place s) more) (grammar.IsPart P (s ∷ more)) r (λ x h. rw f h) (λ x q. rw f at q) k)

  pub part_block : is_word s.0 word.Skip ≡ false → begins_block s.0 ≡ true → Answers (IsEnded (cut_at word.End) (grammar.IsBlock P s.0 (place s)) more) r → Answers (grammar.IsPart P ts) r
  part_block f g k =
      here
      (answers_same (IsEnded (cut_at word.End) (grammar.IsBlock P s.0 (place s)) more) (grammar.IsPart P (s ∷ more)) r (λ x h. rw (f, g) h) (λ x q. rw (f, g) at q) k)

  pub part_simple : is_word s.0 word.Skip ≡ false → begins_block s.0 ≡ false → Answers (IsSimple ts) r → Answers (grammar.IsPart P ts) r
  part_simple f g k = here (answers_same (IsSimple (s ∷ more)) (grammar.IsPart P (s ∷ more)) r (λ x h. rw (f, g) h) (λ x q. rw (f, g) at q) (subst (λ l. Answers (IsSimple l) r) e k))

pub part_none : (P : Stands Subst) (ts : List Piece) (e : Unread) → ts ≡ [] → IsNoMachine e → Answers (grammar.IsPart P ts) (Err e)
part_none P ts e z i = subst (λ l. Answers (grammar.IsPart P l) (Err e)) (sym z) (nothing (grammar.IsPart P []) e i (λ y q. q))

-- ---- blocks

no_block : (P : Stands Subst) (w : Word) (p : Place) (ts : List Piece) (x : Subst) → begins_block w ≡ false → grammar.IsBlock P w p ts x → ⊥
no_block P word.Begin p ts x f k = absurd (cc)
no_block P word.Pre p ts x f k = absurd (cc)
no_block P word.Assert p ts x f k = absurd (cc)
no_block P word.If p ts x f k = absurd (cc)
no_block P word.Select p ts x f k = absurd (cc)
no_block P word.Choice p ts x f k = absurd (cc)
no_block P word.Case p ts x f k = absurd (cc)
no_block P word.Any p ts x f k = absurd (cc)
no_block P word.Let p ts x f k = absurd (cc)
no_block P w p ts x f k = k

none_of_these : (w : Word) → w ≢ word.Begin → w ≢ word.Pre → w ≢ word.Assert → w ≢ word.If → w ≢ word.Select → w ≢ word.Choice → w ≢ word.Case → w ≢ word.Any → w ≢ word.Let → begins_block w ≡ false
none_of_these word.Begin a b c d e f g h i = absurd (a refl)
none_of_these word.Pre a b c d e f g h i = absurd (b refl)
none_of_these word.Assert a b c d e f g h i = absurd (c refl)
none_of_these word.If a b c d e f g h i = absurd (d refl)
none_of_these word.Select a b c d e f g h i = absurd (e refl)
none_of_these word.Choice a b c d e f g h i = absurd (f refl)
none_of_these word.Case a b c d e f g h i = absurd (g refl)
none_of_these word.Any a b c d e f g h i = absurd (h refl)
none_of_these word.Let a b c d e f g h i = absurd (i refl)
none_of_these w a b c d e f g h i = refl

pub block_other : (P : Stands Subst) (w : Word) (p : Place) (ts : List Piece) (u : Unread) → IsNoMachine u → w ≢ word.Begin → w ≢ word.Pre → w ≢ word.Assert → w ≢ word.If → w ≢ word.Select → w ≢ word.Choice → w ≢ word.Case → w ≢ word.Any → w ≢ word.Let
    → Answers (grammar.IsBlock P w p ts) (Err u)
block_other P w p ts u n a b c d e f g h i = nothing (grammar.IsBlock P w p ts) u n (λ y q. no_block P w p ts y (none_of_these w a b c d e f g h i) q)

pub block_is : (P : Stands Subst) (w v : Word) (p : Place) (ts : List Piece) (r : Result Subst Unread) → w ≡ v → Answers (grammar.IsBlock P v p ts) r → Answers (grammar.IsBlock P w p ts) r
block_is P w v p ts r e k = subst (λ (u : Word). Answers (grammar.IsBlock P u p ts) r) (sym e) k
