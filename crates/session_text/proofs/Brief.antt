-- How long errors and lone states are.
use Rattle.std.proofs.Common.{◌≡◌, ◌≤◌, ◌<◌, ◌+◌, ◌^◌, ℕ, List, [], ◌∷◌, ◌++◌, length, length-append, codes, refl, ap, ◌∙◌, lit<, lit≤, arith}
use Rattle.std.proofs.lemmas.Fmt.{length-decimal-le}
use Rattle.std.specs.Fmt.{decimal}
use Rattle.b_values.specs.declared.types.Face.{Face}
use Rattle.b_values.specs.declared.values.FaultKind.{FaultKind}
use Rattle.b_values.specs.declared.values.FaultKind.TheVariants.{IllDefined, Overflow, TooLarge}
use Rattle.b_values.specs.declared.values.Text.{Text}
use Rattle.b_values.specs.declared.values.Text.TheVariants.{Machine, Formula}
use Rattle.b_values.specs.declared.values.EvalFault.{EvalFault}
use Rattle.session_words.specs.declared.refusals.Refusal.{Refusal}
use Rattle.session_words.specs.declared.refusals.Refusal.TheVariants.{LineTooLong, NoCommand, AtStart, AtEnd, NoPosition, NotShown, NoSub, NoKept, NoEvent, KeptFull, UnknownName, Syntax, WrongType, SubsFull, Document, TraceFile, PostForm, NotInitialised, Fault, NoStep, TraceFull, NotAStep, Memory}
use Rattle.session_words.specs.declared.replies.SubValue.{SubValue}
use Rattle.session_words.specs.declared.replies.Reply.{Reply}
use Rattle.session_words.specs.declared.replies.Reply.TheVariants.{Silent, Done, Info, Lists, Added, Moved, Trace, State, Value as Valued, Subscribed, Subscriptions, Invariant, Saved, Migrated, Replayed, VisbItems, Walked, Refused}
use Rattle.session_words.specs.Texts.{line, kind_text, text_name, place_text, fault_text, fault_code, refusal_text}
use Rattle.session_text.specs.Writing.{text_of_reply}
use Rattle.session_words.specs.declared.replies.Numbered.{Numbered}
use Rattle.session_text.specs.Brief.{HasWords, IsAlone, IsBrief}

short_number : (n : ℕ) → n < 2 ^ 64 → length (decimal n) ≤ 20
short_number n small =
    let most : n < 10 ^ 20 = omega arith in
    length-decimal-le 20 n (lit< tt) most small

-- a text before a number
short_counted : (text : List ℕ) (n most : ℕ) → length text ≤ most → n < 2 ^ 64 → length (text ++ decimal n) ≤ most + 20
short_counted text n most few small =
    let all : length (text ++ decimal n) ≡ length text + length (decimal n) = length-append text (decimal n) in
    let number : length (decimal n) ≤ 20 = short_number n small in
    omega arith

short_kind : (kind : FaultKind) → length (kind_text kind ++ codes " ") ≤ 12
short_kind IllDefined = lit≤ tt
short_kind Overflow = lit≤ tt
short_kind TooLarge = lit≤ tt

short_name : (text : Text) → length (text_name text) ≤ 8
short_name Machine = lit≤ tt
short_name Formula = lit≤ tt

short_code : (kind : FaultKind) → length (fault_code kind) ≤ 3
short_code IllDefined = lit≤ tt
short_code Overflow = lit≤ tt
short_code TooLarge = lit≤ tt

short_fault : (fault : EvalFault) → fault.at < 2 ^ 64 → length (fault_code fault.kind ++ fault_text fault) ≤ 43
short_fault fault small =
    let place : length (place_text fault) ≤ 28 = short_counted (text_name fault.text) fault.at 8 (short_name fault.text) small in
    let kind : length (kind_text fault.kind ++ codes " ") ≤ 12 = short_kind fault.kind in
    let code : length (fault_code fault.kind) ≤ 3 = short_code fault.kind in
    let inner : length (fault_text fault) ≡ length (kind_text fault.kind ++ codes " ") + length (place_text fault) = length-append (kind_text fault.kind ++ codes " ") (place_text fault) in
    let all : length (fault_code fault.kind ++ fault_text fault) ≡ length (fault_code fault.kind) + length (fault_text fault) = length-append (fault_code fault.kind) (fault_text fault) in
    omega arith

short_refusal : (refusal : Refusal) → HasWords refusal → length (refusal_text refusal) ≤ 43
short_refusal LineTooLong words = lit≤ tt
short_refusal NoCommand words = lit≤ tt
short_refusal AtStart words = lit≤ tt
short_refusal AtEnd words = lit≤ tt
short_refusal NoPosition words = lit≤ tt
short_refusal NotShown words = lit≤ tt
short_refusal NoSub words = lit≤ tt
short_refusal NoKept words = lit≤ tt
short_refusal NoEvent words = lit≤ tt
short_refusal KeptFull words = lit≤ tt
short_refusal UnknownName words = lit≤ tt
short_refusal Syntax words = lit≤ tt
short_refusal WrongType words = lit≤ tt
short_refusal SubsFull words = lit≤ tt
short_refusal Document words = lit≤ tt
short_refusal TraceFile words = lit≤ tt
short_refusal NotInitialised words = lit≤ tt
short_refusal NoStep words = lit≤ tt
short_refusal TraceFull words = lit≤ tt
short_refusal Memory words = lit≤ tt
short_refusal (PostForm entry) words =
    let all : length (codes "E25 post-form " ++ decimal entry) ≤ 14 + 20 = short_counted (codes "E25 post-form ") entry 14 (lit≤ tt) words in
    omega arith
short_refusal (Fault fault) words = short_fault fault words
short_refusal (NotAStep entry) words =
    let all : length (codes "E21 not-a-step " ++ decimal entry) ≤ 15 + 20 = short_counted (codes "E21 not-a-step ") entry 15 (lit≤ tt) words in
    omega arith

-- a line that begins with a known text
short_line : (begin text : List ℕ) (some most : ℕ) → length begin ≤ some → length text ≤ most → length (line (begin ++ text)) ≤ some + most + 1
short_line begin text some most few more =
    let inner : length (begin ++ text) ≡ length begin + length text = length-append begin text in
    let all : length (line (begin ++ text)) ≡ length (begin ++ text) + 1 = length-append (begin ++ text) (10 ∷ []) in
    omega arith

short_alone : (face : Face) (state : Numbered) (subs : List SubValue) → IsAlone state subs → length (text_of_reply face (Moved state subs)) ≤ 64
short_alone face state [] small =
    let shown : length (line (codes "state " ++ decimal state.number)) ≤ 6 + 20 + 1 = short_line (codes "state ") (decimal state.number) 6 20 (lit≤ tt) (short_number state.number small) in
    let none : length (line (codes "state " ++ decimal state.number) ++ []) ≡ length (line (codes "state " ++ decimal state.number)) + 0 = length-append (line (codes "state " ++ decimal state.number)) [] in
    let all : length (line (codes "state " ++ decimal state.number) ++ [] ++ line (codes "ok")) ≡ length (line (codes "state " ++ decimal state.number) ++ []) + 3 = length-append (line (codes "state " ++ decimal state.number) ++ []) (line (codes "ok")) in
    omega arith
short_alone face state (sub ∷ subs) small = absurd small

-- a state alone doesn't pass 64 bytes behind nothing
pub moved_told : (n : ℕ) (out : List ℕ) → n < 2 ^ 64 → out ≡ [] → 64 < length out + length (line (codes "state " ++ decimal n) ++ line (codes "ok")) → ⊥
moved_told n out small empty long =
    let none : length out ≡ 0 = ap length empty in
    let shown : length (line (codes "state " ++ decimal n)) ≤ 6 + 20 + 1 = short_line (codes "state ") (decimal n) 6 20 (lit≤ tt) (short_number n small) in
    let all : length (line (codes "state " ++ decimal n) ++ line (codes "ok")) ≡ length (line (codes "state " ++ decimal n)) + 3 = length-append (line (codes "state " ++ decimal n)) (line (codes "ok")) in
    omega arith

pub brief_fits : (face : Face) (reply : Reply Numbered) → IsBrief reply → length (text_of_reply face reply) ≤ 64
brief_fits face Silent brief = lit≤ tt
brief_fits face Done brief = lit≤ tt
brief_fits face (Moved state subs) brief = short_alone face state subs brief
brief_fits face (Refused refusal) brief =
    let all : length (line (codes "error " ++ refusal_text refusal)) ≤ 6 + 43 + 1 = short_line (codes "error ") (refusal_text refusal) 6 43 (lit≤ tt) (short_refusal refusal brief) in
    omega arith
brief_fits face (Info a b c) brief = absurd brief
brief_fits face (Lists a) brief = absurd brief
brief_fits face (Added a b) brief = absurd brief
brief_fits face (Trace a b) brief = absurd brief
brief_fits face (State a b) brief = absurd brief
brief_fits face (Valued a b) brief = absurd brief
brief_fits face (Subscribed a) brief = absurd brief
brief_fits face (Subscriptions a) brief = absurd brief
brief_fits face (Invariant a b) brief = absurd brief
brief_fits face (Saved a) brief = absurd brief
brief_fits face (Migrated a) brief = absurd brief
brief_fits face (Replayed a b) brief = absurd brief
brief_fits face (VisbItems a) brief = absurd brief
brief_fits face (Walked a b) brief = absurd brief

-- so such a reply isn't too long for its value
pub brief_told : (face : Face) (reply : Reply Numbered) (out : List ℕ) → out ≡ [] → 64 < length out + length (text_of_reply face reply) → IsBrief reply → ⊥
brief_told face reply out empty long brief =
    let none : length out ≡ 0 = ap length empty in
    let most : length (text_of_reply face reply) ≤ 64 = brief_fits face reply brief in
    omega arith
