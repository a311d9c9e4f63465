-- A session that takes its lines from a source and gives the replies to a sink.
use Rattle.std.proofs.Common.{◌≡◌, ◌∙◌, sym, ap, subst, refl, ℕ, ◌+◌, ◌-◌, ◌<◌, ◌≤◌, take, length-append, Bool, List, [], ◌∷◌, ◌++◌, length, Option, Some, None, arith, append_assoc}
use Rattle.std.proofs.lemmas.List.{append-nil, take-append-le}
use Rattle.std.proofs.Math.Seq.{take-append-add}
use Rattle.std.specs.Prelude.{IfSome, Result, Ok, Err, OnOk, OnErr, is_err, true, false}
use Rattle.std.proofs.lemmas.Bool.{true≢false}
use Rattle.b_values.specs.declared.values.State.{State}
use Rattle.animator.specs.declared.model.Session.{Session}
use Rattle.animator.specs.declared.model.End.{End}
use Rattle.animator.specs.declared.model.End.TheVariants.{EndOfInput, SinkFault, LineLimit}
use Rattle.animator.specs.Meaning.{Meaning}
use Rattle.animator.specs.Lines.{lines_of, whole_lines}
use Rattle.animator.specs.Words.{command_of}
use Rattle.animator.specs.Names.{Extends, Covers, text_of}
use Rattle.animator.specs.Replies.{fresh}
use Rattle.animator.specs.Private.{line_answer, replies, takes_none, AreSpared, IsAnimated}
use Rattle.animator.proofs.Places.{covers_more, covers_append, text_more, text-append}
use Rattle.animator.proofs.Cutting.{lines-first, lines-last, whole_lines-append, whole_lines-none, whole_lines-one}
use Rattle.animator.proofs.Runs.{StandsAt, at_start, replies_next, stands_next, spared_next, all_answered}
use Rattle.host_io.specs.Outside.{before_told, behind_told, Told}
use Rattle.host_top.specs.Taking.{EndsLine, EndsInput, PassesRoom}

-- These bytes, which are a line and what ends it, were taken from the front of the rest. The room falls as the rest does.
pub record Took (rest line : List ℕ) (room : ℕ) (left : Option (List ℕ)) (room_now : ℕ) : Type 0 where
  pub bytes : List ℕ
  pub after : List ℕ
  pub split : rest ≡ bytes ++ after
  pub left_is : left ≡ Some after
  pub cut : lines_of rest ≡ line ∷ lines_of after
  pub size : length bytes + room_now ≡ room

told_after : (bytes rest : List ℕ) (left : Option (List ℕ)) → Some rest ≡ before_told bytes left → (after : List ℕ) × (left ≡ Some after) × (rest ≡ bytes ++ after)
told_after bytes rest None is = cc
told_after bytes rest (Some after) is = (after, refl, cc)

-- a line and its LF were taken
pub record TookLine (rest line : List ℕ) (room : ℕ) (left : Option (List ℕ)) (room_now : ℕ) : Type 0 where
  pub took : Took rest line room left room_now
  pub one : whole_lines took.bytes ≡ 1

pub took_line : (rest line : List ℕ) (room : ℕ) (old left : Option (List ℕ)) (room_now : ℕ) → old ≡ Some rest → EndsLine old room line left room_now → TookLine rest line room left room_now
took_line rest line room old left room_now is ends =
    let t = told_after (ends.raw ++ 10 ∷ []) rest left (sym is ∙ ends.taken) in
    let whole : rest ≡ ends.raw ++ 10 ∷ t.0 = t.2 ∙ append_assoc ends.raw (10 ∷ []) t.0 in
    record {
      took = record {
        bytes = ends.raw ++ 10 ∷ [];
        after = t.0;
        split = t.2;
        left_is = t.1;
        cut = ap lines_of whole ∙ lines-first ends.raw t.0 ends.one ∙ ap (λ (l : List ℕ). l ∷ lines_of t.0) (sym ends.cut);
        size = omega (arith, length-append ends.raw (10 ∷ []), ends.room_is);
      };
      one = whole_lines-one ends.raw ends.one;
    }

ended : (rest line : List ℕ) (room : ℕ) (old left : Option (List ℕ)) → old ≡ Some rest → EndsInput old room line left → (left ≡ Some []) × (rest ≡ line)
ended rest line room old left is ends =
    let t = told_after line rest left (sym is ∙ ends.taken) in
    let none : t.0 ≡ [] = subst (λ o. IfSome o (λ b. b ≡ [])) t.1 ends.end in
    (t.1 ∙ ap (λ b. Some b) none, t.2 ∙ ap (λ (b : List ℕ). line ++ b) none ∙ append-nil line)

-- the last line was taken, and nothing is left
pub record TookLast (rest line : List ℕ) (room : ℕ) (left : Option (List ℕ)) : Type 0 where
  pub room_now : ℕ
  pub took : Took rest line room left room_now
  pub none : took.after ≡ []
  pub within : length rest ≤ room

pub took_last : (rest line : List ℕ) (room : ℕ) (old left : Option (List ℕ)) → old ≡ Some rest → EndsInput old room line left → 0 < length line → TookLast rest line room left
took_last rest line room old left is ends some =
    let e = ended rest line room old left is ends in
    let fits : length rest ≤ room = omega (arith, ap length e.1, ends.within) in
    record {
      room_now = room - length line;
      took = record { bytes = line; after = []; split = e.1 ∙ sym (append-nil line); left_is = e.0; cut = ap lines_of e.1 ∙ lines-last line some ends.one; size = omega (arith, fits, ap length e.1) };
      none = refl;
      within = fits;
    }

pub nothing_left : (rest line : List ℕ) (room : ℕ) (old left : Option (List ℕ)) → old ≡ Some rest → EndsInput old room line left → length line ≡ 0 → rest ≡ []
nothing_left rest [] room old left is ends none = (ended rest [] room old left is ends).1
nothing_left rest (b ∷ line) room old left is ends none = absurd (omega arith)

-- more is left than there is room, and no line ends in the part for which there is
pub record IsTooMuch (rest : List ℕ) (room : ℕ) : Type 0 where
  pub more : room < length rest
  pub none : whole_lines (take room rest) ≡ 0

pub too_much : (rest : List ℕ) (room : ℕ) (old left : Option (List ℕ)) → old ≡ Some rest → PassesRoom old room left → IsTooMuch rest room
too_much rest room old left is passes =
    let t = told_after passes.bytes rest left (sym is ∙ passes.taken) in
    record {
      more = omega (arith, ap length t.2, length-append passes.bytes t.0, passes.more);
      none = ap (λ (b : List ℕ). whole_lines (take room b)) t.2 ∙ ap whole_lines (take-append-le room passes.bytes t.0 (omega (arith, passes.more))) ∙ whole_lines-none (take room passes.bytes) passes.one;
    }

-- what holds between two lines
pub record SoFar (m : Meaning) (names : List State) (bytes before : List ℕ) (room : ℕ) (left held : Option (List ℕ)) (session : Session) (marks : List Bool) : Type 0 where
  pub front : List ℕ
  pub rest : List ℕ
  pub split : bytes ≡ front ++ rest
  pub left_is : left ≡ Some rest
  pub at : StandsAt m bytes session marks (lines_of rest)
  pub spared : AreSpared marks (lines_of bytes)
  pub named : Covers names (replies m marks bytes)
  pub text : held ≡ Some (before ++ text_of names (replies m marks bytes))
  pub size : length front + room ≡ 65536
  pub whole : whole_lines front ≡ length marks

pub started : (m : Meaning) (names : List State) (bytes before : List ℕ) (left held : Option (List ℕ)) → left ≡ Some bytes → held ≡ Some before → SoFar m names bytes before 65536 left held fresh []
started m names bytes before left held left_is held_is = record {
  front = [];
  rest = bytes;
  split = refl;
  left_is = left_is;
  at = at_start m bytes;
  spared = tt;
  named = tt;
  text = held_is ∙ ap (λ b. Some b) (sym (append-nil before));
  size = omega arith;
  whole = refl;
}

module _ (m : Meaning) (names now : List State) (bytes before : List ℕ) (room : ℕ) (left held : Option (List ℕ)) (session : Session) (marks : List Bool) (mark : Bool) (line : List ℕ)
    (so_far : SoFar m names bytes before room left held session marks)
    (left_now : Option (List ℕ)) (room_now : ℕ) (took : Took so_far.rest line room left_now room_now)
    (extends : Extends names now)
    (named : Covers now (line_answer m session mark line).reply)
    (spare : takes_none (command_of line) ≡ true → mark ≡ false)
  where
    stands : StandsAt m bytes session marks (line ∷ lines_of took.after)
    stands = subst (StandsAt m bytes session marks) took.cut so_far.at

    next : replies m (marks ++ mark ∷ []) bytes ≡ replies m marks bytes ++ (line_answer m session mark line).reply
    next = replies_next m bytes session marks mark line (lines_of took.after) stands

    all_spared : AreSpared (marks ++ mark ∷ []) (lines_of bytes)
    all_spared = spared_next m bytes session marks mark line (lines_of took.after) stands spare so_far.spared

    old_named : Covers now (replies m marks bytes)
    old_named = subst (λ (n : List State). Covers n (replies m marks bytes)) (sym extends.1) (covers_more names extends.0 (replies m marks bytes) so_far.named)

    all_named : Covers now (replies m (marks ++ mark ∷ []) bytes)
    all_named = subst (Covers now) (sym next) (covers_append now (replies m marks bytes) (line_answer m session mark line).reply old_named named)

    old_text : text_of now (replies m marks bytes) ≡ text_of names (replies m marks bytes)
    old_text = ap (λ (n : List State). text_of n (replies m marks bytes)) extends.1 ∙ text_more names extends.0 (replies m marks bytes) so_far.named

    -- the text of all the replies is the old one and that of the new reply
    both : text_of names (replies m marks bytes) ++ text_of now (line_answer m session mark line).reply ≡ text_of now (replies m (marks ++ mark ∷ []) bytes)
    both =
        ap (λ (t : List ℕ). t ++ text_of now (line_answer m session mark line).reply) (sym old_text)
        ∙ sym (ap (text_of now) next ∙ text-append now (replies m marks bytes) (line_answer m session mark line).reply)

    all_text : before ++ text_of names (replies m marks bytes) ++ text_of now (line_answer m session mark line).reply ≡ before ++ text_of now (replies m (marks ++ mark ∷ []) bytes)
    all_text = append_assoc before (text_of names (replies m marks bytes)) (text_of now (line_answer m session mark line).reply) ∙ ap (λ (t : List ℕ). before ++ t) both

    front_text : (n : ℕ) → before ++ text_of names (replies m marks bytes) ++ take n (text_of now (line_answer m session mark line).reply)
        ≡ before ++ take (length (text_of names (replies m marks bytes)) + n) (text_of now (replies m (marks ++ mark ∷ []) bytes))
    front_text n =
        append_assoc before (text_of names (replies m marks bytes)) (take n (text_of now (line_answer m session mark line).reply))
        ∙ ap (λ (t : List ℕ). before ++ t)
        (sym (take-append-add (text_of names (replies m marks bytes)) (text_of now (line_answer m session mark line).reply) n)
        ∙ ap (take (length (text_of names (replies m marks bytes)) + n)) both)

    -- the line was answered
    pub goes_on : whole_lines took.bytes ≡ 1 → (held_now : Option (List ℕ)) (session_now : Session) → held_now ≡ behind_told held (text_of now (line_answer m session mark line).reply) → session_now ≡ (line_answer m session mark line).session
        → SoFar m now bytes before room_now left_now held_now session_now (marks ++ mark ∷ [])
    goes_on one held_now session_now given session_is = record {
      front = so_far.front ++ took.bytes;
      rest = took.after;
      split = so_far.split ∙ ap (λ (l : List ℕ). so_far.front ++ l) took.split ∙ sym (append_assoc so_far.front took.bytes took.after);
      spared = all_spared;
      left_is = took.left_is;
      at = subst (λ s. StandsAt m bytes s (marks ++ mark ∷ []) (lines_of took.after)) (sym session_is) (stands_next m bytes session marks mark line (lines_of took.after) stands);
      named = all_named;
      text = given ∙ ap (λ h. behind_told h (text_of now (line_answer m session mark line).reply)) so_far.text ∙ ap (λ b. Some b) all_text;
      size = omega (arith, so_far.size, took.size, length-append so_far.front took.bytes);
      whole = whole_lines-append so_far.front took.bytes ∙ omega (arith, so_far.whole, one, length-append marks (mark ∷ []));
    }

    -- it was the last line
    pub ends_here : (documents : List ℕ → Told (List ℕ)) (from to : ℕ) → took.after ≡ [] → length so_far.rest ≤ room → (held_now : Option (List ℕ)) → held_now ≡ behind_told held (text_of now (line_answer m session mark line).reply)
        → IsAnimated m now (record { source = bytes; sink = before; documents = documents }) (record { end = EndOfInput; lines = (length (marks ++ mark ∷ [])); marks = (marks ++ mark ∷ []); held = held_now; source_faults = from; sink_faults = to })
    ends_here documents from to none fits held_now given = record {
      count = refl;
      spared = all_spared;
      named = all_named;
      text = λ other. given ∙ ap (λ h. behind_told h (text_of now (line_answer m session mark line).reply)) so_far.text ∙ ap (λ b. Some b) all_text;
      front = λ same. cc;
      whole = λ is. all_answered m bytes (line_answer m session mark line).session (marks ++ mark ∷ [])
          (subst (λ (r : List ℕ). StandsAt m bytes (line_answer m session mark line).session (marks ++ mark ∷ []) (lines_of r)) none (stands_next m bytes session marks mark line (lines_of took.after) stands));
      within = λ is. omega (arith, so_far.size, fits, ap length so_far.split, length-append so_far.front so_far.rest);
      limit = λ same. cc;
      complete = λ same. cc;
    }

    -- its reply met a fault of the sink
    pub sink_failed : (documents : List ℕ → Told (List ℕ)) (from to : ℕ) (held_now : Option (List ℕ)) → (n : ℕ) × (held_now ≡ behind_told held (take n (text_of now (line_answer m session mark line).reply)))
        → IsAnimated m now (record { source = bytes; sink = before; documents = documents }) (record { end = SinkFault; lines = (length (marks ++ mark ∷ [])); marks = (marks ++ mark ∷ []); held = held_now; source_faults = from; sink_faults = to })
    sink_failed documents from to held_now front = record {
      count = refl;
      spared = all_spared;
      named = all_named;
      text = λ other. absurd (other refl);
      front = λ is. (
        length (text_of names (replies m marks bytes)) + front.0,
        front.1 ∙ ap (λ h. behind_told h (take front.0 (text_of now (line_answer m session mark line).reply))) so_far.text ∙ ap (λ b. Some b) (front_text front.0),
      );
      whole = λ same. cc;
      within = λ same. cc;
      limit = λ same. cc;
      complete = λ same. cc;
    }

-- the input ends between two lines
pub ended_between : (documents : List ℕ → Told (List ℕ)) (from to : ℕ) (m : Meaning) (names : List State) (bytes before : List ℕ) (room : ℕ) (left held : Option (List ℕ)) (session : Session) (marks : List Bool)
    (so_far : SoFar m names bytes before room left held session marks) → so_far.rest ≡ [] → IsAnimated m names (record { source = bytes; sink = before; documents = documents }) (record { end = EndOfInput; lines = (length marks); marks = marks; held = held; source_faults = from; sink_faults = to })
ended_between documents from to m names bytes before room left held session marks so_far none = record {
  count = refl;
  spared = so_far.spared;
  named = so_far.named;
  text = λ other. so_far.text;
  front = λ same. cc;
  whole = λ is. all_answered m bytes session marks (subst (λ (r : List ℕ). StandsAt m bytes session marks (lines_of r)) none so_far.at);
  within = λ is. omega (arith, so_far.size, ap length none, ap length so_far.split, length-append so_far.front so_far.rest);
  limit = λ same. cc;
  complete = λ same. cc;
}

-- the session is cut between two lines
pub cut_between : (documents : List ℕ → Told (List ℕ)) (from to : ℕ) (m : Meaning) (names : List State) (bytes before : List ℕ) (room : ℕ) (left held : Option (List ℕ)) (session : Session) (marks : List Bool) (end : End)
    (so_far : SoFar m names bytes before room left held session marks) → (end ≡ EndOfInput → ⊥) → (end ≡ SinkFault → ⊥) → (end ≡ LineLimit → IsTooMuch so_far.rest room)
    → IsAnimated m names (record { source = bytes; sink = before; documents = documents }) (record { end = end; lines = (length marks); marks = marks; held = held; source_faults = from; sink_faults = to })
cut_between documents from to m names bytes before room left held session marks end so_far not_end not_sink limit = record {
  count = refl;
  spared = so_far.spared;
  named = so_far.named;
  text = λ other. so_far.text;
  front = λ is. absurd (not_sink is);
  whole = λ is. absurd (not_end is);
  within = λ is. absurd (not_end is);
  limit = λ is. omega (arith, so_far.size, (limit is).more, ap length so_far.split, length-append so_far.front so_far.rest);
  complete = λ is. sym (
      ap (λ (b : List ℕ). whole_lines (take 65536 b)) so_far.split
      ∙ ap (λ n. whole_lines (take n (so_far.front ++ so_far.rest))) (sym so_far.size)
      ∙ ap whole_lines (take-append-add so_far.front so_far.rest room)
      ∙ whole_lines-append so_far.front (take room so_far.rest)
      ∙ omega (arith, so_far.whole, (limit is).none)
      );
}

-- a claim on what is told
pub where_told : (o p : Option (List ℕ)) (P : List ℕ → List ℕ → Type 0) → ((a b : List ℕ) → o ≡ Some a → p ≡ Some b → P a b) → IfSome o (λ a. IfSome p (λ b. P a b))
where_told None p P all = tt
where_told (Some a) None P all = tt
where_told (Some a) (Some b) P all = all a b refl refl

-- the same for whatever else is told
pub where_all_told : (o p : Option (List ℕ)) (D : Type 0) (P : List ℕ → List ℕ → D → Type 0) → ((a b : List ℕ) → o ≡ Some a → p ≡ Some b → (d : D) → P a b d) → IfSome o (λ a. IfSome p (λ b. (d : D) → P a b d))
where_all_told o p D P all = where_told o p (λ a b. (d : D) → P a b d) all

-- what holds of a call that didn't fail
pub given_ok : {T E : Type 0} (r : Result T E) (P : Type 0) (b : Bool) → b ≡ is_err r → b ≡ false → OnOk r P → P
given_ok (Ok x) P b is failed holds = holds
given_ok (Err e) P b is failed holds = absurd (true≢false (sym is ∙ failed))

-- what holds of a call that failed
pub given_err : {T E : Type 0} (r : Result T E) (P : Type 0) (b : Bool) → b ≡ is_err r → b ≡ true → OnErr r P → P
given_err (Ok x) P b is failed holds = absurd (true≢false (sym failed ∙ is))
given_err (Err e) P b is failed holds = holds
