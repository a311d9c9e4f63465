-- A session that goes on by one line.
use Rattle.std.proofs.Common.{◌≡◌, ◌∙◌, sym, ap, subst, refl, ℕ, Bool, true, false, List, [], ◌∷◌, ◌++◌, length, arith, append_assoc, length-append, ◌+◌}
use Rattle.std.proofs.lemmas.List.{append-nil}
use Rattle.animator.specs.declared.model.Part.{Part}
use Rattle.animator.specs.declared.model.Session.{Session}
use Rattle.animator.specs.Meaning.{Meaning}
use Rattle.animator.specs.Lines.{lines_of}
use Rattle.animator.specs.Replies.{fresh}
use Rattle.animator.specs.Words.{command_of}
use Rattle.animator.specs.Private.{line_answer, replies_from, replies, takes_none, AreSpared}

-- the session after the lines
abbrev pub session_after : Meaning → Session → List Bool → List (List ℕ) → Session
session_after m session [] lines = session
session_after m session (mark ∷ marks) [] = session
session_after m session (mark ∷ marks) (line ∷ lines) = session_after m (line_answer m session mark line).session marks lines

enough : (m : Meaning) (session : Session) (marks : List Bool) (done more : List (List ℕ)) → length done ≡ length marks → replies_from m session marks (done ++ more) ≡ replies_from m session marks done
enough m session [] done more count = refl
enough m session (mark ∷ marks) [] more count = absurd (omega arith)
enough m session (mark ∷ marks) (line ∷ done) more count =
    ap (λ (ps : List Part). (line_answer m session mark line).reply ++ ps) (enough m (line_answer m session mark line).session marks done more (omega arith))

one_more : (m : Meaning) (session : Session) (marks : List Bool) (mark : Bool) (done : List (List ℕ)) (line : List ℕ) (more : List (List ℕ)) → length done ≡ length marks
    → replies_from m session (marks ++ mark ∷ []) (done ++ line ∷ more) ≡ replies_from m session marks done ++ (line_answer m (session_after m session marks done) mark line).reply
one_more m session [] mark [] line more count = append-nil (line_answer m session mark line).reply
one_more m session [] mark (l ∷ done) line more count = absurd (omega arith)
one_more m session (k ∷ marks) mark [] line more count = absurd (omega arith)
one_more m session (k ∷ marks) mark (l ∷ done) line more count =
    ap (λ (ps : List Part). (line_answer m session k l).reply ++ ps) (one_more m (line_answer m session k l).session marks mark done line more (omega arith))
    ∙ sym (append_assoc (line_answer m session k l).reply _ _)

session_more : (m : Meaning) (session : Session) (marks : List Bool) (mark : Bool) (done : List (List ℕ)) (line : List ℕ) → length done ≡ length marks
    → session_after m session (marks ++ mark ∷ []) (done ++ line ∷ []) ≡ (line_answer m (session_after m session marks done) mark line).session
session_more m session [] mark [] line count = refl
session_more m session [] mark (l ∷ done) line count = absurd (omega arith)
session_more m session (k ∷ marks) mark [] line count = absurd (omega arith)
session_more m session (k ∷ marks) mark (l ∷ done) line count = session_more m (line_answer m session k l).session marks mark done line (omega arith)

-- So many lines of the bytes were answered, this session stands after them, and these lines are left.
pub record StandsAt (m : Meaning) (bytes : List ℕ) (session : Session) (marks : List Bool) (left : List (List ℕ)) : Type 0 where
  pub done : List (List ℕ)
  pub cut : lines_of bytes ≡ done ++ left
  pub count : length done ≡ length marks
  pub here : session ≡ session_after m fresh marks done

pub at_start : (m : Meaning) (bytes : List ℕ) → StandsAt m bytes fresh [] (lines_of bytes)
at_start m bytes = record { done = []; cut = refl; count = refl; here = refl }

pub replies_next : (m : Meaning) (bytes : List ℕ) (session : Session) (marks : List Bool) (mark : Bool) (line : List ℕ) (left : List (List ℕ)) → StandsAt m bytes session marks (line ∷ left)
    → replies m (marks ++ mark ∷ []) bytes ≡ replies m marks bytes ++ (line_answer m session mark line).reply
replies_next m bytes session marks mark line left at =
    ap (replies_from m fresh (marks ++ mark ∷ [])) at.cut
    ∙ one_more m fresh marks mark at.done line left at.count
    ∙ ap (λ (s : Session). replies_from m fresh marks at.done ++ (line_answer m s mark line).reply) (sym at.here)
    ∙ ap (λ (ps : List Part). ps ++ (line_answer m session mark line).reply) (sym (ap (replies_from m fresh marks) at.cut ∙ enough m fresh marks at.done (line ∷ left) at.count))

pub stands_next : (m : Meaning) (bytes : List ℕ) (session : Session) (marks : List Bool) (mark : Bool) (line : List ℕ) (left : List (List ℕ)) → StandsAt m bytes session marks (line ∷ left)
    → StandsAt m bytes (line_answer m session mark line).session (marks ++ mark ∷ []) left
stands_next m bytes session marks mark line left at = record {
  done = at.done ++ line ∷ [];
  cut = at.cut ∙ sym (append_assoc at.done (line ∷ []) left);
  count = simp length-append (ap (λ n. n + 1) at.count);
  here = ap (λ (s : Session). (line_answer m s mark line).session) at.here ∙ sym (session_more m fresh marks mark at.done line at.count);
}

pub all_answered : (m : Meaning) (bytes : List ℕ) (session : Session) (marks : List Bool) → StandsAt m bytes session marks [] → length marks ≡ length (lines_of bytes)
all_answered m bytes session marks at = sym (ap length (at.cut ∙ append-nil at.done) ∙ at.count)

spared_more : (marks : List Bool) (mark : Bool) (done : List (List ℕ)) (line : List ℕ) (left : List (List ℕ)) → length done ≡ length marks
    → (takes_none (command_of line) ≡ true → mark ≡ false) → AreSpared marks (done ++ line ∷ left) → AreSpared (marks ++ mark ∷ []) (done ++ line ∷ left)
spared_more [] mark [] line left count here before = (here, tt)
spared_more [] mark (l ∷ done) line left count here before = absurd (omega arith)
spared_more (k ∷ marks) mark [] line left count here before = absurd (omega arith)
spared_more (k ∷ marks) mark (l ∷ done) line left count here before = (before.0, spared_more marks mark done line left (omega arith) here before.1)

-- one mark more, which the next line bears
pub spared_next : (m : Meaning) (bytes : List ℕ) (session : Session) (marks : List Bool) (mark : Bool) (line : List ℕ) (left : List (List ℕ)) → StandsAt m bytes session marks (line ∷ left)
    → (takes_none (command_of line) ≡ true → mark ≡ false) → AreSpared marks (lines_of bytes) → AreSpared (marks ++ mark ∷ []) (lines_of bytes)
spared_next m bytes session marks mark line left at here before =
    subst (AreSpared (marks ++ mark ∷ [])) (sym at.cut) (spared_more marks mark at.done line left at.count here (subst (AreSpared marks) at.cut before))
