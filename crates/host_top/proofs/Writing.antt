-- Texts that are written part by part.
use Rattle.std.proofs.Common.{◌≡◌, ◌∙◌, sym, ap, subst, refl, ℕ, ◌+◌, ◌<◌, ◌≤◌, List, [], ◌∷◌, ◌++◌, length, drop, get_or, append_assoc}
use Rattle.std.proofs.lemmas.List.{append-nil, drop_more}
use Rattle.std.proofs.Math.ListN.{drop_of_length-le}
use Rattle.std.specs.Prelude.{codes, Result, Ok, Err, OnOk}
use Rattle.std.specs.Fmt.{decimal}
use Rattle.animator.specs.declared.model.Step.{Step}
use Rattle.animator.specs.declared.model.OpList.{OpList}
use Rattle.animator.specs.Replies.{done, numbered, step_parts, line_said, end_text, lists_parts}
use Rattle.b_values.specs.declared.values.State.{State}
use Rattle.animator.specs.declared.model.Part.{Part}
use Rattle.animator.specs.declared.model.Part.TheVariants.{Said}
use Rattle.animator.specs.Names.{Extends, Covers, text_of}
use Rattle.animator.proofs.Places.{covers_more, covers_append, text_more, text-append, extends_same, extends_on}
use Rattle.host_top.specs.Writing.{Writes}

-- nothing is written
pub writes_none : (names : List State) (text : List ℕ) → Writes names names text text []
writes_none names text = record { extends = extends_same names; covers = tt; text = sym (append-nil text) }

-- bytes are written
pub writes_said : (names : List State) (text bytes : List ℕ) → Writes names names text (text ++ bytes) (Said bytes ∷ [])
writes_said names text bytes = record { extends = extends_same names; covers = tt; text = ap (λ (t : List ℕ). text ++ t) (sym (append-nil bytes)) }

-- parts are written, and then more
pub writes_then : (a b c : List State) (x y z : List ℕ) (ps qs : List Part) → Writes a b x y ps → Writes b c y z qs → Writes a c x z (ps ++ qs)
writes_then a b c x y z ps qs first then = record {
  extends = extends_on a b c first.extends then.extends;
  covers = covers_append c ps qs old then.covers;
  text =
      then.text
      ∙ ap (λ (t : List ℕ). t ++ text_of c qs) (first.text ∙ ap (λ (t : List ℕ). x ++ t) (sym same))
      ∙ append_assoc x (text_of c ps) (text_of c qs)
      ∙ ap (λ (t : List ℕ). x ++ t) (sym (text-append c ps qs));
}
  where
    old : Covers c ps
    old = subst (λ (n : List State). Covers n ps) (sym then.extends.1) (covers_more b then.extends.0 ps first.covers)

    same : text_of c ps ≡ text_of b ps
    same = ap (λ (n : List State). text_of n ps) then.extends.1 ∙ text_more b then.extends.0 ps first.covers

-- all of the parts but these were written
pub record WritesFront (old new : List State) (before now : List ℕ) (all rest : List Part) : Type 0 where
  pub done : List Part
  pub split : all ≡ done ++ rest
  pub writes : Writes old new before now done

pub front_start : (names : List State) (text : List ℕ) (all : List Part) → WritesFront names names text text all all
front_start names text all = record { done = []; split = refl; writes = writes_none names text }

pub front_more : (a b c : List State) (x y z : List ℕ) (all rest ps more : List Part) → WritesFront a b x y all rest → rest ≡ ps ++ more → Writes b c y z ps → WritesFront a c x z all more
front_more a b c x y z all rest ps more front is then = record {
  done = front.done ++ ps;
  split = front.split ∙ ap (λ (l : List Part). front.done ++ l) is ∙ sym (append_assoc front.done ps more);
  writes = writes_then a b c x y z front.done ps front.writes then;
}

pub front_all : (a b : List State) (x y : List ℕ) (all rest : List Part) → WritesFront a b x y all rest → rest ≡ [] → Writes a b x y all
front_all a b x y all rest front none =
    subst (Writes a b x y) (sym (front.split ∙ ap (λ (l : List Part). front.done ++ l) none ∙ append-nil front.done)) front.writes

-- one step more was written, with its number before it
pub step_written : (a b c : List State) (x y z : List ℕ) (k next : ℕ) (all : List Part) (steps : List Step) (i : ℕ) (step : Step) → i < length steps → step ≡ get_or steps i step
    → WritesFront a b x y all (numbered k (drop i steps)) → Extends b c → Covers c (step_parts step) → z ≡ y ++ decimal k ++ codes " " ++ text_of c (step_parts step) → next ≡ k + 1
    → WritesFront a c x z all (numbered next (drop (i + 1) steps))
step_written a b c x y z k next all steps i step within is front extends covers text then =
    rw then (front_more a b c x y z all _ (Said (decimal k ++ codes " ") ∷ step_parts step) (numbered (k + 1) (drop (i + 1) steps)) front
    (ap (numbered k) (drop_more steps i step within ∙ ap (λ (s : Step). s ∷ drop (i + 1) steps) (sym is)))
    (record { extends = extends; covers = covers; text = text ∙ append_assoc (y ++ decimal k) (codes " ") (text_of c (step_parts step)) ∙ append_assoc y (decimal k) (codes " " ++ text_of c (step_parts step)) ∙ ap (λ (t : List ℕ). y ++ t) (sym (append_assoc (decimal k) (codes " ") (text_of c (step_parts step)))) }))

pub steps_written : (a b : List State) (x y : List ℕ) (k : ℕ) (all : List Part) (steps : List Step) (i : ℕ) → length steps ≤ i → WritesFront a b x y all (numbered k (drop i steps)) → Writes a b x y all
steps_written a b x y k all steps i past front = front_all a b x y all _ front (ap (numbered k) (drop_of_length-le steps past))

-- the end of a list was written
pub end_written : (a b : List State) (x y z : List ℕ) (ps : List Part) (op end : List ℕ) → Writes a b x y ps → z ≡ y ++ op ++ end ++ 10 ∷ [] → Writes a b x z (ps ++ line_said (op ++ end))
end_written a b x y z ps op end writes text =
    writes_then a b b x y z ps (line_said (op ++ end)) writes
    (subst (λ (t : List ℕ). Writes b b y t (line_said (op ++ end))) (sym (text ∙ append_assoc (y ++ op) end (10 ∷ []) ∙ append_assoc y op (end ++ 10 ∷ []) ∙ ap (λ (t : List ℕ). y ++ t) (sym (append_assoc op end (10 ∷ []))))) (writes_said b y ((op ++ end) ++ 10 ∷ [])))

-- one list more was written
pub list_written : (a b c : List State) (x y z : List ℕ) (k next : ℕ) (all : List Part) (lists : List OpList) (i : ℕ) (list : OpList) → i < length lists → list ≡ get_or lists i list
    → WritesFront a b x y all (lists_parts k (drop i lists)) → Writes b c y z (numbered k list.steps ++ line_said (list.op ++ end_text list.end)) → next ≡ k + length list.steps
    → WritesFront a c x z all (lists_parts next (drop (i + 1) lists))
list_written a b c x y z k next all lists i list within is front writes then =
    rw then (front_more a b c x y z all _ (numbered k list.steps ++ line_said (list.op ++ end_text list.end)) (lists_parts (k + length list.steps) (drop (i + 1) lists)) front
    (ap (lists_parts k) (drop_more lists i list within ∙ ap (λ (l : OpList). l ∷ drop (i + 1) lists) (sym is))) writes)

pub lists_written : (a b : List State) (x y : List ℕ) (k : ℕ) (all : List Part) (lists : List OpList) (i : ℕ) → length lists ≤ i → WritesFront a b x y all (lists_parts k (drop i lists)) → Writes a b x y all
lists_written a b x y k all lists i past front = front_all a b x y all _ front (ap (lists_parts k) (drop_of_length-le lists past))

-- what was written ends in `ok`
pub then_done : {T E : Type 0} (a b : List State) (x y z : List ℕ) (ps : List Part) (added : Result T E) → Writes a b x y ps → OnOk added (z ≡ y ++ codes "ok\n") → OnOk added (Writes a b x z (ps ++ done))
then_done a b x y z ps (Ok t) writes more = writes_then a b b x y z ps done writes (subst (λ (t : List ℕ). Writes b b y t done) (sym more) (writes_said b y (codes "ok\n")))
then_done a b x y z ps (Err e) writes more = tt
