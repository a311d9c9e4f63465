-- From demands to the answer.
use Rattle.std.proofs.Common.{◌≡◌, ◌≤◌, ◌<◌, ◌+◌, ℕ, Bool, true, false, List, [], ◌∷◌, ◌++◌, length, map, arith, refl, sym, ap, ◌∙◌, subst, Option, Some, None, suc}
use Rattle.std.specs.Prelude.{Result, Ok, Err, IfOk}
use Rattle.std.specs.declared.alloc.AllocError.{AllocError}
use Rattle.b_values.specs.declared.types.NameFace.{NameFace}
use Rattle.b_ast.specs.declared.Formula.{Formula}
use Rattle.type_table.specs.declared.rows.Row.{Row}
use Rattle.type_table.specs.Types.{type_nodes}
use Rattle.type_table.specs.Tables.{Typing, IsTable}
use Rattle.type_count.specs.Typings.{IsTyping, Agrees}
use Rattle.type_schemes.specs.declared.forms.Form.{Form}
use Rattle.type_schemes.specs.Growing.{Extends, IsOpenTable}
use Rattle.type_choices.specs.declared.choosing.Typed.{Typed}
use Rattle.type_choices.specs.declared.choosing.Typed.TheVariants as typed
use Rattle.type_choices.specs.Forms.{KeepsAll, Stands, AreForms}
use Rattle.type_choices.specs.Choosing.{IsTyped}
use Rattle.type_choices.proofs.Walks.{all_agreed}
use Rattle.type_choices.proofs.Choices.{Comes, typed_comes}
use Rattle.type_demands.specs.declared.demands.Demand.{Demand}
use Rattle.type_demands.specs.declared.demands.Demand.TheVariants.{Keep, Unknown, Twice}
use Rattle.type_demands.specs.declared.scopes.Frame.{Frame}
use Rattle.type_demands.specs.Scopes.{nothing_known, bind, meaning_in, scope_of}
use Rattle.type_demands.specs.Demands.{said}
use Rattle.type_demands.proofs.Frames.{framed}
use Rattle.type_formulas.specs.declared.typing.Answer.{Answer}
use Rattle.type_formulas.specs.declared.typing.Answer.TheVariants as answer
use Rattle.type_formulas.specs.Typings.{MeetsAll, AreKnown, known_names, scope_known, demands_in, parts_in, Meeting, Keeping, forms_in, any_unknown, any_twice, IsNamed, Answers, IsAnswer, CanBeRead, whole_in, answered}
use Rattle.type_formulas.proofs.Ranges.{Bounded, Within, said_within, names_known}

-- ---- an open table in which names are known

pub open_is_table : (parts : ℕ) (rows : List Row) → IsOpenTable parts rows → IsTable rows
open_is_table parts rows o = o.table

pub open_inside : (parts : ℕ) (opened rows : List Row) (Q : Typing → Type 0) → IsOpenTable parts opened → Extends opened rows Q → parts ≤ length rows
open_inside parts opened rows Q o e = let c = o.count in let l = e.longer in omega arith

module _ (limit parts : ℕ) (opened : List Row) (known : List NameFace) (forms : List Form) (o : IsOpenTable parts opened) (inside : AreForms parts forms) where
  agreed : (s t : Typing) → Agrees (length opened) s t → Agrees parts s t
  agreed s t a i h = a i (let c = o.count in omega arith)

  known_comes : (rows : List Row) → Extends opened rows (AreKnown known) → Comes parts (Keeping limit known forms parts) (Stands limit rows forms)
  known_comes rows e = record {
    forth = λ s k.
        let t = e.forth limit s (o.any limit s k.small) k.names in
        (t.0, record { typing = t.1; keeps = all_agreed parts s t.0 forms (agreed s t.0 t.2) inside k.keeps }, agreed s t.0 t.2);
    back = λ s h.
        let b = e.back limit s h.typing in
        record { names = b.1; keeps = h.keeps; small = λ i k. b.0.small i (let c = o.count in omega arith) };
  }

  pub solved : (rows : List Row) → Extends opened rows (AreKnown known) → (v : Typed) → IsTyped limit parts (Stands limit rows forms) v → IsTyped limit parts (Keeping limit known forms parts) v
  solved rows e v h = typed_comes limit parts (Keeping limit known forms parts) (Stands limit rows forms) (known_comes rows e) v h

  pub solved_none : ((limit : ℕ) (s : Typing) → IsTyping limit opened s → AreKnown known s → ⊥) → IsTyped limit parts (Keeping limit known forms parts) typed.Nothing
  solved_none without s k = without limit s (o.any limit s k.small) k.names

pub solved_all : (limit parts : ℕ) (opened : List Row) (known : List NameFace) (forms : List Form) → IsOpenTable parts opened → AreForms parts forms → (rows : List Row) → Extends opened rows (AreKnown known)
    → (r : Result Typed AllocError) → IfOk r (IsTyped limit parts (Stands limit rows forms)) → IfOk r (IsTyped limit parts (Keeping limit known forms parts))
solved_all limit parts opened known forms o inside rows e (Ok v) h = solved limit parts opened known forms o inside rows e v h
solved_all limit parts opened known forms o inside rows e (Err x) h = tt

-- ---- where all names are known and differ, the demands are the forms

to_keeping : (s : Typing) (ds : List Demand) → MeetsAll s ds → KeepsAll s (forms_in ds)
to_keeping s [] h = tt
to_keeping s (Keep f ∷ ds) h = (h.0, to_keeping s ds h.1)
to_keeping s (Unknown ∷ ds) h = absurd h.0
to_keeping s (Twice ∷ ds) h = absurd h.0

from_keeping : (s : Typing) (ds : List Demand) → IsNamed ds → KeepsAll s (forms_in ds) → MeetsAll s ds
from_keeping s [] n h = tt
from_keeping s (Keep f ∷ ds) n h = (h.0, from_keeping s ds n h.1)
from_keeping s (Unknown ∷ ds) n h = let e = n.0 in absurd cc
from_keeping s (Twice ∷ ds) n h = let e = n.1 in absurd cc

module _ (limit : ℕ) (known : List NameFace) (ds : List Demand) (parts : ℕ) (n : IsNamed ds) where
  meeting_comes : Comes parts (Meeting limit known ds parts) (Keeping limit known (forms_in ds) parts)
  meeting_comes = record {
    forth = λ s h. (s, record { names = h.names; keeps = to_keeping s ds h.forms; small = h.small }, λ i k. refl);
    back = λ s h. record { names = h.names; forms = from_keeping s ds n h.keeps; small = h.small };
  }

  said_so : (whole : ℕ) (v : Typed) → IsTyped limit parts (Meeting limit known ds parts) v → Answers limit known ds parts whole (answered whole v)
  said_so whole typed.Nothing h = (n, h)
  said_so whole (typed.One rows) h = (n, h, refl)
  said_so whole typed.Many h = (n, h)

  pub answered_is : (whole : ℕ) (v : Typed) → IsTyped limit parts (Keeping limit known (forms_in ds) parts) v → Answers limit known ds parts whole (answered whole v)
  answered_is whole v h = said_so whole v (typed_comes limit parts (Meeting limit known ds parts) (Keeping limit known (forms_in ds) parts) meeting_comes v h)

-- ---- the known names and the formula

length_names : (known : List NameFace) → length (known_names known) ≡ length known
length_names [] = refl
length_names (k ∷ ks) = ap suc (length_names ks)

pub parts_known : (known : List NameFace) (tree : Formula) → length known ≤ parts_in known tree
parts_known known tree = omega arith

pub demands_within : (known : List NameFace) (tree : Formula) → AreForms (parts_in known tree) (forms_in (demands_in known tree))
demands_within known tree =
    let l = length_names known in
    (said_within tree).within (parts_in known tree) (scope_known known) (length known)
    (names_known (parts_in known tree) (known_names known) 0 nothing_known (record { bounded = λ x m e. absurd cc }) (omega arith)) (omega arith)

pub outer_is : (known : List NameFace) (f : Frame) → ((x : List ℕ) → meaning_in f.meanings x ≡ scope_known known x) → scope_of (f ∷ []) ≡ scope_known known
outer_is known f e = framed [] f (known_names known) 0 e

can_be_read : (limit : ℕ) (known : List NameFace) (tree : Formula) (a : Answer) → IsAnswer limit known tree a → CanBeRead a
can_be_read limit known tree answer.UnknownName h = tt
can_be_read limit known tree answer.EqualNames h = tt
can_be_read limit known tree answer.NoTyping h = tt
can_be_read limit known tree answer.ManyTypings h = tt
can_be_read limit known tree (answer.Typed rows whole) h =
    let w = (said_within tree).whole (length known) in
    let i = h.1.inside in
    let e = h.2 in
    (h.1.table, omega arith)

pub readable : (limit : ℕ) (known : List NameFace) (tree : Formula) (r : Result Answer AllocError) → IfOk r (IsAnswer limit known tree) → IfOk r CanBeRead
readable limit known tree (Ok a) h = can_be_read limit known tree a h
readable limit known tree (Err e) h = tt
