-- Each answer is the verdict.
use Rattle.std.proofs.Common.{◌≡◌, ◌≤◌, ℕ, Bool, true, false, not, cond, List, [], ◌∷◌, Option, Some, None, Result, Ok, Err, refl, sym, ap, subst, ◌∙◌, arith}
use Rattle.std.specs.Prelude.{nat_lt, option_map}
use borrow.Author.Tests.{ltb-false}
use Rattle.b_ast.specs.declared.Bound.{Bound}
use Rattle.b_ast.specs.declared.machine.Def.{Def}
use Rattle.b_ast.specs.declared.machine.MachineText.{MachineText}
use Rattle.b_machine_grammar.specs.declared.trees.Clause.{Clause}
use Rattle.b_machine_grammar.specs.declared.trees.DefText.{DefText}
use Rattle.b_definitions.specs.Arranging.{HasCircle, HasNoCircle, IsInCircle}
use Rattle.b_definitions.specs.declared.arranging.Disorder.{Disorder}
use Rattle.b_definitions.specs.declared.arranging.Disorder.TheVariants as disorder
use Rattle.b_expand.specs.declared.faults.ParseKind.{ParseKind}
use Rattle.b_expand.specs.declared.faults.ParseKind.TheVariants.{NotASentence, TooDeep, RecursiveDefinition, TooWide}
use Rattle.b_expand.specs.declared.faults.ParseFault.{ParseFault}
use Rattle.b_expand.specs.declared.faults.ParseFault.TheVariants.{Refused, Memory}
use Rattle.b_summaries.specs.declared.summary.Size.{Size}
use Rattle.b_summaries.specs.Standing.{depth_or_none}
use Rattle.b_substitutions.specs.Limits.{IsShallow, IsSmall}
use Rattle.b_machine_defs.specs.Declaring.{all_unsorted}
use Rattle.b_machine_defs.specs.Tables.{IsTable, MakesTable}
use Rattle.b_clauses.specs.Clauses.{assembled, with_table}
use Rattle.b_machine_text.specs.Machines.{expanded_clauses, size_of_clauses}
use Rattle.b_machine_text.specs.Limits.{AreClausesWithin}
use Rattle.b_machine_text.specs.Verdicts.{past_limits, judged, tabled, verdict_by, are_usable, unless_fault, circle_or, circle_verdict, Gives, IsRefusal, IsToldOf, IsText, IsBuilt, GivesUnder}
use Rattle.b_machine_text.proofs.Fitting.{clauses_small}

-- a refusal of the verdict's kind
pub gives_refusal : (v : Result MachineText ParseKind) (k : ParseKind) (end : ℕ) (f : ParseFault) → IsRefusal k end f → v ≡ Err k → Gives v end (Err f)
gives_refusal v k end (Refused j at) h e = (e ∙ ap (λ (k : ParseKind). Err k) (sym h.0), h.1)
gives_refusal v k end Memory h e = absurd h

-- ---- clauses

module _ (name : Bound) (o : Option (List Clause)) where
  -- clauses that stand for nothing
  pub judged_none : (fault : Option ParseKind) → ◌≡◌ {A = Option Size} None (option_map size_of_clauses o) → judged name fault o ≡ Err NotASentence
  judged_none fault e = go o e
    where
      go : (o : Option (List Clause)) → ◌≡◌ {A = Option Size} None (option_map size_of_clauses o) → judged name fault o ≡ Err NotASentence
      go None e = refl
      go (Some cs) e = absurd (cc)

  -- with a fault of clauses
  pub judged_fault : (s : Size) (k : ParseKind) → Some s ≡ option_map size_of_clauses o → judged name (Some k) o ≡ Err k
  judged_fault s k e = go o e
    where
      go : (o : Option (List Clause)) → Some s ≡ option_map size_of_clauses o → judged name (Some k) o ≡ Err k
      go None e = absurd (cc)
      go (Some cs) e = refl

  -- past the limits
  pub judged_past : (s : Size) (k : ParseKind) → option_map size_of_clauses o ≡ Some s → Some k ≡ past_limits s → judged name None o ≡ Err k
  judged_past s k e h = go o e
    where
      go : (o : Option (List Clause)) → option_map size_of_clauses o ≡ Some s → judged name None o ≡ Err k
      go None e = absurd (cc)
      go (Some cs) e =
          let same : size_of_clauses cs ≡ s = cc in
          ap (λ (f : Option ParseKind). unless_fault f (Ok (assembled name cs))) (ap past_limits same ∙ sym h)

  -- within the limits
  pub judged_built : (s : Size) → option_map size_of_clauses o ≡ Some s → None ≡ past_limits s → (end : ℕ) (r : Result MachineText ParseFault) → IsBuilt name o r → Gives (judged name None o) end r
  judged_built s e h end (Err (Refused k at)) b = absurd b
  judged_built s e h end (Err Memory) b = tt
  judged_built s e h end (Ok m) b = go o e b
    where
      go : (o : Option (List Clause)) → option_map size_of_clauses o ≡ Some s → option_map (assembled name) o ≡ Some m → judged name None o ≡ Ok m
      go None e b = absurd (cc)
      go (Some cs) e b =
          let same : size_of_clauses cs ≡ s = cc in
          let whole : assembled name cs ≡ m = cc in
          ap (λ (f : Option ParseKind). unless_fault f (Ok (assembled name cs))) (ap past_limits same ∙ sym h) ∙ ap (λ (m : MachineText). Ok m) whole

  -- put together
  pub built_text : (cs : List Clause) → o ≡ Some cs → (r : Result MachineText ParseFault) → IsText (assembled name cs) r → IsBuilt name o r
  built_text cs e (Ok m) h = ap (option_map (assembled name)) e ∙ ap (λ (m : MachineText). Some m) (sym h)
  built_text cs e (Err (Refused k at)) h = absurd h
  built_text cs e (Err Memory) h = tt

-- ---- the limits

shallow_or_none : (o : Option ℕ) → depth_or_none o ≤ 100 → IsShallow o
shallow_or_none None h = tt
shallow_or_none (Some d) h = h

-- what isn't past the limits is small
pub small_of : (s : Size) → None ≡ past_limits s → IsSmall s
small_of s h = go (nat_lt 100 (depth_or_none s.depth)) refl (nat_lt 1000000 s.nodes) refl h
  where
    go : (b : Bool) → nat_lt 100 (depth_or_none s.depth) ≡ b → (d : Bool) → nat_lt 1000000 s.nodes ≡ d → None ≡ cond b (Some TooDeep) (cond d (Some TooWide) None) → IsSmall s
    go true e d f h = absurd (cc)
    go false e true f h = absurd (cc)
    go false e false f h = (ltb-false 1000000 s.nodes f, shallow_or_none s.depth (ltb-false 100 (depth_or_none s.depth) e))

-- clauses of a size that isn't past the limits are within them
pub fitting : (table : List Def) (cs : List Clause) (s : Size) → option_map size_of_clauses (expanded_clauses table cs) ≡ Some s → None ≡ past_limits s → AreClausesWithin table cs
fitting table cs s e h = go (expanded_clauses table cs) refl e
  where
    go : (o : Option (List Clause)) → expanded_clauses table cs ≡ o → option_map size_of_clauses o ≡ Some s → AreClausesWithin table cs
    go None i e = absurd (cc)
    go (Some ds) i e =
        let same : size_of_clauses ds ≡ s = cc in
        clauses_small table cs ds i (subst IsSmall (sym same) (small_of s h))

-- ---- under a table

pub unusable_verdict : (table : List Def) (name : Bound) (fault : Option ParseKind) (cs : List Clause) → are_usable table ≡ false → verdict_by table name fault cs ≡ Err NotASentence
unusable_verdict table name fault cs e = ap (λ (b : Bool). cond b (judged name fault (expanded_clauses table cs)) (Err NotASentence)) e

pub usable_verdict : (table : List Def) (name : Bound) (fault : Option ParseKind) (cs : List Clause) → are_usable table ≡ true → judged name fault (expanded_clauses table cs) ≡ verdict_by table name fault cs
usable_verdict table name fault cs e = sym (ap (λ (b : Bool). cond b (judged name fault (expanded_clauses table cs)) (Err NotASentence)) e)

pub unusable : (b : Bool) → true ≡ not b → b ≡ false
unusable true e = absurd (cc)
unusable false e = refl

pub usable : (b : Bool) → false ≡ not b → b ≡ true
usable true e = refl
usable false e = absurd (cc)

-- an answer along an equation of verdicts
pub gives_along : (v w : Result MachineText ParseKind) → v ≡ w → (end : ℕ) (r : Result MachineText ParseFault) → Gives v end r → Gives w end r
gives_along v w e end r h = subst (λ (v : Result MachineText ParseKind). Gives v end r) e h

-- a text gets its table
pub gives_tabled : (table : List Def) (v : Result MachineText ParseKind) (end : ℕ) (m n : MachineText) → Gives v end (Ok m) → n ≡ with_table table m → Gives (tabled table v) end (Ok n)
gives_tabled table v end m n h e = ap (tabled table) h ∙ ap (λ (m : MachineText). Ok m) (sym e)

pub gives_untabled : (table : List Def) (v : Result MachineText ParseKind) (end : ℕ) (f : ParseFault) → Gives v end (Err f) → Gives (tabled table v) end (Err f)
gives_untabled table v end (Refused k at) h = (ap (tabled table) h.0, h.1)
gives_untabled table v end Memory h = tt

-- ---- under the machine's definitions

pub gives_under : (texts : List DefText) (table : List Def) → IsTable texts table → (name : Bound) (fault : Option ParseKind) (cs : List Clause) (end : ℕ) (r : Result MachineText ParseFault) → Gives (tabled table (verdict_by table name fault cs)) end r
    → GivesUnder texts name fault cs end r
gives_under texts table i name fault cs end (Ok m) g = (table, i, g)
gives_under texts table i name fault cs end (Err (Refused k at)) g = (table, i, g)
gives_under texts table i name fault cs end (Err Memory) g = tt

-- ---- with a circle

pub circle_told : (fault : Option ParseKind) → circle_verdict fault ≡ Err (circle_or fault)
circle_told None = refl
circle_told (Some k) = refl

pub no_circle : (ds : List Def) (at : ℕ) → IsInCircle ds at → HasNoCircle ds → ⊥
no_circle ds at h n = n (at ∷ h.0, h.1)

-- without a table
pub told_text : (texts : List DefText) (d : Disorder) → MakesTable texts (Err d) → (name : Bound) (fault : Option ParseKind) (cs : List Clause) (end : ℕ) (f : ParseFault) → IsToldOf d fault end f → HasNoCircle (all_unsorted texts) → GivesUnder texts name fault cs end (Err f)
told_text texts (disorder.Circle at) i name fault cs end f t n = absurd (no_circle (all_unsorted texts) at i n)
told_text texts disorder.Memory i name fault cs end f t n = subst (λ (f : ParseFault). GivesUnder texts name fault cs end (Err f)) (sym t) tt

pub told_circle : (d : Disorder) (fault : Option ParseKind) (end : ℕ) (f : ParseFault) → IsToldOf d fault end f → Gives (circle_verdict fault) end (Err f)
told_circle (disorder.Circle at) fault end f t = gives_refusal (circle_verdict fault) (circle_or fault) end f t (circle_told fault)
told_circle disorder.Memory fault end f t = subst (λ (f : ParseFault). Gives (circle_verdict fault) end (Err f)) (sym t) tt

-- ---- the same definitions and clauses

pub text_along : (ts us : List DefText) → ts ≡ us → (cs ds : List Clause) → cs ≡ ds → (name : Bound) (fault : Option ParseKind) (end : ℕ) (r : Result MachineText ParseFault)
    → (HasNoCircle (all_unsorted ts) → GivesUnder ts name fault cs end r) → HasNoCircle (all_unsorted us) → GivesUnder us name fault ds end r
text_along ts us e cs ds d name fault end r h n =
    subst (λ (cs : List Clause). GivesUnder us name fault cs end r) d (subst (λ (ts : List DefText). HasNoCircle (all_unsorted ts) → GivesUnder ts name fault cs end r) e h n)

pub circle_along : (ts us : List DefText) → ts ≡ us → (fault : Option ParseKind) (end : ℕ) (r : Result MachineText ParseFault)
    → (HasCircle (all_unsorted ts) → Gives (circle_verdict fault) end r) → HasCircle (all_unsorted us) → Gives (circle_verdict fault) end r
circle_along ts us e fault end r h = subst (λ (ts : List DefText). HasCircle (all_unsorted ts) → Gives (circle_verdict fault) end r) e h
