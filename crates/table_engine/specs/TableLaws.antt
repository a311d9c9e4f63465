-- What every table keeps: its face, its states and their one spelling, and that what is listed makes answers.
use Rattle.std.specs.Prelude.{codes}
use Rattle.std.specs.List.{AllByRecursion}
use Rattle.std.specs.Option.{option_map_or}
use Rattle.std.proofs.Common.{◌≡◌, ◌∙◌, ◌<◌, ◌^◌, sym, ap, subst, refl, ℕ, zero, suc, Bool, true, false, pos, List, [], ◌∷◌, map, Option, Some, None, Ok, slice_get, arith, nat_lt, nat_eq, get_or, length, IsSome, lit<, lit≤, if◌then◌else◌}
use Rattle.std.proofs.lemmas.Bool.Decides.{nat_tests}
use Rattle.std.specs.Cmp.Lexicographic.{same_text, pointwise}
use Rattle.b_values.specs.Preferences.{AreInRange}
use Rattle.b_values.specs.SizeLaws.{count-Int, count-Truth}
use Rattle.b_values.specs.TypeLaws.{typed-Int, typed-Truth}
use Rattle.b_values.specs.ValueLaws.{is_int, is_truth}
use Rattle.b_values.specs.declared.types.OpId.{OpId}
use Rattle.b_values.specs.declared.types.OpId.TheVariants as op
use Rattle.b_values.specs.declared.types.Prefs.{Prefs}
use Rattle.b_values.specs.declared.types.Ty.TheVariants as ty
use Rattle.b_values.specs.declared.values.State.{State}
use Rattle.b_values.specs.declared.values.Value.TheVariants.{Int, Truth, outs-Int}
use Rattle.engine_face.specs.Answers.{IsStepList, IsValueAnswer, IsFound, IsConfirmed, HoldsResult, FindsStep, ConfirmsStep}
use Rattle.engine_face.specs.Meaning.{KeysHaveTexts, IsAccepted}
use Rattle.engine_face.specs.WordLaws.{words-Int, words-Truth}
use Rattle.engine_face.specs.Packing.{IsOneSpelling, IsPacked, state_of, state_or_root}
use Rattle.engine_face.specs.Typing.{IsFace, IsStateOf, IsOfType, IsOpOf, IsStepOf, IsListOf, AreOfTypes, values_in, AreNames, AreDistinct, params_of, results_of}
use Rattle.engine_face.specs.declared.answers.StepList.{StepList}
use Rattle.engine_face.specs.declared.answers.ValueAnswer.{ValueAnswer}
use Rattle.engine_face.specs.declared.answers.Found.{Found}
use Rattle.engine_face.specs.declared.answers.Confirmed.{Confirmed}
use Rattle.engine_face.specs.declared.keys.Scope.{Scope}
use Rattle.engine_face.specs.declared.answers.Found.TheVariants as found
use Rattle.engine_face.specs.declared.answers.Confirmed.TheVariants as confirmed
use Rattle.engine_face.specs.declared.keys.FormulaKey.{FormulaKey}
use Rattle.engine_face.specs.declared.keys.SavedStep.{SavedStep}
use Rattle.table_engine.specs.Faces.{table_face}
use Rattle.table_engine.specs.Tables.{numbered_state, number_of, number_of_layer, byte_of, table_unpack, op_of, same_op, packed_step, packed_list, packed_found, found_in, confirmed_in, formula_row, key_or_refusal, key_of, answer_of, listed_answer, lists_of, found_of, confirmed_of, meaning_of}
use Rattle.table_engine.specs.declared.listing.FormulaRow.{FormulaRow}
use Rattle.table_engine.specs.declared.listing.Row.{Row}
use Rattle.table_engine.specs.declared.listing.TableState.{TableState}
use Rattle.table_engine.specs.declared.listing.TableState.TheVariants as state
use Rattle.table_engine.specs.declared.listing.TableOp.{TableOp}
use Rattle.table_engine.specs.declared.listing.TableOp.TheVariants as table
use Rattle.table_engine.specs.declared.listing.TableList.{TableList}
use Rattle.table_engine.specs.declared.listing.Listed.{Listed}
use Rattle.table_engine.specs.declared.listing.Listed.TheVariants as listed
use Rattle.table_engine.specs.declared.listing.Finding.{Finding}
use Rattle.table_engine.specs.declared.listing.Confirming.{Confirming}
use Rattle.table_engine.specs.declared.listing.Answered.{Answered}
use Rattle.table_engine.specs.declared.listing.Answered.TheVariants as answered

pub number_of_numbered : (n : ℕ) → number_of (numbered_state n) ≡ n
number_of_numbered zero = refl
number_of_numbered (suc n) = ap number_of_layer (outs-Int (pos (suc n)))

number_by : (n : ℕ) (b : Bool) → IsSome (if b then Some (numbered_state n) else None) → n ≡ number_of (state_or_root (if b then Some (numbered_state n) else None))
number_by n true h = sym (number_of_numbered n)
number_by n false h = absurd (cc)

-- a state of a table is packed to bytes that stand for it
pub packs : (s : TableState) → table_unpack (byte_of s ∷ []) ≡ Some (numbered_state (byte_of s))
packs state.Root = refl
packs state.A = refl
packs state.B = refl
packs state.C = refl
packs state.D = refl

-- the byte of a packed state is its number
pub number_at : (bs : List ℕ) → IsPacked table_unpack bs → get_or bs 0 0 ≡ number_of (state_of table_unpack bs)
number_at [] h = absurd (cc)
number_at (n ∷ []) h = number_by n (nat_lt n 5) h
number_at (n ∷ m ∷ ns) h = absurd (cc)

pub packed_some : (bs : List ℕ) → IsPacked table_unpack bs → 0 < length bs
packed_some [] h = absurd (cc)
packed_some (n ∷ bs) h = omega arith

some_of : (b : Bool) (s t : State) → (if b then Some s else None) ≡ Some t → s ≡ t
some_of true s t e = cc
some_of false s t e = cc

table_reads : (p : List ℕ) (s : State) → table_unpack p ≡ Some s → p ≡ number_of s ∷ []
table_reads [] s e = cc
table_reads (n ∷ []) s e = ap (λ m. m ∷ []) (sym (number_of_numbered n) ∙ ap number_of (some_of (nat_lt n 5) (numbered_state n) s e))
table_reads (n ∷ m ∷ ns) s e = cc

pub table_spells_once : IsOneSpelling table_unpack
table_spells_once p q s e f = table_reads p s e ∙ sym (table_reads q s f)

lt_five : (n : ℕ) → nat_lt n 5 ≡ true → n < 5
lt_five n e = grind (arith, nat_tests)

below_one : (n : ℕ) → nat_lt n 5 ≡ true → n < 2 ^ 127
below_one n e = let small = lt_five n e in omega (arith, small)

number_fits : (n : ℕ) → n < 2 ^ 127 → IsOfType [] ty.Int (Int (pos n))
number_fits n h = record { typed = typed-Int [] (pos n); kept = record { value = is_int (pos n); size = rw (count-Int (pos n)) (lit≤ tt) }; words = words-Int (pos n) h }

running_fits : (prefs : Prefs) (n : ℕ) → n < 2 ^ 127 → IsStateOf (table_face prefs) (numbered_state n)
running_fits prefs zero h = tt
running_fits prefs (suc n) h = (tt, (number_fits (suc n) h, tt))

fits_by : (prefs : Prefs) (n : ℕ) (b : Bool) (s : State) → nat_lt n 5 ≡ b → (if b then Some (numbered_state n) else None) ≡ Some s → IsStateOf (table_face prefs) s
fits_by prefs n true s is e = subst (IsStateOf (table_face prefs)) (some_of true _ s e) (running_fits prefs n (below_one n is))
fits_by prefs n false s is e = cc

pub table_states_fit : (prefs : Prefs) (p : List ℕ) (s : State) → table_unpack p ≡ Some s → IsStateOf (table_face prefs) s
table_states_fit prefs [] s e = cc
table_states_fit prefs (n ∷ []) s e = fits_by prefs n (nat_lt n 5) s refl e
table_states_fit prefs (n ∷ m ∷ ns) s e = cc

texts_by : (b : Bool) (row : FormulaRow) (rows : List FormulaRow) (text : List ℕ) (key : FormulaKey) → pointwise nat_eq row.text text ≡ b
    → (key_or_refusal (formula_row rows text) ≡ Ok key → key.text ≡ text) → key_or_refusal (if b then Some row else formula_row rows text) ≡ Ok key → key.text ≡ text
texts_by true row rows text key is on e = let same : key_of row ≡ key = cc in ap (λ (k : FormulaKey). k.text) (sym same) ∙ same_text row.text text (sym is)
texts_by false row rows text key is on e = on e

texts_in : (rows : List FormulaRow) (text : List ℕ) (key : FormulaKey) → key_or_refusal (formula_row rows text) ≡ Ok key → key.text ≡ text
texts_in [] text key e = cc
texts_in (row ∷ rows) text key e = texts_by (pointwise nat_eq row.text text) row rows text key refl (texts_in rows text key) e

pub table_keys_have_texts : (prefs : Prefs) (rows : List Row) (formulas : List FormulaRow) → KeysHaveTexts (meaning_of prefs rows formulas)
table_keys_have_texts prefs rows formulas scope text key e = texts_in formulas text key e

-- ---- the face

names_differ : AreDistinct (codes "n" ∷ codes "up" ∷ codes "down" ∷ [])
names_differ zero zero name a b = refl
names_differ zero (suc zero) name a b = cc
names_differ zero (suc (suc zero)) name a b = cc
names_differ zero (suc (suc (suc j))) name a b = cc
names_differ (suc zero) zero name a b = cc
names_differ (suc zero) (suc zero) name a b = refl
names_differ (suc zero) (suc (suc zero)) name a b = cc
names_differ (suc zero) (suc (suc (suc j))) name a b = cc
names_differ (suc (suc zero)) zero name a b = cc
names_differ (suc (suc zero)) (suc zero) name a b = cc
names_differ (suc (suc zero)) (suc (suc zero)) name a b = refl
names_differ (suc (suc zero)) (suc (suc (suc j))) name a b = cc
names_differ (suc (suc (suc i))) j name a b = cc

the_names : AreNames (codes "n" ∷ codes "up" ∷ codes "down" ∷ [])
the_names = record { spelled = (refl, (refl, (refl, tt))); distinct = names_differ }

pub table_face_fits : (prefs : Prefs) → AreInRange prefs → IsFace (table_face prefs)
table_face_fits prefs h = record { prefs = h; declared = the_names; ops = (the_names, (the_names, tt)); elements = tt }

-- ---- answers

op_fits : (prefs : Prefs) (op : TableOp) → IsOpOf (table_face prefs) (op_of op)
op_fits prefs table.Setup = tt
op_fits prefs table.Init = tt
op_fits prefs table.Up = lit< tt
op_fits prefs table.Down = lit< tt

params_fit : (prefs : Prefs) (op : OpId) → AreOfTypes [] (params_of (table_face prefs) op) []
params_fit prefs op.Setup = tt
params_fit prefs op.Init = tt
params_fit prefs (op.Op zero) = tt
params_fit prefs (op.Op (suc zero)) = tt
params_fit prefs (op.Op (suc (suc n))) = tt

results_fit : (prefs : Prefs) (op : OpId) → AreOfTypes [] (results_of (table_face prefs) op) []
results_fit prefs op.Setup = tt
results_fit prefs op.Init = tt
results_fit prefs (op.Op zero) = tt
results_fit prefs (op.Op (suc zero)) = tt
results_fit prefs (op.Op (suc (suc n))) = tt

state_packed : (s : TableState) → IsPacked table_unpack (byte_of s ∷ [])
state_packed state.Root = refl
state_packed state.A = refl
state_packed state.B = refl
state_packed state.C = refl
state_packed state.D = refl

step_fits : (prefs : Prefs) (op : OpId) (s : TableState) → IsStepOf (table_face prefs) table_unpack op (packed_step op s)
step_fits prefs op s = record { op = refl; params = params_fit prefs op; results = results_fit prefs op; dest = state_packed s }

steps_fit : (prefs : Prefs) (op : OpId) (to : List TableState) → AllByRecursion (IsStepOf (table_face prefs) table_unpack op) (map (packed_step op) to)
steps_fit prefs op [] = tt
steps_fit prefs op (s ∷ to) = (step_fits prefs op s, steps_fit prefs op to)

-- a number that is listed has 64 bits
abbrev pub SmallNumber : Option Answered → Type 0
SmallNumber (Some (answered.Number n)) = n < 2 ^ 64
SmallNumber answer = Unit {0}

truth_fits : (b : Bool) → IsOfType [] ty.Truth (Truth b)
truth_fits b = record { typed = typed-Truth [] b; kept = record { value = is_truth b; size = rw (count-Truth b) (lit≤ tt) }; words = words-Truth b }

pub lists_fit : (prefs : Prefs) (lists : List TableList) → AllByRecursion (IsListOf (table_face prefs) table_unpack) (map packed_list lists)
lists_fit prefs [] = tt
lists_fit prefs (list ∷ lists) = (record { op = op_fits prefs list.op; steps = steps_fit prefs (op_of list.op) list.to }, lists_fit prefs lists)

lists_by : (prefs : Prefs) (row : Option Row) → AllByRecursion (IsListOf (table_face prefs) table_unpack) (option_map_or (λ row. map packed_list row.lists) row [])
lists_by prefs None = tt
lists_by prefs (Some row) = lists_fit prefs row.lists

module _ (prefs : Prefs) (rows : List Row) (formulas : List FormulaRow) (at : List ℕ) where
  abbrev here : ℕ
  here = number_of (state_of table_unpack at)

  pub lists_answer : IsStepList (meaning_of prefs rows formulas) table_unpack at (lists_of rows (number_of (state_of table_unpack at)))
  lists_answer = record { means = refl; lists = lists_by prefs (slice_get rows here) }

  number_holds : (predicate : Bool) (answer : Option Answered) → SmallNumber answer → HoldsResult (table_face prefs) predicate (answer_of predicate answer)
  number_holds predicate None h = tt
  number_holds predicate (Some answered.NotInitialised) h = tt
  number_holds predicate (Some (answered.Fault fault)) h = tt
  number_holds true (Some (answered.Truth b)) h = truth_fits b
  number_holds false (Some (answered.Truth b)) h = (ty.Truth, truth_fits b)
  number_holds true (Some (answered.Number n)) h = tt
  number_holds false (Some (answered.Number n)) h = (ty.Int, number_fits n (omega (arith, h)))

  pub value_answer : (key : FormulaKey) → SmallNumber (listed_answer (formula_row formulas key.text) here)
      → IsValueAnswer (meaning_of prefs rows formulas) table_unpack at key (answer_of key.predicate (listed_answer (formula_row formulas key.text) (number_of (state_of table_unpack at))))
  value_answer key h = record { means = refl; typed = number_holds key.predicate _ h }

  found_by : (op : OpId) (fs : List Finding) → FindsStep (table_face prefs) table_unpack op (found_in op fs)
  found_by op [] = tt
  found_by op (f ∷ fs) = found_if (same_op f.op op) f.listed (found_by op fs)
    where
      found_if : (b : Bool) (listed : Listed) → FindsStep (table_face prefs) table_unpack op (found_in op fs) → FindsStep (table_face prefs) table_unpack op (if b then packed_found op listed else found_in op fs)
      found_if true (listed.To s) on = step_fits prefs op s
      found_if true listed.Nothing on = tt
      found_if true (listed.Fault fault) on = tt
      found_if false listed on = on

  found_at : (op : OpId) (row : Option Row) → FindsStep (table_face prefs) table_unpack op (option_map_or (λ row. found_in op row.finds) row found.Nothing)
  found_at op None = tt
  found_at op (Some row) = found_by op row.finds

  pub found_answer : (op : OpId) (preds : List FormulaKey) → IsFound (meaning_of prefs rows formulas) table_unpack at op preds (found_of rows op (number_of (state_of table_unpack at)))
  found_answer op preds = record { means = refl; step = found_at op (slice_get rows here) }

  confirmed_by : (name : List ℕ) (cs : List Confirming) → ConfirmsStep (table_face prefs) table_unpack (confirmed_in name cs)
  confirmed_by name [] = tt
  confirmed_by name (c ∷ cs) = confirmed_if (pointwise nat_eq c.name name) (confirmed_by name cs)
    where
      confirmed_if : (b : Bool) → ConfirmsStep (table_face prefs) table_unpack (confirmed_in name cs)
          → ConfirmsStep (table_face prefs) table_unpack (if b then confirmed.Step (packed_step (op_of c.op) c.to) else confirmed_in name cs)
      confirmed_if true on = (op_fits prefs c.op, step_fits prefs (op_of c.op) c.to)
      confirmed_if false on = on

  confirmed_at : (name : List ℕ) (row : Option Row) → ConfirmsStep (table_face prefs) table_unpack (option_map_or (λ row. confirmed_in name row.confirms) row confirmed.NotAStep)
  confirmed_at name None = tt
  confirmed_at name (Some row) = confirmed_by name row.confirms

  pub confirmed_answer : (saved : SavedStep) → IsConfirmed (meaning_of prefs rows formulas) table_unpack at saved (confirmed_of rows saved.name (number_of (state_of table_unpack at)))
  confirmed_answer saved = record { means = refl; step = confirmed_at saved.name (slice_get rows here) }

  -- ---- the answers of the code

  pub lists_made : (list : StepList (List ℕ)) (n : ℕ) → n ≡ number_of (state_of table_unpack at) → list ≡ lists_of rows n → IsStepList (meaning_of prefs rows formulas) table_unpack at list
  lists_made list n is e = subst (IsStepList (meaning_of prefs rows formulas) table_unpack at) (ap (lists_of rows) (sym is) ∙ sym e) lists_answer

  pub value_made : (key : FormulaKey) (answer : ValueAnswer) (n : ℕ) → n ≡ number_of (state_of table_unpack at) → answer ≡ answer_of key.predicate (listed_answer (formula_row formulas key.text) n)
      → SmallNumber (listed_answer (formula_row formulas key.text) n) → IsValueAnswer (meaning_of prefs rows formulas) table_unpack at key answer
  value_made key answer n is e h =
      let small = subst (λ (k : ℕ). SmallNumber (listed_answer (formula_row formulas key.text) k)) is h in
      subst (IsValueAnswer (meaning_of prefs rows formulas) table_unpack at key) (ap (λ (k : ℕ). answer_of key.predicate (listed_answer (formula_row formulas key.text) k)) (sym is) ∙ sym e) (value_answer key small)

  pub found_made : (op : OpId) (preds : List FormulaKey) (answer : Found (List ℕ)) (n : ℕ) → n ≡ number_of (state_of table_unpack at) → answer ≡ found_of rows op n
      → IsFound (meaning_of prefs rows formulas) table_unpack at op preds answer
  found_made op preds answer n is e = subst (IsFound (meaning_of prefs rows formulas) table_unpack at op preds) (ap (found_of rows op) (sym is) ∙ sym e) (found_answer op preds)

  pub confirmed_made : (saved : SavedStep) (answer : Confirmed (List ℕ)) (n : ℕ) → n ≡ number_of (state_of table_unpack at) → answer ≡ confirmed_of rows saved.name n
      → IsConfirmed (meaning_of prefs rows formulas) table_unpack at saved answer
  confirmed_made saved answer n is e = subst (IsConfirmed (meaning_of prefs rows formulas) table_unpack at saved) (ap (confirmed_of rows saved.name) (sym is) ∙ sym e) (confirmed_answer saved)

-- what was read is accepted
pub read_made : (prefs : Prefs) (rows : List Row) (formulas : List FormulaRow) (scope : Scope) (text : List ℕ) (row : FormulaRow) (key : FormulaKey) → formula_row formulas text ≡ Some row → key ≡ key_of row
    → (key_or_refusal (formula_row formulas text) ≡ Ok key) × IsAccepted (meaning_of prefs rows formulas) scope key
read_made prefs rows formulas scope text row key found is =
    let read : key_or_refusal (formula_row formulas text) ≡ Ok key = ap key_or_refusal found ∙ ap (λ (k : FormulaKey). Ok k) (sym is) in
    (read, ap (λ (t : List ℕ). key_or_refusal (formula_row formulas t)) (texts_in formulas text key read) ∙ read)

values_by : (n : ℕ) → values_in (numbered_state n) ≡ (if nat_lt 0 n then Int (pos n) ∷ [] else [])
values_by zero = refl
values_by (suc n) = rw (zero_below n) refl
  where
    zero_below : (n : ℕ) → nat_lt 0 (suc n) ≡ true
    zero_below n = grind (arith, nat_tests)

state_by : (n : ℕ) (b : Bool) → IsSome (if b then Some (numbered_state n) else None) → state_or_root (if b then Some (numbered_state n) else None) ≡ numbered_state n
state_by n true h = refl
state_by n false h = absurd (cc)

state_numbered : (bs : List ℕ) → IsPacked table_unpack bs → state_of table_unpack bs ≡ numbered_state (number_of (state_of table_unpack bs))
state_numbered [] h = absurd (cc)
state_numbered (n ∷ []) h = state_by n (nat_lt n 5) h ∙ ap numbered_state (sym (sym (number_at (n ∷ []) h)))
state_numbered (n ∷ m ∷ ns) h = absurd (cc)

-- the values of a packed state, by its number
pub values_made : (bs : List ℕ) (n : ℕ) → IsPacked table_unpack bs → n ≡ number_of (state_of table_unpack bs) → values_in (state_of table_unpack bs) ≡ (if nat_lt 0 n then Int (pos n) ∷ [] else [])
values_made bs n h is = ap values_in (state_numbered bs h ∙ ap numbered_state (sym is)) ∙ values_by n
