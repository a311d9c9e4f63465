-- What the records of a text say: what names mean in it, and the scope that it stands in.
use Rattle.std.specs.Prelude.{ℕ, nat_lt, cond, List, [], ◌∷◌, map, take, Option, Some, None, slice_get, option_map}
use Rattle.std.specs.Option.{option_copied}
use Rattle.b_ast.specs.declared.Place.{Place}
use Rattle.b_ast.specs.declared.machine.Def.{Def}
use Rattle.b_ast.specs.declared.machine.DefBody.{DefBody}
use Rattle.b_ast.specs.declared.Formula.{Formula}
use Rattle.b_ast.specs.declared.Link.{Link}
use Rattle.b_ast.specs.declared.After.{After}
use Rattle.b_names.specs.declared.places.TableIndex.{TableIndex}
use Rattle.b_names.specs.Index.{IsTableIndex}
use Rattle.b_expand.specs.declared.standing.Table.{Table}
use Rattle.b_expand.specs.declared.standing.Arguments.{Arguments}
use Rattle.b_expand.specs.declared.standing.Frame.{Frame}
use Rattle.b_expand.specs.declared.standing.Callers.{Callers, Outside, Within'}
use Rattle.b_expand.specs.declared.standing.Caller.{Caller}
use Rattle.b_expand.specs.declared.standing.Standing.{Standing}
use Rattle.b_expand.specs.Places.{brackets, deeper_place, moved, moved_link, moved_after, raised_place}
use Rattle.b_expand.specs.Expansion.{Scope}
use Rattle.b_expand.specs.Filling as spec
use Rattle.b_expand.specs.Filling.{Insert, Inserts, Filling, Form, Side, Part}

-- the index is that of the table
unfoldable pub IsIndexed : List Def → TableIndex → Type 0
IsIndexed ds index = IsTableIndex ds index

abbrev pub IsReady : Table → Type 0
IsReady t = IsIndexed t.defs.now t.index.now

-- ---- the texts that a text is used in, the nearest first

abbrev pub frames_of : Callers → List Frame
frames_of Outside = []
frames_of (Within' p text callers) = text ∷ frames_of callers

-- a text, and those that it is used in
abbrev pub frames_from : Caller → List Frame
frames_from c = c.text ∷ frames_of c.callers

-- ---- what names mean

-- a place, where it is less than a bound
abbrev pub until : ℕ → Option ℕ → Option ℕ
until bound None = None
until bound (Some i) = cond (nat_lt i bound) (Some i) None

-- the parameters of the definition at a place
abbrev pub params_at : List Def → ℕ → List (List ℕ)
params_at ds k = spec.params_of (slice_get ds k)

-- what names mean in the body of the definition at a place: one of the definitions before it
abbrev pub means_at : List Def → ℕ → Inserts
means_at ds k = spec.inserts (take k ds)

abbrev pub insert_of_first : List Def → ℕ → Option Insert
insert_of_first ds i = option_map (λ d. spec.insert_of (spec.inserts (take i ds)) d.params d.body) (slice_get ds i)

abbrev pub params_in : Standing → List (List ℕ)
params_in t = params_at t.table.defs.now t.here.place

abbrev pub means_in : Standing → Inserts
means_in t = means_at t.table.defs.now t.here.place

-- the definition at a place of those that a text may use
abbrev pub insert_at : Standing → ℕ → Option Insert
insert_at t i = insert_of_first (take t.here.place t.table.defs.now) i

abbrev pub filling_in : Standing → Formula → Filling
filling_in t = spec.filling (means_in t)

abbrev pub form_in : Standing → After → Form
form_in t = spec.form_of (means_in t)

abbrev pub side_in : Standing → Link → Side
side_in t = spec.side_of (means_in t)

-- the definition that the head of a row calls
abbrev pub called_in : Standing → Formula → Option (ℕ × Insert)
called_in t e = spec.called (means_in t) (params_in t) (filling_in t e).name

-- ---- arguments

abbrev pub first_part : Inserts → Option Formula → List Link → List Part
first_part means None ls = []
first_part means (Some e) ls = (spec.filling means e).part ∷ spec.sides (map (spec.side_of means) ls)

-- the arguments that stand in a text
abbrev pub parts_in : Inserts → Arguments → List Part
parts_in means a = first_part means (option_copied a.first) a.others.now

-- the trees of the arguments for a text's parameters, which stand in the text that uses it
abbrev pub trees_at : List Def → Frame → List Frame → List Formula
trees_at ds f [] = []
trees_at ds f (g ∷ gs) = spec.trees_of (parts_in (means_at ds g.place) f.arguments) (record { round = g.round; params = params_at ds g.place; trees = trees_at ds g gs })

-- their steps
abbrev pub steps_at : List Def → Frame → List Frame → List ℕ
steps_at ds f [] = []
steps_at ds f (g ∷ gs) = map (λ a. a.steps (params_at ds g.place) (steps_at ds g gs)) (parts_in (means_at ds g.place) f.arguments)

abbrev pub trees_in_scope : Standing → List Formula
trees_in_scope t = trees_at t.table.defs.now t.here (frames_of t.callers)

abbrev pub scope_of : Standing → Scope
scope_of t = record { round = t.here.round; params = params_in t; trees = trees_in_scope t }

abbrev pub argument_steps_in : Standing → List ℕ
argument_steps_in t = steps_at t.table.defs.now t.here (frames_of t.callers)

-- ---- trees

-- a place of the text under all brackets
abbrev pub place_in : Standing → Place → Place
place_in t at = raised_place t.extra (deeper_place t.here.round at)

-- the tree that a tree of the text becomes
abbrev pub tree_in : Standing → Formula → Formula
tree_in t e = (filling_in t e).part.tree (scope_of t)

abbrev pub raise : Standing → Formula → Formula
raise t = moved (raised_place t.extra)

abbrev pub raise_link : Standing → Link → Link
raise_link t = moved_link (raised_place t.extra)

abbrev pub raise_form : Standing → After → After
raise_form t = moved_after (raised_place t.extra)

abbrev pub trees_in : Standing → List Formula → List Formula
trees_in t es = map (raise t) (spec.trees (map (filling_in t) es) (scope_of t))

abbrev pub links_in : Standing → List Link → List Link
links_in t ls = map (raise_link t) (spec.links (map (side_in t) ls) (scope_of t))

abbrev pub forms_in : Standing → List After → List After
forms_in t fs = map (raise_form t) (spec.forms (map (form_in t) fs) (scope_of t))

abbrev pub row_in : Standing → Option (ℕ × Insert) → Formula → List After → Formula
row_in t m e fs = spec.row m (filling_in t e) (map (form_in t) fs) (scope_of t)

-- the body of a definition with trees for its parameters
abbrev pub body_of : Option Insert → ℕ → List Formula → Formula
body_of (Some m) round es = m.body (record { round = round; params = m.params; trees = es })
body_of None round es = spec.nothing

abbrev pub round_in : Standing → ℕ → ℕ
round_in t depth = brackets (brackets t.here.round depth) 1

-- a use of the definition at a place
abbrev pub used_in : Standing → ℕ → ℕ → Arguments → Formula
used_in t i depth a = body_of (insert_at t i) (round_in t depth) (spec.trees_of (parts_in (means_in t) a) (scope_of t))

abbrev pub body_in : Standing → DefBody → Formula
body_in t b = (spec.insert_of (means_in t) (params_in t) b).body (scope_of t)

-- ---- steps

abbrev pub steps_in : Standing → Formula → ℕ
steps_in t e = (filling_in t e).part.steps (params_in t) (argument_steps_in t)

abbrev pub steps_of_all : Standing → List Formula → ℕ
steps_of_all t es = spec.total (spec.parts (map (filling_in t) es)) (params_in t) (argument_steps_in t)

abbrev pub steps_of_link : Standing → Link → ℕ
steps_of_link t l = (side_in t l).operand.steps (params_in t) (argument_steps_in t)

abbrev pub steps_of_links : Standing → List Link → ℕ
steps_of_links t ls = spec.total (spec.sides (map (side_in t) ls)) (params_in t) (argument_steps_in t)

abbrev pub steps_of_form : Standing → After → ℕ
steps_of_form t f = (form_in t f).steps (params_in t) (argument_steps_in t)

abbrev pub steps_of_forms : Standing → List After → ℕ
steps_of_forms t fs = spec.form_total (map (form_in t) fs) (params_in t) (argument_steps_in t)

abbrev pub steps_of_use : Standing → ℕ → Arguments → ℕ
steps_of_use t i a = spec.used_steps (insert_at t i) (map (λ p. p.steps (params_in t) (argument_steps_in t)) (parts_in (means_in t) a))

abbrev pub steps_of_body : Standing → DefBody → ℕ
steps_of_body t b = (spec.insert_of (means_in t) (params_in t) b).steps (argument_steps_in t)

abbrev pub steps_of_call : Standing → Option (ℕ × Insert) → List After → ℕ
steps_of_call t m fs = spec.called_steps m (spec.first_arguments (map (form_in t) fs)) (params_in t) (argument_steps_in t)
