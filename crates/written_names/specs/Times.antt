-- What a substitution surely writes, and what it may read before.
use Rattle.std.specs.Prelude.{not, List, [], ◌∷◌, map, Option, Some, None}
use Rattle.b_ast.specs.declared.Place.{Place}
use Rattle.b_ast.specs.declared.Bound.{Bound}
use Rattle.b_ast.specs.declared.Formula.{Formula}
use Rattle.b_ast.specs.declared.machine.Joint.{Joint}
use Rattle.b_ast.specs.declared.machine.Joint.TheVariants as joint
use Rattle.b_ast.specs.declared.machine.Subst.{Subst, fold-Subst}
use Rattle.b_ast.specs.declared.machine.Subst.TheOpen.{Subst-F, Branch-F, CaseBranch-F, Step-F}
use Rattle.b_ast.specs.declared.machine.Branch.{Branch, fold-Branch}
use Rattle.b_ast.specs.declared.machine.CaseBranch.{CaseBranch, fold-CaseBranch}
use Rattle.b_ast.specs.declared.machine.Step.{Step, fold-Step}
use Rattle.written_names.specs.Names.{Which, none, either, both, without, named, or_else, at_if}
use Rattle.written_names.specs.Reads.{read_in, all_read}

-- what a substitution does to names that have no value yet
pub record Timing : Type 0 where
  -- the names that it surely writes
  pub surely : Which
  -- the first place at which it may read one of the names that have no value
  pub early : Which → Option Place

abbrev pub never : Which → Option Place
never unset = None

abbrev pub nothing : Timing
nothing = record { surely = none; early = never }

-- ---- formulas outside of `x : (P)`

abbrev pub reads : Formula → Which → Option Place
reads e unset = read_in e unset unset

abbrev pub reads_all : List Formula → Which → Option Place
reads_all es unset = all_read (map read_in es) unset unset

-- ---- assignments: each surely writes its targets

-- `x,y := E,F`
abbrev pub assigned : List Bound → List Formula → Timing
assigned xs es = record { surely = named xs; early = reads_all es }

-- `f(E) := F` reads f
abbrev pub updated : Bound → Formula → Formula → Timing
updated f e v = record {
  surely = named (f ∷ []);
  early = λ unset. or_else (at_if (unset f.name) f.at) (or_else (reads e unset) (reads v unset));
}

-- `x :: E`
abbrev pub chosen_from : Bound → Formula → Timing
chosen_from x e = record { surely = named (x ∷ []); early = reads e }

-- `x : (P)`: in P a target is its new value, and `x$0` reads x
abbrev pub chosen_such : List Bound → Formula → Timing
chosen_such xs p = record { surely = named xs; early = λ unset. read_in p (without (named xs) unset) unset }

-- ---- forms with parts

-- formulas are looked at before
abbrev pub behind : (Which → Option Place) → Timing → Timing
behind f s = record { surely = s.surely; early = λ unset. or_else (f unset) (s.early unset) }

-- in the scope of bound names, which hide others
abbrev pub within : List Bound → Timing → Timing
within xs s = record { surely = s.surely; early = λ unset. s.early (without (named xs) unset) }

-- what one branch and all of these surely write
abbrev pub all_surely : Which → List Timing → Which
all_surely p [] = p
all_surely p (t ∷ ts) = all_surely (both p t.surely) ts

-- the first place that one branch or one of these tells
abbrev pub first_early : Option Place → List Timing → Which → Option Place
first_early at [] unset = at
first_early at (t ∷ ts) unset = first_early (or_else at (t.early unset)) ts unset

-- one of some branches is taken
abbrev pub one_of : List Timing → Timing
one_of [] = nothing
one_of (t ∷ ts) = record { surely = all_surely t.surely ts; early = λ unset. first_early (t.early unset) ts unset }

abbrev pub beside : Timing → Timing → Timing
beside s t = record { surely = both s.surely t.surely; early = λ unset. or_else (s.early unset) (t.early unset) }

-- an ELSE is one more branch, and so is skip where no branch may be taken
abbrev pub or_skip : Timing → Option Timing → Timing
or_skip s None = beside s nothing
or_skip s (Some t) = beside s t

-- SELECT without ELSE has no outcome where no guard holds
abbrev pub or_nothing : Timing → Option Timing → Timing
or_nothing s None = s
or_nothing s (Some t) = beside s t

-- ---- rows of `||` and `;`

-- a sign of a row with its right side
pub record Joined : Type 0 where
  pub sign : Joint
  pub right : Timing

-- the names without a value at a right side: behind `;` it may read what stands before it in the row surely writes
abbrev pub unset_behind : Joint → Which → Which → Which
unset_behind joint.Parallel before unset = unset
unset_behind joint.Sequence before unset = without before unset

-- what a row surely writes, some of which stands before its next sign
abbrev pub row_surely : Which → List Joined → Which
row_surely before [] = before
row_surely before (k ∷ ks) = row_surely (either before k.right.surely) ks

-- the first place in a row, with the one that was told before its next sign
abbrev pub row_early : Option Place → Which → List Joined → Which → Option Place
row_early at before [] unset = at
row_early at before (k ∷ ks) unset = row_early (or_else at (k.right.early (unset_behind k.sign before unset))) (either before k.right.surely) ks unset

abbrev pub row : Timing → List Joined → Timing
row s ks = record { surely = row_surely s.surely ks; early = λ unset. row_early (s.early unset) s.surely ks unset }

-- ---- all substitutions

abbrev pub branch_step : Branch-F Timing Timing Timing Joined → Timing
branch_step b = behind (reads b.guard) b.body

abbrev pub case_step : CaseBranch-F Timing Timing Timing Joined → Timing
case_step b = behind (reads_all b.labels) b.body

abbrev pub joined_step : Step-F Timing Timing Timing Joined → Joined
joined_step k = record { sign = k.joint; right = k.body }

abbrev pub subst_step : Subst-F Timing Timing Timing Joined → Timing
subst_step (Subst-F.Skip at) = nothing
subst_step (Subst-F.Block at s) = s
subst_step (Subst-F.Assign at xs es) = assigned xs es
subst_step (Subst-F.Update at f e v) = updated f e v
subst_step (Subst-F.ChooseFrom at x e) = chosen_from x e
subst_step (Subst-F.ChooseSuch at xs p) = chosen_such xs p
subst_step (Subst-F.Guarded at g p s) = behind (reads p) s
subst_step (Subst-F.If at bs o) = or_skip (one_of bs) o
subst_step (Subst-F.Select at bs o) = or_nothing (one_of bs) o
subst_step (Subst-F.Choice at ss) = one_of ss
subst_step (Subst-F.Case at e bs o) = behind (reads e) (or_skip (one_of bs) o)
subst_step (Subst-F.Any at xs p s) = within xs (behind (reads p) s)
subst_step (Subst-F.Let at xs es s) = behind (reads_all es) (within xs s)
subst_step (Subst-F.Chain s ks) = row s ks
subst_step (Subst-F.Use at x es) = nothing

abbrev pub timing_of : Subst → Timing
timing_of = fold-Subst Timing Timing Timing Joined subst_step branch_step case_step joined_step

abbrev pub timing_of_branch : Branch → Timing
timing_of_branch = fold-Branch Timing Timing Timing Joined subst_step branch_step case_step joined_step

abbrev pub timing_of_case : CaseBranch → Timing
timing_of_case = fold-CaseBranch Timing Timing Timing Joined subst_step branch_step case_step joined_step

abbrev pub joined_of : Step → Joined
joined_of = fold-Step Timing Timing Timing Joined subst_step branch_step case_step joined_step

-- ---- names that have to be written

-- the first of these names that isn't surely written
abbrev pub left : List Bound → Which → Option Place
left [] surely = None
left (x ∷ xs) surely = or_else (at_if (not (surely x.name)) x.at) (left xs surely)

-- the first place at which one of these names, which have no value before, may be read too early, or else the first of them
-- that may be left without one
abbrev pub not_set : List Bound → Timing → Option Place
not_set xs s = or_else (s.early (named xs)) (left xs s.surely)
