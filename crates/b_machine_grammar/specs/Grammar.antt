-- The grammar of machines, as a relation between lists of lexemes and trees. A list is cut at the separators that stand
-- outside its brackets, and each part stands for what its place asks. Formulas are those of the grammar of formulas.
use Rattle.std.specs.Prelude.{◌≡◌, ℕ, zero, suc, Bool, true, false, List, [], ◌∷◌, Option, Some, None, map, length, if◌then◌else◌}
use Rattle.std.specs.Str.{bytes_eq}
use Rattle.b_ast.specs.declared.Place.{Place}
use Rattle.b_ast.specs.declared.Bound.{Bound}
use Rattle.b_ast.specs.declared.Formula.{Formula, out-Formula}
use Rattle.b_ast.specs.declared.Link.{Link}
use Rattle.b_ast.specs.declared.After.{After, out-After}
use Rattle.b_ast.specs.declared.After.TheOpen.{Formula-F, After-F}
use Rattle.b_ast.specs.declared.machine.Guard.TheVariants as guard
use Rattle.b_ast.specs.declared.machine.Joint.{Joint}
use Rattle.b_ast.specs.declared.machine.Joint.TheVariants as joint
use Rattle.b_ast.specs.declared.machine.Subst.{Subst}
use Rattle.b_ast.specs.declared.machine.Subst.TheVariants as subst
use Rattle.b_ast.specs.declared.machine.Branch.{Branch, roll-Branch}
use Rattle.b_ast.specs.declared.machine.CaseBranch.{CaseBranch, roll-CaseBranch}
use Rattle.b_ast.specs.declared.machine.Step.{Step, roll-Step}
use Rattle.b_ast.specs.declared.machine.SetDecl.{SetDecl}
use Rattle.b_ast.specs.declared.machine.Operation.{Operation}
use Rattle.b_grammar.specs.declared.Symbol.{Symbol}
use Rattle.b_grammar.specs.declared.Symbol.TheVariants as symbol
use Rattle.b_grammar.specs.Grammar.{IsFormulaText}
use Rattle.b_machine_grammar.specs.declared.words.Word.{Word}
use Rattle.b_machine_grammar.specs.declared.words.Word.TheVariants as word
use Rattle.b_machine_grammar.specs.declared.words.Separator.TheVariants as at
use Rattle.b_machine_grammar.specs.declared.trees.BodyText.{BodyText}
use Rattle.b_machine_grammar.specs.declared.trees.BodyText.TheVariants as body
use Rattle.b_machine_grammar.specs.declared.trees.DefText.{DefText}
use Rattle.b_machine_grammar.specs.declared.trees.Clause.{Clause}
use Rattle.b_machine_grammar.specs.declared.trees.Clause.TheVariants as clause
use Rattle.b_machine_grammar.specs.declared.trees.MachineTree.{MachineTree}
use Rattle.b_machine_grammar.specs.Words.{is_word}
use Rattle.b_machine_grammar.specs.Cuts.{Piece, Stands, Next, cut, cut_at, cut_before, IsNever, IsMade, IsSuch, IsBehind, IsEnded, IsEnclosed, IsParted, IsPartedIf, IsRow, IsList}

-- ---- names and formulas

-- the place of a lexeme
abbrev pub place : Piece → Place
place s = s.1.at

abbrev pub name_at : Symbol → Place → Option Bound
name_at (symbol.Name n) p = Some (record { name = n; at = p })
name_at x p = None

-- one lexeme that is a name
abbrev pub name_in : List Piece → Option Bound
name_in [] = None
name_in (s ∷ []) = name_at s.1.symbol s.1.at
name_in (s ∷ t ∷ ts) = None

abbrev pub IsName : Stands Bound
IsName ts b = name_in ts ≡ Some b

-- names with commas between them
abbrev pub IsNames : Stands (List Bound)
IsNames = IsList (cut_at word.Comma) IsName

-- a formula
abbrev pub IsWritten : Stands Formula
IsWritten ts t = IsFormulaText (map (λ (s : Piece). s.1) ts) t

-- formulas with commas between them
abbrev pub IsWrittenList : Stands (List Formula)
IsWrittenList = IsList (cut_at word.Comma) IsWritten

-- ---- names with arguments

-- a name and an opening round bracket stand first
abbrev pub is_applied : List Piece → Bool
is_applied [] = false
is_applied (s ∷ []) = false
is_applied (s ∷ t ∷ ts) = of (is_word s.0 word.Name)
  where
    of : Bool → Bool
    of true = is_word t.0 word.RoundOpen
    of false = false

-- a name, the place of its bracket and its argument; several arguments are a chain of commas
abbrev pub Applied : Type 0
Applied = Bound × Place × Formula

-- one layer of a formula
abbrev pub Layer : Type 0
Layer = Formula-F After Formula Link

abbrev pub argument_of : Bound → After-F After Formula Link → Option Applied
argument_of b (After-F.Apply p e) = Some (b, p, e)
argument_of b x = None

abbrev pub applied_to : Layer → After → Option Applied
applied_to (Formula-F.Name p n) f = argument_of (record { name = n; at = p }) (out-After f)
applied_to x f = None

abbrev pub applied_row : Formula → List After → Option Applied
applied_row t [] = None
applied_row t (f ∷ []) = applied_to (out-Formula t) f
applied_row t (f ∷ g ∷ fs) = None

abbrev pub applied_by : Layer → Option Applied
applied_by (Formula-F.Row t fs) = applied_row t fs
applied_by x = None

-- what a formula that is one application of a name applies
abbrev pub applied_in : Formula → Option Applied
applied_in t = applied_by (out-Formula t)

-- one application of a name
abbrev pub IsApplied : Stands Applied
IsApplied ts a = (t : Formula) × IsWritten ts t × (applied_in t ≡ Some a)

-- ---- substitutions without words

-- `x,y := E,F`
abbrev pub IsAssignment : Place → List Piece → List Piece → Subst → Type 0
IsAssignment p front back t = (x : List Bound × List Formula) × IsNames front x.0 × IsWrittenList back x.1 × (length x.0 ≡ length x.1) × (t ≡ subst.Assign p x.0 x.1)

-- `f(E) := F`
abbrev pub IsUpdate : List Piece → List Piece → Subst → Type 0
IsUpdate front back t = (x : Applied × Formula) × IsApplied front x.0 × IsWritten back x.1 × (t ≡ subst.Update x.0.1 x.0.0 x.0.2 x.1)

-- `x :: E`
abbrev pub IsChoiceFrom : Place → List Piece → List Piece → Subst → Type 0
IsChoiceFrom p front back t = (x : Bound × Formula) × IsName front x.0 × IsWritten back x.1 × (t ≡ subst.ChooseFrom p x.0 x.1)

-- behind `:=` or `::`
abbrev pub IsWriting : Word → Place → List Piece → List Piece → Subst → Type 0
IsWriting word.Becomes p front back t = by (is_applied front)
  where
    by : Bool → Type 0
    by true = IsUpdate front back t
    by false = IsAssignment p front back t
IsWriting w p front back t = IsChoiceFrom p front back t

abbrev pub is_last : Next → Bool
is_last None = false
is_last (Some p) = of p.1
  where
    of : List Piece → Bool
    of [] = true
    of (s ∷ ts) = false

-- the list begins with a round bracket, and its last lexeme closes that
abbrev pub is_bracketed : List Piece → Bool
is_bracketed [] = false
is_bracketed (s ∷ ts) = if is_word s.0 word.RoundOpen then is_last (cut_at word.RoundClose ts).1 else false

-- `(P)`
abbrev pub IsBracketed : Stands Formula
IsBracketed ts t = (is_bracketed ts ≡ true) × IsWritten ts t

-- `x,y : (P)`
abbrev pub IsChoiceSuch : Place → List Piece → List Piece → Subst → Type 0
IsChoiceSuch p front back t = (x : List Bound × Formula) × IsNames front x.0 × IsBracketed back x.1 × (t ≡ subst.ChooseSuch p x.0 x.1)

-- a use of a definition: `d` or `d(E,F)`, whose arguments are one formula, as in an application
abbrev pub IsUse : Stands Subst
IsUse ts t = by (is_applied ts)
  where
    by : Bool → Type 0
    by true = IsMade (λ (a : Applied). subst.Use a.0.at a.0.name (a.2 ∷ [])) IsApplied ts t
    by false = IsMade (λ (b : Bound). subst.Use b.at b.name []) IsName ts t

-- what has no `:=` and no `::`
abbrev pub IsWithoutBecoming : List Piece → List Piece → Next → Subst → Type 0
IsWithoutBecoming ts front None t = IsUse ts t
IsWithoutBecoming ts front (Some p) t = IsChoiceSuch (place p.0) front p.1 t

abbrev pub IsSimpleBy : List Piece → List Piece → Next → Subst → Type 0
IsSimpleBy ts front None t = IsWithoutBecoming ts (cut_at word.Member ts).0 (cut_at word.Member ts).1 t
IsSimpleBy ts front (Some p) t = IsWriting p.0.0 (place p.0) front p.1 t

-- a substitution that begins with no word
abbrev pub IsSimple : Stands Subst
IsSimple ts t = IsSimpleBy ts (cut at.Becoming ts).0 (cut at.Becoming ts).1 t

-- ---- trees

abbrev pub branch : Formula × Subst → Branch
branch x = roll-Branch (record { guard = x.0; body = x.1 })

abbrev pub case_branch : List Formula × Subst → CaseBranch
case_branch x = roll-CaseBranch (record { labels = x.0; body = x.1 })

abbrev pub joint_of : Word → Joint
joint_of word.Parallel = joint.Parallel
joint_of w = joint.Sequence

abbrev pub step : Piece → Subst → Step
step s t = roll-Step (record { joint = joint_of s.0; at = place s; body = t })

-- one substitution stands for itself, several are one node
abbrev pub chain : Subst × List Step → Subst
chain x = of x.0 x.1
  where
    of : Subst → List Step → Subst
    of t [] = t
    of t (s ∷ ss) = subst.Chain t (s ∷ ss)

-- the names before the equations are those of the equations, in order
abbrev pub same_names : List Bound → List Bound → Bool
same_names [] [] = true
same_names [] (c ∷ cs) = false
same_names (b ∷ bs) [] = false
same_names (b ∷ bs) (c ∷ cs) = if bytes_eq b.name c.name then same_names bs cs else false

-- whether a word begins a substitution that ends with END
abbrev pub begins_block : Word → Bool
begins_block word.Begin = true
begins_block word.Pre = true
begins_block word.Assert = true
begins_block word.If = true
begins_block word.Select = true
begins_block word.Choice = true
begins_block word.Case = true
begins_block word.Any = true
begins_block word.Let = true
begins_block w = false

-- ---- substitutions; P says what substitutions with one bracket less are

-- the name of `x = E`
abbrev pub IsLeftSide : Stands Bound
IsLeftSide ts b = IsName (cut_at word.Equal ts).0 b

-- the formula of `x = E`
abbrev pub IsRightSide : Stands Formula
IsRightSide ts t = IsBehind (λ s. IsWritten) (cut_at word.Equal ts).1 t

-- `x = E & y = F`: the names and the formulas
abbrev pub IsEquations : Stands (List Bound × List Formula)
IsEquations ts x = IsList (cut_at word.And) IsLeftSide ts x.0 × IsList (cut_at word.And) IsRightSide ts x.1

-- names, equations and what follows
abbrev pub Fixing : Type 0
Fixing = List Bound × ((List Bound × List Formula) × Subst)

abbrev pub names_agree : Fixing → Bool
names_agree x = same_names x.0 x.1.0.0

module _ (P : Stands Subst) where
  -- `P THEN S`
  abbrev pub IsGuarded : Stands (Formula × Subst)
  IsGuarded = IsParted (cut_at word.Then) IsWritten (λ s. P)

  abbrev pub IsBranch : Stands Branch
  IsBranch = IsMade branch IsGuarded

  -- `l,m THEN S`
  abbrev pub IsCaseBranch : Stands CaseBranch
  IsCaseBranch = IsMade case_branch (IsParted (cut_at word.Then) IsWrittenList (λ s. P))

  -- branches with a word between them, and perhaps ELSE
  abbrev pub IsBranches : Word → Stands (List Branch × Option Subst)
  IsBranches w = IsPartedIf (cut_at word.Else) (IsList (cut_at w) IsBranch) (λ s. P)

  abbrev pub IsCaseBranches : Stands (List CaseBranch × Option Subst)
  IsCaseBranches = IsPartedIf (cut_at word.Else) (IsList (cut_at word.Or) IsCaseBranch) (λ s. P)

  -- `x,y BE x = E & y = F IN S`
  abbrev pub IsLet : Place → Stands Subst
  IsLet p =
      IsMade
      (λ (x : Fixing). subst.Let p x.0 x.1.0.1 x.1.1)
      (IsSuch names_agree (IsParted (cut_at word.Be) IsNames (λ s. IsParted (cut_at word.In) IsEquations (λ t. P))))

  -- `E OF EITHER l,m THEN S OR n THEN T ELSE U END`
  abbrev pub IsCase : Place → Stands Subst
  IsCase p =
      IsMade
      (λ (x : Formula × (List CaseBranch × Option Subst)). subst.Case p x.0 x.1.0 x.1.1)
      (IsParted (cut_at word.Of) IsWritten (λ s. IsEnclosed word.Either (cut_at word.End) IsCaseBranches))

  -- `x,y WHERE P THEN S`
  abbrev pub IsAny : Place → Stands Subst
  IsAny p =
      IsMade
      (λ (x : List Bound × (Formula × Subst)). subst.Any p x.0 x.1.0 x.1.1)
      (IsParted (cut_at word.Where) IsNames (λ s. IsGuarded))

  -- what stands between a word and its END
  abbrev pub IsBlock : Word → Place → Stands Subst
  IsBlock word.Begin p = IsMade (subst.Block p) P
  IsBlock word.Pre p = IsMade (λ (x : Formula × Subst). subst.Guarded p guard.Pre x.0 x.1) IsGuarded
  IsBlock word.Assert p = IsMade (λ (x : Formula × Subst). subst.Guarded p guard.Assert x.0 x.1) IsGuarded
  IsBlock word.If p = IsMade (λ (x : List Branch × Option Subst). subst.If p x.0 x.1) (IsBranches word.Elsif)
  IsBlock word.Select p = IsMade (λ (x : List Branch × Option Subst). subst.Select p x.0 x.1) (IsBranches word.When)
  IsBlock word.Choice p = IsMade (subst.Choice p) (IsList (cut_at word.Or) P)
  IsBlock word.Case p = IsCase p
  IsBlock word.Any p = IsAny p
  IsBlock word.Let p = IsLet p
  IsBlock w p = IsNever

  -- a substitution without `||` and `;` outside brackets, by its first word
  abbrev pub IsPart : Stands Subst
  IsPart [] t = ⊥
  IsPart (s ∷ ts) t = by (is_word s.0 word.Skip) (begins_block s.0)
    where
      by : Bool → Bool → Type 0
      by true b = (ts ≡ []) × (t ≡ subst.Skip (place s))
      by false true = IsEnded (cut_at word.End) (IsBlock s.0 (place s)) ts t
      by false false = IsSimple (s ∷ ts) t

  -- `||` or `;` and the part behind it
  abbrev pub IsStep : Piece → Stands Step
  IsStep s = IsMade (step s) IsPart

  abbrev pub IsChain : Stands Subst
  IsChain = IsMade chain (IsRow (cut at.Joint) IsPart IsStep)

-- a substitution in which at most this many brackets are open at one place
unfoldable pub IsSubst : ℕ → Stands Subst
IsSubst zero = IsChain IsNever
IsSubst (suc depth) = IsChain (IsSubst depth)

-- ---- clauses; so many brackets may be open in a substitution

-- `name` or `name(p,q)`
abbrev pub IsParams : Stands (List Bound)
IsParams [] ps = ps ≡ []
IsParams (s ∷ ts) ps = IsEnclosed word.RoundOpen (cut_at word.RoundClose) IsNames (s ∷ ts) ps

abbrev pub IsHeader : Stands (Bound × List Bound)
IsHeader [] x = ⊥
IsHeader (s ∷ ts) x = IsName (s ∷ []) x.0 × IsParams ts x.1

abbrev pub set_decl : Bound × Option (List Bound) → SetDecl
set_decl x = record { name = x.0; elements = x.1 }

-- `S` or `S = {a,b}`
abbrev pub IsSetDecl : Stands SetDecl
IsSetDecl = IsMade set_decl (IsPartedIf (cut_at word.Equal) IsName (λ s. IsEnclosed word.CurlyOpen (cut_at word.CurlyClose) IsNames))

-- a body is what its text reads as: a formula, a substitution, or both
abbrev pub IsBody : ℕ → Stands BodyText
IsBody depth ts (body.Formula t) = IsWritten ts t × ((u : Subst) → IsSubst depth ts u → ⊥)
IsBody depth ts (body.Subst u) = IsSubst depth ts u × ((t : Formula) → IsWritten ts t → ⊥)
IsBody depth ts (body.Either t u) = IsWritten ts t × IsSubst depth ts u

abbrev pub definition : (Bound × List Bound) × BodyText → DefText
definition x = record { name = x.0.0; params = x.0.1; body = x.1 }

-- `d(p,q) == body`
abbrev pub IsDefinition : ℕ → Stands DefText
IsDefinition depth = IsMade definition (IsParted (cut_at word.Defined) IsHeader (λ s. IsBody depth))

-- a last `;` may end them
abbrev pub IsDefinitions : ℕ → Stands (List DefText)
IsDefinitions depth = IsList (cut_before word.Semicolon) (IsDefinition depth)

abbrev pub operation : List Bound → (Bound × List Bound) × Subst → Operation
operation rs x = record { name = x.0.0; results = rs; params = x.0.1; body = x.1 }

-- `name(p,q) = S`
abbrev pub IsCalled : ℕ → List Bound → Stands Operation
IsCalled depth rs = IsMade (operation rs) (IsParted (cut_at word.Equal) IsHeader (λ s. IsSubst depth))

abbrev pub IsOperationBy : ℕ → List Piece → List Piece → Next → Operation → Type 0
IsOperationBy depth ts front None o = IsCalled depth [] ts o
IsOperationBy depth ts front (Some p) o = (rs : List Bound) × IsNames front rs × IsCalled depth rs p.1 o

-- `r,s <-- name(p,q) = S`
abbrev pub IsOperation : ℕ → Stands Operation
IsOperation depth ts o = IsOperationBy depth ts (cut_at word.Results ts).0 (cut_at word.Results ts).1 o

-- what stands behind the word of a clause
abbrev pub IsClauseOf : ℕ → Word → Place → Stands Clause
IsClauseOf depth word.Sets p = IsMade (clause.Sets p) (IsList (cut_at word.Semicolon) IsSetDecl)
IsClauseOf depth word.Constants p = IsMade (clause.Constants p) IsNames
IsClauseOf depth word.AbstractConstants p = IsMade (clause.AbstractConstants p) IsNames
IsClauseOf depth word.Properties p = IsMade (clause.Properties p) IsWritten
IsClauseOf depth word.Variables p = IsMade (clause.Variables p) IsNames
IsClauseOf depth word.ConcreteVariables p = IsMade (clause.ConcreteVariables p) IsNames
IsClauseOf depth word.Invariant p = IsMade (clause.Invariant p) IsWritten
IsClauseOf depth word.Assertions p = IsMade (clause.Assertions p) (IsList (cut_at word.Semicolon) IsWritten)
IsClauseOf depth word.Definitions p = IsMade (clause.Definitions p) (IsDefinitions depth)
IsClauseOf depth word.Initialisation p = IsMade (clause.Initialisation p) (IsSubst depth)
IsClauseOf depth word.Operations p = IsMade (clause.Operations p) (IsList (cut_at word.Semicolon) (IsOperation depth))
IsClauseOf depth w p = IsNever

abbrev pub IsClause : ℕ → Piece → Stands Clause
IsClause depth s = IsClauseOf depth s.0 (place s)

abbrev pub machine : Bound × List Clause → MachineTree
machine x = record { name = x.0; clauses = x.1 }

-- `MACHINE Name clauses END`; no more brackets can be open than there are lexemes
abbrev pub IsMachine : Stands MachineTree
IsMachine ts = IsEnclosed word.Machine (cut_at word.End) (IsMade machine (IsRow (cut at.Clause) IsName (IsClause (length ts)))) ts
