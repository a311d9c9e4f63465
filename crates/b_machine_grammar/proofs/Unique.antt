-- A list of lexemes stands for at most one machine.
use Rattle.std.proofs.Common.{◌≡◌, ℕ, zero, suc, Bool, true, false, List, [], ◌∷◌, Option, Some, None, length, map, refl, sym, ap, ◌∙◌, subst}
use Rattle.b_ast.specs.declared.Place.{Place}
use Rattle.b_ast.specs.declared.Bound.{Bound}
use Rattle.b_ast.specs.declared.Formula.{Formula}
use Rattle.b_ast.specs.declared.machine.Guard.TheVariants as guard
use Rattle.b_ast.specs.declared.machine.Subst.{Subst}
use Rattle.b_ast.specs.declared.machine.Subst.TheVariants as tree
use Rattle.b_ast.specs.declared.machine.Branch.{Branch}
use Rattle.b_ast.specs.declared.machine.CaseBranch.{CaseBranch}
use Rattle.b_grammar.proofs.Deeper.{one_text}
use Rattle.b_machine_grammar.specs.declared.words.Word.{Word}
use Rattle.b_machine_grammar.specs.declared.words.Word.TheVariants as word
use Rattle.b_machine_grammar.specs.declared.words.Separator.TheVariants as at
use Rattle.b_machine_grammar.specs.declared.trees.BodyText.TheVariants as body
use Rattle.b_machine_grammar.specs.declared.trees.Clause.TheVariants as clause
use Rattle.b_machine_grammar.specs.declared.trees.MachineTree.{MachineTree}
use Rattle.b_machine_grammar.specs.Words.{is_word}
use Rattle.b_machine_grammar.specs.Cuts.{Piece, Stands, Next, cut, cut_at, cut_before, IsNever, IsMade, IsSuch, IsEnclosed, IsParted, IsPartedIf, IsRow, IsList}
use Rattle.b_machine_grammar.specs.Grammar as grammar
use Rattle.b_machine_grammar.specs.Grammar.{place, IsName, IsNames, IsWritten, IsWrittenList, Applied, applied_in, is_applied, IsApplied, IsAssignment, IsUpdate, IsChoiceFrom, IsWriting, is_bracketed, IsBracketed, IsChoiceSuch, IsUse, IsWithoutBecoming, IsSimpleBy, IsSimple, IsLeftSide, IsRightSide, IsEquations, Fixing, names_agree, IsGuarded, IsBranch, IsCaseBranch, IsBranches, IsCaseBranches, IsLet, IsBlock, begins_block, IsPart, IsStep, IsChain, IsSubst, IsParams, IsHeader, IsSetDecl, IsBody, IsDefinition, IsDefinitions, IsCalled, IsOperationBy, IsOperation, IsClause, IsMachine}
use Rattle.b_machine_grammar.proofs.Cuts.{IsUnique, pair_same, never_unique, made_unique, such_unique, behind_unique, ended_unique, enclosed_unique, parted_unique, parted_if_unique, row_unique, list_unique}

some_same : {A : Type 0} (x y : A) → Some x ≡ Some y → x ≡ y
some_same x y e = cc

pub name_unique : IsUnique IsName
name_unique ts x y c d = some_same x y (sym c ∙ d)

pub names_unique : IsUnique IsNames
names_unique = list_unique (cut_at word.Comma) IsName name_unique

pub written_unique : IsUnique IsWritten
written_unique ts x y c d = one_text (map (λ (s : Piece). s.1) ts) x y c d

pub written_list_unique : IsUnique IsWrittenList
written_list_unique = list_unique (cut_at word.Comma) IsWritten written_unique

pub applied_unique : IsUnique IsApplied
applied_unique ts x y c d = some_same x y (sym c.2 ∙ ap applied_in (written_unique ts c.0 d.0 c.1 d.1) ∙ d.2)

-- ---- substitutions without words

assignment_unique : (p : Place) (front back : List Piece) (x y : Subst) → IsAssignment p front back x → IsAssignment p front back y → x ≡ y
assignment_unique p front back x y c d =
    c.4 ∙ ap (λ (z : List Bound × List Formula). tree.Assign p z.0 z.1) (pair_same c.0 d.0 (names_unique front c.0.0 d.0.0 c.1 d.1) (written_list_unique back c.0.1 d.0.1 c.2 d.2)) ∙ sym d.4

update_unique : (front back : List Piece) (x y : Subst) → IsUpdate front back x → IsUpdate front back y → x ≡ y
update_unique front back x y c d =
    c.3 ∙ ap (λ (z : Applied × Formula). tree.Update z.0.1 z.0.0 z.0.2 z.1) (pair_same c.0 d.0 (applied_unique front c.0.0 d.0.0 c.1 d.1) (written_unique back c.0.1 d.0.1 c.2 d.2)) ∙ sym d.3

choice_from_unique : (p : Place) (front back : List Piece) (x y : Subst) → IsChoiceFrom p front back x → IsChoiceFrom p front back y → x ≡ y
choice_from_unique p front back x y c d =
    c.3 ∙ ap (λ (z : Bound × Formula). tree.ChooseFrom p z.0 z.1) (pair_same c.0 d.0 (name_unique front c.0.0 d.0.0 c.1 d.1) (written_unique back c.0.1 d.0.1 c.2 d.2)) ∙ sym d.3

bracketed_unique : IsUnique IsBracketed
bracketed_unique ts x y c d = written_unique ts x y c.1 d.1

choice_such_unique : (p : Place) (front back : List Piece) (x y : Subst) → IsChoiceSuch p front back x → IsChoiceSuch p front back y → x ≡ y
choice_such_unique p front back x y c d =
    c.3 ∙ ap (λ (z : List Bound × Formula). tree.ChooseSuch p z.0 z.1) (pair_same c.0 d.0 (names_unique front c.0.0 d.0.0 c.1 d.1) (bracketed_unique back c.0.1 d.0.1 c.2 d.2)) ∙ sym d.3

writing_unique : (w : Word) (p : Place) (front back : List Piece) (x y : Subst) → IsWriting w p front back x → IsWriting w p front back y → x ≡ y
writing_unique word.Becomes p front back x y c d = go (is_applied front) refl c d
  where
    go : (b : Bool) → is_applied front ≡ b → IsWriting word.Becomes p front back x → IsWriting word.Becomes p front back y → x ≡ y
    go true e c d = update_unique front back x y (rw e at c) (rw e at d)
    go false e c d = assignment_unique p front back x y (rw e at c) (rw e at d)
writing_unique w p front back x y c d = choice_from_unique p front back x y c d

use_unique : IsUnique IsUse
use_unique ts x y c d = go (is_applied ts) refl c d
  where
    go : (b : Bool) → is_applied ts ≡ b → IsUse ts x → IsUse ts y → x ≡ y
    go true e c d = made_unique (λ (a : Applied). tree.Use a.0.at a.0.name (a.2 ∷ [])) IsApplied applied_unique ts x y (rw e at c) (rw e at d)
    go false e c d = made_unique (λ (b : Bound). tree.Use b.at b.name []) IsName name_unique ts x y (rw e at c) (rw e at d)

simple_unique : IsUnique IsSimple
simple_unique ts x y c d = go (cut at.Becoming ts).1 c d
  where
    without : (front : List Piece) (q : Next) → IsWithoutBecoming ts front q x → IsWithoutBecoming ts front q y → x ≡ y
    without front None c d = use_unique ts x y c d
    without front (Some p) c d = choice_such_unique (place p.0) front p.1 x y c d

    go : (q : Next) → IsSimpleBy ts (cut at.Becoming ts).0 q x → IsSimpleBy ts (cut at.Becoming ts).0 q y → x ≡ y
    go None c d = without (cut_at word.Member ts).0 (cut_at word.Member ts).1 c d
    go (Some p) c d = writing_unique p.0.0 (place p.0) (cut at.Becoming ts).0 p.1 x y c d

-- ---- substitutions

pub left_unique : IsUnique IsLeftSide
left_unique ts x y c d = name_unique (cut_at word.Equal ts).0 x y c d

pub right_unique : IsUnique IsRightSide
right_unique ts x y c d = behind_unique (λ s. IsWritten) (λ s. written_unique) (cut_at word.Equal ts).1 x y c d

pub equations_unique : IsUnique IsEquations
equations_unique ts x y c d =
    pair_same x y (list_unique (cut_at word.And) IsLeftSide left_unique ts x.0 y.0 c.0 d.0) (list_unique (cut_at word.And) IsRightSide right_unique ts x.1 y.1 c.1 d.1)

module _ (P : Stands Subst) (unique : IsUnique P) where
  guarded_unique : IsUnique (IsGuarded P)
  guarded_unique = parted_unique (cut_at word.Then) IsWritten (λ s. P) written_unique (λ s. unique)

  branches_unique : (w : Word) → IsUnique (IsBranches P w)
  branches_unique w =
      parted_if_unique (cut_at word.Else) (IsList (cut_at w) (IsBranch P)) (λ s. P) (list_unique (cut_at w) (IsBranch P) (made_unique grammar.branch (IsGuarded P) guarded_unique)) (λ s. unique)

  case_branches_unique : IsUnique (IsCaseBranches P)
  case_branches_unique =
      parted_if_unique
      (cut_at word.Else)
      (IsList (cut_at word.Or) (IsCaseBranch P))
      (λ s. P)
      (list_unique (cut_at word.Or) (IsCaseBranch P) (made_unique grammar.case_branch (IsParted (cut_at word.Then) IsWrittenList (λ s. P)) (parted_unique (cut_at word.Then) IsWrittenList (λ s. P) written_list_unique (λ s. unique))))
      (λ s. unique)

  let_unique : (p : Place) → IsUnique (IsLet P p)
  let_unique p =
      made_unique
      (λ (x : Fixing). tree.Let p x.0 x.1.0.1 x.1.1)
      (IsSuch names_agree (IsParted (cut_at word.Be) IsNames (λ s. IsParted (cut_at word.In) IsEquations (λ t. P))))
      (such_unique
      names_agree
      (IsParted (cut_at word.Be) IsNames (λ s. IsParted (cut_at word.In) IsEquations (λ t. P)))
      (parted_unique
      (cut_at word.Be)
      IsNames
      (λ s. IsParted (cut_at word.In) IsEquations (λ t. P))
      names_unique
      (λ s. parted_unique (cut_at word.In) IsEquations (λ t. P) equations_unique (λ t. unique))))

  block_unique : (w : Word) (p : Place) → IsUnique (IsBlock P w p)
  block_unique word.Begin p = made_unique (tree.Block p) P unique
  block_unique word.Pre p = made_unique (λ (x : Formula × Subst). tree.Guarded p guard.Pre x.0 x.1) (IsGuarded P) guarded_unique
  block_unique word.Assert p = made_unique (λ (x : Formula × Subst). tree.Guarded p guard.Assert x.0 x.1) (IsGuarded P) guarded_unique
  block_unique word.If p = made_unique (λ (x : List Branch × Option Subst). tree.If p x.0 x.1) (IsBranches P word.Elsif) (branches_unique word.Elsif)
  block_unique word.Select p = made_unique (λ (x : List Branch × Option Subst). tree.Select p x.0 x.1) (IsBranches P word.When) (branches_unique word.When)
  block_unique word.Choice p = made_unique (tree.Choice p) (IsList (cut_at word.Or) P) (list_unique (cut_at word.Or) P unique)
  block_unique word.Case p =
      made_unique
      (λ (x : Formula × (List CaseBranch × Option Subst)). tree.Case p x.0 x.1.0 x.1.1)
      (IsParted (cut_at word.Of) IsWritten (λ s. IsEnclosed word.Either (cut_at word.End) (IsCaseBranches P)))
      (parted_unique (cut_at word.Of) IsWritten (λ s. IsEnclosed word.Either (cut_at word.End) (IsCaseBranches P)) written_unique (λ s. enclosed_unique word.Either (cut_at word.End) (IsCaseBranches P) case_branches_unique))
  block_unique word.Any p =
      made_unique
      (λ (x : List Bound × (Formula × Subst)). tree.Any p x.0 x.1.0 x.1.1)
      (IsParted (cut_at word.Where) IsNames (λ s. IsGuarded P))
      (parted_unique (cut_at word.Where) IsNames (λ s. IsGuarded P) names_unique (λ s. guarded_unique))
  block_unique word.Let p = let_unique p
  block_unique w p = never_unique

  part_unique : IsUnique (IsPart P)
  part_unique [] x y c d = absurd c
  part_unique (s ∷ ts) x y c d = go (is_word s.0 word.Skip) (begins_block s.0) refl refl c d
    where
      go : (a b : Bool) → is_word s.0 word.Skip ≡ a → begins_block s.0 ≡ b → IsPart P (s ∷ ts) x → IsPart P (s ∷ ts) y → x ≡ y
      go true b e f c d = let c' = rw e at c in let d' = rw e at d in c'.1 ∙ sym d'.1
      go false true e f c d = ended_unique (cut_at word.End) (IsBlock P s.0 (place s)) (block_unique s.0 (place s)) ts x y (rw (e, f) at c) (rw (e, f) at d)
      go false false e f c d = simple_unique (s ∷ ts) x y (rw (e, f) at c) (rw (e, f) at d)

  chain_unique : IsUnique (IsChain P)
  chain_unique = made_unique grammar.chain (IsRow (cut at.Joint) (IsPart P) (IsStep P)) (row_unique (cut at.Joint) (IsPart P) (IsStep P) part_unique (λ s. made_unique (grammar.step s) (IsPart P) part_unique))

pub subst_unique : (depth : ℕ) → IsUnique (IsSubst depth)
unfolding IsSubst
subst_unique zero = chain_unique IsNever never_unique
subst_unique (suc depth) = chain_unique (IsSubst depth) (subst_unique depth)

-- ---- clauses

params_unique : IsUnique IsParams
params_unique [] x y c d = c ∙ sym d
params_unique (s ∷ ts) x y c d = enclosed_unique word.RoundOpen (cut_at word.RoundClose) IsNames names_unique (s ∷ ts) x y c d

header_unique : IsUnique IsHeader
header_unique [] x y c d = absurd c
header_unique (s ∷ ts) x y c d = pair_same x y (name_unique (s ∷ []) x.0 y.0 c.0 d.0) (params_unique ts x.1 y.1 c.1 d.1)

set_unique : IsUnique IsSetDecl
set_unique =
    made_unique
    grammar.set_decl
    (IsPartedIf (cut_at word.Equal) IsName (λ s. IsEnclosed word.CurlyOpen (cut_at word.CurlyClose) IsNames))
    (parted_if_unique (cut_at word.Equal) IsName (λ s. IsEnclosed word.CurlyOpen (cut_at word.CurlyClose) IsNames) name_unique (λ s. enclosed_unique word.CurlyOpen (cut_at word.CurlyClose) IsNames names_unique))

body_unique : (depth : ℕ) → IsUnique (IsBody depth)
body_unique depth ts (body.Formula t) (body.Formula u) c d = ap body.Formula (written_unique ts t u c.0 d.0)
body_unique depth ts (body.Formula t) (body.Subst v) c d = absurd (c.1 v d.0)
body_unique depth ts (body.Formula t) (body.Either u v) c d = absurd (c.1 v d.1)
body_unique depth ts (body.Subst v) (body.Formula u) c d = absurd (d.1 v c.0)
body_unique depth ts (body.Subst v) (body.Subst w) c d = ap body.Subst (subst_unique depth ts v w c.0 d.0)
body_unique depth ts (body.Subst v) (body.Either u w) c d = absurd (c.1 u d.0)
body_unique depth ts (body.Either t v) (body.Formula u) c d = absurd (d.1 v c.1)
body_unique depth ts (body.Either t v) (body.Subst w) c d = absurd (d.1 t c.0)
body_unique depth ts (body.Either t v) (body.Either u w) c d =
    ap (λ z. body.Either z v) (written_unique ts t u c.0 d.0) ∙ ap (λ z. body.Either u z) (subst_unique depth ts v w c.1 d.1)

definitions_unique : (depth : ℕ) → IsUnique (IsDefinitions depth)
definitions_unique depth =
    list_unique
    (cut_before word.Semicolon)
    (IsDefinition depth)
    (made_unique grammar.definition (IsParted (cut_at word.Defined) IsHeader (λ s. IsBody depth)) (parted_unique (cut_at word.Defined) IsHeader (λ s. IsBody depth) header_unique (λ s. body_unique depth)))

called_unique : (depth : ℕ) (rs : List Bound) → IsUnique (IsCalled depth rs)
called_unique depth rs =
    made_unique (grammar.operation rs) (IsParted (cut_at word.Equal) IsHeader (λ s. IsSubst depth)) (parted_unique (cut_at word.Equal) IsHeader (λ s. IsSubst depth) header_unique (λ s. subst_unique depth))

operation_unique : (depth : ℕ) → IsUnique (IsOperation depth)
operation_unique depth ts x y c d = go (cut_at word.Results ts).0 (cut_at word.Results ts).1 c d
  where
    go : (front : List Piece) (q : Next) → IsOperationBy depth ts front q x → IsOperationBy depth ts front q y → x ≡ y
    go front None c d = called_unique depth [] ts x y c d
    go front (Some p) c d =
        let same : c.0 ≡ d.0 = names_unique front c.0 d.0 c.1 d.1 in
        called_unique depth d.0 p.1 x y (subst (λ rs. IsCalled depth rs p.1 x) same c.2) d.2

clause_of_unique : (depth : ℕ) (w : Word) (p : Place) → IsUnique (grammar.IsClauseOf depth w p)
clause_of_unique depth word.Sets p = made_unique (clause.Sets p) (IsList (cut_at word.Semicolon) IsSetDecl) (list_unique (cut_at word.Semicolon) IsSetDecl set_unique)
clause_of_unique depth word.Constants p = made_unique (clause.Constants p) IsNames names_unique
clause_of_unique depth word.AbstractConstants p = made_unique (clause.AbstractConstants p) IsNames names_unique
clause_of_unique depth word.Properties p = made_unique (clause.Properties p) IsWritten written_unique
clause_of_unique depth word.Variables p = made_unique (clause.Variables p) IsNames names_unique
clause_of_unique depth word.ConcreteVariables p = made_unique (clause.ConcreteVariables p) IsNames names_unique
clause_of_unique depth word.Invariant p = made_unique (clause.Invariant p) IsWritten written_unique
clause_of_unique depth word.Assertions p = made_unique (clause.Assertions p) (IsList (cut_at word.Semicolon) IsWritten) (list_unique (cut_at word.Semicolon) IsWritten written_unique)
clause_of_unique depth word.Definitions p = made_unique (clause.Definitions p) (IsDefinitions depth) (definitions_unique depth)
clause_of_unique depth word.Initialisation p = made_unique (clause.Initialisation p) (IsSubst depth) (subst_unique depth)
clause_of_unique depth word.Operations p =
    made_unique (clause.Operations p) (IsList (cut_at word.Semicolon) (IsOperation depth)) (list_unique (cut_at word.Semicolon) (IsOperation depth) (operation_unique depth))
clause_of_unique depth w p = never_unique

clause_unique : (depth : ℕ) (s : Piece) → IsUnique (IsClause depth s)
clause_unique depth s = clause_of_unique depth s.0 (place s)

pub machine_unique : (ts : List Piece) (m n : MachineTree) → IsMachine ts m → IsMachine ts n → m ≡ n
machine_unique ts m n c d =
    enclosed_unique
    word.Machine
    (cut_at word.End)
    (IsMade grammar.machine (IsRow (cut at.Clause) IsName (IsClause (length ts))))
    (made_unique grammar.machine (IsRow (cut at.Clause) IsName (IsClause (length ts))) (row_unique (cut at.Clause) IsName (IsClause (length ts)) name_unique (clause_unique (length ts))))
    ts
    m
    n
    c
    d
