use Rattle.std.proofs.Common.{◌≡◌, ◌-◌, ◌∙◌, [], ◌∷◌, Some, None, suc, List, Option, sym, ap, refl, arith}
use Rattle.std.proofs.lemmas.Result.{err_from_is_err_and}
use Rattle.b_ast.specs.declared.machine.Guard.TheVariants as guard
use Rattle.b_machine_grammar.specs.declared.words.Word.TheVariants as word
use Rattle.b_machine_grammar.specs.declared.words.Separator.TheVariants as at
use Rattle.b_machine_grammar.specs.Cuts.{Piece, cut, cut_at, IsParted, IsRow}
use Rattle.b_machine_grammar.specs.Grammar.{chain, branch, case_branch, step, IsWritten, IsWrittenList, IsNames, IsBranch, IsCaseBranch, IsStep}
use Rattle.b_stretches.specs.Stretches.{pieces, next_of}
use Rattle.b_stretches.proofs.Reading.{made_fails, parted_none, ended_none, ended_on, enclosed_none, enclosed_on, list_begin, list_end, left_less, follow_less, follow_begin, follow_end}
use Rattle.b_read_subst.specs.Blocks.{inside, IsPart, IsBlock, IsGuarded, AreBranches, AreAllBranches, AreChoices, IsLabelled, AreCaseBranches, AreAllCaseBranches, AreAlternatives}
use Rattle.b_read_subst.specs.Making.{guarded, conditional, select, casing, any, block, choice}
use Rattle.b_stretches.proofs.Answering.{made_on, parted_pair, parted_if_pair, row_pair, list_push, list_unpushed, follow_push, follow_unpushed, otherwise_on}
use Rattle.b_read_subst.proofs.Lets.{let_no_be, let_no_in, let_on}
use Rattle.b_read_subst.proofs.Laws.{subst_answers, inside_none, inside_less, part_skip, part_block, part_simple, part_none, block_is, block_other}
use Rattle.b_read_subst.proofs.+reading.Goals as goal

pub subst-returns : goal.subst-returns
subst-returns t c = subst_answers c.args.depth (pieces c.args.s) c.chained.result (made_on chain (IsRow (cut at.Joint) (IsPart c.args.depth) (IsStep (inside c.args.depth))) (pieces c.args.s) c.pair-parts.result c.chained.result c.chained.ensures (row_pair (cut at.Joint) (IsPart c.args.depth) (IsStep (inside c.args.depth)) (pieces c.args.s) c.cut-split.result c.cut-split.ensures c.part.result c.steps.result c.pair-parts.result c.pair-parts.ensures c.part.ensures c.steps.ensures))

pub steps-loop-rest-init : goal.steps-loop-rest-init
steps-loop-rest-init t c = rw c.new-all.ensures (follow_begin (cut at.Joint) (IsStep (inside c.args.depth)) (next_of c.args.next))

pub steps-loop-rest-preserved : goal.steps-loop-rest-preserved
steps-loop-rest-preserved t c =
    let p : Piece × List Piece = ((c.in-Some.word, c.in-Some.lexeme.now), pieces c.in-Some.more) in
    follow_push (cut at.Joint) (IsStep (inside c.args.depth)) (next_of c.args.next) c.loop-rest.all p c.cut-split.result (rw c.in-Some.is at c.loop-rest.invariant) c.cut-split.ensures c.step_of-step.result c.in_ok-push_read.ensures (made_on (step p.0) (IsPart c.args.depth) (pieces c.cut-split.result.front) c.part.result c.step_of-step.result c.step_of-step.ensures c.part.ensures)

pub steps-loop-rest-smaller : goal.steps-loop-rest-smaller
steps-loop-rest-smaller t c =
    let p : Piece × List Piece = ((c.in-Some.word, c.in-Some.lexeme.now), pieces c.in-Some.more) in
    rw c.in-Some.is (follow_less at.Joint p c.cut-split.result c.cut-split.ensures)

pub steps-returns : goal.steps-returns
steps-returns t c = follow_end (cut at.Joint) (IsStep (inside c.args.depth)) (next_of c.args.next) c.loop-rest.all (rw c.in_default.is at c.loop-rest.invariant)

pub steps-returns-in_err-push_read : goal.steps-returns-in_err-push_read
steps-returns-in_err-push_read t c =
    let p : Piece × List Piece = ((c.in-Some.word, c.in-Some.lexeme.now), pieces c.in-Some.more) in
    let q = err_from_is_err_and c.from_residual.result c.from_residual.ensures.1 in
    rw (q.1, q.2) (follow_unpushed (cut at.Joint) (IsStep (inside c.args.depth)) (next_of c.args.next) c.loop-rest.all p c.cut-split.result (rw c.in-Some.is at c.loop-rest.invariant) c.cut-split.ensures _ c.in_err-push_read.field-0.0 c.step_of-step.result c.in_err-push_read.ensures (made_on (step p.0) (IsPart c.args.depth) (pieces c.cut-split.result.front) c.part.result c.step_of-step.result c.step_of-step.ensures c.part.ensures))

pub part-returns-in-None : goal.part-returns-in-None
part-returns-in-None t c = part_none (inside c.args.depth) (pieces c.args.s) c.stuck.result c.in-None.ensures c.stuck.ensures

pub part-returns-then-is_word : goal.part-returns-then-is_word
part-returns-then-is_word t c = part_skip (inside c.args.depth) (pieces c.args.s) (c.in-Some.word, c.in-Some.lexeme.now) (pieces c.in-Some.more) c.in-Some.ensures c.skipped.result (sym c.if-is_word.ensures) c.skipped.ensures

pub part-returns-then-begins_block : goal.part-returns-then-begins_block
part-returns-then-begins_block t c = part_block (inside c.args.depth) (pieces c.args.s) (c.in-Some.word, c.in-Some.lexeme.now) (pieces c.in-Some.more) c.in-Some.ensures c.ended_block.result (sym c.if-is_word.ensures) (sym c.if-begins_block.ensures) c.ended_block.ensures

pub part-returns-else-begins_block : goal.part-returns-else-begins_block
part-returns-else-begins_block t c = part_simple (inside c.args.depth) (pieces c.args.s) (c.in-Some.word, c.in-Some.lexeme.now) (pieces c.in-Some.more) c.in-Some.ensures c.simple_subst.result (sym c.if-is_word.ensures) (sym c.if-begins_block.ensures) c.simple_subst.ensures

pub ended_block-returns-in_err-content : goal.ended_block-returns-in_err-content
ended_block-returns-in_err-content t c =
    let p = err_from_is_err_and c.from_residual.result c.from_residual.ensures.1 in
    rw (p.1, p.2) (ended_none (cut_at word.End) (IsBlock c.args.depth c.args.word c.args.at) (pieces c.args.more) c.in_err-content.field-0.0 c.in_err-content.ensures)

pub ended_block-returns : goal.ended_block-returns
ended_block-returns t c = ended_on (cut_at word.End) (IsBlock c.args.depth c.args.word c.args.at) (pieces c.args.more) c.in_ok-content.content c.block.result c.in_ok-content.ensures c.block.ensures

pub block-returns-in-Begin : goal.block-returns-in-Begin
block-returns-in-Begin t c = block_is (inside c.args.depth) c.args.word word.Begin c.args.at (pieces c.args.s) c.block_of.result c.in-Begin.is (made_on (block c.args.at) (inside c.args.depth) (pieces c.args.s) c.inner.result c.block_of.result c.block_of.ensures c.inner.ensures)

pub block-returns-in-Pre : goal.block-returns-in-Pre
block-returns-in-Pre t c = block_is (inside c.args.depth) c.args.word word.Pre c.args.at (pieces c.args.s) c.guarded_of.result c.in-Pre.is (made_on (guarded c.args.at guard.Pre) (IsGuarded c.args.depth) (pieces c.args.s) c.guarded.result c.guarded_of.result c.guarded_of.ensures c.guarded.ensures)

pub block-returns-in-Assert : goal.block-returns-in-Assert
block-returns-in-Assert t c = block_is (inside c.args.depth) c.args.word word.Assert c.args.at (pieces c.args.s) c.guarded_of-in-Assert.result c.in-Assert.is (made_on (guarded c.args.at guard.Assert) (IsGuarded c.args.depth) (pieces c.args.s) c.guarded-in-Assert.result c.guarded_of-in-Assert.result c.guarded_of-in-Assert.ensures c.guarded-in-Assert.ensures)

pub block-returns-in-If : goal.block-returns-in-If
block-returns-in-If t c = block_is (inside c.args.depth) c.args.word word.If c.args.at (pieces c.args.s) c.if_of.result c.in-If.is (made_on (conditional c.args.at) (AreAllBranches c.args.depth word.Elsif) (pieces c.args.s) c.all_branches.result c.if_of.result c.if_of.ensures c.all_branches.ensures)

pub block-returns-in-Select : goal.block-returns-in-Select
block-returns-in-Select t c = block_is (inside c.args.depth) c.args.word word.Select c.args.at (pieces c.args.s) c.select_of.result c.in-Select.is (made_on (select c.args.at) (AreAllBranches c.args.depth word.When) (pieces c.args.s) c.all_branches-in-Select.result c.select_of.result c.select_of.ensures c.all_branches-in-Select.ensures)

pub block-returns-in-Choice : goal.block-returns-in-Choice
block-returns-in-Choice t c = block_is (inside c.args.depth) c.args.word word.Choice c.args.at (pieces c.args.s) c.choice_of.result c.in-Choice.is (made_on (choice c.args.at) (AreChoices c.args.depth) (pieces c.args.s) c.choices.result c.choice_of.result c.choice_of.ensures c.choices.ensures)

pub block-returns-in-Case : goal.block-returns-in-Case
block-returns-in-Case t c = block_is (inside c.args.depth) c.args.word word.Case c.args.at (pieces c.args.s) c.case.result c.in-Case.is c.case.ensures

pub block-returns-in-Any : goal.block-returns-in-Any
block-returns-in-Any t c = block_is (inside c.args.depth) c.args.word word.Any c.args.at (pieces c.args.s) c.any.result c.in-Any.is c.any.ensures

pub block-returns-in-Let : goal.block-returns-in-Let
block-returns-in-Let t c = block_is (inside c.args.depth) c.args.word word.Let c.args.at (pieces c.args.s) c.fixing.result c.in-Let.is c.fixing.ensures

pub block-returns-in_default : goal.block-returns-in_default
block-returns-in_default t c = block_other (inside c.args.depth) c.args.word c.args.at (pieces c.args.s) c.stuck.result c.stuck.ensures c.in_default.not-Begin c.in_default.not-Pre c.in_default.not-Assert c.in_default.not-If c.in_default.not-Select c.in_default.not-Choice c.in_default.not-Case c.in_default.not-Any c.in_default.not-Let

pub inner-returns-then-depth-eq0 : goal.inner-returns-then-depth-eq0
inner-returns-then-depth-eq0 t c = inside_none c.args.depth (pieces c.args.s) c.stuck.result c.if-depth-eq0.true c.stuck.ensures

pub inner-returns-else-depth-eq0 : goal.inner-returns-else-depth-eq0
inner-returns-else-depth-eq0 t c = let deeper : c.args.depth ≡ suc (c.args.depth - 1) = omega (arith, c.if-depth-eq0.false) in inside_less c.args.depth (c.args.depth - 1) (pieces c.args.s) c.subst.result deeper c.subst.ensures

pub guarded-returns-in_err-front : goal.guarded-returns-in_err-front
guarded-returns-in_err-front t c =
    let p = err_from_is_err_and c.from_residual.result c.from_residual.ensures.1 in
    rw (p.1, p.2) (parted_none (cut_at word.Then) IsWritten (inside c.args.depth) (pieces c.args.s) c.in_err-front.field-0.0 c.in_err-front.ensures)

pub guarded-returns : goal.guarded-returns
guarded-returns t c = parted_pair (cut_at word.Then) IsWritten (inside c.args.depth) (pieces c.args.s) c.in_ok-front.front c.in_ok-front.back c.in_ok-front.ensures c.written.result c.inner.result c.pair.result c.pair.ensures c.written.ensures c.inner.ensures

pub labelled-returns-in_err-front : goal.labelled-returns-in_err-front
labelled-returns-in_err-front t c =
    let p = err_from_is_err_and c.from_residual.result c.from_residual.ensures.1 in
    rw (p.1, p.2) (parted_none (cut_at word.Then) IsWrittenList (inside c.args.depth) (pieces c.args.s) c.in_err-front.field-0.0 c.in_err-front.ensures)

pub labelled-returns : goal.labelled-returns
labelled-returns t c = parted_pair (cut_at word.Then) IsWrittenList (inside c.args.depth) (pieces c.args.s) c.in_ok-front.front c.in_ok-front.back c.in_ok-front.ensures c.written_list.result c.inner.result c.pair.result c.pair.ensures c.written_list.ensures c.inner.ensures

pub case-returns-in_err-front : goal.case-returns-in_err-front
case-returns-in_err-front t c =
    let p = err_from_is_err_and c.from_residual.result c.from_residual.ensures.1 in
    rw (p.1, p.2) (made_fails (casing c.args.at) (IsParted (cut_at word.Of) IsWritten (λ s. (AreAlternatives c.args.depth))) (pieces c.args.s) c.in_err-front.field-0.0 (parted_none (cut_at word.Of) IsWritten (AreAlternatives c.args.depth) (pieces c.args.s) c.in_err-front.field-0.0 c.in_err-front.ensures))

pub case-returns : goal.case-returns
case-returns t c = made_on (casing c.args.at) (IsParted (cut_at word.Of) IsWritten (λ s. (AreAlternatives c.args.depth))) (pieces c.args.s) c.pair-parts.result c.case_of.result c.case_of.ensures (parted_pair (cut_at word.Of) IsWritten (AreAlternatives c.args.depth) (pieces c.args.s) c.in_ok-front.front c.in_ok-front.back c.in_ok-front.ensures c.written.result c.alternatives.result c.pair-parts.result c.pair-parts.ensures c.written.ensures c.alternatives.ensures)

pub any-returns-in_err-front : goal.any-returns-in_err-front
any-returns-in_err-front t c =
    let p = err_from_is_err_and c.from_residual.result c.from_residual.ensures.1 in
    rw (p.1, p.2) (made_fails (any c.args.at) (IsParted (cut_at word.Where) IsNames (λ s. (IsGuarded c.args.depth))) (pieces c.args.s) c.in_err-front.field-0.0 (parted_none (cut_at word.Where) IsNames (IsGuarded c.args.depth) (pieces c.args.s) c.in_err-front.field-0.0 c.in_err-front.ensures))

pub any-returns : goal.any-returns
any-returns t c = made_on (any c.args.at) (IsParted (cut_at word.Where) IsNames (λ s. (IsGuarded c.args.depth))) (pieces c.args.s) c.pair-parts.result c.any_of.result c.any_of.ensures (parted_pair (cut_at word.Where) IsNames (IsGuarded c.args.depth) (pieces c.args.s) c.in_ok-front.front c.in_ok-front.back c.in_ok-front.ensures c.names.result c.guarded.result c.pair-parts.result c.pair-parts.ensures c.names.ensures c.guarded.ensures)

pub fixing-returns-in_err-front : goal.fixing-returns-in_err-front
fixing-returns-in_err-front t c =
    let p = err_from_is_err_and c.from_residual.result c.from_residual.ensures.1 in
    rw (p.1, p.2) (let_no_be (inside c.args.depth) c.args.at (pieces c.args.s) c.in_err-front.field-0.0 c.in_err-front.ensures)

pub fixing-returns-in_err-middle : goal.fixing-returns-in_err-middle
fixing-returns-in_err-middle t c =
    let p = err_from_is_err_and c.from_residual-in_err-middle.result c.from_residual-in_err-middle.ensures.1 in
    rw (p.1, p.2) (let_no_in (inside c.args.depth) c.args.at (pieces c.args.s) c.in_ok-front.front c.in_ok-front.back c.in_ok-front.ensures c.in_err-middle.field-0.0 c.in_err-middle.ensures)

pub fixing-returns : goal.fixing-returns
fixing-returns t c = let_on (inside c.args.depth) c.args.at (pieces c.args.s) c.in_ok-front.front c.in_ok-front.back c.in_ok-front.ensures c.in_ok-middle.middle c.in_ok-middle.end c.in_ok-middle.ensures c.fixed.result c.inner.result c.pair-parts.result c.let_of.result c.pair-parts.ensures c.let_of.ensures c.fixed.ensures c.inner.ensures

pub branches-loop-rest-init : goal.branches-loop-rest-init
branches-loop-rest-init t c = rw c.new-all.ensures (list_begin (cut_at c.args.word) (IsBranch (inside c.args.depth)) c.args.s)

pub branches-loop-rest-preserved : goal.branches-loop-rest-preserved
branches-loop-rest-preserved t c = rw c.behind-rest.ensures (list_push (cut_at c.args.word) (IsBranch (inside c.args.depth)) (pieces c.args.s) c.loop-rest.all c.in-Some.part c.cut_at-split.result (rw c.in-Some.is at c.loop-rest.invariant) c.cut_at-split.ensures c.branch_of-branch.result c.in_ok-push_read.ensures (made_on branch (IsGuarded c.args.depth) (pieces c.cut_at-split.result.front) c.guarded.result c.branch_of-branch.result c.branch_of-branch.ensures c.guarded.ensures))

pub branches-loop-rest-smaller : goal.branches-loop-rest-smaller
branches-loop-rest-smaller t c = rw (c.behind-rest.ensures, c.in-Some.is) (left_less (at.At c.args.word) c.in-Some.part c.cut_at-split.result c.cut_at-split.ensures)

pub branches-returns : goal.branches-returns
branches-returns t c = list_end (cut_at c.args.word) (IsBranch (inside c.args.depth)) (pieces c.args.s) c.loop-rest.all (rw c.in_default.is at c.loop-rest.invariant)

pub branches-returns-in_err-push_read : goal.branches-returns-in_err-push_read
branches-returns-in_err-push_read t c =
    let p = err_from_is_err_and c.from_residual.result c.from_residual.ensures.1 in
    rw (p.1, p.2) (list_unpushed (cut_at c.args.word) (IsBranch (inside c.args.depth)) (pieces c.args.s) c.loop-rest.all c.in-Some.part c.cut_at-split.result (rw c.in-Some.is at c.loop-rest.invariant) c.cut_at-split.ensures _ c.in_err-push_read.field-0.0 c.branch_of-branch.result c.in_err-push_read.ensures (made_on branch (IsGuarded c.args.depth) (pieces c.cut_at-split.result.front) c.guarded.result c.branch_of-branch.result c.branch_of-branch.ensures c.guarded.ensures))

pub case_branches-loop-rest-init : goal.case_branches-loop-rest-init
case_branches-loop-rest-init t c = rw c.new-all.ensures (list_begin (cut_at word.Or) (IsCaseBranch (inside c.args.depth)) c.args.s)

pub case_branches-loop-rest-preserved : goal.case_branches-loop-rest-preserved
case_branches-loop-rest-preserved t c = rw c.behind-rest.ensures (list_push (cut_at word.Or) (IsCaseBranch (inside c.args.depth)) (pieces c.args.s) c.loop-rest.all c.in-Some.part c.cut_at-split.result (rw c.in-Some.is at c.loop-rest.invariant) c.cut_at-split.ensures c.case_branch_of-branch.result c.in_ok-push_read.ensures (made_on case_branch (IsLabelled c.args.depth) (pieces c.cut_at-split.result.front) c.labelled.result c.case_branch_of-branch.result c.case_branch_of-branch.ensures c.labelled.ensures))

pub case_branches-loop-rest-smaller : goal.case_branches-loop-rest-smaller
case_branches-loop-rest-smaller t c = rw (c.behind-rest.ensures, c.in-Some.is) (left_less (at.At word.Or) c.in-Some.part c.cut_at-split.result c.cut_at-split.ensures)

pub case_branches-returns : goal.case_branches-returns
case_branches-returns t c = list_end (cut_at word.Or) (IsCaseBranch (inside c.args.depth)) (pieces c.args.s) c.loop-rest.all (rw c.in_default.is at c.loop-rest.invariant)

pub case_branches-returns-in_err-push_read : goal.case_branches-returns-in_err-push_read
case_branches-returns-in_err-push_read t c =
    let p = err_from_is_err_and c.from_residual.result c.from_residual.ensures.1 in
    rw (p.1, p.2) (list_unpushed (cut_at word.Or) (IsCaseBranch (inside c.args.depth)) (pieces c.args.s) c.loop-rest.all c.in-Some.part c.cut_at-split.result (rw c.in-Some.is at c.loop-rest.invariant) c.cut_at-split.ensures _ c.in_err-push_read.field-0.0 c.case_branch_of-branch.result c.in_err-push_read.ensures (made_on case_branch (IsLabelled c.args.depth) (pieces c.cut_at-split.result.front) c.labelled.result c.case_branch_of-branch.result c.case_branch_of-branch.ensures c.labelled.ensures))

pub choices-loop-rest-init : goal.choices-loop-rest-init
choices-loop-rest-init t c = rw c.new-all.ensures (list_begin (cut_at word.Or) (inside c.args.depth) c.args.s)

pub choices-loop-rest-preserved : goal.choices-loop-rest-preserved
choices-loop-rest-preserved t c = rw c.behind-rest.ensures (list_push (cut_at word.Or) (inside c.args.depth) (pieces c.args.s) c.loop-rest.all c.in-Some.part c.cut_at-split.result (rw c.in-Some.is at c.loop-rest.invariant) c.cut_at-split.ensures c.inner-one.result c.in_ok-push_read.ensures c.inner-one.ensures)

pub choices-loop-rest-smaller : goal.choices-loop-rest-smaller
choices-loop-rest-smaller t c = rw (c.behind-rest.ensures, c.in-Some.is) (left_less (at.At word.Or) c.in-Some.part c.cut_at-split.result c.cut_at-split.ensures)

pub choices-returns : goal.choices-returns
choices-returns t c = list_end (cut_at word.Or) (inside c.args.depth) (pieces c.args.s) c.loop-rest.all (rw c.in_default.is at c.loop-rest.invariant)

pub choices-returns-in_err-push_read : goal.choices-returns-in_err-push_read
choices-returns-in_err-push_read t c =
    let p = err_from_is_err_and c.from_residual.result c.from_residual.ensures.1 in
    rw (p.1, p.2) (list_unpushed (cut_at word.Or) (inside c.args.depth) (pieces c.args.s) c.loop-rest.all c.in-Some.part c.cut_at-split.result (rw c.in-Some.is at c.loop-rest.invariant) c.cut_at-split.ensures _ c.in_err-push_read.field-0.0 c.inner-one.result c.in_err-push_read.ensures c.inner-one.ensures)

pub otherwise-returns-in-Some : goal.otherwise-returns-in-Some
otherwise-returns-in-Some t c = otherwise_on (inside c.args.depth) ((c.in-Some.field-0-0, c.in-Some.field-0-1.now), pieces c.in-Some.back) (next_of c.args.next) (ap next_of c.in-Some.is) c.inner.result c.some_of.result c.some_of.ensures c.inner.ensures

pub all_branches-returns : goal.all_branches-returns
all_branches-returns t c = parted_if_pair (cut_at word.Else) (AreBranches c.args.depth c.args.word) (λ s. inside c.args.depth) (pieces c.args.s) c.cut_at-split.result c.cut_at-split.ensures c.branches.result c.otherwise.result c.pair.result c.pair.ensures c.branches.ensures c.otherwise.ensures

pub all_case_branches-returns : goal.all_case_branches-returns
all_case_branches-returns t c = parted_if_pair (cut_at word.Else) (AreCaseBranches c.args.depth) (λ s. inside c.args.depth) (pieces c.args.s) c.cut_at-split.result c.cut_at-split.ensures c.case_branches.result c.otherwise.result c.pair.result c.pair.ensures c.case_branches.ensures c.otherwise.ensures

pub alternatives-returns-in_err-content : goal.alternatives-returns-in_err-content
alternatives-returns-in_err-content t c =
    let p = err_from_is_err_and c.from_residual.result c.from_residual.ensures.1 in
    rw (p.1, p.2) (enclosed_none word.Either (cut_at word.End) (AreAllCaseBranches c.args.depth) (pieces c.args.s) c.in_err-content.field-0.0 c.in_err-content.ensures)

pub alternatives-returns : goal.alternatives-returns
alternatives-returns t c = enclosed_on word.Either (cut_at word.End) (AreAllCaseBranches c.args.depth) (pieces c.args.s) c.in_ok-content.content c.all_case_branches.result c.in_ok-content.ensures c.all_case_branches.ensures
