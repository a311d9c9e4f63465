use Rattle.std.proofs.Common.{◌++◌, ◌-◌, ◌<◌, length, arith, sym, ap, ◌∙◌}
use Rattle.b_values.specs.Values.{elements}
use Rattle.b_relations.specs.Relations.{closure1_members, compose_members}
use Rattle.b_relations.proofs.ClosureLaws.{grown_whole, step_kept, step_relation, step_shorter, step_answer, step_within, part_fault}
use Rattle.b_relations.proofs.closing.+grown.Goals as goal

pub grown-requires : goal.grown-requires
grown-requires t c =
    let d = c.decreases in
    let h : 1000000 - length (elements c.in-Ok.more) < 1000000 - length (elements c.args.s.now) =
    step_shorter c.args.s.now c.in-Ok.more c.requires.kept c.requires.relation c.in-Ok.ensures (λ q. c.if-members.false (ap length c.members.ensures ∙ q ∙ ap length (sym c.members-in-Ok.ensures))) in
    (omega arith, (step_kept c.args.s.now c.in-Ok.more c.requires.kept c.requires.relation c.in-Ok.ensures, step_relation c.args.s.now c.in-Ok.more c.requires.relation c.in-Ok.ensures))

pub returns-then-members : goal.returns-then-members
returns-then-members t c = grown_whole c.args.s.now c.in-Ok.more c.requires.kept c.requires.relation c.in-Ok.ensures (ap length (sym c.members.ensures) ∙ c.if-members.true ∙ ap length c.members-in-Ok.ensures)

pub returns-else-members : goal.returns-else-members
returns-else-members t c = step_answer c.args.s.now c.in-Ok.more c.grown.result c.requires.relation c.in-Ok.ensures c.grown.ensures

pub returns-in-Err : goal.returns-in-Err
returns-in-Err t c = part_fault (elements c.args.s.now ++ compose_members c.args.s.now c.args.s.now) (closure1_members c.args.s.now) c.in-Err.fault (step_within c.args.s.now c.requires.relation) c.in-Err.ensures
