use Rattle.std.proofs.Common.{rules, ◌≡◌, ◌++◌, ◌∷◌, [], subst}
use Rattle.std.specs.Prelude.{Ok}
use Rattle.type_table.specs.Unifying.{Defers}
use Rattle.type_table.proofs.Settling.{settling_more}
use Rattle.type_table.proofs.unifying.settle.Goals as goal

pub loop-p-preserved : goal.loop-p-preserved
loop-p-preserved c =
    let popped : c.loop-p.equations.items ≡ c.pop.new.self.items ++ (c.in-Some.p, c.in-Some.q) ∷ [] = search rules in
    let all = subst (λ b. Defers c.pop.new.self.items c.defer.new.equations.items c.merge-left.result (Ok b)) c.if-not-branch.false c.in_ok-defer.ensures in
    settling_more c.args.rows.now c.args.equations.items c.loop-p.rows c.loop-p.equations.items c.pop.new.self.items c.in-Some.p c.in-Some.q popped c.loop-p.invariant
    c.merge-left.new.rows c.merge-left.result c.merge-left.ensures c.defer.new.equations.items all.0
