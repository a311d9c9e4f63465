use Rattle.std.proofs.Common.{rules, ◌≡◌, ◌++◌, ◌∷◌, [], subst, sym}
use Rattle.std.specs.Prelude.{Ok, true}
use Rattle.type_table.specs.Unifying.{Defers}
use Rattle.type_table.proofs.Settling.{defers_two}
use Rattle.type_table.proofs.unifying.defer.Goals as goal

pub returns-in_ok-push-in-Two-2 : goal.returns-in_ok-push-in-Two-2
returns-in_ok-push-in-Two-2 c =
    let mid : c.push-in-Two.new.self.items ≡ c.args.equations.now.items ++ (c.in-Two.r, c.in-Two.t) ∷ [] = search rules in
    let new : c.push-in-Two-2.new.self.items ≡ c.push-in-Two.new.self.items ++ (c.in-Two.p, c.in-Two.q) ∷ [] = search rules in
    subst (λ left. Defers c.args.equations.now.items c.push-in-Two-2.new.self.items left (Ok true)) (sym c.in-Two.is)
    (defers_two c.args.equations.now.items c.push-in-Two.new.self.items c.push-in-Two-2.new.self.items c.in-Two.p c.in-Two.q c.in-Two.r c.in-Two.t mid new)
