use Rattle.std.proofs.Common.{◌≡◌, ◌+◌, length, ap, ◌∙◌}
use Rattle.type_schemes.specs.declared.rules.Rule.TheVariants as rule
use Rattle.type_demands.specs.Scopes.{bind, names_of, scope_of}
use Rattle.type_demands.specs.Demands.{said, obeying, twice, bound_parts, bound_demands, tuple_parts, tuple_whole, tuple_demands, true_or_false}
use Rattle.type_demands.proofs.Tellings.{told_bound, told_last, told_plain, told_plain_last}
use Rattle.type_demands.proofs.telling.+walk.Goals as goal

pub walk_bound-returns-clause-demands : goal.walk_bound-returns-clause-demands
walk_bound-returns-clause-demands t c =
    told_bound c.args.out.now.items c.enter.new.out.items c.walk_predicate.new.out.items (twice c.args.names.now) (bound_demands c.args.coupled c.args.names.now (c.args.next.now + 1)) (true_or_false (said c.args.p.now))
    (scope_of c.enter.new.frames.items) (bind (names_of c.args.names.now) (c.args.next.now + 1) (scope_of c.args.frames.now.items)) c.enter.new.next (c.args.next.now + 1 + bound_parts c.args.coupled c.args.names.now)
    c.in_ok-entered.ensures.demands c.in_ok-entered.ensures.scope c.in_ok-entered.ensures.parts c.in_ok-walk_predicate.ensures.demands

pub walk_comprehension-returns-clause-demands : goal.walk_comprehension-returns-clause-demands
walk_comprehension-returns-clause-demands t c =
    let names = c.args.names.now in
    let n = c.args.next.now in
    let tuple = tuple_whole c.args.names.now (c.args.next.now + 1) in
    told_last c.args.out.now.items c.walk_bound.new.out.items c.keep_one.new.out.items (twice names) (tuple_demands names (n + 1))
    (true_or_false (said c.args.p.now) (bind (names_of names) (n + 1) (scope_of c.args.frames.now.items)) (n + 1 + tuple_parts names))
    (obeying rule.Singleton c.in_ok-bound.bound.tuple c.in_ok-bound.bound.tuple c.in_ok-bound.bound.whole) (obeying rule.Singleton tuple tuple n)
    c.in_ok-bound.ensures.demands
    (ap (λ k. obeying rule.Singleton k k c.in_ok-bound.bound.whole) c.in_ok-bound.ensures.tuple ∙ ap (obeying rule.Singleton tuple tuple) c.in_ok-bound.ensures.whole)
    c.in_ok-keep_one.ensures

pub walk_quantified-returns-clause-demands : goal.walk_quantified-returns-clause-demands
walk_quantified-returns-clause-demands t c =
    let names = c.args.names.now in
    let n = c.args.next.now in
    let at = c.args.next.now + 1 + length c.args.names.now in
    let inner = bind (names_of c.args.names.now) (c.args.next.now + 1) (scope_of c.args.frames.now.items) in
    let body = (said c.args.p.now).whole (c.args.next.now + 1 + length c.args.names.now) in
    told_plain_last c.args.out.now.items c.walk.new.out.items c.keep_one.new.out.items (twice names) ((said c.args.p.now).demands inner at)
    (obeying rule.Predicate c.in_ok-body.body c.in_ok-body.body c.in_ok-bound.bound.whole) (obeying rule.Predicate body body n)
    (told_plain c.args.out.now.items c.enter.new.out.items c.walk.new.out.items (twice names) (said c.args.p.now).demands (scope_of c.enter.new.frames.items) inner c.enter.new.next at
    c.in_ok-bound.ensures.demands c.in_ok-bound.ensures.scope c.in_ok-bound.ensures.parts c.in_ok-body.ensures.demands)
    (ap (λ k. obeying rule.Predicate k k c.in_ok-bound.bound.whole) (c.in_ok-body.ensures.whole ∙ ap (said c.args.p.now).whole c.in_ok-bound.ensures.parts) ∙ ap (obeying rule.Predicate body body) c.in_ok-bound.ensures.whole)
    c.in_ok-keep_one.ensures
