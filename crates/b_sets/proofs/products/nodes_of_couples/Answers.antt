use Rattle.std.proofs.Common.{◌≤◌, length, arith, sym}
use Rattle.b_sets.proofs.CoupleLaws.{couples_nodes, few_members, first_bound, second_bound}
use Rattle.b_sets.proofs.products.nodes_of_couples.Goals as goal

pub overflow_mul-result : goal.overflow_mul-result
overflow_mul-result c =
    let y : c.nodes_of_all.result ≤ 1000000 = (let e = c.nodes_of_all.ensures in let h = c.requires.right in omega arith) in
    omega (arith, first_bound (length c.args.xs.now) (length c.args.ys.now) c.nodes_of_all.result (few_members _ c.requires.left) (few_members _ c.requires.right) y)

pub overflow_mul-result-2 : goal.overflow_mul-result-2
overflow_mul-result-2 c =
    let x : c.nodes_of_all-2.result ≤ 1000000 = (let e = c.nodes_of_all-2.ensures in let h = c.requires.left in omega arith) in
    omega (arith, second_bound (length c.args.ys.now) c.nodes_of_all-2.result (few_members _ c.requires.right) x)

pub overflow_add-result-2 : goal.overflow_add-result-2
overflow_add-result-2 c =
    let y : c.nodes_of_all.result ≤ 1000000 = (let e = c.nodes_of_all.ensures in let h = c.requires.right in omega arith) in
    let x : c.nodes_of_all-2.result ≤ 1000000 = (let e = c.nodes_of_all-2.ensures in let h = c.requires.left in omega arith) in
    omega (
      arith,
      first_bound (length c.args.xs.now) (length c.args.ys.now) c.nodes_of_all.result (few_members _ c.requires.left) (few_members _ c.requires.right) y,
      second_bound (length c.args.ys.now) c.nodes_of_all-2.result (few_members _ c.requires.right) x,
    )

pub returns : goal.returns
returns c = rw (c.nodes_of_all.ensures, c.nodes_of_all-2.ensures) (sym (couples_nodes _ _))
