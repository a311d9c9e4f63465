-- A reading within a budget.
use Rattle.std.proofs.Common.{◌≡◌, ◌≢◌, ◌≤◌, ◌<◌, ◌+◌, ◌-◌, ◌⊎◌, ℕ, zero, suc, Bool, true, false, ◌||◌, List, length, arith, refl, sym, ap, ◌∙◌, subst, inl, inr, Option, Some, None}
use Rattle.b_values.specs.declared.types.Ty.{Ty}
use Rattle.b_values.specs.declared.types.Ty.TheVariants.{Pair, Set}
use Rattle.type_table.specs.declared.rows.Basic.{Basic}
use Rattle.type_table.specs.declared.rows.Basic.TheVariants as basic
use Rattle.type_table.specs.declared.rows.Row.{Row}
use Rattle.type_table.specs.declared.rows.Row.TheVariants as row
use Rattle.type_table.specs.Types.{type_nodes, basic_type}
use Rattle.type_table.specs.TypeLaws.{nodes-Set, nodes-Pair, nodes-basic, nodes_some}
use Rattle.type_table.specs.Tables.{Typing, Fits, row_at, Solves, IsTable, EndsAt, Reads, open_part, basic_part, set_part, pair_part, Occurs, here, in_set, in_first, in_second}
use Rattle.type_table.specs.TableLaws.{least_nodes}
use Rattle.type_count.specs.declared.counting.Rest.{Rest}
use Rattle.type_count.specs.Typings.{never}
use Rattle.type_count.specs.Spending.{given, OpenIn, Spent, Spends}

pub nothing_left : (rows : List Row) (i budget : ℕ) → budget ≡ 0 → Spends rows i budget None
nothing_left rows i budget e s sol = let p = nodes_some (s i) in omega arith

numbers : ℕ → Ty
numbers k = basic_type basic.Int

number_nodes : (k : ℕ) → type_nodes (numbers k) ≡ 1
unfolding numbers
number_nodes k = nodes-basic basic.Int

given_nodes : (k : ℕ) (t : Ty) → given numbers k ≡ Some t → type_nodes t ≡ 1
given_nodes k t e = let h : numbers k ≡ t = cc in sym (ap type_nodes h) ∙ number_nodes k

-- a part that is read within a budget has at least as many nodes in each solution
pub spent_least : (rows : List Row) (i budget left : ℕ) (o : Bool) → Spent rows i budget left o → (s : Typing) → Solves s rows → budget ≤ left + type_nodes (s i)
spent_least rows i budget left o f s sol =
    let a = f.reads numbers number_nodes in
    let b = least_nodes rows (given numbers) given_nodes s sol i a.0 a.1 in
    let v = f.sum in
    let w = a.2 in
    omega arith

module _ (rows : List Row) (i end budget : ℕ) (at : EndsAt rows i end) (some : 1 ≤ budget) where
  pub at_open : row_at rows end ≡ row.Open → Spent rows i budget (budget - 1) true
  at_open e = record {
    nodes = 1;
    sum = omega arith;
    some = omega arith;
    reads = λ d one. (d end, at.reads (given d) (d end) (open_part (d end) e refl), one end);
    opens = (end, e, at.occurs end here);
  }

  pub at_basic : (b : Basic) → row_at rows end ≡ row.Basic b → Spent rows i budget (budget - 1) false
  at_basic b e = record {
    nodes = 1;
    sum = omega arith;
    some = omega arith;
    reads = λ d one. (basic_type b, at.reads (given d) (basic_type b) (basic_part b e), nodes-basic b);
    opens = (basic_type b, at.reads never (basic_type b) (basic_part b e));
  }

  opens_set : (j : ℕ) → row_at rows end ≡ row.Set j → (b : Bool) → OpenIn rows j b → OpenIn rows i b
  opens_set j e true o = (o.0, o.1, at.occurs o.0 (in_set j e o.2))
  opens_set j e false o = (Set o.0, at.reads never (Set o.0) (set_part j o.0 e o.1))

  at_set_none : (j : ℕ) → row_at rows end ≡ row.Set j → Spends rows j (budget - 1) None → Spends rows i budget None
  unfolding Solves
  at_set_none j e f s sol =
      let g = f s sol in
      let h = ap type_nodes (at.same s sol ∙ subst (Fits s (s end)) e (sol end)) in
      let n = nodes-Set (s j) in
      omega arith

  at_set_some : (j left : ℕ) (o : Bool) → row_at rows end ≡ row.Set j → Spent rows j (budget - 1) left o → Spent rows i budget left o
  at_set_some j left o e f = record {
    nodes = f.nodes + 1;
    sum = (let g = f.sum in omega arith);
    some = omega arith;
    reads = λ d one. let g = f.reads d one in (Set g.0, at.reads (given d) (Set g.0) (set_part j g.0 e g.1), (let h = g.2 in let n = nodes-Set g.0 in omega arith));
    opens = opens_set j e o f.opens;
  }

  pub at_set : (j : ℕ) → row_at rows end ≡ row.Set j → (r : Option Rest) → Spends rows j (budget - 1) r → Spends rows i budget r
  at_set j e None f = at_set_none j e f
  at_set j e (Some r) f = at_set_some j r.left r.open e f

  pub at_pair_first : (j k : ℕ) → row_at rows end ≡ row.Pair j k → Spends rows j (budget - 1) None → Spends rows i budget None
  unfolding Solves
  at_pair_first j k e f s sol =
      let g = f s sol in
      let h = ap type_nodes (at.same s sol ∙ subst (Fits s (s end)) e (sol end)) in
      let n = nodes-Pair (s j) (s k) in
      omega arith

  pub at_pair_second : (j k left : ℕ) (one : Bool) → row_at rows end ≡ row.Pair j k → Spent rows j (budget - 1) left one → Spends rows k left None → Spends rows i budget None
  unfolding Solves
  at_pair_second j k left one e f g s sol =
      let b = spent_least rows j (budget - 1) left one f s sol in
      let c = g s sol in
      let u = ap type_nodes (at.same s sol ∙ subst (Fits s (s end)) e (sol end)) in
      let n = nodes-Pair (s j) (s k) in
      omega arith

  opens_pair : (j k : ℕ) → row_at rows end ≡ row.Pair j k → (b c : Bool) → OpenIn rows j b → OpenIn rows k c → OpenIn rows i (b || c)
  opens_pair j k e true c o p = (o.0, o.1, at.occurs o.0 (in_first j k e o.2))
  opens_pair j k e false true o p = (p.0, p.1, at.occurs p.0 (in_second j k e p.2))
  opens_pair j k e false false o p = (Pair o.0 p.0, at.reads never (Pair o.0 p.0) (pair_part j k o.0 p.0 e o.1 p.1))

  pub at_pair : (j k left rest : ℕ) (one other : Bool) → row_at rows end ≡ row.Pair j k → Spent rows j (budget - 1) left one → Spent rows k left rest other → Spent rows i budget rest (one || other)
  at_pair j k left rest one other e f g = record {
    nodes = f.nodes + g.nodes + 1;
    sum = (let a = f.sum in let b = g.sum in omega arith);
    some = omega arith;
    reads = λ d h. let a = f.reads d h in let b = g.reads d h in (
      Pair a.0 b.0,
      at.reads (given d) (Pair a.0 b.0) (pair_part j k a.0 b.0 e a.1 b.1),
      (let c = a.2 in let u = b.2 in let n = nodes-Pair a.0 b.0 in omega arith),
    );
    opens = opens_pair j k e one other f.opens g.opens;
  }

  pub at_pair_one : (j k left rest : ℕ) (one other : Bool) → row_at rows end ≡ row.Pair j k → one ≡ true → Spent rows j (budget - 1) left one → Spent rows k left rest other → Spent rows i budget rest one
  at_pair_one j k left rest one other e h f g = subst (Spent rows i budget rest) (ap (λ b. b || other) h ∙ sym h) (at_pair j k left rest one other e f g)

  pub at_pair_other : (j k left rest : ℕ) (one other : Bool) → row_at rows end ≡ row.Pair j k → one ≡ false → Spent rows j (budget - 1) left one → Spent rows k left rest other → Spent rows i budget rest other
  at_pair_other j k left rest one other e h f g = subst (Spent rows i budget rest) (ap (λ b. b || other) h) (at_pair j k left rest one other e f g)
