-- The descent reads exactly the texts of a machine by its grammar, and a text is one of at most one machine.
use Rattle.std.proofs.Common.{◌≡◌, ◌∙◌, sym, ap, subst, refl, ℕ, suc, ◌+◌, ◌-◌, ◌*◌, ◌^◌, ◌≤◌, ◌<◌, Bool, true, false, not, ◌&&◌, ◌||◌, List, [], ◌∷◌, ◌++◌, length, map, arith, length-append}
use Rattle.std.specs.Prelude.{ℤ, pos, zero, Option, Some, None, codes, if◌then◌else◌}
use Rattle.std.specs.List.{list_all, list_any}
use Rattle.std.specs.Str.{bytes_eq}
use Rattle.std.proofs.lemmas.Slice.Eq.{bytes_eq-Decides}
use Rattle.animator.specs.Words.{number_of}
use Rattle.host_top.specs.declared.machine.Operation.{Operation}
use Rattle.host_top.specs.declared.machine.Machine.{Machine}
use Rattle.host_top.specs.MachineTexts.{is_space, is_token, is_name, all_differ, op_names, IsNext, Asked, Fits, IsRow, operation_row, operations_row, machine_row, IsMachineText}
use Rattle.host_top.specs.MachineTexts.Asked.{word, word_at, number}
use Rattle.host_top.specs.Reading.{◌>>=◌, past_space, token_of, behind_token, behind_sign, name_at, number_at, sum_at, operation_at, operations_at, with_front, head_at, start_at, ends, machine_by, machine_of}
use Rattle.host_top.proofs.Fronts.{and_left, and_right}
use Rattle.host_top.proofs.Tokens.{past_next, token_next, behind_next, next_cut}
use Rattle.host_top.proofs.Steps.{some_is, bind_some, if_some, sign_next, sign_cut, name_next, name_cut, name_token, number_next, number_cut, ends_next, ends_cut}

-- ---- from the grammar to the descent

token_some : (token : List ℕ) → is_token token ≡ true → 0 < length token
token_some [] some = cc
token_some (b ∷ token) some = omega arith

shorter : (text token rest : List ℕ) → IsNext text token rest → length rest < length text
shorter text token rest next =
    let some : 0 < length token = token_some token next.some in
    let whole : length text ≡ length next.gap + (length token + length rest) = ap length next.is ∙ simp length-append in
    omega arith

-- `x := x +`
abbrev sum_row : List ℕ → ℕ → List Asked → List Asked
sum_row x place row = word x ∷ word (codes ":=") ∷ word x ∷ word_at place (codes "+") ∷ row

record Summed (size : ℕ) (x : List ℕ) (place : ℕ) (row : List Asked) (text : List ℕ) : Type 0 where
  plus : ℕ
  rest : List ℕ
  read : sum_at x text ≡ Some (plus, rest)
  at : place ≡ size - plus
  left : IsRow size row rest
  less : length rest < length text

sum_next : (size : ℕ) (x : List ℕ) (place : ℕ) (row : List Asked) (text : List ℕ) → IsRow size (sum_row x place row) text → Summed size x place row text
unfolding sum_at
sum_next size x place row text r =
    let a = r.4 in
    let b = a.4 in
    let c = b.4 in
    let e0 : behind_sign x text ≡ Some r.1 = sign_next x text r.0 r.1 r.2 r.3 in
    let e1 : behind_sign (codes ":=") r.1 ≡ Some a.1 = sign_next (codes ":=") r.1 a.0 a.1 a.2 a.3 in
    let e2 : behind_sign x a.1 ≡ Some b.1 = sign_next x a.1 b.0 b.1 b.2 b.3 in
    let e3 : behind_sign (codes "+") b.1 ≡ Some c.1 = sign_next (codes "+") b.1 c.0 c.1 c.2 c.3.0 in
    let past : past_space b.1 ≡ c.0 ++ c.1 = past_next b.1 c.0 c.1 c.2 in
    let l0 : length r.1 < length text = shorter text r.0 r.1 r.2 in
    let l1 : length a.1 < length r.1 = shorter r.1 a.0 a.1 a.2 in
    let l2 : length b.1 < length a.1 = shorter a.1 b.0 b.1 b.2 in
    let l3 : length c.1 < length b.1 = shorter b.1 c.0 c.1 c.2 in
    record {
      plus = length (past_space b.1);
      rest = c.1;
      read = rw (e0, e1, e2, e3) refl;
      at = rw past c.3.1;
      left = c.4;
      less = omega arith;
    }

record Operated (size : ℕ) (x : List ℕ) (op : Operation) (row : List Asked) (text : List ℕ) : Type 0 where
  rest : List ℕ
  read : operation_at size x text ≡ Some (op, rest)
  left : IsRow size row rest
  less : length rest < length text

operation_next : (size : ℕ) (x : List ℕ) (op : Operation) (row : List Asked) (text : List ℕ) → is_name op.name ≡ true → IsRow size (operation_row x op row) text → Operated size x op row text
unfolding operation_at
operation_next size x op row text named r =
    let a = r.4 in
    let next : IsNext text op.name r.1 = rw r.3 at r.2 in
    let e0 : name_at text ≡ Some (op.name, r.1) = name_next text op.name r.1 next named in
    let e1 : behind_sign (codes "=") r.1 ≡ Some a.1 = sign_next (codes "=") r.1 a.0 a.1 a.2 a.3 in
    let s = sum_next size x op.at (number op.amount ∷ row) a.1 a.4 in
    let n = s.left in
    let e2 : sum_at x a.1 ≡ Some (s.plus, s.rest) = s.read in
    let e3 : number_at s.rest ≡ Some (n.3.0, n.1) = number_next s.rest n.0 n.1 n.3.0 n.2 n.3.1 in
    let amount : pos n.3.0 ≡ op.amount = sym n.3.2 in
    let place : size - s.plus ≡ op.at = sym s.at in
    let l0 : length r.1 < length text = shorter text r.0 r.1 r.2 in
    let l1 : length a.1 < length r.1 = shorter r.1 a.0 a.1 a.2 in
    let l2 : length s.rest < length a.1 = s.less in
    let l3 : length n.1 < length s.rest = shorter s.rest n.0 n.1 n.2 in
    record {
      rest = n.1;
      read = rw (e0, e1, e2, e3, amount, place) refl;
      left = n.4;
      less = omega arith;
    }

row_some : (size : ℕ) (x : List ℕ) (op : Operation) (ops : List Operation) (text : List ℕ) → IsRow size (operations_row x (op ∷ ops)) text → 0 < length text
row_some size x op [] text r = let l : length r.1 < length text = shorter text r.0 r.1 r.2 in omega arith
row_some size x op (next ∷ ops) text r = let l : length r.1 < length text = shorter text r.0 r.1 r.2 in omega arith

operations_next : (most size : ℕ) (x : List ℕ) (ops : List Operation) (text : List ℕ) → length text ≤ most → 0 < length ops → list_all is_name (op_names ops) ≡ true → IsRow size (operations_row x ops) text → operations_at most size x text ≡ Some ops
operations_next most size x [] text within some named r = absurd (omega arith)
operations_next zero size x (op ∷ ops) text within some named r = let l : 0 < length text = row_some size x op ops text r in absurd (omega arith)
operations_next (suc most) size x (op ∷ []) text within some named r =
    let o = operation_next size x op (word (codes "END") ∷ []) text (and_left (is_name op.name) true named) r in
    let e = o.left in
    let read : operation_at size x text ≡ Some (op, o.rest) = o.read in
    let is : token_of o.rest ≡ codes "END" = token_next o.rest e.0 e.1 e.2 ∙ e.3 in
    let none : bytes_eq (token_of o.rest) (codes ";") ≡ false = rw is refl in
    let last : ends o.rest ≡ true = ends_next o.rest e.0 e.1 e.2 e.3 e.4 in
    rw (read, none, last) refl
operations_next (suc most) size x (op ∷ next ∷ ops) text within some named r =
    let o = operation_next size x op (word (codes ";") ∷ operations_row x (next ∷ ops)) text (and_left (is_name op.name) (list_all is_name (op_names (next ∷ ops))) named) r in
    let e = o.left in
    let read : operation_at size x text ≡ Some (op, o.rest) = o.read in
    let is : token_of o.rest ≡ codes ";" = token_next o.rest e.0 e.1 e.2 ∙ e.3 in
    let more : bytes_eq (token_of o.rest) (codes ";") ≡ true = rw is refl in
    let behind : behind_token o.rest ≡ e.1 = behind_next o.rest e.0 e.1 e.2 in
    let l0 : length o.rest < length text = o.less in
    let l1 : length e.1 < length o.rest = shorter o.rest e.0 e.1 e.2 in
    let rest : operations_at most size x e.1 ≡ Some (next ∷ ops) =
    operations_next most size x (next ∷ ops) e.1 (omega arith) (omega arith) (and_right (is_name op.name) (list_all is_name (op_names (next ∷ ops))) named) e.4 in
    rw (read, more, behind, rest) refl

-- `MACHINE M VARIABLES x INVARIANT x : INTEGER`
abbrev head_row : List ℕ → List ℕ → List Asked → List Asked
head_row name x row = word (codes "MACHINE") ∷ word name ∷ word (codes "VARIABLES") ∷ word x ∷ word (codes "INVARIANT") ∷ word x ∷ word (codes ":") ∷ word (codes "INTEGER") ∷ row

record Headed (size : ℕ) (name x : List ℕ) (row : List Asked) (text : List ℕ) : Type 0 where
  rest : List ℕ
  read : head_at text ≡ Some (name, x, rest)
  left : IsRow size row rest
  less : length rest < length text

head_next : (size : ℕ) (name x : List ℕ) (row : List Asked) (text : List ℕ) → is_name name ≡ true → is_name x ≡ true → IsRow size (head_row name x row) text → Headed size name x row text
unfolding head_at
head_next size name x row text named known r0 =
    let r1 = r0.4 in
    let r2 = r1.4 in
    let r3 = r2.4 in
    let r4 = r3.4 in
    let r5 = r4.4 in
    let r6 = r5.4 in
    let r7 = r6.4 in
    let n1 : IsNext r0.1 name r1.1 = rw r1.3 at r1.2 in
    let n3 : IsNext r2.1 x r3.1 = rw r3.3 at r3.2 in
    let e0 : behind_sign (codes "MACHINE") text ≡ Some r0.1 = sign_next (codes "MACHINE") text r0.0 r0.1 r0.2 r0.3 in
    let e1 : name_at r0.1 ≡ Some (name, r1.1) = name_next r0.1 name r1.1 n1 named in
    let e2 : behind_sign (codes "VARIABLES") r1.1 ≡ Some r2.1 = sign_next (codes "VARIABLES") r1.1 r2.0 r2.1 r2.2 r2.3 in
    let e3 : name_at r2.1 ≡ Some (x, r3.1) = name_next r2.1 x r3.1 n3 known in
    let e4 : behind_sign (codes "INVARIANT") r3.1 ≡ Some r4.1 = sign_next (codes "INVARIANT") r3.1 r4.0 r4.1 r4.2 r4.3 in
    let e5 : behind_sign x r4.1 ≡ Some r5.1 = sign_next x r4.1 r5.0 r5.1 r5.2 r5.3 in
    let e6 : behind_sign (codes ":") r5.1 ≡ Some r6.1 = sign_next (codes ":") r5.1 r6.0 r6.1 r6.2 r6.3 in
    let e7 : behind_sign (codes "INTEGER") r6.1 ≡ Some r7.1 = sign_next (codes "INTEGER") r6.1 r7.0 r7.1 r7.2 r7.3 in
    let l0 : length r0.1 < length text = shorter text r0.0 r0.1 r0.2 in
    let l1 : length r1.1 < length r0.1 = shorter r0.1 r1.0 r1.1 r1.2 in
    let l2 : length r2.1 < length r1.1 = shorter r1.1 r2.0 r2.1 r2.2 in
    let l3 : length r3.1 < length r2.1 = shorter r2.1 r3.0 r3.1 r3.2 in
    let l4 : length r4.1 < length r3.1 = shorter r3.1 r4.0 r4.1 r4.2 in
    let l5 : length r5.1 < length r4.1 = shorter r4.1 r5.0 r5.1 r5.2 in
    let l6 : length r6.1 < length r5.1 = shorter r5.1 r6.0 r6.1 r6.2 in
    let l7 : length r7.1 < length r6.1 = shorter r6.1 r7.0 r7.1 r7.2 in
    record {
      rest = r7.1;
      read = rw (e0, e1, e2, e3, e4, e5, e6, e7) refl;
      left = r7.4;
      less = omega arith;
    }

-- `INITIALISATION x := n OPERATIONS`
abbrev start_row : List ℕ → ℤ → List Asked → List Asked
start_row x start row = word (codes "INITIALISATION") ∷ word x ∷ word (codes ":=") ∷ number start ∷ word (codes "OPERATIONS") ∷ row

record Started (size : ℕ) (x : List ℕ) (start : ℤ) (row : List Asked) (text : List ℕ) : Type 0 where
  n : ℕ
  rest : List ℕ
  is : start ≡ pos n
  read : start_at x text ≡ Some (n, rest)
  left : IsRow size row rest
  less : length rest < length text

start_next : (size : ℕ) (x : List ℕ) (start : ℤ) (row : List Asked) (text : List ℕ) → IsRow size (start_row x start row) text → Started size x start row text
unfolding start_at
start_next size x start row text r0 =
    let r1 = r0.4 in
    let r2 = r1.4 in
    let r3 = r2.4 in
    let r4 = r3.4 in
    let e0 : behind_sign (codes "INITIALISATION") text ≡ Some r0.1 = sign_next (codes "INITIALISATION") text r0.0 r0.1 r0.2 r0.3 in
    let e1 : behind_sign x r0.1 ≡ Some r1.1 = sign_next x r0.1 r1.0 r1.1 r1.2 r1.3 in
    let e2 : behind_sign (codes ":=") r1.1 ≡ Some r2.1 = sign_next (codes ":=") r1.1 r2.0 r2.1 r2.2 r2.3 in
    let e3 : number_at r2.1 ≡ Some (r3.3.0, r3.1) = number_next r2.1 r3.0 r3.1 r3.3.0 r3.2 r3.3.1 in
    let e4 : behind_sign (codes "OPERATIONS") r3.1 ≡ Some r4.1 = sign_next (codes "OPERATIONS") r3.1 r4.0 r4.1 r4.2 r4.3 in
    let l0 : length r0.1 < length text = shorter text r0.0 r0.1 r0.2 in
    let l1 : length r1.1 < length r0.1 = shorter r0.1 r1.0 r1.1 r1.2 in
    let l2 : length r2.1 < length r1.1 = shorter r1.1 r2.0 r2.1 r2.2 in
    let l3 : length r3.1 < length r2.1 = shorter r2.1 r3.0 r3.1 r3.2 in
    let l4 : length r4.1 < length r3.1 = shorter r3.1 r4.0 r4.1 r4.2 in
    record {
      n = r3.3.0;
      rest = r4.1;
      is = r3.3.2;
      read = rw (e0, e1, e2, e3, e4) refl;
      left = r4.4;
      less = omega arith;
    }

pub complete : (text : List ℕ) (m : Machine) → IsMachineText text m → machine_of text ≡ Some m
unfolding machine_of
complete text m is =
    let x = is.x in
    let size = length text in
    let rest0 = list_all is_name (x ∷ op_names m.ops) in
    let named : is_name m.name ≡ true = and_left (is_name m.name) rest0 is.names in
    let others : rest0 ≡ true = and_right (is_name m.name) rest0 is.names in
    let known : is_name x ≡ true = and_left (is_name x) (list_all is_name (op_names m.ops)) others in
    let ops_named : list_all is_name (op_names m.ops) ≡ true = and_right (is_name x) (list_all is_name (op_names m.ops)) others in
    let h = head_next size m.name x (start_row x m.start (operations_row x m.ops)) text named known is.row in
    let s = start_next size x m.start (operations_row x m.ops) h.rest h.left in
    let l0 : length h.rest < length text = h.less in
    let l1 : length s.rest < length h.rest = s.less in
    let e0 : head_at text ≡ Some (m.name, x, h.rest) = h.read in
    let e1 : start_at x h.rest ≡ Some (s.n, s.rest) = s.read in
    let e2 : operations_at size size x s.rest ≡ Some m.ops = operations_next size size x m.ops s.rest (omega arith) is.some ops_named s.left in
    let differ : all_differ (x ∷ op_names m.ops) ≡ true = is.differ in
    let start : pos s.n ≡ m.start = sym s.is in
    rw (e0, e1, e2, differ, start) refl

-- ---- from the descent to the grammar

sum_cut : (size : ℕ) (x text : List ℕ) (sum : ℕ × List ℕ) → is_token x ≡ true → sum_at x text ≡ Some sum
    → (row : List Asked) → IsRow size row sum.1 → IsRow size (sum_row x (size - sum.0) row) text
unfolding sum_at
sum_cut size x text sum some h =
    let b0 = bind_some (behind_sign x text) _ sum h in
    let b1 = bind_some (behind_sign (codes ":=") b0.0) _ sum b0.2 in
    let b2 = bind_some (behind_sign x b1.0) _ sum b1.2 in
    let b3 = bind_some (behind_sign (codes "+") b2.0) _ sum b2.2 in
    let is : (length (past_space b2.0), b3.0) ≡ sum = some_is (length (past_space b2.0), b3.0) sum b3.2 in
    let c0 : IsNext text x b0.0 = sign_cut x text b0.0 some b0.1 in
    let c1 : IsNext b0.0 (codes ":=") b1.0 = sign_cut (codes ":=") b0.0 b1.0 refl b1.1 in
    let c2 : IsNext b1.0 x b2.0 = sign_cut x b1.0 b2.0 some b2.1 in
    let c3 : IsNext b2.0 (codes "+") b3.0 = sign_cut (codes "+") b2.0 b3.0 refl b3.1 in
    let place : size - length (past_space b2.0) ≡ size - length (codes "+" ++ b3.0) = ap (λ (l : List ℕ). size - length l) (past_next b2.0 (codes "+") b3.0 c3) in
    subst (λ (sum : ℕ × List ℕ). (row : List Asked) → IsRow size row sum.1 → IsRow size (sum_row x (size - sum.0) row) text) is
    (λ row r. (x, b0.0, c0, refl, (codes ":=", b1.0, c1, refl, (x, b2.0, c2, refl, (codes "+", b3.0, c3, (refl, place), r)))))

operation_cut : (size : ℕ) (x text : List ℕ) (o : Operation × List ℕ) → is_token x ≡ true → operation_at size x text ≡ Some o
    → (is_name o.0.name ≡ true) × ((row : List Asked) → IsRow size row o.1 → IsRow size (operation_row x o.0 row) text)
unfolding operation_at
operation_cut size x text o some h =
    let b0 = bind_some (name_at text) _ o h in
    let b1 = bind_some (behind_sign (codes "=") b0.0.1) _ o b0.2 in
    let b2 = bind_some (sum_at x b1.0) _ o b1.2 in
    let b3 = bind_some (number_at b2.0.1) _ o b2.2 in
    let op : Operation = record { name = b0.0.0; amount = pos b3.0.0; at = size - b2.0.0 } in
    let is : (op, b3.0.1) ≡ o = some_is (op, b3.0.1) o b3.2 in
    let c0 = name_cut text b0.0.0 b0.0.1 b0.1 in
    let c1 : IsNext b0.0.1 (codes "=") b1.0 = sign_cut (codes "=") b0.0.1 b1.0 refl b1.1 in
    let c3 = number_cut b2.0.1 b3.0.1 b3.0.0 b3.1 in
    subst (λ (o : Operation × List ℕ). (is_name o.0.name ≡ true) × ((row : List Asked) → IsRow size row o.1 → IsRow size (operation_row x o.0 row) text)) is
    (c0.1, λ row r. (b0.0.0, b0.0.1, c0.0, refl, (codes "=", b1.0, c1, refl, sum_cut size x b1.0 b2.0 some b2.1 (number (pos b3.0.0) ∷ row) (token_of b2.0.1, b3.0.1, c3.0, (b3.0.0, c3.1, refl), r))))

front_some : (op : Operation) (o : Option (List Operation)) (ops : List Operation) → with_front (op ∷ []) o ≡ Some ops → (more : List Operation) × (o ≡ Some more) × (op ∷ more ≡ ops)
front_some op None ops h = cc
front_some op (Some more) ops h = (more, refl, some_is (op ∷ more) ops h)

-- what the operations of a text are
record Operations (size : ℕ) (x text : List ℕ) (ops : List Operation) : Type 0 where
  some : 0 < length ops
  named : list_all is_name (op_names ops) ≡ true
  row : IsRow size (operations_row x ops) text

one_more : (size : ℕ) (x text behind : List ℕ) (op : Operation) (more : List Operation) → is_name op.name ≡ true → ((row : List Asked) → IsRow size row behind → IsRow size (operation_row x op row) text)
    → IsNext behind (codes ";") (behind_token behind) → Operations size x (behind_token behind) more → Operations size x text (op ∷ more)
one_more size x text behind op [] named row next ops = let none : 0 < 0 = ops.some in absurd (omega arith)
one_more size x text behind op (second ∷ more) named row next ops = record {
  some = omega arith;
  named = rw named ops.named;
  row = row (word (codes ";") ∷ operations_row x (second ∷ more)) (codes ";", behind_token behind, next, refl, ops.row);
}

operations_cut : (most size : ℕ) (x text : List ℕ) (ops : List Operation) → is_token x ≡ true → operations_at most size x text ≡ Some ops → Operations size x text ops
operations_cut zero size x text ops some h = cc
operations_cut (suc most) size x text ops some h =
    let b = bind_some (operation_at size x text) _ ops h in
    let o = operation_cut size x text b.0 some b.1 in
    step b.0.0 b.0.1 o.0 o.1 (bytes_eq (token_of b.0.1) (codes ";")) (ends b.0.1) refl refl b.2 (λ more. operations_cut most size x (behind_token b.0.1) more some)
  where
    step : (op : Operation) (behind : List ℕ) → is_name op.name ≡ true → ((row : List Asked) → IsRow size row behind → IsRow size (operation_row x op row) text)
        → (t u : Bool) → bytes_eq (token_of behind) (codes ";") ≡ t → ends behind ≡ u
        → (if t then with_front (op ∷ []) (operations_at most size x (behind_token behind)) else if u then Some (op ∷ []) else None) ≡ Some ops
        → ((more : List Operation) → operations_at most size x (behind_token behind) ≡ Some more → Operations size x (behind_token behind) more) → Operations size x text ops
    step op behind named row true u e f h rest =
        let s = front_some op (operations_at most size x (behind_token behind)) ops h in
        let is : token_of behind ≡ codes ";" = (bytes_eq-Decides (token_of behind) (codes ";")).0 e in
        let some : is_token (token_of behind) ≡ true = ap is_token is in
        let cut : IsNext behind (token_of behind) (behind_token behind) = next_cut behind some in
        let next : IsNext behind (codes ";") (behind_token behind) = rw is at cut in
        subst (λ (ops : List Operation). Operations size x text ops) s.2 (one_more size x text behind op s.0 named row next (rest s.0 s.1))
    step op behind named row false true e f h rest =
        let last = ends_cut behind f in
        subst (λ (ops : List Operation). Operations size x text ops) (some_is (op ∷ []) ops h) (record {
          some = omega arith;
          named = rw named refl;
          row = row (word (codes "END") ∷ []) (codes "END", behind_token behind, last.0, refl, last.1);
        })
    step op behind named row false false e f h rest = cc

head_cut : (size : ℕ) (text : List ℕ) (h : List ℕ × List ℕ × List ℕ) → head_at text ≡ Some h
    → (is_name h.0 ≡ true) × (is_name h.1 ≡ true) × ((row : List Asked) → IsRow size row h.2 → IsRow size (head_row h.0 h.1 row) text)
unfolding head_at
head_cut size text h read =
    let b0 = bind_some (behind_sign (codes "MACHINE") text) _ h read in
    let b1 = bind_some (name_at b0.0) _ h b0.2 in
    let b2 = bind_some (behind_sign (codes "VARIABLES") b1.0.1) _ h b1.2 in
    let b3 = bind_some (name_at b2.0) _ h b2.2 in
    let b4 = bind_some (behind_sign (codes "INVARIANT") b3.0.1) _ h b3.2 in
    let b5 = bind_some (behind_sign b3.0.0 b4.0) _ h b4.2 in
    let b6 = bind_some (behind_sign (codes ":") b5.0) _ h b5.2 in
    let b7 = bind_some (behind_sign (codes "INTEGER") b6.0) _ h b6.2 in
    let is : (b1.0.0, b3.0.0, b7.0) ≡ h = some_is (b1.0.0, b3.0.0, b7.0) h b7.2 in
    let c0 : IsNext text (codes "MACHINE") b0.0 = sign_cut (codes "MACHINE") text b0.0 refl b0.1 in
    let c1 = name_cut b0.0 b1.0.0 b1.0.1 b1.1 in
    let c2 : IsNext b1.0.1 (codes "VARIABLES") b2.0 = sign_cut (codes "VARIABLES") b1.0.1 b2.0 refl b2.1 in
    let c3 = name_cut b2.0 b3.0.0 b3.0.1 b3.1 in
    let c4 : IsNext b3.0.1 (codes "INVARIANT") b4.0 = sign_cut (codes "INVARIANT") b3.0.1 b4.0 refl b4.1 in
    let c5 : IsNext b4.0 b3.0.0 b5.0 = sign_cut b3.0.0 b4.0 b5.0 (name_token b3.0.0 c3.1) b5.1 in
    let c6 : IsNext b5.0 (codes ":") b6.0 = sign_cut (codes ":") b5.0 b6.0 refl b6.1 in
    let c7 : IsNext b6.0 (codes "INTEGER") b7.0 = sign_cut (codes "INTEGER") b6.0 b7.0 refl b7.1 in
    subst (λ (h : List ℕ × List ℕ × List ℕ). (is_name h.0 ≡ true) × (is_name h.1 ≡ true) × ((row : List Asked) → IsRow size row h.2 → IsRow size (head_row h.0 h.1 row) text)) is
    (c1.1, c3.1, λ row r. (codes "MACHINE", b0.0, c0, refl, (b1.0.0, b1.0.1, c1.0, refl, (codes "VARIABLES", b2.0, c2, refl, (b3.0.0, b3.0.1, c3.0, refl, (codes "INVARIANT", b4.0, c4, refl, (b3.0.0, b5.0, c5, refl, (codes ":", b6.0, c6, refl, (codes "INTEGER", b7.0, c7, refl, r)))))))))

start_cut : (size : ℕ) (x text : List ℕ) (s : ℕ × List ℕ) → is_token x ≡ true → start_at x text ≡ Some s
    → (row : List Asked) → IsRow size row s.1 → IsRow size (start_row x (pos s.0) row) text
unfolding start_at
start_cut size x text s some read =
    let b0 = bind_some (behind_sign (codes "INITIALISATION") text) _ s read in
    let b1 = bind_some (behind_sign x b0.0) _ s b0.2 in
    let b2 = bind_some (behind_sign (codes ":=") b1.0) _ s b1.2 in
    let b3 = bind_some (number_at b2.0) _ s b2.2 in
    let b4 = bind_some (behind_sign (codes "OPERATIONS") b3.0.1) _ s b3.2 in
    let is : (b3.0.0, b4.0) ≡ s = some_is (b3.0.0, b4.0) s b4.2 in
    let c0 : IsNext text (codes "INITIALISATION") b0.0 = sign_cut (codes "INITIALISATION") text b0.0 refl b0.1 in
    let c1 : IsNext b0.0 x b1.0 = sign_cut x b0.0 b1.0 some b1.1 in
    let c2 : IsNext b1.0 (codes ":=") b2.0 = sign_cut (codes ":=") b1.0 b2.0 refl b2.1 in
    let c3 = number_cut b2.0 b3.0.1 b3.0.0 b3.1 in
    let c4 : IsNext b3.0.1 (codes "OPERATIONS") b4.0 = sign_cut (codes "OPERATIONS") b3.0.1 b4.0 refl b4.1 in
    subst (λ (s : ℕ × List ℕ). (row : List Asked) → IsRow size row s.1 → IsRow size (start_row x (pos s.0) row) text) is
    (λ row r. (codes "INITIALISATION", b0.0, c0, refl, (x, b1.0, c1, refl, (codes ":=", b2.0, c2, refl, (token_of b2.0, b3.0.1, c3.0, (b3.0.0, c3.1, refl), (codes "OPERATIONS", b4.0, c4, refl, r))))))

pub sound : (text : List ℕ) (m : Machine) → machine_of text ≡ Some m → IsMachineText text m
unfolding machine_of
sound text m read =
    let size = length text in
    let b0 = bind_some (head_at text) _ m read in
    let b1 = bind_some (start_at b0.0.1 b0.0.2) _ m b0.2 in
    let b2 = bind_some (operations_at size size b0.0.1 b1.0.1) _ m b1.2 in
    let made : Machine = record { name = b0.0.0; start = pos b1.0.0; ops = b2.0 } in
    let last = if_some (all_differ (b0.0.1 ∷ op_names b2.0)) made m b2.2 in
    let head = head_cut size text b0.0 b0.1 in
    let known : is_token b0.0.1 ≡ true = name_token b0.0.1 head.1 in
    let ops = operations_cut size size b0.0.1 b1.0.1 b2.0 known b2.1 in
    let first : is_name b0.0.0 ≡ true = head.0 in
    let second : is_name b0.0.1 ≡ true = head.1 in
    subst (λ (m : Machine). IsMachineText text m) last.1 (record {
      x = b0.0.1;
      row = head.2 (start_row b0.0.1 (pos b1.0.0) (operations_row b0.0.1 b2.0)) (start_cut size b0.0.1 b0.0.2 b1.0 known b1.1 (operations_row b0.0.1 b2.0) ops.row);
      some = ops.some;
      names = rw (first, second) ops.named;
      differ = last.0;
    })

-- ---- at most one machine

pub one_machine : (text : List ℕ) (m n : Machine) → IsMachineText text m → IsMachineText text n → m ≡ n
one_machine text m n is as' = some_is m n (sym (complete text m is) ∙ complete text n as')

pub none_read : (text : List ℕ) → machine_of text ≡ None → (m : Machine) → IsMachineText text m → ⊥
none_read text none m is = let bad : None ≡ Some m = sym none ∙ complete text m is in cc
