-- The couples that an overriding leaves, and those that it brings.
use Rattle.std.proofs.Common.{◌≡◌, false, not, List, [], ◌++◌, map, Result, sym, ap, ◌∙◌, subst}
use Rattle.std.specs.Prelude.{IfOk}
use Rattle.std.specs.declared.alloc.AllocError.{AllocError}
use Rattle.std.specs.List.{filter}
use Rattle.ascending.specs.Ascending.{set_of}
use Rattle.ascending.specs.AscendingLaws.{in_set_of}
use Rattle.b_values.specs.OrderLaws.{value_total, value_same}
use Rattle.b_values.specs.Values.{elements, value_cmp}
use Rattle.b_values.specs.declared.values.Value.{Value}
use Rattle.set_making.specs.Making.{is_among}
use Rattle.set_making.specs.MakingLaws.{is_among_finds, is_among_is}
use Rattle.b_relations.specs.Listed.{SameMembers}
use Rattle.b_relations.specs.Parts.{keeps, passes}
use Rattle.b_relations.specs.Relations.{couple, couples, couples_in, dom_members, overwrite_members}
use Rattle.b_relations.specs.declared.walking.Side.TheVariants.{Left}
use Rattle.b_relations.proofs.Searching.{chosen_parts}
use Rattle.b_relations.proofs.Steps.{map_append, filter_same, all_pass}

-- the test of membership asks for the members alone
pub among_same : (xs ys : List Value) → SameMembers xs ys → (x : Value) → is_among xs x ≡ is_among ys x
among_same xs ys f x = is_among_is ys x (is_among xs x) (λ h. (f x).0 ((is_among_finds xs x).0 h), λ h. (is_among_finds xs x).1 ((f x).1 h))

-- where nothing is asked, all couples are kept
pub all_couples : (xs : List Value) → filter (passes (keeps Left [] false)) xs ≡ map couple (couples_in xs)
all_couples xs = chosen_parts (keeps Left [] false) xs ∙ ap (map couple) (all_pass (couples_in xs))

pub old_couples : (r s : Value) (firsts : List Value) → firsts ≡ set_of value_cmp (dom_members s)
    → filter (passes (keeps Left firsts false)) (elements r) ≡ map couple (filter (λ p. not (is_among (dom_members s) p.0)) (couples r))
old_couples r s firsts e =
    chosen_parts (keeps Left firsts false) (elements r)
    ∙ ap (map couple) (filter_same (keeps Left firsts false) (λ p. not (is_among (dom_members s) p.0))
    (λ p. ap not (ap (λ l. is_among l p.0) e ∙ among_same (set_of value_cmp (dom_members s)) (dom_members s) (λ z. in_set_of value_cmp value_total value_same z (dom_members s)) p.0)) (couples r))

-- both, merged
pub both_merged : (r s : Value) (old new : List Value) (result : Result (List Value) AllocError) → old ≡ map couple (filter (λ p. not (is_among (dom_members s) p.0)) (couples r)) → new ≡ map couple (couples s)
    → IfOk result (λ zs. zs ≡ set_of value_cmp (old ++ new)) → IfOk result (λ zs. zs ≡ set_of value_cmp (overwrite_members r s))
both_merged r s old new result e f h =
    let same : old ++ new ≡ overwrite_members r s = rw (e, f) (sym (map_append couple (filter (λ p. not (is_among (dom_members s) p.0)) (couples r)) (couples s))) in
    subst (λ l. IfOk result (λ zs. zs ≡ set_of value_cmp l)) same h
