use Rattle.std.proofs.Common.{rules, ◌≡◌, ◌∙◌, sym, ap, ℕ, List}
use Rattle.std.specs.List.{position_or_len}
use Rattle.engine_face.specs.Keys.{same_bytes}
use Rattle.names_list.specs.Naming.{with_state, place}
use Rattle.names_list.specs.NamingLaws.{place_with, one_place}
use Rattle.names_list.proofs.names.Names.name.Goals as goal

pub returns-clause-number : goal.returns-clause-number
returns-clause-number c =
    let grown : c.insert_full.new.self.keys ≡ with_state c.self.inside.states.keys c.args.state = search rules in
    let index : c.in_ok-number.number ≡ position_or_len (same_bytes c.args.state) c.self.inside.states.keys = search rules in
    index ∙ sym (place_with c.self.inside.states.keys c.args.state) ∙ ap (λ (names : List (List ℕ)). place names c.args.state) (sym grown)

pub returns-in_err-number-clause-distinct : goal.returns-in_err-number-clause-distinct
returns-in_err-number-clause-distinct c = one_place c.insert_full.new.self.keys c.insert_full.ensures.unique

pub returns-clause-distinct : goal.returns-clause-distinct
returns-clause-distinct c = one_place c.insert_full.new.self.keys c.insert_full.ensures.unique
