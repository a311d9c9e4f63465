use Rattle.std.proofs.Common.{ℕ, List, length, refl, sym, subst, arith}
use Rattle.std.specs.Option.{option_copied}
use Rattle.b_summaries.specs.Standing.{ArePlaces}
use Rattle.b_summaries.proofs.Naming.{parameters_known}
use Rattle.b_substitutions.proofs.Naming.{first_told}
use Rattle.b_substitutions.proofs.Uses.{told_answer, place_there, front_many}
use Rattle.b_substitutions.proofs.tables.told_next.Goals as goal

-- as many formulas are told as there are
pub split_at-requires : goal.split_at-requires
split_at-requires c =
    let w = place_there c.args.table.now c.args.table.now (length c.args.uses.now) c.args.def.now c.requires.there in
    let m = c.requires.all in
    omega arith

-- what is told of the definitions before it
pub told_body-requires : goal.told_body-requires
told_body-requires c = record {
  formulas = record {
    indexed = c.requires.indexed;
    told = first_told c.args.table.now c.args.known.now c.requires.formulas (length c.args.uses.now) c.split_at.result.0.now c.split_at.ensures.front;
    places = subst (λ (ps : List (List ℕ)). ArePlaces ps (option_copied c.at-places.result)) (sym c.as_slice-params.ensures)
        (parameters_known c.args.table.now c.args.index.now c.requires.indexed (length c.args.uses.now) c.args.def.now c.requires.there
        c.as_slice-parameters.result.now c.as_slice-parameters.ensures (option_copied c.at-places.result) c.at-places.ensures);
  };
  told = c.requires.told;
  many = front_many c.args.known.now c.args.table.now c.args.uses.now c.args.def.now c.requires.all c.requires.there (length c.args.uses.now) refl c.split_at.result.0.now c.split_at.ensures.front;
}

pub returns : goal.returns
returns c =
    told_answer c.args.table.now (length c.split_at.result.0.now) (length c.args.uses.now)
    (front_many c.args.known.now c.args.table.now c.args.uses.now c.args.def.now c.requires.all c.requires.there (length c.args.uses.now) refl c.split_at.result.0.now c.split_at.ensures.front)
    c.args.def.now.params c.as_slice-params.result.now c.as_slice-params.ensures c.args.def.now.body c.told_body.result c.told_body.ensures
