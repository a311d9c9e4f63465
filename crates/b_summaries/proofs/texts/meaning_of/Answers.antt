use Rattle.std.proofs.Common.{length}
use Rattle.b_summaries.proofs.Naming.{means_where, meant_where, all_below, all_within}
use Rattle.b_summaries.proofs.texts.meaning_of.Goals as goal

pub returns-clause-value : goal.returns-clause-value
returns-clause-value c = means_where c.args.text.now.table.now (length c.args.text.now.known.now) c.args.name.now c.definition_of.result c.definition_of.ensures c.known_place.result c.known_place.ensures

pub returns-clause-within : goal.returns-clause-within
returns-clause-within c = all_below c.args.text.now.table.now (length c.args.text.now.known.now) c.args.name.now c.definition_of.result c.definition_of.ensures c.known_place.result c.known_place.ensures

pub returns-clause-known : goal.returns-clause-known
returns-clause-known c = meant_where _ c.args.text.now.table.now c.known_place.result (all_within c.args.text.now.table.now (length c.args.text.now.known.now) c.args.name.now c.definition_of.result c.definition_of.ensures c.known_place.result c.known_place.ensures)
