use Rattle.std.proofs.Common.{ap}
use Rattle.b_machine_grammar.specs.declared.words.Word.TheVariants as word
use Rattle.b_stretches.specs.Stretches.{pieces, next_of}
use Rattle.b_stretches.proofs.Answering.{otherwise_on}
use Rattle.b_read_clauses.specs.Clauses.{AreEnclosedNames}
use Rattle.b_read_clauses.proofs.sets.elements.Goals as goal

pub returns-in-Some : goal.returns-in-Some
returns-in-Some c = otherwise_on (AreEnclosedNames word.CurlyOpen word.CurlyClose) ((c.in-Some.field-0-0, c.in-Some.field-0-1.now), pieces c.in-Some.back) (next_of c.args.next) (ap next_of c.in-Some.is) c.enclosed_names.result c.some_of.result c.some_of.ensures c.enclosed_names.ensures
