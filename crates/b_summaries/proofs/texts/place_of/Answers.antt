use Rattle.b_summaries.proofs.Naming.{places_known, no_places}
use Rattle.b_summaries.proofs.texts.place_of.Goals as goal

-- the index answers as a search through the parameters does
pub returns-in-Some : goal.returns-in-Some
returns-in-Some c = c.first.ensures.among c.args.text.now.params.now (places_known c.args.text.now.params.now c.args.text.now.places c.in-Some.index c.in-Some.is c.requires.places)

-- and without an index there are none
pub returns-in-None : goal.returns-in-None
returns-in-None c = no_places c.args.text.now.params.now c.args.text.now.places c.in-None.is c.args.name.now c.requires.places
