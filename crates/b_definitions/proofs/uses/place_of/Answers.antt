use Rattle.b_definitions.proofs.uses.place_of.Goals as goal

-- the index answers as a search through the parameters does
pub returns : goal.returns
returns c = c.first.ensures.among c.args.body.now.params.now c.requires.places
