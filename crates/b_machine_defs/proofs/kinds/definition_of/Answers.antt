use Rattle.b_machine_defs.proofs.kinds.definition_of.Goals as goal

-- the index answers as a search through the table does
pub returns : goal.returns
returns c = c.first.ensures.place c.args.known.now.table.now c.requires
