use Rattle.turn_rows.proofs.Rows.{grows_few}
use Rattle.turn_rows.proofs.tally.Tally.add.Goals as goal

pub returns-clause-grows : goal.returns-clause-grows
returns-clause-grows c = grows_few c.args.self.now.count c.args.by c.requires.few
