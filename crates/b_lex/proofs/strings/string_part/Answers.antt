use Rattle.b_lex.proofs.Bodies.{character}
use Rattle.b_lex.proofs.strings.string_part.Goals as goal

pub returns-in-Some : goal.returns-in-Some
returns-in-Some c = character c.args.rest.now c.in-Some.n c.if-b-eq34.false c.if-b-eq10.false c.if-b-eq92.false c.in-Some.ensures
