use Rattle.b_machine_grammar.specs.declared.words.Word.TheVariants as word
use Rattle.b_machine_grammar.specs.Cuts.{cut_at}
use Rattle.b_machine_grammar.specs.Grammar.{IsSetDecl}
use Rattle.b_stretches.specs.Stretches.{pieces}
use Rattle.b_stretches.proofs.Reading.{IsPartlyRead, left}
use Rattle.b_read_clauses.proofs.sets.set_decls.Given as goal

-- what is read is a part of the list
abbrev pub invariant-loop-rest : goal.invariant-loop-rest
invariant-loop-rest l = IsPartlyRead (cut_at word.Semicolon) IsSetDecl (pieces l.s) l.all l.rest

abbrev pub decreases-loop-rest : goal.decreases-loop-rest
decreases-loop-rest l = left l.rest
