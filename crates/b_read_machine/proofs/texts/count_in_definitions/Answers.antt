use Rattle.std.proofs.Common.{rules, arith}
use Rattle.b_read_machine.proofs.Counting.{count_within, no_words, no_lexemes, count_on}
use Rattle.b_read_machine.proofs.texts.count_in_definitions.Goals as goal

pub returns-then-count-lexemes : goal.returns-then-count-lexemes
returns-then-count-lexemes c =
    no_lexemes c.args.words.now c.args.lexemes.now c.loop-word.lexemes c.loop-word.rest.now c.loop-word.inside c.loop-word.count c.loop-word.invariant (omega (arith, c.if-count-lexemes.true))

pub loop-word-preserved : goal.loop-word-preserved
loop-word-preserved c =
    let few = count_within c.args.words.now c.args.lexemes.now c.loop-word.lexemes c.loop-word.rest.now c.loop-word.inside c.loop-word.count c.loop-word.invariant in
    count_on c.args.words.now c.args.lexemes.now c.loop-word.lexemes c.loop-word.rest.now c.loop-word.inside c.loop-word.count c.loop-word.invariant c.in-Some.word c.in-Some.more.now c.in-Some.ensures (omega (arith, few, c.if-count-lexemes.false)) c.index-lexemes-count.result c.recount.new.lexeme c.counts_less-less.result c.counts_less-less.ensures c.recount.ensures c.in_definitions-inside.result c.in_definitions-inside.ensures

pub returns : goal.returns
returns c = search (rules, no_words c.args.words.now c.args.lexemes.now c.loop-word.lexemes c.loop-word.rest.now c.loop-word.inside c.loop-word.count c.loop-word.invariant)
