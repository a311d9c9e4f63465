use Rattle.std.proofs.Common.{◌∙◌, ◌++◌, ap, sym, subst, arith}
use Rattle.b_values.specs.Values.{node_count}
use Rattle.engine_face.specs.Words.{WordsFit}
use Rattle.engine_face.specs.WordLaws.{words-Int, words-Truth, words-Text, words-Elem}
use Rattle.pack_state.specs.Packable.{IsShort}
use Rattle.pack_state.proofs.Puts.{on_ok, on_ok_map, number_bytes, text_fits, text_bytes, couple_nodes, set_nodes, one_of, short_at, parts_fit, couple_bytes, couple_words, set_fits, set_bytes, set_words}
use Rattle.pack_state.proofs.packing.+put.Goals as goal

pub put_value-put_text-requires : goal.put_value-put_text-requires
put_value-put_text-requires t c = text_fits c.args.v.now c.in-Text.s c.as_slice.result.now c.in-Text.is (c.as_slice.ensures ∙ c.get.ensures) c.requires

pub put_value-put_value-requires : goal.put_value-put_value-requires
put_value-put_value-requires t c =
    let s = couple_nodes c.args.v.now c.in-Pair.a c.in-Pair.b c.in-Pair.is in
    let l = ap node_count c.get-in-Pair.ensures in
    let d = c.decreases in
    (omega arith, subst IsShort (sym c.get-in-Pair.ensures) (parts_fit c.args.v.now c.in-Pair.a c.in-Pair.b c.in-Pair.is c.requires).0)

pub put_value-put_value-requires-in-Pair : goal.put_value-put_value-requires-in-Pair
put_value-put_value-requires-in-Pair t c =
    let s = couple_nodes c.args.v.now c.in-Pair.a c.in-Pair.b c.in-Pair.is in
    let l = ap node_count c.get-in-Pair-2.ensures in
    let d = c.decreases in
    (omega arith, subst IsShort (sym c.get-in-Pair-2.ensures) (parts_fit c.args.v.now c.in-Pair.a c.in-Pair.b c.in-Pair.is c.requires).1)

pub put_value-put_set-requires : goal.put_value-put_set-requires
put_value-put_set-requires t c =
    let same = c.as_slice-in-Set.ensures ∙ c.get-in-Set.ensures in
    let s = set_nodes c.args.v.now c.in-Set.xs c.as_slice-in-Set.result.now c.in-Set.is same in
    let d = c.decreases in
    (omega arith, set_fits c.args.v.now c.in-Set.xs c.as_slice-in-Set.result.now c.in-Set.is same c.requires)

pub put_set-put_values-requires : goal.put_set-put_values-requires
put_set-put_values-requires t c = let d = c.decreases in (omega arith, c.requires.members)

pub put_values-put_value-requires : goal.put_values-put_value-requires
put_values-put_value-requires t c =
    let s = one_of c.args.xs.now c.loop-x.x-index c.x-item.result c.loop-x-test.true c.x-item.is in
    let d = c.decreases in
    (omega arith, short_at c.args.xs.now c.loop-x.x-index c.x-item.result c.loop-x-test.true c.x-item.is c.loop-x.invariant.short)

pub put_value-returns-in-Int-clause-bytes : goal.put_value-returns-in-Int-clause-bytes
put_value-returns-in-Int-clause-bytes t c = on_ok_map c.put_word.result
    (λ e. e ∙ ap (λ b. c.args.out.now.items ++ b) (number_bytes c.args.v.now c.in-Int.n c.word_of.result c.in-Int.is c.word_of.ensures.word)) c.put_word.ensures

pub put_value-returns-in-Int-clause-words : goal.put_value-returns-in-Int-clause-words
put_value-returns-in-Int-clause-words t c = on_ok c.put_word.result (subst WordsFit (sym c.in-Int.is) (words-Int c.in-Int.n c.word_of.ensures.fits))

pub put_value-returns-in-Truth-clause-words : goal.put_value-returns-in-Truth-clause-words
put_value-returns-in-Truth-clause-words t c = on_ok c.put_truth.result (subst WordsFit (sym c.in-Truth.is) (words-Truth c.in-Truth.b))

pub put_value-returns-in-Text-clause-bytes : goal.put_value-returns-in-Text-clause-bytes
put_value-returns-in-Text-clause-bytes t c = on_ok_map c.put_text.result
    (λ e. e ∙ ap (λ b. c.args.out.now.items ++ b) (text_bytes c.args.v.now c.in-Text.s c.as_slice.result.now c.in-Text.is (c.as_slice.ensures ∙ c.get.ensures))) c.put_text.ensures

pub put_value-returns-in-Text-clause-words : goal.put_value-returns-in-Text-clause-words
put_value-returns-in-Text-clause-words t c = on_ok c.put_text.result (subst WordsFit (sym c.in-Text.is) (words-Text c.in-Text.s))

pub put_value-returns-in-Elem-clause-words : goal.put_value-returns-in-Elem-clause-words
put_value-returns-in-Elem-clause-words t c = on_ok c.put_count.result (subst WordsFit (sym c.in-Elem.is) (words-Elem c.in-Elem.set c.in-Elem.index c.put_count.ensures.fits))

pub put_value-returns-in_ok-put_value-in-Pair-2-clause-bytes : goal.put_value-returns-in_ok-put_value-in-Pair-2-clause-bytes
put_value-returns-in_ok-put_value-in-Pair-2-clause-bytes t c =
    couple_bytes c.args.v.now c.in-Pair.a c.in-Pair.b c.get-in-Pair.result.now c.get-in-Pair-2.result.now _ _ _ c.in-Pair.is c.get-in-Pair.ensures c.get-in-Pair-2.ensures
    c.in_ok-put_value-in-Pair.ensures.bytes c.in_ok-put_value-in-Pair-2.ensures.bytes

pub put_value-returns-in_ok-put_value-in-Pair-2-clause-words : goal.put_value-returns-in_ok-put_value-in-Pair-2-clause-words
put_value-returns-in_ok-put_value-in-Pair-2-clause-words t c =
    couple_words c.args.v.now c.in-Pair.a c.in-Pair.b c.get-in-Pair.result.now c.get-in-Pair-2.result.now c.in-Pair.is c.get-in-Pair.ensures c.get-in-Pair-2.ensures
    c.in_ok-put_value-in-Pair.ensures.words c.in_ok-put_value-in-Pair-2.ensures.words

pub put_value-returns-in-Set-clause-bytes : goal.put_value-returns-in-Set-clause-bytes
put_value-returns-in-Set-clause-bytes t c = on_ok_map c.put_set.result
    (λ e. e ∙ ap (λ b. c.args.out.now.items ++ b) (set_bytes c.args.v.now c.in-Set.xs c.as_slice-in-Set.result.now c.in-Set.is (c.as_slice-in-Set.ensures ∙ c.get-in-Set.ensures))) c.put_set.ensures.bytes

pub put_value-returns-in-Set-clause-words : goal.put_value-returns-in-Set-clause-words
put_value-returns-in-Set-clause-words t c = on_ok_map c.put_set.result
    (λ w. set_words c.args.v.now c.in-Set.xs c.as_slice-in-Set.result.now c.in-Set.is (c.as_slice-in-Set.ensures ∙ c.get-in-Set.ensures) w) c.put_set.ensures.words
