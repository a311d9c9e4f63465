use Rattle.std.proofs.Common.{◌≡◌, ◌≤◌, ◌<◌, ◌++◌, ◌∷◌, [], ◌∙◌, Some, None, sym, ap, subst, drop, length, arith}
use Rattle.b_values.specs.declared.types.Ty.TheVariants as variants
use Rattle.b_values.specs.Reading.{free}
use Rattle.b_values.specs.ReadingDescent.{front, reader, read_number, read_truth, read_string, read_element, read_set}
use Rattle.b_values.proofs.ReadingComplete.{reader-Int, reader-Truth, reader-Text, reader-Elem, reader-Set}
use Rattle.b_values.proofs.ReadingSize.{size}
use Rattle.b_values.proofs.ReadingSteps.{begin_reading, reading_goes, reading_ends, further}
use Rattle.b_values.proofs.ReadingLinks.{lone_links, at_type, couple_none, couple_links, part_reads, no_parts, in_place, pair_size, set_size}
use Rattle.b_values.proofs.reading.+read.Goals as goal

pub read_chain-read_chain-requires : goal.read_chain-read_chain-requires
read_chain-read_chain-requires t c =
    let s = pair_size c.args.ty.now c.in-Pair.a c.in-Pair.b c.in-Pair.is in
    let l = ap size c.get.ensures in
    let d = c.decreases in
    (omega arith, (c.requires.place, c.requires.within))

pub read_chain-read_second-requires : goal.read_chain-read_second-requires
read_chain-read_second-requires t c =
    let s = pair_size c.args.ty.now c.in-Pair.a c.in-Pair.b c.in-Pair.is in
    let l = ap size c.get-in-Some.ensures in
    let d = c.decreases in
    let e = rw c.in-Some.is at c.in_ok-first-in-Pair.ensures in
    let left = e.1 in
    let within = c.requires.within in
    (omega arith, (e.2.1, omega arith))

pub read_chain-read_set-requires : goal.read_chain-read_set-requires
read_chain-read_set-requires t c =
    let s = set_size c.args.ty.now c.in-Set.a c.in-Set.is in
    let l = ap size c.get-in-Set.ensures in
    let d = c.decreases in
    (omega arith, c.requires.place)

pub read_chain-returns-in-Int : goal.read_chain-returns-in-Int
read_chain-returns-in-Int t c =
    at_type c.args.sets.now c.args.limit c.args.opens c.args.at c.args.text.now c.args.ty.now _ _ c.lone.result c.in-Int.is (reader-Int c.args.sets.now)
    (lone_links (λ d. read_number) c.args.limit c.args.opens c.args.at c.args.text.now c.read_number.result c.read_number.ensures c.lone.result c.lone.ensures)

pub read_chain-returns-in-Truth : goal.read_chain-returns-in-Truth
read_chain-returns-in-Truth t c =
    at_type c.args.sets.now c.args.limit c.args.opens c.args.at c.args.text.now c.args.ty.now _ _ c.lone-in-Truth.result c.in-Truth.is (reader-Truth c.args.sets.now)
    (lone_links (λ d. read_truth) c.args.limit c.args.opens c.args.at c.args.text.now c.read_truth.result c.read_truth.ensures c.lone-in-Truth.result c.lone-in-Truth.ensures)

pub read_chain-returns-in_ok-read_string-in-Text : goal.read_chain-returns-in_ok-read_string-in-Text
read_chain-returns-in_ok-read_string-in-Text t c =
    at_type c.args.sets.now c.args.limit c.args.opens c.args.at c.args.text.now c.args.ty.now _ _ c.lone-in-Text.result c.in-Text.is (reader-Text c.args.sets.now)
    (lone_links (λ d. read_string) c.args.limit c.args.opens c.args.at c.args.text.now c.in_ok-read_string-in-Text.field-0 c.in_ok-read_string-in-Text.ensures c.lone-in-Text.result c.lone-in-Text.ensures)

pub read_chain-returns-in-Elem : goal.read_chain-returns-in-Elem
read_chain-returns-in-Elem t c =
    at_type c.args.sets.now c.args.limit c.args.opens c.args.at c.args.text.now c.args.ty.now _ _ c.lone-in-Elem.result c.in-Elem.is (reader-Elem c.args.sets.now c.in-Elem.set)
    (lone_links (λ d. read_element c.args.sets.now c.in-Elem.set) c.args.limit c.args.opens c.args.at c.args.text.now c.read_element.result c.read_element.ensures c.lone-in-Elem.result c.lone-in-Elem.ensures)

pub read_chain-returns-in-Some : goal.read_chain-returns-in-Some
read_chain-returns-in-Some t c =
    couple_links c.args.sets.now c.args.limit c.args.opens c.args.at c.args.text.now c.args.ty.now c.in-Pair.a c.in-Pair.b c.get.result.now c.in-Pair.is c.get.ensures
    c.get-in-Some.result.now c.get-in-Some.ensures c.in-Some.first (rw c.in-Some.is at c.in_ok-first-in-Pair.ensures) c.read_second.result c.read_second.ensures

pub read_chain-returns-in-None : goal.read_chain-returns-in-None
read_chain-returns-in-None t c =
    couple_none c.args.sets.now c.args.limit c.args.opens c.args.at c.args.text.now c.args.ty.now c.in-Pair.a c.in-Pair.b c.get.result.now c.in-Pair.is c.get.ensures
    (rw c.in-None.is at c.in_ok-first-in-Pair.ensures)

pub read_chain-returns-in_ok-read_set-in-Set : goal.read_chain-returns-in_ok-read_set-in-Set
read_chain-returns-in_ok-read_set-in-Set t c =
    at_type c.args.sets.now c.args.limit c.args.opens c.args.at c.args.text.now c.args.ty.now _ _ c.lone-in-Set.result c.in-Set.is (reader-Set c.args.sets.now c.in-Set.a)
    (lone_links (read_set (reader c.args.sets.now c.in-Set.a)) c.args.limit c.args.opens c.args.at c.args.text.now c.in_ok-read_set-in-Set.field-0
    (rw c.get-in-Set.ensures at c.in_ok-read_set-in-Set.ensures) c.lone-in-Set.result c.lone-in-Set.ensures)

pub read_pieces-loop-values-init : goal.read_pieces-loop-values-init
read_pieces-loop-values-init t c = rw c.new-values.ensures.items (begin_reading (front free (reader c.args.sets.now c.args.ty.now).chain c.args.depth) c.args.text.now c.args.at c.requires)

pub read_pieces-loop-values-smaller : goal.read_pieces-loop-values-smaller
read_pieces-loop-values-smaller t c =
    let e = rw c.in-Some.is at c.in_ok-read_front.ensures in
    let f = c.in-Some-after_at.ensures in
    let l = further 44 [] c.args.text.now c.in-Some.to c.in-Some-after_at.next f.0 e.1.1 f.1.1 in
    let from = e.1.0 in
    let to = f.1.1 in
    omega arith

pub read_pieces-loop-values-preserved : goal.read_pieces-loop-values-preserved
read_pieces-loop-values-preserved t c =
    let e = rw c.in-Some.is at c.in_ok-read_front.ensures in
    let f = c.in-Some-after_at.ensures in
    rw c.in_ok-push-in-Some.ensures.items
    (reading_goes (front free (reader c.args.sets.now c.args.ty.now).chain c.args.depth) c.args.text.now c.args.at c.loop-values.values.items c.loop-values.from c.loop-values.invariant c.in-Some.value c.in-Some.to e.0 e.1 c.in-Some-after_at.next f.0 f.1)

pub read_pieces-returns-in-None-after_at : goal.read_pieces-returns-in-None-after_at
read_pieces-returns-in-None-after_at t c =
    let e = rw c.in-Some.is at c.in_ok-read_front.ensures in
    let since = c.loop-values.invariant.since in
    let on = e.1.0 in (
      reading_ends (front free (reader c.args.sets.now c.args.ty.now).chain c.args.depth) c.args.text.now c.args.at c.loop-values.values.items c.loop-values.from c.loop-values.invariant c.in-Some.value c.in-Some.to e.0 e.1 c.in-None-after_at.ensures
          ∙ ap (λ l. Some (l, drop c.in-Some.to c.args.text.now)) (sym c.in_ok-push-in-Some.ensures.items),
      (omega arith, e.1.1),
    )

pub read_set-read_sequence-requires : goal.read_set-read_sequence-requires
read_set-read_sequence-requires t c =
    let s = pair_size c.args.ty.now variants.Int c.in-Some-part_of.part.now c.in-Some-part_of.ensures in
    let d = c.decreases in
    (omega arith, c.requires)

pub read_set-returns-in-Some-part_of : goal.read_set-returns-in-Some-part_of
read_set-returns-in-Some-part_of t c =
    in_place _ _ c.args.text.now c.args.at c.read_sequence.result
    (part_reads c.args.sets.now c.args.ty.now c.args.depth (drop c.args.at c.args.text.now) c.in-None.ensures c.in-Some-part_of.part.now c.in-Some-part_of.ensures) c.read_sequence.ensures

pub read_set-returns-in-None-part_of : goal.read_set-returns-in-None-part_of
read_set-returns-in-None-part_of t c = no_parts c.args.sets.now c.args.ty.now c.args.depth (drop c.args.at c.args.text.now) c.in-None.ensures c.in-None-part_of.ensures
