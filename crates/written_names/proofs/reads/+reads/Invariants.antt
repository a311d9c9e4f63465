use Rattle.std.proofs.Common.{◌≡◌, map, drop}
use Rattle.written_names.specs.Names.{is_among}
use Rattle.written_names.specs.Reads.{all_read, read_in, read_in_link, read_in_form}
use Rattle.written_names.proofs.reads.+reads.Given as goal

-- what the rest tells, the whole tells
abbrev pub invariant-read_all-loop-e : goal.invariant-read_all-loop-e
invariant-read_all-loop-e l = all_read (map read_in (drop l.e-index l.es)) (is_among l.these) (is_among l.olds) ≡ all_read (map read_in l.es) (is_among l.these) (is_among l.olds)

abbrev pub invariant-read_links-loop-link : goal.invariant-read_links-loop-link
invariant-read_links-loop-link l = all_read (map read_in_link (drop l.link-index l.links)) (is_among l.these) (is_among l.olds) ≡ all_read (map read_in_link l.links) (is_among l.these) (is_among l.olds)

abbrev pub invariant-read_forms-loop-form : goal.invariant-read_forms-loop-form
invariant-read_forms-loop-form l = all_read (map read_in_form (drop l.form-index l.forms)) (is_among l.these) (is_among l.olds) ≡ all_read (map read_in_form l.forms) (is_among l.these) (is_among l.olds)
