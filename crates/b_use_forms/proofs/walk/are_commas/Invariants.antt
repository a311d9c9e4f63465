use Rattle.std.proofs.Common.{◌≡◌, drop, map}
use Rattle.std.specs.List.{list_all}
use Rattle.b_use_forms.specs.Standing.{side_in}
use Rattle.b_use_forms.proofs.walk.are_commas.Given as goal

-- what is left decides
abbrev pub invariant-loop-link : goal.invariant-loop-link
invariant-loop-link l = list_all (λ k. k.comma) (map (side_in l.text) (drop l.link-index l.links)) ≡ list_all (λ k. k.comma) (map (side_in l.text) l.links)
