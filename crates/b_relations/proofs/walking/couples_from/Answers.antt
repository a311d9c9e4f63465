use Rattle.std.proofs.Common.{rules}
use Rattle.std.proofs.lemmas.List.Sorted.{IsPartitionPoint-from_clause}
use Rattle.b_relations.proofs.Searching.{couples_found, before_partitions, not_after_partitions, is_before, not_after, rest_ascends}
use Rattle.b_relations.proofs.walking.couples_from.Goals as goal

pub returns : goal.returns
returns c = couples_found c.args.x.now c.args.members.now c.partition_point-low.result c.partition_point-count.result c.partition_point-low.ensures.bound
    (IsPartitionPoint-from_clause (is_before c.args.x.now) c.args.members.now c.partition_point-low.result c.partition_point-low.ensures.partitioned
    (before_partitions c.args.x.now c.args.members.now c.requires) (λ a r f h. search rules))
    (IsPartitionPoint-from_clause (not_after c.args.x.now) _ c.partition_point-count.result c.partition_point-count.ensures.partitioned
    (not_after_partitions c.args.x.now _ (rest_ascends c.args.members.now c.partition_point-low.result c.requires)) (λ a r f h. search rules))
