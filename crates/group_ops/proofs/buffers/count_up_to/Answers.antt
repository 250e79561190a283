use Rattle.std.proofs.Common.{leb, leb-true, leb-false, arith, rules}
use Rattle.std.proofs.lemmas.List.Sorted.{IsPartitionPoint-from_clause}
use Rattle.group_ops.proofs.Finding.{parted}
use Rattle.group_ops.proofs.buffers.count_up_to.Goals as goal

pub returns-clause-before : goal.returns-clause-before
returns-clause-before c =
    let point = IsPartitionPoint-from_clause (λ p. leb p.start c.args.agino) _ _ c.partition_point.ensures.partitioned (parted c.args.chunks.now c.args.agino c.requires) (λ a r q k. search rules) in
    λ k d h. leb-true _ _ (point.0 k d (omega arith) h)

pub returns-clause-after : goal.returns-clause-after
returns-clause-after c =
    let point = IsPartitionPoint-from_clause (λ p. leb p.start c.args.agino) _ _ c.partition_point.ensures.partitioned (parted c.args.chunks.now c.args.agino c.requires) (λ a r q k. search rules) in
    λ k d h l. leb-false _ _ (point.1 k d h l)
