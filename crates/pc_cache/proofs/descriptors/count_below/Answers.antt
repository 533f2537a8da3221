use Rattle.std.proofs.Common.{rules, arith}
use Rattle.std.proofs.lemmas.List.Sorted.{IsPartitionPoint-from_clause, IsPartitionedBy-ltb}
use Rattle.pc_message.specs.declared.descriptor.Descriptor.{Descriptor}
use Rattle.pc_cache.specs.Places.{is_below}
use Rattle.pc_tables.proofs.Halves.{numbers-rise_by, parted}
use Rattle.pc_cache.proofs.descriptors.count_below.Goals as goal

pub returns : goal.returns
returns c =
    let rise = IsPartitionedBy-ltb (λ (descriptor : Descriptor). descriptor.uid) c.args.descriptors.now c.args.uid (numbers-rise_by (λ (descriptor : Descriptor). descriptor.uid) c.args.descriptors.now c.requires) in
    let point = IsPartitionPoint-from_clause (is_below c.args.uid) c.args.descriptors.now c.partition_point.result c.partition_point.ensures.partitioned rise (λ a r q k. search rules) in
    let parts = parted (is_below c.args.uid) c.args.descriptors.now c.partition_point.result c.partition_point.ensures.bound (λ k d lt. point.0 k d (omega arith) lt) (λ k d le lt. point.1 k d le lt) in
    record { within = c.partition_point.ensures.bound; front = parts.0; back = parts.1 }
