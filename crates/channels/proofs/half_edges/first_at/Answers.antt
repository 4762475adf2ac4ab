-- Answers for `channels::half_edges::first_at`.
use Rattle.std.proofs.Common.{sym, ap, ◌∙◌, length, take, rules}
use Rattle.std.proofs.lemmas.List.Sorted.{IsPartitionPoint-from_clause}
use lib.Dec.{ltb}
use Rattle.network.specs.Mesh.{at}
use Rattle.channels.proofs.half_edges.Rounds.{length_round, round_parted, first_found}
use Rattle.channels.proofs.half_edges.first_at.Goals as goal

pub slice_bounds-partition_point-end : goal.slice_bounds-partition_point-end
slice_bounds-partition_point-end c = sym (ap length c.requires ∙ length_round c.args.corners.now)

pub returns : goal.returns
returns c =
    first_found c.args.corners.now c.args.vertex _ (rw c.requires at c.partition_point.ensures.bound)
    (rw c.requires at (IsPartitionPoint-from_clause (λ h. ltb (at c.args.corners.now h) c.args.vertex) _ _ c.partition_point.ensures.partitioned
    (rw c.requires (round_parted c.args.corners.now c.args.vertex)) (λ a r f k. search rules)))
