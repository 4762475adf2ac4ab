-- What the loops of `crossings::channels::mark_from` keep.
use Rattle.routing.proofs.crossings.Marking.{Marking}
use Rattle.routing.proofs.crossings.half_edge_channels.mark_from.Given as goal

abbrev pub invariant-loop-p : goal.invariant-loop-p
invariant-loop-p l = Marking l.by_vertex.mesh.corners.now l.branch_count l.from_vertex l.to_vertex l.mark l.initial.ends l.ends l.p
