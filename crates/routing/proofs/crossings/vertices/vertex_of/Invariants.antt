-- What the loops of `crossings::vertices::vertex_of` keep.
use Prim.Native.Nat.{◌-◌, ◌≤◌}
use Rattle.routing.proofs.crossings.Occupied.{Halving}
use Rattle.routing.proofs.crossings.vertices.vertex_of.Given as goal

abbrev pub invariant-loop-lo : goal.invariant-loop-lo
invariant-loop-lo l = (l.lo ≤ l.hi) × (l.hi ≤ l.c) × Halving l.c l.vertices.stations.now l.station l.lo l.hi

abbrev pub decreases-loop-lo : goal.decreases-loop-lo
decreases-loop-lo l = l.hi - l.lo
