-- What the loops of `channels::walk::trace::trace` keep.
use Rattle.channels.proofs.walk.Steps.{Going}
use Prim.Native.Nat.{◌-◌, ◌≤◌}
use lib.ListN.{length}
use Rattle.plane.specs.Plane.{point_at}
use Rattle.channels.proofs.walk.trace.trace.Given as goal

abbrev pub invariant-loop-n : goal.invariant-loop-n
invariant-loop-n l = Going l.line.by_vertex.mesh.corners.now l.line.by_vertex.mesh.twins.now (point_at l.line.points.now) l.line.start l.line.end l.initial.walked l.walked l.n l.x
