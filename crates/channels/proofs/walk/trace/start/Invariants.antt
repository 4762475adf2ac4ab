-- What the loops of `channels::walk::trace::start` keep.
use Rattle.channels.proofs.walk.Seeking.{Seeking}
use Prim.Native.Nat.{◌-◌}
use lib.ListN.{length}
use Rattle.plane.specs.Plane.{point_at}
use Rattle.channels.proofs.walk.trace.start.Given as goal

abbrev pub invariant-loop-p : goal.invariant-loop-p
invariant-loop-p l = Seeking l.line.by_vertex.mesh.corners.now (point_at l.line.points.now) l.line.start l.line.end l.p
