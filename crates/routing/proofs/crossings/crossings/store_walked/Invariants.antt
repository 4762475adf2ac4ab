-- What the loop of `crossings::crossings::store_walked` keeps.
use Prim.Native.Nat.{◌+◌, ◌≤◌}
use Rattle.routing.specs.Stages.Store.{stock}
use Rattle.routing.proofs.crossings.Growing.{WalkWritten}
use Rattle.routing.proofs.crossings.crossings.store_walked.Given as goal

abbrev pub invariant-loop-i : goal.invariant-loop-i
invariant-loop-i l =
    (l.known ≤ l.first + l.i) × WalkWritten l.branch_count l.line.by_vertex.mesh.corners.now l.line.points.now l.line.start l.line.end l.branch l.walked l.i (stock l.channels l.first l.initial.ends l.initial.numbers l.initial.places) l.first l.known l.ends l.numbers l.places
