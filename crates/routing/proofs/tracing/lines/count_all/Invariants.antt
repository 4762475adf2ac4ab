-- What the loops of `routing::tracing::lines::count_all` keep.
use mathlib.Core.Path.{◌≡◌}
use Prim.Native.Nat.{◌≤◌, ◌*◌}
use lib.ListN.{length}
use Rattle.routing.specs.Stages.Store.{crossings_to}
use Rattle.routing.proofs.tracing.lines.count_all.Given as goal

abbrev pub invariant-loop-e : goal.invariant-loop-e
invariant-loop-e l = (l.e ≤ l.branch_count) × (length l.walked ≡ length l.initial.walked) × (l.total ≤ 24576 * l.e) × (l.total ≡ crossings_to l.by_vertex.mesh.corners.now l.by_vertex.mesh.twins.now l.points l.ends l.e)
