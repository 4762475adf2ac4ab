-- What the loops of `routing::tracing::lines::store_all` keep.
use mathlib.Core.Path.{◌≡◌}
use lib.ListN.{length}
use Rattle.routing.specs.Stages.Store.{stock}
use Rattle.routing.proofs.tracing.Filling.{Filling}
use Rattle.routing.proofs.tracing.lines.store_all.Given as goal

abbrev pub invariant-loop-e : goal.invariant-loop-e
invariant-loop-e l = (length l.walked ≡ length l.initial.walked) × (length l.ends ≡ length l.initial.ends) × (length l.numbers ≡ length l.initial.numbers) × (length l.places ≡ length l.initial.places) × Filling l.branch_count l.by_vertex.mesh.corners.now l.by_vertex.mesh.twins.now l.points l.initial.ends l.e (stock l.counts.channels l.counts.crossings l.ends l.numbers l.places)
