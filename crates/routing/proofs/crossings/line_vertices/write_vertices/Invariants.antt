-- What the loop of `crossings::line_vertices::write_vertices` keeps.
use lib.ListN.{length}
use Rattle.routing.specs.Stages.Store.{HoldVertices}
use Rattle.routing.specs.Stages.Lent.{line_vertices_over}
use Rattle.routing.proofs.crossings.line_vertices.write_vertices.Given as goal

abbrev pub invariant-loop-e : goal.invariant-loop-e
invariant-loop-e l = HoldVertices (line_vertices_over l.network l.vertices) (length l.network.from.now) l.e l.initial.ends l.ends
