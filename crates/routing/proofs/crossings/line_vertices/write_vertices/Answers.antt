-- Answers for `crossings::line_vertices::write_vertices`.
use native.Mathlib.Omega.{arith}
use Rattle.routing.proofs.crossings.Written.{vertices_more}
use Rattle.routing.proofs.crossings.line_vertices.write_vertices.Goals as goal

pub loop-e-preserved : goal.loop-e-preserved
loop-e-preserved c = vertices_more _ _ _ _ _ _ (omega arith) c.line_vertices-w.ensures c.loop-e.invariant
