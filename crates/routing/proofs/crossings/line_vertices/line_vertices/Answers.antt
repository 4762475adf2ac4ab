-- Answers for `routing::crossings::line_vertices::line_vertices`.
use Rattle.std.proofs.Common.{arith}
use Rattle.std.proofs.lemmas.Grind.{common_steps}
use Rattle.routing.specs.Stages.Store.{vertices_for, line_vertices}
use Rattle.routing.proofs.crossings.line_vertices.line_vertices.Goals as goal

pub returns-in-Line : goal.returns-in-Line
unfolding line_vertices vertices_for
returns-in-Line c = grind (arith, common_steps)

pub returns-in_default : goal.returns-in_default
unfolding line_vertices vertices_for
returns-in_default c = grind (arith, common_steps)
