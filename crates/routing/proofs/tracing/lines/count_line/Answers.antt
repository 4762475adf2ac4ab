-- Answers for `routing::tracing::lines::count_line`.
use Rattle.plane.specs.Plane.{point_at}
use native.Mathlib.Omega.{arith}
use mathlib.Core.Path.{sym, refl}
use Rattle.routing.proofs.tracing.Branching.{walk_none, walk_counted}
use Rattle.channels.proofs.walk.Walks.{walked_short}
use Rattle.routing.proofs.tracing.lines.count_line.Goals as goal

pub returns-then-start-eq0-clause-counted : goal.returns-then-start-eq0-clause-counted
returns-then-start-eq0-clause-counted c = sym (walk_none c.args.by_vertex.now.mesh.corners.now c.args.by_vertex.now.mesh.twins.now c.args.points.now c.args.start c.args.end c.if-start-eq0.true)

pub returns-clause-counted : goal.returns-clause-counted
returns-clause-counted c = walk_counted c.args.by_vertex.now.mesh.corners.now c.args.by_vertex.now.mesh.twins.now c.args.points.now c.args.start c.args.end _ c.if-start-eq0.false refl _ _ _ _ c.trace-t.ensures

pub returns-clause-few_crossings : goal.returns-clause-few_crossings
returns-clause-few_crossings c = omega (arith, c.args.by_vertex.now.few, walked_short c.args.by_vertex.now.mesh.corners.now c.args.by_vertex.now.mesh.twins.now (point_at c.args.points.now) _ _ _ _ _ _ c.trace-t.ensures)
