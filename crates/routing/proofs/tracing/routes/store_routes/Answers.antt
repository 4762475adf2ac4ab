-- Answers for `routing::tracing::routes::store_routes`.
use Rattle.routing.proofs.tracing.Tracing.{settle_full, settle_stored}
use Rattle.routing.proofs.tracing.routes.store_routes.Goals as goal

pub returns-then-x-room : goal.returns-then-x-room
returns-then-x-room c = settle_full c.args.branch_count c.args.by_vertex.now.mesh.corners.now c.args.by_vertex.now.mesh.twins.now c.args.points.now c.args.room c.args.ends.now _ c.count_all-x.ensures.counted _ _ c.if-x-room.true

pub returns : goal.returns
returns c = settle_stored c.args.branch_count c.args.by_vertex.now.mesh.corners.now c.args.by_vertex.now.mesh.twins.now c.args.points.now c.args.room c.args.ends.now _ c.count_all-x.ensures.counted _ _ _ _ c.if-x-room.false c.store_all.ensures
