-- Answers for `routing::routes::route_lines`.
use Rattle.network.proofs.refusals.Shapes.{test_on, test_off}
use Rattle.routing.proofs.routes.Scenes.{order_below, routes_used, routes_unused}
use Rattle.routing.proofs.routes.route_lines.Goals as goal

pub returns-then-not-mesh_used : goal.returns-then-not-mesh_used
returns-then-not-mesh_used c = routes_unused _ _ _ _ _ _ _ _ _ _ c.occupied_vertices-c.ensures.stations_unchanged _ _ c.occupied_vertices-c.ensures.counted c.mesh_used.ensures (test_off _ c.if-not-mesh_used.true-raw) c.clear_walks.ensures

pub route_used-requires-clause-corners_in_bounds : goal.route_used-requires-clause-corners_in_bounds
route_used-requires-clause-corners_in_bounds c = order_below _ _ _ _ c.occupied_vertices-c.ensures.counted c.occupied_vertices-c.ensures.stations_after

pub returns : goal.returns
returns c = routes_used _ _ _ _ _ _ _ _ _ _ _ c.occupied_vertices-c.ensures.stations_unchanged _ _ _ c.occupied_vertices-c.ensures.counted c.mesh_used.ensures (test_on _ c.if-not-mesh_used.false-raw) c.occupied_vertices-c.ensures.stations_after c.occupied_vertices-c.ensures.path_after c.route_used.ensures
