-- Answers for `routing::tracing::routes::trace_all`.
use native.Mathlib.Omega.{arith}
use Rattle.routing.proofs.tracing.Branching.{mesh_most}
use Rattle.routing.proofs.tracing.Tracing.{vertices_kept, trace_made, round_kept}
use Rattle.routing.proofs.tracing.routes.trace_all.Goals as goal

pub go_round-requires : goal.go_round-requires
go_round-requires c = let q = mesh_most c.args.network.now.mesh.corners.now c.args.network.now.mesh.twins.now (c.args.vertices.now.c, c.requires.mesh_passes) in record { fits_u32 = omega (arith, q); keys_room = omega (arith, c.requires.keys_fit); around_room = omega (arith, c.requires.sorted_fits); spare_room = omega (arith, c.requires.spare_fits) }

pub invariant_of-by_vertex : goal.invariant_of-by_vertex
invariant_of-by_vertex c = record { few = mesh_most _ _ (c.args.vertices.now.c, c.requires.mesh_passes); by_vertex = round_kept _ _ _ c.go_round.ensures.around_after }

pub returns : goal.returns
returns c = trace_made c.args.network.now.sub.now c.args.network.now.from.now c.args.network.now.to.now c.args.network.now.service.now c.args.vertices.now.c c.args.vertices.now.stations.now c.args.path.now c.args.network.now.mesh.corners.now c.args.network.now.mesh.twins.now c.args.room c.args.ends.now _ _ _ _ _ (vertices_kept c.args.network.now.sub.now c.args.network.now.from.now c.args.network.now.to.now c.args.network.now.service.now c.args.vertices.now.c c.args.vertices.now.stations.now c.args.path.now c.args.network.now.mesh.corners.now c.args.network.now.mesh.twins.now c.args.ends.now _ _ c.write_vertices.ensures c.clear_marks.ensures.ends_unchanged) c.store_routes.ensures
