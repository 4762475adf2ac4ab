-- Answers for `routing::routes::route_used`.
use mathlib.Core.Path.{sym, ◌∙◌}
use native.Mathlib.Omega.{arith}
use Rattle.network.proofs.refusals.Shapes.{test_on, test_off}
use Rattle.routing.proofs.routes.Leading.{same_rows, mesh_room, led_nine, led_full, entered, room_enough, led_all}
use Rattle.routing.proofs.routes.route_used.Goals as goal

pub returns-then-not-mesh_ok : goal.returns-then-not-mesh_ok
returns-then-not-mesh_ok c = led_nine _ _ _ _ _ _ _ _ (same_rows _ _) _ (sym c.mesh_ok.ensures ∙ test_off _ c.if-not-mesh_ok.true-raw)

pub returns-in_default : goal.returns-in_default
returns-in_default c = led_full c.args.network.now.lists.sub.now c.args.network.now.lists.from.now c.args.network.now.lists.to.now c.args.network.now.lists.service.now c.args.surroundings.now.measures c.args.surroundings.now.blocks.now c.args.surroundings.now.places.now c.args.surroundings.now.frames.now c.args.surroundings.now.station_count c.args.vertices.now.c c.args.vertices.now.stations.now c.args.path.now c.args.network.now.lists.mesh.corners.now c.args.network.now.lists.mesh.twins.now c.args.room c.args.ends.now _ _ _ _ (sym c.mesh_ok.ensures ∙ test_on _ c.if-not-mesh_ok.false-raw) c.trace_all-traced.ensures _ _ c.in_default.not-Ok

pub space_all_rounds-requires : goal.space_all_rounds-requires
space_all_rounds-requires c =
    let ok = (sym c.mesh_ok.ensures ∙ test_on _ c.if-not-mesh_ok.false-raw) in
    let m = mesh_room c.args.network.now.lists.mesh.corners.now c.args.network.now.lists.mesh.twins.now c.args.vertices.now.c ok in
    let w = room_enough c.args.network.now.lists.sub.now c.args.network.now.lists.from.now c.args.network.now.lists.to.now c.args.network.now.lists.service.now c.args.surroundings.now.measures c.args.surroundings.now.blocks.now c.args.surroundings.now.places.now c.args.surroundings.now.frames.now c.args.surroundings.now.station_count c.args.vertices.now.c c.args.vertices.now.stations.now c.args.path.now c.args.network.now.lists.mesh.corners.now c.args.network.now.lists.mesh.twins.now c.args.room c.args.ends.now _ _ _ _ ok c.trace_all-traced.ensures _ c.in-Ok.is c.requires.frames_given c.requires.corners_in_bounds c.args.network.now.few_branches in
    record {
      few_channels = omega (arith, w.0, w.1);
      few_crossings = omega (arith, w.3);
      ends_fit = omega (arith, w.0, m.1, c.requires.holds_half_edges.0, c.trace_all-traced.auto.ends);
      centres_fit = omega (arith, w.0, m.1, c.requires.path_fits);
      numbers_fit = omega (arith, w.2, c.requires.holds_crossings.0, c.trace_all-traced.auto.numbers);
      ways_fit = omega (arith, w.2, c.requires.holds_crossings.2);
      sorted_fits = omega (arith, w.2, c.requires.holds_crossings.3, c.trace_all-traced.auto.sorted);
      spare_fits = omega (arith, w.2, c.requires.holds_crossings.4, c.trace_all-traced.auto.spare);
      keys_fit = omega (arith, w.2, c.requires.holds_crossings.5, c.trace_all-traced.auto.keys);
      entered = entered c.args.network.now.lists.sub.now c.args.network.now.lists.from.now c.args.network.now.lists.to.now c.args.network.now.lists.service.now c.args.surroundings.now.measures c.args.surroundings.now.blocks.now c.args.surroundings.now.places.now c.args.surroundings.now.frames.now c.args.surroundings.now.station_count c.args.vertices.now.c c.args.vertices.now.stations.now c.args.path.now c.args.network.now.lists.mesh.corners.now c.args.network.now.lists.mesh.twins.now c.args.room c.args.ends.now _ _ _ _ ok c.trace_all-traced.ensures _ c.in-Ok.is c.requires.frames_given c.requires.corners_in_bounds c.requires.exits_given;
    }

pub returns : goal.returns
returns c = led_all c.args.network.now.lists.sub.now c.args.network.now.lists.from.now c.args.network.now.lists.to.now c.args.network.now.lists.service.now c.args.surroundings.now.measures c.args.surroundings.now.blocks.now c.args.surroundings.now.places.now c.args.surroundings.now.frames.now c.args.surroundings.now.station_count c.args.vertices.now.c c.args.vertices.now.stations.now c.args.path.now c.args.network.now.lists.mesh.corners.now c.args.network.now.lists.mesh.twins.now c.args.room c.args.ends.now _ _ _ _ (sym c.mesh_ok.ensures ∙ test_on _ c.if-not-mesh_ok.false-raw) c.trace_all-traced.ensures _ c.in-Ok.is c.requires.frames_given c.requires.corners_in_bounds c.args.network.now.few_branches _ _ _ c.space_all_rounds.ensures.ways_after c.space_all_rounds.ensures.ends_unchanged
