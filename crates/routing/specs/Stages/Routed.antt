-- What routing reads from the lent lists and leaves in them. Definitions only.
use Rattle.std.specs.Prelude.{ℕ, ◌+◌, ◌^◌, ◌≤◌, ◌<◌, min, ◌≡◌, List, [], length, Float, Option, None}
use Rattle.network.specs.declared.refusals.Refusal.{Refusal}
use Rattle.numbers.specs.Order.{pick}
use Rattle.network.specs.Words.{occupied}
use Rattle.network.specs.Views.{counts_in, from_rows_in, to_rows_in, points_in, boxes_in}
use Rattle.stations.specs.Unit.{coordinates}
use Rattle.stations.specs.Stages.Views.{scales_in}
use Rattle.boxes.specs.Stages.Paths.{path_in}
use Rattle.runs.specs.Stages.Views.{first_waypoint, waypoint_count}
use Rattle.routing.specs.Route.{MeshScene, routing, waypoints}
use Rattle.routing.specs.Stages.Views.{TracedLists, lines_in}
use Rattle.routing.specs.Clearance.{clearance_of}
use Rattle.routing.specs.Routes.{crossings_of, mesh_fits, mesh_used, route_refusal}

-- the scene that the lists of k stations hold, without a mesh where that isn't looked at
unfoldable pub routed_in : TracedLists → ℕ → List ℕ → List ℕ → List ℕ → ℕ → MeshScene
routed_in G k stations corners twins iterations =
    let occ = occupied (counts_in k stations) in
    let used = mesh_used (length occ) iterations in
    record {
      occupied = occ;
      centres = coordinates (points_in k G.places) occ;
      boxes = boxes_in k G.frames;
      scales = scales_in k G.blocks;
      clearance = clearance_of G.measures.unit;
      corners = pick used corners [];
      twins = pick used twins [];
      lines = lines_in G;
    }

-- What routing leaves: bus counts and rows are as before; where nothing is refused, each branch's waypoints stand in
-- a list.
pub record Routes (G : TracedLists) (k : ℕ) (stations corners twins : List ℕ) (iterations room : ℕ)
    (late : Option Refusal) (stations' ends' : List ℕ) (ways : List Float) : Type 0 where
  pub late_is :
      late
      ≡ route_refusal
      (mesh_fits corners twins (length (occupied (counts_in k stations))) iterations)
      (length (crossings_of (routed_in G k stations corners twins iterations) iterations))
      room
  pub counts : counts_in k stations' ≡ counts_in k stations
  pub from_rows : from_rows_in (length G.from) ends' ≡ from_rows_in (length G.from) G.ends
  pub to_rows : to_rows_in (length G.from) ends' ≡ to_rows_in (length G.from) G.ends
  pub along : late ≡ None → (e : ℕ) → e < length G.from
      → path_in (first_waypoint ends' e) (waypoint_count ends' e) ways
      ≡ waypoints
      (routed_in G k stations corners twins iterations)
      (routing (routed_in G k stations corners twins iterations))
      (crossings_of (routed_in G k stations corners twins iterations) iterations)
      e
  pub short : late ≡ None → (e : ℕ) → e < length G.from
      → (waypoint_count ends' e ≤ min (length corners) 24576)
      × (first_waypoint ends' e + waypoint_count ends' e < 2 ^ 31)
