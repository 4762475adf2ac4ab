-- What routing a scene's lines leaves in the lent lists, whatever the scene is. Definitions only.
use Rattle.std.specs.Prelude.{ℕ, ◌+◌, ◌^◌, ◌≤◌, ◌<◌, min, ◌≡◌, Bool, List, length, Float, Option, None}
use Rattle.network.specs.declared.refusals.Refusal.{Refusal}
use Rattle.network.specs.Views.{from_rows_in, to_rows_in}
use Rattle.boxes.specs.Stages.Paths.{path_in}
use Rattle.runs.specs.Stages.Views.{first_waypoint, waypoint_count}
use Rattle.routing.specs.Route.{MeshScene, routing, waypoints}
use Rattle.routing.specs.Routes.{crossings_of, route_refusal}

-- Of m branches, where `fits` says that the mesh passes: 9 or 10, or none; the rows are as before; and, where nothing
-- is refused, each branch's waypoints.
pub record Led (S : MeshScene) (m : ℕ) (corners before : List ℕ) (fits : Bool) (iterations room : ℕ)
    (late : Option Refusal) (behind : List ℕ) (ways : List Float) : Type 0 where
  pub late_is : late ≡ route_refusal fits (length (crossings_of S iterations)) room
  pub from_rows : from_rows_in m behind ≡ from_rows_in m before
  pub to_rows : to_rows_in m behind ≡ to_rows_in m before
  pub along : late ≡ None → (e : ℕ) → e < m
      → path_in (first_waypoint behind e) (waypoint_count behind e) ways
      ≡ waypoints S (routing S) (crossings_of S iterations) e
  pub short : late ≡ None → (e : ℕ) → e < m
      → (waypoint_count behind e ≤ min (length corners) 24576)
      × (first_waypoint behind e + waypoint_count behind e < 2 ^ 31)
