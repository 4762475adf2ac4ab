-- Where the mesh is looked at, refusals 9 and 10, and the places of crossings after the iterations. Definitions only.
use Rattle.std.specs.Prelude.{ℕ, Bool, not, ◌&&◌, ◌||◌, List, leb, ltb, Float, Option, Some, None}
use Rattle.network.specs.declared.refusals.Refusal.{Refusal}
use Rattle.network.specs.declared.refusals.Refusal.TheVariants as Refusals
use Rattle.network.specs.Refusal.{refuse}
use Rattle.network.specs.Mesh.{mesh_ok}
use Rattle.routing.specs.Route.{MeshScene, routing, rounds_to}

-- The mesh is looked at only with three occupied stations or more and at least one iteration.
unfoldable pub mesh_used : ℕ → ℕ → Bool
mesh_used stations iterations = leb 3 stations && ltb 0 iterations

-- 9: the mesh passes its test, where it is looked at
unfoldable pub mesh_fits : List ℕ → List ℕ → ℕ → ℕ → Bool
mesh_fits corners twins stations iterations = not (mesh_used stations iterations) || mesh_ok corners twins stations

-- the places of a scene's crossings after the iterations
unfoldable pub crossings_of : MeshScene → ℕ → List Float
crossings_of S iterations = rounds_to S (routing S) iterations

-- 9 or 10, none where neither applies, where the crossing list holds so many
unfoldable pub route_refusal : Bool → ℕ → ℕ → Option Refusal
route_refusal fits crossings room =
    refuse (not fits) (Some Refusals.Mesh) (refuse (ltb room crossings) (Some Refusals.Crossings) None)
