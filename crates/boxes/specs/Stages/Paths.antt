-- How a lent list holds a path: coordinates side by side. Definitions only.
use Rattle.std.specs.Prelude.{ℕ, ◌+◌, ◌*◌, ◌≤◌, ◌<◌, ◌≡◌, List, take, Float}
use Rattle.numbers.specs.Table.{table_from}
use Rattle.plane.specs.declared.geometry.Point.{Point}
use Rattle.plane.specs.Plane.{point_at}

-- n points of a list of coordinates, from point i on
unfoldable pub path_in : ℕ → ℕ → List Float → List Point
path_in i n l = table_from (point_at l) i n

-- c is put in as point i, the points from there to before `end` moved one up; the numbers before are as they were.
pub record PutIn (i end : ℕ) (c : Point) (was now : List Float) : Type 0 where
  pub before : take (2 * i) now ≡ take (2 * i) was
  pub here : point_at now i ≡ c
  pub moved : (m : ℕ) → i ≤ m → m < end → point_at now (m + 1) ≡ point_at was m

-- From point i on stand n points, these; the numbers before are as they were.
pub record Led (i n : ℕ) (points : List Point) (was now : List Float) : Type 0 where
  pub before : take (2 * i) now ≡ take (2 * i) was
  pub path : path_in i n now ≡ points
