-- How the lent work lists hold stations, buses and branches: some numbers side by side for each. Definitions only.
use Rattle.std.specs.Prelude.{ℕ, ◌+◌, ◌*◌, List, set, Float}
use Rattle.numbers.specs.Table.{table, strided}
use Rattle.plane.specs.declared.geometry.Point.{Point}
use Rattle.plane.specs.declared.geometry.Box.{Box}
use Rattle.plane.specs.Plane.{point_at, box_at}

-- a list of two numbers for each station: how many buses it has, and the s-th station of the order of placement
abbrev pub counts_in : ℕ → List ℕ → List ℕ
counts_in k l = strided 2 0 0 k l

abbrev pub order_in : ℕ → List ℕ → List ℕ
order_in r l = strided 2 1 0 r l

-- three numbers for each bus: its column, its first row, and one more than its last row, 0 where it has none
abbrev pub columns_in : ℕ → List ℕ → List ℕ
columns_in n l = strided 3 0 0 n l

-- four numbers for each branch: the row of its from end, the row of its to end, and two for its route
abbrev pub from_rows_in : ℕ → List ℕ → List ℕ
from_rows_in m l = strided 4 0 0 m l

abbrev pub to_rows_in : ℕ → List ℕ → List ℕ
to_rows_in m l = strided 4 1 0 m l

-- the first k points, the first k boxes
unfoldable pub points_in : ℕ → List Float → List Point
points_in k l = table (point_at l) k

unfoldable pub boxes_in : ℕ → List Float → List Box
boxes_in k l = table (box_at l) k

-- a list of points after one is stored at i, a list of boxes after one is stored at i
abbrev pub with_point : List Float → ℕ → Point → List Float
with_point l i p = set (set l (2 * i) p.x) (2 * i + 1) p.y

abbrev pub with_box : List Float → ℕ → Box → List Float
with_box l i b = set (set (set (set l (4 * i) b.left) (4 * i + 1) b.top) (4 * i + 2) b.right) (4 * i + 3) b.bottom
