-- A seed is the mean of a station's bus points, summed in bus order (docs/RULES.md, 'Seeds'). Definitions only.
use Rattle.std.specs.Prelude.{ℕ, zero, suc, ◌+◌, ◌*◌, ◌&&◌, List, eqb, length, get_or, Float}
use Rattle.std.specs.Float.{nan}
use Rattle.numbers.specs.Small.{is_finite}
use Rattle.numbers.specs.Ops.{num, ◌⊕◌, ◌⊘◌}
use Rattle.numbers.specs.Order.{pick}
use Rattle.numbers.specs.Table.{table}
use Rattle.plane.specs.declared.geometry.Point.{Point}
use Rattle.plane.specs.Plane.{point, origin}
use Rattle.network.specs.Words.{station_count, station_of, buses_in}

-- A bus with an absent or non-finite coordinate counts as (0, 0).
unfoldable pub point_of : Float → Float → Point
point_of a b = pick (is_finite a && is_finite b) (point a b) origin

unfoldable pub bus_point : List Float → ℕ → Point
bus_point xy i = point_of (get_or xy (2 * i) nan) (get_or xy (2 * i + 1) nan)

abbrev pub plus : Point → Point → Point
plus p q = point (p.x ⊕ q.x) (p.y ⊕ q.y)

-- the sum of the points of station s's buses among the first i
unfoldable pub sum_to : List ℕ → List Float → ℕ → ℕ → Point
sum_to sub xy s zero = origin
sum_to sub xy s (suc i) =
    let p = sum_to sub xy s i in let q = plus p (bus_point xy i) in pick (eqb (station_of sub i) s) q p

-- a sum of so many points divided by their number
unfoldable pub mean : ℕ → Point → Point
mean zero p = p
mean (suc c) p = point (p.x ⊘ num (suc c)) (p.y ⊘ num (suc c))

unfoldable pub seed_of : List ℕ → List Float → ℕ → Point
seed_of sub xy s = mean (buses_in sub s) (sum_to sub xy s (length sub))

-- the seeds of all stations
unfoldable pub seeds : List ℕ → List Float → List Point
seeds sub xy = table (seed_of sub xy) (station_count sub)

abbrev pub place_at : List Point → ℕ → Point
place_at ps s = get_or ps s origin
