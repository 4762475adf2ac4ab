-- How the lent work lists hold the boxes that a search passes. Definitions only.
use Rattle.std.specs.Prelude.{ℕ, ◌+◌, ◌-◌, ◌*◌, ◌<◌, List, map, ℤ, length, take, drop, Float}
use Rattle.plane.specs.declared.geometry.Box.{Box}
use Rattle.plane.specs.Plane.{box_at}
use Rattle.numbers.specs.Lists.{All}
use Rattle.plane.specs.Stages.Cells.{shifted}
use Rattle.plane.specs.Stages.Kept.{Kept}
use Rattle.stations.specs.Size.{Size}
use Rattle.placement.specs.Search.{HalfSides}
use Rattle.placement.specs.declared.free_places.Outline.{Outline}

-- half sides, and what an interior is drawn in
abbrev pub half : Float → Float → Size
half a b = record { w = a; h = b }

abbrev pub half_sides_of : Outline → HalfSides
half_sides_of r = record { half = half r.w r.h; f = r.block; buffer = r.buffer }

-- the boxes of a list of stations
abbrev pub kept_boxes : List Float → List ℕ → List Box
kept_boxes boxes sorted = map (box_at boxes) sorted

-- the boxes of a tested part of a list's stations
abbrev pub boxes_among : List Float → ℕ → ℕ → List ℕ → List Box
boxes_among boxes first end sorted = map (box_at boxes) (take (end - first) (drop first sorted))

-- the number of the column of offsets with this first number, from 0 for −20 on
unfoldable pub column_of : ℤ → ℕ
unfolding shifted
column_of a = shifted a - 4503599627370476

-- The boxes of stations are kept by their left cells: `box_order` says how. Each of them stands in the list of boxes.
pub record Holds (unit : Float) (boxes : List Float) (most : ℕ) (keys sorted : List ℕ) : Type 0 where
  pub kept : Kept unit boxes most keys sorted
  pub inside : All (λ s. 4 * s + 3 < length boxes) sorted
