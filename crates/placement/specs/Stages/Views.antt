-- How the lent work lists hold boxes and what the interiors are drawn in. Definitions only.
use Rattle.std.specs.Prelude.{ℕ, suc, ◌+◌, ◌*◌, ◌≡◌, Bool, false, not, ◌&&◌, List, get_or, set, take, Float}
use Rattle.std.specs.Float.{nan}
use Rattle.plane.specs.declared.geometry.Point.{Point}
use Rattle.plane.specs.declared.geometry.Box.{Box}
use Rattle.plane.specs.Plane.{point_at, box_at}
use Rattle.plane.specs.Stages.Cells.{by_cell, put_in}
use Rattle.plane.specs.Stages.Kept.{Kept}
use Rattle.stations.specs.declared.measures.Measures.{Measures}
use Rattle.stations.specs.Stages.Views.{size_in, sizes_in, scales_in}
use Rattle.offsets.specs.declared.offset.Offset.{Offset}
use Rattle.placement.specs.Search.{HalfSides, half_sides_for, half_sides, box_on, place_for}
use Rattle.placement.specs.Stages.Among.{kept_boxes}

-- a list of boxes after one is stored at i
abbrev pub put_box : List Float → ℕ → Box → List Float
put_box l i b = set (set (set (set l (4 * i) b.left) (4 * i + 1) b.top) (4 * i + 2) b.right) (4 * i + 3) b.bottom

-- what station s's interior is drawn in, and all of them
abbrev pub half_sides_in : Measures → List Float → ℕ → HalfSides
half_sides_in M l s = half_sides_for M (get_or l (3 * s + 2) nan) (size_in l s)

abbrev pub half_sides_listed : Measures → ℕ → List Float → List HalfSides
half_sides_listed M k l = half_sides M (scales_in k l) (sizes_in k l)

-- Station s was placed behind p others, by the boxes kept of them: its place stands in the list of places, its box in
-- that of boxes, and all else is as it was; and it is kept with them.
pub record PlacedAs (M : Measures) (blocks : List Float) (os : List Offset) (s p wider : ℕ)
    (places₀ boxes₀ : List Float) (sorted₀ : List ℕ) (places boxes : List Float) (keys sorted : List ℕ) : Type 0 where
  pub at : Point
  pub chosen : at ≡ place_for (point_at places₀ s) (half_sides_in M blocks s) (kept_boxes boxes₀ (take p sorted₀)) os
  pub placed : places ≡ set (set places₀ (2 * s) at.x) (2 * s + 1) at.y
  pub boxed : boxes ≡ put_box boxes₀ s (box_on at (half_sides_in M blocks s).half)
  pub kept : Kept M.unit boxes wider (take (suc p) keys) (take (suc p) sorted)
  pub listed : take (suc p) sorted ≡ put_in (by_cell M.unit (box_at boxes)) s (take p sorted₀)

-- These are the places that the stations get, unless the search gave up: where it may, and not all are free.
abbrev pub PlacedUnless : Bool → Bool → List Point → List Point → Type 0
PlacedUnless only_free all_free written placed = only_free && not all_free ≡ false → written ≡ placed
