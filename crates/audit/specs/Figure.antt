-- The audit's displacement and spacing: a number for each of a list of stations, in its order
-- (docs/RULES.md, 'Displacement and spacing'). Definitions only.
use Rattle.std.specs.Prelude.{ℕ, suc, List, [], ◌∷◌, map, length, get_or, Float}
use Rattle.std.specs.Float.{nan}
use Rattle.numbers.specs.Small.{max_of, min_of}
use Rattle.numbers.specs.Ops.{f2, least_normal, ◌⊕◌, ◌⊖◌, ◌⊘◌}
use Rattle.plane.specs.declared.geometry.Point.{Point}
use Rattle.plane.specs.declared.geometry.Box.{Box}
use Rattle.plane.specs.Plane.{point, box_in}
use Rattle.plane.specs.Near.{distance, nearest}
use Rattle.network.specs.Seed.{place_at}
use Rattle.stations.specs.Unit.{coordinates}

-- the middle of a box, and of each of a list
unfoldable pub middle : Box → Point
middle b = point ((b.left ⊕ b.right) ⊘ f2) ((b.top ⊕ b.bottom) ⊘ f2)

unfoldable pub middles : List Box → List Point
middles bs = map middle bs

-- displacement: from a station's seed to the middle of its box
unfoldable pub displacements : List Point → List Box → List ℕ → List Float
displacements seeds bs [] = []
displacements seeds bs (s ∷ ss) = distance (place_at seeds s) (middle (box_in bs s)) ∷ displacements seeds bs ss

-- a box's shorter side, at least f64::MIN_POSITIVE
unfoldable pub shorter : Box → Float
shorter b = max_of (min_of (b.right ⊖ b.left) (b.bottom ⊖ b.top)) least_normal

-- a list's i-th number by the shorter side of a station's box, and so on
unfoldable pub by_sides : List Float → List Box → ℕ → List ℕ → List Float
by_sides ds bs i [] = []
by_sides ds bs i (s ∷ ss) = get_or ds i nan ⊘ shorter (box_in bs s) ∷ by_sides ds bs (suc i) ss

-- the least positive distance of the i-th of n points to another by the shorter side of a station's box, and so on
unfoldable pub spacings_from : List Float → ℕ → List Box → ℕ → List ℕ → List Float
spacings_from ps n bs i [] = []
spacings_from ps n bs i (s ∷ ss) = nearest ps n i ⊘ shorter (box_in bs s) ∷ spacings_from ps n bs (suc i) ss

-- spacing: the points are the middles of these stations' boxes
unfoldable pub spacings : List Box → List ℕ → List Float
spacings bs ss = spacings_from (coordinates (middles bs) ss) (length ss) bs 0 ss
