-- What the way round a box and a path round boxes must be. The functions of `boxes::laws` promise it. Definitions only.
use Rattle.std.specs.Prelude.{ℕ, ◌+◌, ◌≤◌, List, [], ◌∷◌, Float}
use Rattle.numbers.specs.Size.{AtMost}
use Rattle.plane.specs.declared.geometry.Point.{Point}
use Rattle.plane.specs.declared.geometry.Box.{Box}
use Rattle.plane.specs.Plane.{box_in}
use Rattle.boxes.specs.Corner.{cost}
use Rattle.boxes.specs.Detour.{detour}

-- Both coordinates of a point are finite, and at most 2 ^ (k - 1074) in size.
abbrev pub PointAtMost : ℕ → Point → Type 0
PointAtMost k p = AtMost k p.x × AtMost k p.y

-- Of points so far out, the way from p by c to q is finite, and at most 8 times as long.
abbrev pub WayIsFinite : Type 0
WayIsFinite = (k : ℕ) → k + 3 ≤ 2097 → (p q c : Point) → PointAtMost k p → PointAtMost k q → PointAtMost k c → AtMost (k + 3) (cost p q c)

-- the same of the four edges of a box, and of each point of a list
abbrev pub BoxAtMost : ℕ → Box → Type 0
BoxAtMost k b = AtMost k b.left × AtMost k b.top × AtMost k b.right × AtMost k b.bottom

abbrev pub PointsAtMost : ℕ → List Point → Type 0
PointsAtMost k [] = Unit {0}
PointsAtMost k (p ∷ ps) = PointAtMost k p × PointsAtMost k ps

-- A path of points so far out, at least 2 ^ 71, stays so where it is led round boxes within 2 ^ 70, by a clearance of
-- at most 2 ^ 46.
abbrev pub DetourIsFinite : Type 0
DetourIsFinite =
    (k : ℕ) → 1074 + 71 ≤ k → k ≤ 2097 → (boxes : List Box) (occupied : List ℕ) (clearance : Float) (a b : ℕ)
    → ((s : ℕ) → BoxAtMost (1074 + 70) (box_in boxes s)) → AtMost (1074 + 46) clearance
    → (path : List Point) → PointsAtMost k path → PointsAtMost k (detour boxes occupied clearance a b path)
