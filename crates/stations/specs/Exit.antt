-- The exit of a station towards another, where a line leaves its box (docs/RULES.md, 'Exits'). Definitions only.
use Rattle.std.specs.Prelude.{ℕ, List, Float}
use Rattle.std.specs.Float.Ieee.{le}
use Rattle.numbers.specs.Order.{pick}
use Rattle.plane.specs.declared.geometry.Point.{Point}
use Rattle.plane.specs.declared.geometry.Box.{Box}
use Rattle.plane.specs.Plane.{point, box_in}
use Rattle.network.specs.Seed.{place_at}

-- On the right side of the box if the other place isn't left of its own, else on the left side.
unfoldable pub exit_x : Box → Point → Point → Float
exit_x b p q = pick (le p.x q.x) b.right b.left

-- the exit of station s towards station t, at the height y
unfoldable pub exit : List Box → List Point → ℕ → ℕ → Float → Point
exit bs places s t y = point (exit_x (box_in bs s) (place_at places s) (place_at places t)) y
