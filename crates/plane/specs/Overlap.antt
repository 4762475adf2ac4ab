-- Two boxes strictly overlap (docs/RULES.md, 'Free places'). Definitions only.
use Rattle.std.specs.Prelude.{Bool, ◌&&◌, Float}
use Rattle.std.specs.Float.Ieee.{lt}
use Rattle.plane.specs.declared.geometry.Box.{Box}

-- each of l0 to r0 and l1 to r1 begins before the other ends
unfoldable pub meet : Float → Float → Float → Float → Bool
meet l0 r0 l1 r1 = lt l0 r1 && lt l1 r0

-- two boxes strictly overlap: neither side by side nor one above the other, and touching does not count
unfoldable pub overlap : Box → Box → Bool
unfolding meet
overlap p q = meet p.left p.right q.left q.right && meet p.top p.bottom q.top q.bottom
