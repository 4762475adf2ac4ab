-- The clip test with its entry: where a piece enters a box, or a miss (docs/RULES.md, 'Where a piece enters a box').
-- Definitions only.
use Rattle.std.specs.Prelude.{cond, Float, Option, option_map}
use Rattle.std.specs.Float.Ieee.{lt}
use Rattle.numbers.specs.Small.{max_of}
use Rattle.numbers.specs.Ops.{◌⊖◌, ◌⊘◌, f0}
use Rattle.plane.specs.declared.geometry.Point.{Point}
use Rattle.plane.specs.declared.geometry.Box.{Box}
use Rattle.plane.specs.Clip.{clipped}

-- where the piece from p to q enters the box b: where what is left of it begins; or a miss
unfoldable pub enters : Point → Point → Box → Option Float
enters p q b = option_map (λ part. part.0) (clipped p q b)

-- The place said otherwise (equal to the clip test's by proofs/geometry/Entries.antt): the larger of a number and,
-- where the piece moves by d in a direction, (edge first met − start) / (end − start)
unfoldable pub along_side : Float → Float → Float → Float → Float → Float
along_side low high start d t =
    cond (lt f0 d)
    (max_of t ((low ⊖ start) ⊘ d))
    (cond (lt d f0) (max_of t ((high ⊖ start) ⊘ d)) t)

-- the largest of 0 and these in both directions
unfoldable pub entry_of : Point → Point → Box → Float
entry_of p q b = along_side b.top b.bottom p.y (q.y ⊖ p.y) (along_side b.left b.right p.x (q.x ⊖ p.x) f0)
