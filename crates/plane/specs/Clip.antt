-- Whether a piece meets a box, by the four sides in turn (docs/RULES.md, 'Where a piece enters a box'). Definitions
-- only.
use Rattle.std.specs.Prelude.{Bool, true, false, cond, Float, Option, Some, None, is_some}
use Rattle.std.specs.Float.Ieee.{lt, eq, neg}
use Rattle.numbers.specs.Small.{max_of, min_of}
use Rattle.numbers.specs.Ops.{◌⊖◌, ◌⊘◌, f0, f1}
use Rattle.plane.specs.declared.geometry.Point.{Point}
use Rattle.plane.specs.declared.geometry.Box.{Box}

-- what is left of t0 to t1, unless it is turned round
unfoldable pub part : Float → Float → Option (Float × Float)
part t0 t1 = cond (lt t1 t0) None (Some (t0, t1))

-- a side that the piece comes in through (true) or goes out through, at r
unfoldable pub cut : Bool → Float → Float → Float → Option (Float × Float)
cut true r t0 t1 = part (max_of t0 r) t1
cut false r t0 t1 = part t0 (min_of t1 r)

-- one side of the box: p is how fast the piece nears the side, q how far off it starts
unfoldable pub clip_by : Float → Float → Option (Float × Float) → Option (Float × Float)
clip_by p q None = None
clip_by p q (Some (t0, t1)) = cond (eq p f0) (cond (lt q f0) None (Some (t0, t1))) (cut (lt p f0) (q ⊘ p) t0 t1)

-- the piece from p to q after the box's left, right, top and bottom, in this order
unfoldable pub clipped : Point → Point → Box → Option (Float × Float)
unfolding clip_by part cut
clipped p q b =
    let dx = q.x ⊖ p.x in
    let dy = q.y ⊖ p.y in
    let c1 = clip_by (neg dx) (p.x ⊖ b.left) (Some (f0, f1)) in
    let c2 = clip_by dx (b.right ⊖ p.x) c1 in
    let c3 = clip_by (neg dy) (p.y ⊖ b.top) c2 in
    clip_by dy (b.bottom ⊖ p.y) c3

-- the piece from p to q hits the box b
unfoldable pub hits : Point → Point → Box → Bool
unfolding clipped
hits p q b = is_some (clipped p q b)
