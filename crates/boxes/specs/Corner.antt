-- The corner by which a piece goes round a box: half a clearance off it, the cheapest that avoids it
-- (docs/RULES.md, 'Corner of a detour'). Definitions only.
use Rattle.std.specs.Prelude.{ℕ, Bool, not, cond, ◌&&◌, List, [], ◌∷◌, ltb, Float, Option, Some, None, unwrap_or}
use Rattle.numbers.specs.Hypot.{hypot_of}
use Rattle.numbers.specs.Ops.{f½, order_key, ◌⊕◌, ◌⊖◌, ◌⊗◌}
use Rattle.plane.specs.declared.geometry.Point.{Point}
use Rattle.plane.specs.declared.geometry.Box.{Box}
use Rattle.plane.specs.Plane.{point, shrunk}
use Rattle.plane.specs.Clip.{hits}

-- the four points g off a box's corners
unfoldable pub corners_of : Box → Float → List Point
corners_of b g =
    point (b.left ⊖ g) (b.top ⊖ g)
    ∷ point (b.right ⊕ g) (b.top ⊖ g)
    ∷ point (b.right ⊕ g) (b.bottom ⊕ g)
    ∷ point (b.left ⊖ g) (b.bottom ⊕ g)
    ∷ []

-- How long the way from p over c to q is; its place in the total order (docs/RULES.md, 'Total order'). A NaN, which
-- only a point that isn't finite gives, stands last: no drawing has one.
unfoldable pub cost : Point → Point → Point → Float
cost p q c = hypot_of (c.x ⊖ p.x) (c.y ⊖ p.y) ⊕ hypot_of (q.x ⊖ c.x) (q.y ⊖ c.y)

unfoldable pub cost_key : Point → Point → Point → ℕ
cost_key p q c = order_key (cost p q c)

-- the two new pieces over c clear the box, shrunk by 1e-9
unfoldable pub avoids : Point → Point → Box → Point → Bool
avoids p q b c = not (hits p c (shrunk b)) && not (hits c q (shrunk b))

unfoldable pub avoiding : Point → Point → Box → List Point → List Point
avoiding p q b [] = []
avoiding p q b (c ∷ cs) = let rest = avoiding p q b cs in cond (avoids p q b c) (c ∷ rest) rest

-- c in place of the cheapest so far where it costs strictly less
unfoldable pub cheaper : Point → Point → Option Point → Point → Option Point
cheaper p q None c = Some c
cheaper p q (Some d) c = cond (ltb (cost_key p q c) (cost_key p q d)) (Some c) (Some d)

-- `min_by`: the cheapest of one so far and these, the first of equals
unfoldable pub cheapest : Point → Point → Option Point → List Point → Option Point
cheapest p q best [] = best
cheapest p q best (c ∷ cs) = cheapest p q (cheaper p q best c) cs

-- the point by which the piece p q goes round box b: the cheapest of the corners that clear it, else of all four
unfoldable pub corner : Point → Point → Box → Float → Point
corner p q b clearance =
    let cs = corners_of b (clearance ⊗ f½) in
    unwrap_or (cheapest p q None (avoiding p q b cs)) (unwrap_or (cheapest p q None cs) p)
