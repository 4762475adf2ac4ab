-- The window of a part of a piece: every box that the piece enters there reaches it. Definitions only.
use Rattle.std.specs.Prelude.{Bool, cond, ◌&&◌, ◌||◌, T, Float}
use Rattle.std.specs.Float.Ieee.{lt, le, neg}
use Rattle.numbers.specs.Small.{is_finite}
use Rattle.numbers.specs.Ops.{◌⊖◌, ◌⊘◌, f0}
use Rattle.plane.specs.declared.geometry.Point.{Point}
use Rattle.plane.specs.declared.geometry.Box.{Box}

-- a piece whose start and whose differences are finite
unfoldable pub plain_piece : Point → Point → Bool
plain_piece p q = is_finite p.x && (is_finite p.y && (is_finite (q.x ⊖ p.x) && is_finite (q.y ⊖ p.y)))

-- all sides of a box are finite
unfoldable pub finite_box : Box → Bool
finite_box b = is_finite b.left && (is_finite b.top && (is_finite b.right && is_finite b.bottom))

-- In one direction, from start on by d, low and high bound the part of a piece from t to u: by the clip
-- test's own quotients what ends at low is left before t and what begins at high is entered after u, or the other way
-- round where d is below 0. Where the piece doesn't move, they lie on both sides of it, by the clip test's own
-- differences.
unfoldable pub range_holds : Float → Float → Float → Float → Float → Float → Bool
range_holds start d t u low high =
    cond (lt f0 d)
    (lt ((low ⊖ start) ⊘ d) t && lt u ((start ⊖ high) ⊘ neg d))
    (cond (lt d f0)
    (lt ((start ⊖ high) ⊘ neg d) t && lt u ((low ⊖ start) ⊘ d))
    (lt (low ⊖ start) f0 && lt (start ⊖ high) f0))

-- the box w is a window of the part from t to u of the piece p q
unfoldable pub window_holds : Point → Point → Float → Float → Box → Bool
window_holds p q t u w =
    range_holds p.x (q.x ⊖ p.x) t u w.left w.right
    && range_holds p.y (q.y ⊖ p.y) t u w.top w.bottom

-- two boxes lie apart
unfoldable pub is_apart : Box → Box → Bool
is_apart w b = lt w.right b.left || (lt b.right w.left || (lt w.bottom b.top || lt b.bottom w.top))

-- the box b reaches the window w
pub record Reaches (w b : Box) : Type 0 where
  pub left : T (le b.left w.right)
  pub right : T (le w.left b.right)
  pub top : T (le b.top w.bottom)
  pub bottom : T (le w.top b.bottom)
