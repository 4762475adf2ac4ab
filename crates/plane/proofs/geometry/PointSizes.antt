-- How far out a point and a box lie. Assumes nothing.
use Prim.Native.Nat.{ℕ}
use Rattle.numbers.specs.Size.{AtMost}
use Rattle.plane.specs.declared.geometry.Point.{Point}
use Rattle.plane.specs.declared.geometry.Box.{Box}

-- both coordinates of p are at most 2 ^ (m - 1074)
pub record Near (m : ℕ) (p : Point) : Type 0 where
  pub x : AtMost m p.x
  pub y : AtMost m p.y

-- ---- the box at a place
abbrev pub Edges : ℕ → Box → Type 0
Edges k b = AtMost k b.left × AtMost k b.top × AtMost k b.right × AtMost k b.bottom
