-- The length of a way round a box is a number wherever its three points are: it is finite. Assumes nothing.
use Prim.Native.Nat.{ℕ, ◌+◌, ◌≤◌}
use native.Mathlib.Omega.{arith}
use Rattle.numbers.specs.Ops.{◌⊖◌}
use Rattle.numbers.specs.Hypot.{hypot_of}
use Rattle.numbers.specs.Size.{AtMost}
use Rattle.numbers.proofs.float.SizeLaws.{add_under, sub_under, hypot_most}
use Rattle.plane.specs.declared.geometry.Point.{Point}
use Rattle.plane.proofs.geometry.PointSizes.{Near}
use Rattle.boxes.specs.Corner.{cost}

module _ (k : ℕ) (K : k + 3 ≤ 2097) where
  leg_most : (p q : Point) → Near k p → Near k q → AtMost (k + 2) (hypot_of (q.x ⊖ p.x) (q.y ⊖ p.y))
  leg_most p q P Q =
      hypot_most (k + 1) (k + 1) (k + 2) (q.x ⊖ p.x) (q.y ⊖ p.y) (omega arith) (omega arith) (omega arith)
      (sub_under k k (k + 1) q.x p.x (omega arith) (omega arith) (omega arith) Q.x P.x)
      (sub_under k k (k + 1) q.y p.y (omega arith) (omega arith) (omega arith) Q.y P.y)

  -- points within 2 ^ (k - 1074): a way of two legs within 8 times that
  pub cost_most : (p q c : Point) → Near k p → Near k q → Near k c → AtMost (k + 3) (cost p q c)
  unfolding cost
  cost_most p q c P Q C =
      add_under (k + 2) (k + 2) (k + 3) (hypot_of (c.x ⊖ p.x) (c.y ⊖ p.y)) (hypot_of (q.x ⊖ c.x) (q.y ⊖ c.y)) (omega arith) (omega arith) K
      (leg_most p c P C) (leg_most c q C Q)
