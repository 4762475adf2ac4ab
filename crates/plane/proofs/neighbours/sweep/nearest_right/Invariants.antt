-- What the loops of `plane::neighbours::sweep::nearest_right` keep.
use Prim.Native.Nat.{◌+◌}
use Rattle.plane.specs.Stages.Sweep.{Others, Least, away}
use Rattle.plane.proofs.neighbours.sweep.nearest_right.Given as goal

abbrev pub invariant-loop-i : goal.invariant-loop-i
invariant-loop-i l = Least (away l.sweep.points.xy.now l.sweep.order.now l.from_x l.from_y) (Others l.position l.position (l.position + 1 + l.i-index)) l.best
