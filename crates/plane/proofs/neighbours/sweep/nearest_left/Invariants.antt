-- What the loops of `plane::neighbours::sweep::nearest_left` keep.
use Rattle.std.proofs.Common.{◌≡◌, ◌≤◌, length, take}
use Rattle.plane.specs.Stages.Sweep.{Others, Least, away}
use Rattle.plane.proofs.neighbours.sweep.nearest_left.Given as goal

abbrev pub invariant-loop-i : goal.invariant-loop-i
invariant-loop-i l = (length l.i-iterator.iter.rest.now ≤ l.position) × (l.i-iterator.iter.rest.now ≡ take (length l.i-iterator.iter.rest.now) l.sweep.order.now) × Least (away l.sweep.points.xy.now l.sweep.order.now l.from_x l.from_y) (Others l.position (length l.i-iterator.iter.rest.now) l.sweep.points.n) l.best
