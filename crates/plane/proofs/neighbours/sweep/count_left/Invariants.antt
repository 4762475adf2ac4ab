-- What the loops of `plane::neighbours::sweep::count_left` keep.
use Rattle.std.proofs.Common.{◌≡◌, ◌+◌, ◌≤◌, length, take}
use Rattle.numbers.specs.Table.{how_many}
use Rattle.plane.specs.Stages.Sweep.{in_radius}
use Rattle.plane.proofs.neighbours.sweep.count_left.Given as goal

abbrev pub invariant-loop-i : goal.invariant-loop-i
invariant-loop-i l = (l.count + length l.i-iterator.iter.rest.now ≤ l.position) × (l.i-iterator.iter.rest.now ≡ take (length l.i-iterator.iter.rest.now) l.sweep.order.now) × (l.count + how_many (in_radius l.sweep.points.xy.now l.sweep.order.now l.from_x l.from_y l.radius) (length l.i-iterator.iter.rest.now) ≡ how_many (in_radius l.sweep.points.xy.now l.sweep.order.now l.from_x l.from_y l.radius) l.position)
