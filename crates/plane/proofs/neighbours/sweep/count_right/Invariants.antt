-- What the loops of `plane::neighbours::sweep::count_right` keep.
use mathlib.Core.Path.{◌≡◌}
use Prim.Native.Nat.{◌+◌, ◌≤◌, ◌-◌}
use Rattle.numbers.specs.Table.{how_many}
use Rattle.plane.specs.Stages.Sweep.{in_radius}
use Rattle.plane.proofs.neighbours.sweep.count_right.Given as goal

abbrev pub invariant-loop-i : goal.invariant-loop-i
invariant-loop-i l = (l.count ≤ l.position + 1 + l.i-index) × (l.count + how_many (in_radius l.sweep.points.xy.now l.sweep.order.now l.from_x l.from_y l.radius) (l.position + 1) ≡ how_many (in_radius l.sweep.points.xy.now l.sweep.order.now l.from_x l.from_y l.radius) (l.position + 1 + l.i-index))
