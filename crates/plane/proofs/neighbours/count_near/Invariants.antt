-- What the loops of `plane::neighbours::count_near` keep.
use Prim.Native.Nat.{◌≤◌, ◌-◌}
use mathlib.Core.Path.{◌≡◌}
use Rattle.numbers.specs.Table.{how_many}
use Rattle.plane.specs.Near.{near}
use Rattle.plane.proofs.neighbours.count_near.Given as goal

abbrev pub invariant-loop-j : goal.invariant-loop-j
invariant-loop-j l = (l.count ≤ l.j) × (l.count ≡ how_many (near l.points.xy.now l.radius l.index) l.j)
