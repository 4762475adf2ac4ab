-- What the loops of `plane::neighbours::nearest_distance` keep.
use Prim.Native.Nat.{◌-◌}
use mathlib.Core.Path.{◌≡◌}
use Rattle.plane.specs.Near.{nearest_to}
use Rattle.plane.proofs.neighbours.nearest_distance.Given as goal

abbrev pub invariant-loop-j : goal.invariant-loop-j
invariant-loop-j l = (l.best ≡ nearest_to l.points.xy.now l.index l.j)
