-- What the loops of `plane::neighbours::nearest_of_all` keep.
use mathlib.Core.Path.{◌≡◌}
use mathlib.Core.List.{◌++◌}
use Prim.Native.Nat.{◌-◌}
use lib.ListN.{drop}
use Rattle.numbers.specs.Table.{table}
use Rattle.plane.specs.Near.{nearest}
use Rattle.plane.proofs.neighbours.nearest_of_all.Given as goal

abbrev pub invariant-loop-i : goal.invariant-loop-i
invariant-loop-i l = (l.out ≡ table (nearest l.points.xy.now l.points.n) l.i ++ drop l.i l.initial.out)
