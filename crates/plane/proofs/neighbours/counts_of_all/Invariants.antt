-- What the loops of `plane::neighbours::counts_of_all` keep.
use mathlib.Core.Path.{◌≡◌}
use mathlib.Core.List.{◌++◌}
use Prim.Native.Nat.{◌-◌}
use lib.ListN.{drop}
use Rattle.numbers.specs.Table.{table}
use Rattle.plane.specs.Near.{neighbours}
use Rattle.plane.proofs.neighbours.counts_of_all.Given as goal

abbrev pub invariant-loop-i : goal.invariant-loop-i
invariant-loop-i l = (l.counts ≡ table (neighbours l.points.xy.now l.points.n l.radius) l.i ++ drop l.i l.initial.counts)
