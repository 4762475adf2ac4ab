-- What the loops of `plane::neighbours::sweep::nearest_in_order` keep.
use Prim.Native.Nat.{◌-◌}
use Rattle.plane.proofs.neighbours.Fills.{Filled}
use Rattle.plane.specs.Near.{nearest}
use Rattle.plane.proofs.neighbours.sweep.nearest_in_order.Given as goal

abbrev pub invariant-loop-c : goal.invariant-loop-c
invariant-loop-c l = Filled (nearest l.sweep.points.xy.now l.sweep.points.n) l.sweep.order.now l.sweep.points.n l.initial.out l.out l.c
