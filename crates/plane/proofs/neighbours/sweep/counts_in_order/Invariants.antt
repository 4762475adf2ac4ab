-- What the loops of `plane::neighbours::sweep::counts_in_order` keep.
use Prim.Native.Nat.{◌-◌}
use Rattle.plane.proofs.neighbours.Fills.{Filled}
use Rattle.plane.specs.Near.{neighbours}
use Rattle.plane.proofs.neighbours.sweep.counts_in_order.Given as goal

abbrev pub invariant-loop-c : goal.invariant-loop-c
invariant-loop-c l = Filled (neighbours l.sweep.points.xy.now l.sweep.points.n l.radius) l.sweep.order.now l.sweep.points.n l.initial.counts l.counts l.c
