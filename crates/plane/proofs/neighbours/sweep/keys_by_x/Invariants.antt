-- What the loops of `plane::neighbours::sweep::keys_by_x` keep.
use Rattle.plane.specs.Stages.Sweep.{Numbered}
use Rattle.plane.proofs.neighbours.sweep.keys_by_x.Given as goal

abbrev pub invariant-loop-i : goal.invariant-loop-i
invariant-loop-i l = Numbered l.points.xy.now l.i l.keys l.order
