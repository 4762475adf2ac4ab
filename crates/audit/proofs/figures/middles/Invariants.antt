-- What the loops of `audit::figures::middles` keep.
use mathlib.Core.Path.{◌≡◌}
use Rattle.network.specs.Views.{points_in, boxes_in}
use Rattle.audit.specs.Figure.{middles}
use Rattle.audit.proofs.figures.middles.Given as goal

abbrev pub invariant-loop-s : goal.invariant-loop-s
invariant-loop-s l = points_in l.s l.points ≡ middles (boxes_in l.s l.boxes)
