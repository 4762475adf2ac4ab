-- What the loop of `routing::rounds::space::put_points` keeps.
use mathlib.Core.Path.{◌≡◌}
use Rattle.numbers.specs.Table.{table}
use Rattle.network.specs.Views.{points_in}
use Rattle.routing.specs.Stages.Lent.{crossing_point}
use Rattle.routing.proofs.rounds.space.put_points.Given as goal

abbrev pub invariant-loop-x : goal.invariant-loop-x
invariant-loop-x l = points_in l.x l.ways ≡ table (crossing_point l.crossed l.along) l.x
