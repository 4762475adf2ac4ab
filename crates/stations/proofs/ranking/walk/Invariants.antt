-- What the loops of `stations::ranking::walk` keep.
use Prim.Native.Nat.{◌-◌}
use Rattle.stations.proofs.ranking.Walking.{Walked}
use Rattle.stations.proofs.ranking.walk.Given as goal

abbrev pub invariant-loop-n : goal.invariant-loop-n
invariant-loop-n l = Walked l.of l.total l.station_total l.sorted l.initial.stations l.initial.places l.stations l.places l.n-index
