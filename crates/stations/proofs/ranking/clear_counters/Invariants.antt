-- What the loops of `stations::ranking::clear_counters` keep.
use Prim.Native.Nat.{◌-◌}
use Rattle.stations.proofs.ranking.Walking.{Cleared}
use Rattle.stations.proofs.ranking.clear_counters.Given as goal

abbrev pub invariant-loop-s : goal.invariant-loop-s
invariant-loop-s l = Cleared l.station_total l.initial.stations l.stations l.s
