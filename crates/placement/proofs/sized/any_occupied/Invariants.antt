-- What the loops of `placement::sized::any_occupied` keep.
use Rattle.placement.proofs.sized.Sizing.{Any}
use Rattle.placement.proofs.sized.any_occupied.Given as goal

abbrev pub invariant-loop-s : goal.invariant-loop-s
invariant-loop-s l = Any l.station_total l.stations l.s
