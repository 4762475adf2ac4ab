-- What the loop of `network::words::count_buses` keeps.
use Rattle.network.proofs.Counts.{Counted}
use Rattle.network.proofs.words.count_buses.Given as goal

abbrev pub invariant-loop-s : goal.invariant-loop-s
invariant-loop-s l = Counted l.sub l.station_total l.s-index l.stations
