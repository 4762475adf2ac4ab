-- What the loops of `results::lists::write_stations` keep.
use Rattle.results.proofs.Turns.{Framed}
use Rattle.results.proofs.lists.write_stations.Given as goal

abbrev pub invariant-loop-s : goal.invariant-loop-s
invariant-loop-s l = Framed l.frames l.blocks l.initial.boxes l.initial.scales l.s l.boxes l.scales
