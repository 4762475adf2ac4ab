-- What the loops of `boxes::first_box::scan` keep.
use Rattle.boxes.proofs.first_box.Looking.{Scanned}
use Rattle.boxes.proofs.first_box.scan.Given as goal

abbrev pub invariant-loop-s : goal.invariant-loop-s
invariant-loop-s l = Scanned l.placed.k l.placed.stations.now l.placed.frames.now l.p l.q l.from_station l.to_station l.s l.best
