-- What the loops of `placement::sized::all_sized` keep.
use Rattle.placement.proofs.sized.Sizing.{Same}
use Rattle.placement.proofs.sized.all_sized.Given as goal

abbrev pub invariant-loop-s : goal.invariant-loop-s
invariant-loop-s l = Same l.placed.k l.placed.stations.now l.placed.frames.now l.side l.s
