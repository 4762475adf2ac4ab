-- What the loops of `results::bounds::around_all` keep.
use Rattle.results.proofs.Bounding.{Around}
use Rattle.results.proofs.bounds.around_all.Given as goal

abbrev pub invariant-loop-s : goal.invariant-loop-s
invariant-loop-s l = Around l.placed.k l.placed.stations.now l.placed.frames.now l.s l.b
