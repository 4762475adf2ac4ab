-- What the loops of `runs::run::copy_points` keep.
use Rattle.runs.proofs.Paths.{Copied}
use Rattle.runs.proofs.run.copy_points.Given as goal

abbrev pub invariant-loop-j : goal.invariant-loop-j
invariant-loop-j l = Copied l.to l.first l.j l.ways l.initial.path l.path
