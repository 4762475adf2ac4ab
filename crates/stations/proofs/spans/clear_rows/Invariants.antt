-- What the loops of `stations::spans::clear_rows` keep.
use Rattle.stations.proofs.spans.Rows.{Bare}
use Rattle.stations.proofs.spans.clear_rows.Given as goal

abbrev pub invariant-loop-i : goal.invariant-loop-i
invariant-loop-i l = Bare l.i l.initial.buses l.buses
