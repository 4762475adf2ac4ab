-- What the loops of `stations::spans::include_all` keep.
use Rattle.stations.proofs.spans.Rows.{Spanned}
use Rattle.stations.proofs.spans.include_all.Given as goal

abbrev pub invariant-loop-e : goal.invariant-loop-e
invariant-loop-e l = Spanned l.net.lists.sub.now l.net.lists.from.now l.net.lists.to.now l.net.lists.service.now l.ends l.e l.initial.buses l.buses
