-- What the loops of `routing::tracing::routes::clear_walks` keep.
use Rattle.routing.proofs.tracing.Tracing.{Emptied}
use Rattle.routing.proofs.tracing.routes.clear_walks.Given as goal

abbrev pub invariant-loop-e : goal.invariant-loop-e
invariant-loop-e l = Emptied l.branch_count l.initial.ends l.e l.ends
