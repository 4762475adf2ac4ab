-- Answers for `routing::tracing::routes::clear_walks`.
use native.Mathlib.Omega.{arith}
use Rattle.routing.proofs.tracing.Tracing.{empty_start, empty_more}
use Rattle.routing.proofs.tracing.routes.clear_walks.Goals as goal

pub loop-e-init : goal.loop-e-init
loop-e-init c = empty_start _ _

pub loop-e-preserved : goal.loop-e-preserved
loop-e-preserved c = empty_more _ _ _ _ (omega arith) (omega (arith, c.loop-e.invariant.long, c.requires)) c.loop-e.invariant
