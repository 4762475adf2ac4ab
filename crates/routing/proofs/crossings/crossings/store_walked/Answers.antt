-- Answers for `crossings::crossings::store_walked`.
use native.Mathlib.Omega.{arith}
use Rattle.routing.proofs.crossings.Growing.{walked_end}
use Rattle.routing.proofs.crossings.crossings.store_walked.Goals as goal

pub returns-clause-grown : goal.returns-clause-grown
returns-clause-grown c = walked_end _ _ _ _ _ _ _ _ _ _ _ _ _ _ (omega arith) c.loop-i.invariant.1
