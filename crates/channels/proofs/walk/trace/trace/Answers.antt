-- Answers for `channels::walk::trace::trace`.
use Rattle.channels.proofs.walk.Steps.{ended, stopped}
use native.Mathlib.Omega.{arith}
use Rattle.channels.proofs.walk.trace.trace.Goals as goal

pub returns-in_default : goal.returns-in_default
returns-in_default c = stopped _ _ _ _ _ _ _ _ _ _ c.in_default.not-Out c.home.ensures c.loop-n.invariant

pub returns : goal.returns
returns c = ended _ _ _ _ _ _ _ _ _ _ (omega arith) c.home-2.ensures c.loop-n.invariant
