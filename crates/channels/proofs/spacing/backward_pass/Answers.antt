-- Answers for `channels::spacing::backward_pass`.
use Rattle.std.proofs.lemmas.Grind.{common_steps}
use native.Mathlib.Omega.{arith}
use Rattle.channels.specs.Space.{backward}
use Rattle.channels.proofs.spacing.Passes.{backward_made}
use Rattle.channels.proofs.spacing.backward_pass.Goals as goal

pub returns-after-loop-i : goal.returns-after-loop-i
returns-after-loop-i c = backward_made _ _ _ _ _ _ _ _ c.in-Some.ensures.cases.0 c.min-t.ensures (omega arith) c.loop-i.invariant

pub returns-in_default : goal.returns-in_default
unfolding backward
returns-in_default c = grind (arith, common_steps)
