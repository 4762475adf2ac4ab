-- Answers for `channels::spacing::forward_pass`.
use native.Mathlib.Omega.{arith}
use Rattle.channels.specs.Space.{forward_all}
use Rattle.channels.proofs.spacing.Passes.{forth_start, forth_step, forth_end}
use Rattle.channels.proofs.spacing.forward_pass.Goals as goal

pub loop-x-preserved : goal.loop-x-preserved
loop-x-preserved c = forth_step _ _ _ _ _ _ _ _ (omega arith) c.clamp-wish.ensures c.max-t.ensures c.loop-x.invariant

pub returns-after-loop-x : goal.returns-after-loop-x
unfolding forward_all
returns-after-loop-x c = rw (c.in-Some.ensures.cases.0, forth_end _ _ _ _ _ _ (omega arith) c.loop-x.invariant, c.clamp-t.ensures)
