-- Answers for `channels::grouping::copy_order`.
use mathlib.Core.Path.{refl}
use native.Mathlib.Omega.{arith}
use Rattle.channels.proofs.grouping.Grouping.{copy_start, copy_step, copy_end}
use Rattle.channels.proofs.grouping.copy_order.Goals as goal

pub loop-j-init : goal.loop-j-init
loop-j-init c = copy_start _ _

pub loop-j-preserved : goal.loop-j-preserved
loop-j-preserved c = copy_step _ _ _ _ _ (omega arith) (omega arith) refl c.loop-j.invariant
