-- Answers for `channels::grouping::channel_keys`.
use mathlib.Core.Path.{◌∙◌}
use native.Mathlib.Omega.{arith}
use native.Mathlib.Nat.{add-zero}
use Rattle.channels.proofs.grouping.Tabling.{table_step}
use Rattle.channels.proofs.grouping.channel_keys.Goals as goal

pub loop-x-preserved : goal.loop-x-preserved
loop-x-preserved c = (omega arith, table_step _ _ _ _ _ (omega arith) (c.at.ensures ∙ rw (add-zero)) c.loop-x.invariant.1)
