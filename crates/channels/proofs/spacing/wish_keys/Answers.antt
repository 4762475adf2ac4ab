-- Answers for `channels::spacing::wish_keys`.
use Rattle.channels.proofs.spacing.Filling.{fill_start, fill_step, fill_end}
use native.Mathlib.Omega.{arith}
use Rattle.channels.specs.Space.{wish_key}
use Rattle.channels.proofs.spacing.wish_keys.Goals as goal

pub loop-i-preserved : goal.loop-i-preserved
loop-i-preserved c = fill_step _ _ _ (omega arith) _ _ _ _ (omega arith) c.wish_key.ensures c.loop-i.invariant
