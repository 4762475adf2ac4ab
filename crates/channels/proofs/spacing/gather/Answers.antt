-- Answers for `channels::spacing::gather`.
use mathlib.Core.Path.{ap, ◌∙◌}
use native.Mathlib.Omega.{arith}
use Rattle.numbers.specs.Order.{key_at}
use Rattle.channels.specs.Space.{wish_of, read_back}
use Rattle.channels.proofs.spacing.Filling.{fill_start, fill_step, fill_end}
use Rattle.channels.proofs.spacing.gather.Goals as goal

pub loop-i-preserved : goal.loop-i-preserved
loop-i-preserved c = fill_step _ _ _ (omega arith) _ _ _ _ (omega arith) (c.wish_of.ensures ∙ ap wish_of c.key_at.ensures) c.loop-i.invariant

pub returns : goal.returns
unfolding read_back
returns c = fill_end _ _ _ (omega arith) _ _ (omega arith) c.loop-i.invariant
