-- Answers for `channels::laws::crossed`.
use Rattle.channels.proofs.spacing.Finite.{crossed_is_finite}
use Rattle.channels.proofs.laws.crossed.Goals as goal

pub returns : goal.returns
returns c = crossed_is_finite
