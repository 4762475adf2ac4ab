-- Answers for `channels::laws::wishes`.
use Rattle.channels.proofs.spacing.Finite.{placed_is_finite}
use Rattle.channels.proofs.laws.wishes.Goals as goal

pub returns : goal.returns
returns c = placed_is_finite
