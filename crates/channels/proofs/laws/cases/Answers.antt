-- Answers for `channels::laws::cases`.
use mathlib.Core.Path.{refl}
use Rattle.channels.specs.Cases.{spacings}
use Rattle.channels.proofs.laws.cases.Goals as goal

pub returns : goal.returns
unfolding spacings
returns c = refl
