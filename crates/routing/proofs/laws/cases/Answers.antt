-- Answers for `routing::laws::cases`.
use mathlib.Core.Path.{refl}
use Rattle.routing.specs.Cases.{crossings_given}
use Rattle.routing.proofs.laws.cases.Goals as goal

pub returns : goal.returns
unfolding crossings_given
returns c = refl
