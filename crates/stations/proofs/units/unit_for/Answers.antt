-- Answers for `stations::units::unit_for`.
use mathlib.Core.Path.{refl}
use Rattle.stations.specs.Unit.{unit_for}
use Rattle.stations.proofs.units.unit_for.Goals as goal

pub returns : goal.returns
unfolding unit_for
returns c = refl
