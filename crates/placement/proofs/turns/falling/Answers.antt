-- Answers for `turns::turns::falling`.
use native.Mathlib.Omega.{arith}
use Rattle.stations.specs.Column.{falling}
use Rattle.placement.proofs.turns.falling.Goals as goal

pub returns : goal.returns
unfolding falling
returns c = omega arith
