-- Answers for `stations::sizes::width`.
use Rattle.stations.specs.Size.{width_for}
use Rattle.stations.proofs.sizes.width.Goals as goal

pub returns : goal.returns
unfolding width_for
returns c = cc
