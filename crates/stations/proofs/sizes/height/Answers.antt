-- Answers for `stations::sizes::height`.
use Rattle.stations.specs.Size.{height_for}
use Rattle.stations.proofs.sizes.height.Goals as goal

pub returns : goal.returns
unfolding height_for
returns c = cc
