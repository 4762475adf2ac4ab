-- Answers for `boxes::corner::cost`.
use Rattle.boxes.specs.Corner.{cost}
use Rattle.boxes.proofs.corner.cost.Goals as goal

pub returns : goal.returns
unfolding cost
returns c = cc
