-- Answers for `plane::neighbours::sweep::nearest_at`.
use Rattle.plane.proofs.neighbours.Sweeps.{least_nearest}
use Rattle.plane.proofs.neighbours.sweep.nearest_at.Goals as goal

pub returns : goal.returns
returns c = least_nearest _ _ _ c.args.sweep.now.swept _ c.requires _ c.nearest_left.ensures
