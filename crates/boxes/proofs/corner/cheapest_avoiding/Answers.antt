-- Answers for `boxes::corner::cheapest_avoiding`.
use mathlib.Core.Path.{sym, ◌∙◌}
use native.Mathlib.Omega.{arith}
use Rattle.boxes.proofs.corner.Choosing.{clear_more, all_clear_taken}
use Rattle.boxes.proofs.corner.cheapest_avoiding.Goals as goal

pub loop-c-preserved : goal.loop-c-preserved
loop-c-preserved c = c.loop-c.invariant ∙ clear_more c.args.p c.args.q c.args.obstacle c.args.corners.now c.loop-c.c-index c.loop-c.best _ _ (omega arith) c.cheaper_avoiding-best.ensures

pub returns : goal.returns
returns c = all_clear_taken c.args.p c.args.q c.args.obstacle c.args.corners.now c.loop-c.c-index c.loop-c.best (omega arith) ∙ sym c.loop-c.invariant
