-- Answers for `boxes::corner::cheapest`.
use mathlib.Core.Path.{sym, ◌∙◌}
use native.Mathlib.Omega.{arith}
use Rattle.boxes.proofs.corner.Choosing.{one_more, all_taken}
use Rattle.boxes.proofs.corner.cheapest.Goals as goal

pub loop-c-preserved : goal.loop-c-preserved
loop-c-preserved c = c.loop-c.invariant ∙ one_more c.args.p c.args.q c.args.corners.now c.loop-c.c-index c.loop-c.best _ _ (omega arith) c.cheaper-best.ensures

pub returns : goal.returns
returns c = all_taken c.args.p c.args.q c.args.corners.now c.loop-c.c-index c.loop-c.best (omega arith) ∙ sym c.loop-c.invariant
