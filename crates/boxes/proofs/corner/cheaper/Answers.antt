-- Answers for `boxes::corner::cheaper`.
use Rattle.boxes.proofs.corner.Choosing.{cheaper_new, cheaper_old}
use Rattle.boxes.specs.Corner.{cheaper}
use Rattle.boxes.proofs.corner.cheaper.Goals as goal

pub returns-in-None : goal.returns-in-None
unfolding cheaper
returns-in-None c = simp c.in-None.is

pub returns-then-cost_key : goal.returns-then-cost_key
returns-then-cost_key c = cheaper_new _ _ _ _ _ _ _ c.in-Some.is c.cost_key.ensures c.cost_key-in-Some.ensures c.if-cost_key.true

pub returns-else-cost_key : goal.returns-else-cost_key
returns-else-cost_key c = cheaper_old _ _ _ _ _ _ _ c.in-Some.is c.cost_key.ensures c.cost_key-in-Some.ensures c.if-cost_key.false
