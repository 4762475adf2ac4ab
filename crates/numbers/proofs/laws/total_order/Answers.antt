-- Answers for `numbers::laws::total_order`.
use Rattle.numbers.proofs.float.TotalOrder.{total_order_lem}
use Rattle.numbers.proofs.laws.total_order.Goals as goal

pub returns : goal.returns
returns c x y l k = total_order_lem x y l k
