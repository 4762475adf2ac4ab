-- Answers for `plane::neighbours::sweep::by_x`.
use Rattle.plane.proofs.neighbours.Numbers.{numbered_sort}
use Rattle.plane.proofs.neighbours.sweep.by_x.Goals as goal

pub returns-clause-swept : goal.returns-clause-swept
returns-clause-swept c = numbered_sort _ _ _ _ _ c.keys_by_x-r.ensures.numbered c.sort_part.ensures.order_after
