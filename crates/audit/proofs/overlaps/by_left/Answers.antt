-- Answers for `audit::overlaps::by_left`.
use Rattle.audit.proofs.overlaps.Sweeps.{lefts_occupied}
use Rattle.audit.proofs.overlaps.by_left.Goals as goal

pub returns-clause-lefts : goal.returns-clause-lefts
returns-clause-lefts c =
    lefts_occupied _ _ _ _ _ _ _ c.left_keys.ensures c.list_occupied-n.ensures.counted c.list_occupied-n.ensures.listed
    c.sort_part.ensures.order_after
