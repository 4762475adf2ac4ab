-- Answers for `audit::overlaps::count_overlaps`.
use Rattle.audit.proofs.overlaps.Sweeps.{lefts_pairs}
use Rattle.audit.proofs.overlaps.count_overlaps.Goals as goal

pub returns : goal.returns
returns c = lefts_pairs _ _ _ _ _ _ _ c.by_left-n.ensures.lefts c.count_pairs.ensures
