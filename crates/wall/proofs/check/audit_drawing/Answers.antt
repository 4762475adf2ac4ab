-- Answers for `wall::check::audit_drawing`.
use Rattle.std.proofs.Common.{rules}
use Rattle.wall.proofs.Claiming.{parts_lent}
use Rattle.wall.proofs.check.audit_drawing.Goals as goal

pub returns : goal.returns
returns c = parts_lent _ _ _ _ _ _ _ _ _ _ _ _ _ _ _ _ _ _ _ _ c.station_count-k.ensures.is_count c.min-b.ensures c.min-m.ensures c.tx_layout_quality.ensures.is (search rules) (search rules)
