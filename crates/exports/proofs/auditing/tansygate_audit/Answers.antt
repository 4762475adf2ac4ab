-- Answers for `exports::auditing::tansygate_audit`.
use Rattle.std.proofs.Common.{rules}
use Rattle.exports.proofs.Plains.{audit_lent}
use Rattle.exports.proofs.auditing.tansygate_audit.Goals as goal

pub returns : goal.returns
returns c = audit_lent _ _ _ _ _ _ _ _ _ c.from.ensures c.tx_layout_quality.ensures.is (search rules) (search rules)
