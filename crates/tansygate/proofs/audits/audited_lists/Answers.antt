-- Answers for `tansygate::audits::audited_lists`.
use Rattle.std.proofs.Common.{rules, refl}
use Rattle.tansygate.proofs.Findings.{laid_by}
use Rattle.tansygate.proofs.audits.audited_lists.Goals as goal

pub returns-clause-answer : goal.returns-clause-answer
returns-clause-answer c = (laid_by _ _ _ _ _ _ _ c.tx_layout_quality.ensures.is refl).0

pub returns-clause-lists : goal.returns-clause-lists
returns-clause-lists c = (laid_by _ _ _ _ _ _ _ c.tx_layout_quality.ensures.is (search rules)).1
