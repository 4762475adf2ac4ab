-- Answers for `exports::filling::tansygate_largest_fill`.
use Rattle.std.proofs.Common.{rules}
use Rattle.exports.proofs.Plains.{fill_lent}
use Rattle.exports.proofs.filling.tansygate_largest_fill.Goals as goal

pub returns : goal.returns
returns c = fill_lent _ _ _ _ _ _ _ _ _ _ _ _ _ _ c.from.ensures c.from-2.ensures c.largest_fill.ensures.is (search rules) (search rules) (search rules)
