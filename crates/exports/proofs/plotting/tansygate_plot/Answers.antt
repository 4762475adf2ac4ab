-- Answers for `exports::plotting::tansygate_plot`.
use Rattle.std.proofs.Common.{rules}
use Rattle.exports.proofs.Plains.{layout_lent}
use Rattle.exports.proofs.plotting.tansygate_plot.Goals as goal

pub returns : goal.returns
returns c = layout_lent _ _ _ _ _ _ _ _ _ _ _ _ _ _ c.from.ensures c.from-2.ensures c.tx_schematic_layout.ensures.is (search rules) (search rules) (search rules)
