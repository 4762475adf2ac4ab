-- Answers for `drawlist::plot::plot`.
use Rattle.std.proofs.Common.{rules}
use Rattle.drawlist.proofs.Listed.{shown_by}
use Rattle.drawlist.proofs.plot.plot.Goals as goal

pub returns : goal.returns
returns c = shown_by _ _ _ _ _ _ _ _ c.options.ensures c.draw_small.ensures.is (search rules) (search rules) (search rules)
