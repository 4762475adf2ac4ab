-- Answers for `drawlist::plot::options`.
use Rattle.small.specs.Output.{list_options}
use Rattle.drawlist.proofs.plot.options.Goals as goal

pub returns : goal.returns
unfolding list_options
returns c = rw c.default-o.ensures.0
