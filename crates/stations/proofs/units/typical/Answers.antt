-- Answers for `stations::units::typical`.
use Rattle.stations.specs.Unit.{typical}
use Rattle.stations.proofs.units.typical.Goals as goal

pub returns : goal.returns
unfolding typical
returns c = cc (c.max.ensures, c.unwrap_or.ensures, c.median-median.ensures, c.sides-r.ensures.sides_written)
