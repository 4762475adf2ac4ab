-- Answers for `chart::route_laid_out`.
use Rattle.chart.proofs.route_laid_out.Goals as goal

pub returns-clause-charted : goal.returns-clause-charted
returns-clause-charted c = c.route-outcome.ensures.charted

pub returns-clause-indexed : goal.returns-clause-indexed
returns-clause-indexed c = c.index_boxes.ensures
