-- Answers for `chart::lay_out_and_route`.
use mathlib.Core.Path.{refl}
use Rattle.chart.proofs.lay_out_and_route.Goals as goal

pub route_laid_out-requires-clause-laid : goal.route_laid_out-requires-clause-laid
route_laid_out-requires-clause-laid c = c.lay_out-laid.ensures.laid refl
