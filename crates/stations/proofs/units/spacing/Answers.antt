-- Answers for `stations::units::spacing`.
use Rattle.std.specs.Prelude.{Option, Float, unwrap_or}
use mathlib.Core.Path.{ap, ◌∙◌}
use Rattle.numbers.specs.Ops.{f1}
use Rattle.stations.proofs.units.Near.{spacing_of_lem}
use Rattle.stations.proofs.units.spacing.Goals as goal

pub returns : goal.returns
returns c = spacing_of_lem _ _ _ _ _ c.nearest_neighbour_distances.ensures (c.unwrap_or.ensures ∙ ap (λ (o : Option Float). unwrap_or o f1) c.median.ensures)
