-- Answers for `stations::ranking::rank_in_stations`.
use mathlib.Core.Path.{◌∙◌}
use Rattle.stations.proofs.ranking.Walking.{sorted_below, counted_sorted}
use Rattle.stations.proofs.ranking.rank_in_stations.Goals as goal

pub walk-requires-clause-sorted_below : goal.walk-requires-clause-sorted_below
walk-requires-clause-sorted_below c = sorted_below _ _ _ c.sort_numbers.ensures

pub returns-clause-counters_written : goal.returns-clause-counters_written
returns-clause-counters_written c = c.walk.ensures.counters_written ∙ counted_sorted _ _ _ _ _ c.sort_numbers.ensures
