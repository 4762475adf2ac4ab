-- Answers for `placement::plan::measure_stations`.
use Rattle.placement.proofs.plan.Joined.{interiors_joined}
use Rattle.placement.proofs.plan.measure_stations.Goals as goal

pub returns-clause-measured : goal.returns-clause-measured
returns-clause-measured c = interiors_joined _ _ _ _ _ _ _ _ _ _ _ _ _ _ _ _ c.bus_counts.ensures c.seeds.ensures c.columns.ensures.columns_written c.columns.ensures.bus_counts_kept c.rows.ensures.from_rows_written c.rows.ensures.to_rows_written c.rows.ensures.row_counts_written c.rows.ensures.bus_counts_kept c.sizes_and_scales.ensures.spacing_is c.sizes_and_scales.ensures.side_is c.sizes_and_scales.ensures.sizes_written c.sizes_and_scales.ensures.scales_written
