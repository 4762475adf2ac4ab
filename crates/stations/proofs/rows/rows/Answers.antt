-- Answers for `stations::rows::rows`.
use mathlib.Core.Path.{◌∙◌}
use Rattle.stations.proofs.rows.Rowing.{from_rows_end, to_rows_end, rows_in_end}
use Rattle.stations.proofs.rows.rows.Goals as goal

pub returns-clause-from_rows_written : goal.returns-clause-from_rows_written
returns-clause-from_rows_written c = c.put_rows.ensures.from_rows_written ∙ from_rows_end _ _ _ _ _ _ c.requires.counted c.requires.few_stations _ _ _ c.fill_entries.ensures.keys_written c.fill_entries.ensures.own_written c.rank_in_stations.ensures.places_written

pub returns-clause-to_rows_written : goal.returns-clause-to_rows_written
returns-clause-to_rows_written c = c.put_rows.ensures.to_rows_written ∙ to_rows_end _ _ _ _ _ _ c.requires.counted c.requires.few_stations _ _ _ c.fill_entries.ensures.keys_written c.fill_entries.ensures.own_written c.rank_in_stations.ensures.places_written

pub returns-clause-row_counts_written : goal.returns-clause-row_counts_written
returns-clause-row_counts_written c = c.rank_in_stations.ensures.counters_written ∙ rows_in_end _ _ _ _ _ _ c.requires.counted c.requires.few_stations _ _ _ c.fill_entries.ensures.keys_written c.fill_entries.ensures.own_written c.rank_in_stations.ensures.places_written
