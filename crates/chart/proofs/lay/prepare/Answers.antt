-- Answers for `chart::lay::prepare`.
use native.Mathlib.Omega.{arith}
use Rattle.chart.proofs.Laying.{prepared_joined}
use Rattle.chart.proofs.Smalls.{ends_small, length_kinds}
use Rattle.chart.proofs.lay.prepare.Goals as goal

pub spans-requires-clause-buses_room : goal.spans-requires-clause-buses_room
spans-requires-clause-buses_room c = omega (arith, c.measure_stations-typical.auto.buses, c.requires.station_room.1)

pub spans-requires-clause-rows_fit : goal.spans-requires-clause-rows_fit
spans-requires-clause-rows_fit c =
    ends_small _ _ _ _ _ c.args.net.now.few_branches (length_kinds _ _ _ _) c.measure_stations-typical.ensures.measured.from_rows
    c.measure_stations-typical.ensures.measured.to_rows

pub returns-clause-prepared : goal.returns-clause-prepared
returns-clause-prepared c =
    prepared_joined _ _ _ _ _ _ _ _ _ c.measure_stations-typical.ensures.measured c.spans.ensures.columns_kept c.spans.ensures.spans_written
