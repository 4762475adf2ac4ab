-- Answers for `audit::inside::audited`.
use native.Mathlib.Omega.{arith}
use Rattle.audit.proofs.findings.Lates.{fit_lengths, fit_finite, late_unfit, late_ill, late_none}
use Rattle.audit.proofs.findings.Lates.{inner_refused, inner_figured}
use Rattle.audit.proofs.inside.audited.Goals as goal

pub returns-then-not-fits-clause-is : goal.returns-then-not-fits-clause-is
returns-then-not-fits-clause-is c = inner_refused _ _ _ (late_unfit _ _ c.fits.ensures c.if-not-fits.true)

pub invariant_of-placed-clause-counted : goal.invariant_of-placed-clause-counted
invariant_of-placed-clause-counted c =
    omega (
      arith,
      c.station_count-stations.ensures.is_count,
      c.requires.few_stations,
      c.requires.count_room,
      c.bus_counts.auto.stations,
    )

pub invariant_of-placed-clause-framed : goal.invariant_of-placed-clause-framed
invariant_of-placed-clause-framed c =
    omega (
      arith,
      (fit_lengths _ _ _ _ _ _ _ _ c.fits.ensures c.if-not-fits.false).0,
      c.station_count-stations.ensures.is_count,
    )

pub returns-then-ill_drawn-clause-is : goal.returns-then-ill_drawn-clause-is
returns-then-ill_drawn-clause-is c =
    inner_refused _ _ _
    (late_ill _ _ c.fits.ensures c.if-not-fits.false _ _ c.station_count-stations.ensures.is_count c.bus_counts.ensures _
    c.ill_drawn.ensures c.if-ill_drawn.true)

pub figures_of-requires-clause-all_boxes : goal.figures_of-requires-clause-all_boxes
figures_of-requires-clause-all_boxes c =
    omega (
      arith,
      (fit_lengths _ _ _ _ _ _ _ _ c.fits.ensures c.if-not-fits.false).0,
      c.station_count-stations.ensures.is_count,
    )

pub figures_of-requires-clause-four_each : goal.figures_of-requires-clause-four_each
figures_of-requires-clause-four_each c = (fit_lengths _ _ _ _ _ _ _ _ c.fits.ensures c.if-not-fits.false).1

pub figures_of-requires-clause-count_room : goal.figures_of-requires-clause-count_room
figures_of-requires-clause-count_room c = omega (arith, c.requires.count_room, c.bus_counts.auto.stations)

pub figures_of-requires-clause-finite_boxes : goal.figures_of-requires-clause-finite_boxes
figures_of-requires-clause-finite_boxes c = fit_finite _ _ _ _ _ _ _ _ c.fits.ensures c.if-not-fits.false

pub returns-clause-is : goal.returns-clause-is
returns-clause-is c =
    inner_figured _ _ _ _
    (late_none _ _ c.fits.ensures c.if-not-fits.false _ _ c.station_count-stations.ensures.is_count c.bus_counts.ensures _
    c.ill_drawn.ensures c.if-ill_drawn.false)
    c.figures_of.ensures
