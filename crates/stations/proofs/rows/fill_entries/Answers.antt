-- Answers for `stations::rows::fill_entries`.
use mathlib.Core.Path.{refl}
use native.Mathlib.Omega.{arith}
use lib.ListN.{length, length-set}
use Rattle.stations.specs.Stages.Entry.{entry_station, entry_key}
use Rattle.stations.proofs.ranking.Fronts.{front_zero, front_next}
use Rattle.stations.proofs.rows.Rowing.{key_of_entry, station_of_entry}
use Rattle.stations.proofs.rows.fill_entries.Goals as goal

pub loop-x-init : goal.loop-x-init
loop-x-init c = (omega arith, refl, refl, refl, front_zero _, front_zero _)

pub loop-x-preserved : goal.loop-x-preserved
loop-x-preserved c = (
  omega arith,
  c.loop-x.invariant.1,
  simp length-set c.loop-x.invariant.2,
  simp length-set c.loop-x.invariant.3,
  front_next _ _ _ _ (omega arith) (key_of_entry _ _ _ _ _ _ _ (omega arith) c.entry_key.ensures) c.loop-x.invariant.4,
  front_next _ _ _ _ (omega arith) (station_of_entry _ _ _ _ _ _ (omega arith) c.entry_station.ensures) c.loop-x.invariant.5,
)
