-- What the loops of `stations::rows::fill_entries` keep.
use Prim.Native.Nat.{◌*◌, ◌-◌, ◌≤◌}
use mathlib.Core.Path.{◌≡◌}
use lib.ListN.{length, take}
use Rattle.numbers.specs.Table.{table}
use Rattle.network.specs.Words.{station_count, kinds}
use Rattle.network.specs.Views.{points_in}
use Rattle.stations.specs.Stages.Entry.{entry_station, entry_key}
use Rattle.stations.proofs.rows.fill_entries.Given as goal

abbrev pub invariant-loop-x : goal.invariant-loop-x
invariant-loop-x l = (l.x ≤ l.c) × (l.c ≡ 2 * length l.net.from.now) × (length l.keys ≡ length l.initial.keys) × (length l.own ≡ length l.initial.own)
    × (take l.x l.keys ≡ table (entry_key l.net.sub.now (points_in (station_count l.net.sub.now) l.places) (kinds l.net.sub.now l.net.from.now l.net.to.now l.net.service.now)) l.x)
    × (take l.x l.own ≡ table (entry_station l.net.sub.now (kinds l.net.sub.now l.net.from.now l.net.to.now l.net.service.now)) l.x)
