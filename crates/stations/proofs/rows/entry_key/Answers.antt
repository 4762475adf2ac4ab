-- Answers for `stations::rows::entry_key`.
use mathlib.Core.Path.{refl}
use native.Mathlib.Omega.{arith}
use Rattle.network.specs.Words.{station_count}
use Rattle.network.specs.Views.{points_in}
use Rattle.stations.specs.Stages.Entry.{end_key}
use Rattle.stations.proofs.rows.Ends.{by_kind, from_side, to_side, line_buses, seed_at}
use Rattle.stations.proofs.rows.entry_key.Goals as goal

pub returns-in-Undrawn : goal.returns-in-Undrawn
unfolding end_key
returns-in-Undrawn c = by_kind (end_key c.args.net.now.sub.now (points_in (station_count c.args.net.now.sub.now) c.args.places.now)) c.args.entry _ _ _ _ _ c.kind_of.ensures.is_kind c.in-Undrawn.is refl refl

pub returns-in-Open : goal.returns-in-Open
unfolding end_key
returns-in-Open c = by_kind (end_key c.args.net.now.sub.now (points_in (station_count c.args.net.now.sub.now) c.args.places.now)) c.args.entry _ _ _ _ _ c.kind_of.ensures.is_kind c.in-Open.is refl refl

pub returns-in-Internal : goal.returns-in-Internal
unfolding end_key
returns-in-Internal c = by_kind (end_key c.args.net.now.sub.now (points_in (station_count c.args.net.now.sub.now) c.args.places.now)) c.args.entry _ _ _ _ _ c.kind_of.ensures.is_kind c.in-Internal.is refl refl

pub seed_key-requires : goal.seed_key-requires
seed_key-requires c =
    omega (arith, c.station_of.ensures.is_station, (line_buses _ _ _ _ c.kind_of.ensures.safe c.in-Line.is).1, c.requires)

pub returns-then-entry-eq0 : goal.returns-then-entry-eq0
unfolding end_key
returns-then-entry-eq0 c =
    by_kind (end_key c.args.net.now.sub.now (points_in (station_count c.args.net.now.sub.now) c.args.places.now)) c.args.entry _ _ _ _ _ c.kind_of.ensures.is_kind c.in-Line.is (from_side _ c.if-entry-eq0.true)
    (seed_at _ _ _ _ _ (line_buses _ _ _ _ c.kind_of.ensures.safe c.in-Line.is).1 c.station_of.ensures.is_station c.seed_key.ensures)

pub seed_key-requires-in-Line : goal.seed_key-requires-in-Line
seed_key-requires-in-Line c =
    omega (arith, c.station_of-in-Line.ensures.is_station, (line_buses _ _ _ _ c.kind_of.ensures.safe c.in-Line.is).0, c.requires)

pub returns-in-Line : goal.returns-in-Line
unfolding end_key
returns-in-Line c =
    by_kind (end_key c.args.net.now.sub.now (points_in (station_count c.args.net.now.sub.now) c.args.places.now)) c.args.entry _ _ _ _ _ c.kind_of.ensures.is_kind c.in-Line.is (to_side _ c.if-entry-eq0.false)
    (seed_at _ _ _ _ _ (line_buses _ _ _ _ c.kind_of.ensures.safe c.in-Line.is).0 c.station_of-in-Line.ensures.is_station c.seed_key-in-Line.ensures)
