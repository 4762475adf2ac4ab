-- Answers for `stations::rows::entry_station`.
use mathlib.Core.Path.{refl}
use Rattle.stations.specs.Stages.Entry.{end_station}
use Rattle.stations.proofs.rows.Ends.{by_kind, from_side, to_side}
use Rattle.stations.proofs.rows.entry_station.Goals as goal

pub returns-in-Undrawn : goal.returns-in-Undrawn
unfolding end_station
returns-in-Undrawn c = by_kind (end_station c.args.net.now.sub.now) c.args.entry _ _ _ _ _ c.kind_of.ensures.is_kind c.in-Undrawn.is (refl) (refl)

pub returns-in-Open : goal.returns-in-Open
unfolding end_station
returns-in-Open c = by_kind (end_station c.args.net.now.sub.now) c.args.entry _ _ _ _ _ c.kind_of.ensures.is_kind c.in-Open.is (refl) (refl)

pub returns-then-entry-eq0 : goal.returns-then-entry-eq0
unfolding end_station
returns-then-entry-eq0 c = by_kind (end_station c.args.net.now.sub.now) c.args.entry _ _ _ _ _ c.kind_of.ensures.is_kind c.in-Internal.is (from_side _ c.if-entry-eq0.true) c.station_of.ensures.is_station

pub returns-in-Internal : goal.returns-in-Internal
unfolding end_station
returns-in-Internal c = by_kind (end_station c.args.net.now.sub.now) c.args.entry _ _ _ _ _ c.kind_of.ensures.is_kind c.in-Internal.is (to_side _ c.if-entry-eq0.false) (refl)

pub returns-then-entry-eq0-2 : goal.returns-then-entry-eq0-2
unfolding end_station
returns-then-entry-eq0-2 c = by_kind (end_station c.args.net.now.sub.now) c.args.entry _ _ _ _ _ c.kind_of.ensures.is_kind c.in-Line.is (from_side _ c.if-entry-eq0-2.true) c.station_of-then-entry-eq0-2.ensures.is_station

pub returns-in-Line : goal.returns-in-Line
unfolding end_station
returns-in-Line c = by_kind (end_station c.args.net.now.sub.now) c.args.entry _ _ _ _ _ c.kind_of.ensures.is_kind c.in-Line.is (to_side _ c.if-entry-eq0-2.false) c.station_of-in-Line.ensures.is_station
