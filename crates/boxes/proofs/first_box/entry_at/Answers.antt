-- Answers for `boxes::first_box::entry_at`.
use mathlib.Core.Path.{sym}
use Rattle.boxes.proofs.first_box.Looking.{box_past, box_part, entered}
use Rattle.boxes.proofs.first_box.entry_at.Goals as goal

pub returns-then-station-station_count : goal.returns-then-station-station_count
returns-then-station-station_count c = entered _ _ _ _ _ _ _ _ c.if-station-from_station.false c.if-station-to_station.false c.enters.ensures (box_part _ _ _ c.if-station-station_count.true)

pub returns : goal.returns
returns c = entered _ _ _ _ _ _ _ _ c.if-station-from_station.false c.if-station-to_station.false c.enters-2.ensures (sym (box_past _ _ _ c.if-station-station_count.false))
