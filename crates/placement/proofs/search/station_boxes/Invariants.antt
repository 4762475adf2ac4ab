-- What the loops of `placement::search::station_boxes` keep.
use Prim.Native.Nat.{◌≤◌}
use mathlib.Core.Path.{◌≡◌}
use lib.ListN.{length}
use Rattle.numbers.specs.Table.{table}
use Rattle.network.specs.Views.{boxes_in}
use Rattle.placement.proofs.Placing.{box_for}
use Rattle.placement.proofs.search.station_boxes.Given as goal

abbrev pub invariant-loop-s : goal.invariant-loop-s
invariant-loop-s l = (l.s ≤ l.measured.k) × (length l.frames ≡ length l.initial.frames) × (boxes_in l.s l.frames ≡ table (box_for l.measures l.measured.k l.measured.counts.now l.blocks l.places) l.s)
