-- What the loops of `boxes::box_cells::build::link_occupied` keep.
use mathlib.Core.Path.{◌≡◌}
use Prim.Native.Nat.{◌≤◌}
use lib.ListN.{length}
use Rattle.network.specs.Views.{boxes_in}
use Rattle.boxes.specs.Stages.Enter.{SameGrid}
use Rattle.boxes.proofs.box_cells.Chaining.{Put}
use Rattle.boxes.proofs.box_cells.build.link_occupied.Given as goal

abbrev pub invariant-loop-s : goal.invariant-loop-s
invariant-loop-s l = (l.s ≤ l.placed.k) × (length l.index ≡ length l.initial.index) × Put l.grid (boxes_in l.placed.k l.placed.frames.now) l.placed.k l.placed.stations.now l.s l.index × SameGrid l.initial.index l.index
