-- What the loops of `boxes::box_cells::finite::all_finite` keep.
use mathlib.Core.Path.{◌≡◌}
use mathlib.Core.Bool.{true}
use Prim.Native.Nat.{◌≤◌}
use Rattle.network.specs.Views.{boxes_in}
use Rattle.plane.specs.Plane.{box_in}
use Rattle.plane.specs.Stages.Window.{finite_box}
use Rattle.boxes.proofs.box_cells.Occupied.{Left}
use Rattle.boxes.proofs.box_cells.finite.all_finite.Given as goal

abbrev pub invariant-loop-s : goal.invariant-loop-s
invariant-loop-s l = (l.s ≤ l.placed.k) × Left l.placed.k l.placed.stations.now (λ s. finite_box (box_in (boxes_in l.placed.k l.placed.frames.now) s) ≡ true) l.s
