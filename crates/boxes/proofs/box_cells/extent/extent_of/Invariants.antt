-- What the loops of `boxes::box_cells::extent::extent_of` keep.
use Prim.Native.Nat.{◌≤◌}
use Rattle.boxes.proofs.box_cells.extent.extent_of.Given as goal

abbrev pub invariant-loop-s : goal.invariant-loop-s
invariant-loop-s l = (l.s ≤ l.placed.k) × (l.e.left ≤ 4096) × (l.e.right ≤ 4096) × (l.e.top ≤ 4096) × (l.e.bottom ≤ 4096) × (l.e.count ≤ l.s)
