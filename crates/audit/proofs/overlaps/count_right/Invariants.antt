-- What the loops of `audit::overlaps::count_right` keep.
use Prim.Native.Nat.{◌+◌, ◌≤◌}
use Rattle.audit.proofs.overlaps.Sweeps.{Found}
use Rattle.audit.proofs.overlaps.count_right.Given as goal

abbrev pub invariant-loop-i : goal.invariant-loop-i
invariant-loop-i l = (l.found ≤ l.i-index) × Found l.boxes l.stations l.order l.place l.s (l.place + 1 + l.i-index) l.found
