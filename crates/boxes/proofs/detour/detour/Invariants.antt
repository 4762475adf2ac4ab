-- What the loop of `boxes::detour::detour` keeps.
use Prim.Native.Nat.{◌+◌, ◌-◌, ◌*◌}
use Rattle.boxes.specs.Stages.Lent.{boxes_of, occupied_of}
use Rattle.boxes.proofs.detour.Turning.{Leading}
use Rattle.boxes.proofs.detour.detour.Given as goal

abbrev pub invariant-loop-left : goal.invariant-loop-left
invariant-loop-left l = Leading (boxes_of l.index.placed) (occupied_of l.index.placed) l.clearance l.from_station l.to_station l.first l.count l.initial.path l.path l.n l.i l.left

abbrev pub decreases-loop-left : goal.decreases-loop-left
decreases-loop-left l = 2 * l.left + (l.n - l.i)
