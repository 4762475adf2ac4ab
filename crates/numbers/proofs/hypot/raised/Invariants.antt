-- What the loops of `numbers::hypot::raised` keep.
use Prim.Native.Nat.{◌-◌, ◌^◌, ◌<◌, ◌*◌, ◌≤◌}
use Rattle.numbers.proofs.hypot.raised.Given as goal

abbrev pub invariant-loop-r : goal.invariant-loop-r
invariant-loop-r l = (l.r < 2 ^ 28) × (l.r * l.r ≤ l.word)

abbrev pub decreases-loop-r : goal.decreases-loop-r
decreases-loop-r l = 2 ^ 28 - l.r
