-- What the loops of `numbers::hypot::lowered` keep.
use Prim.Native.Nat.{◌^◌, ◌<◌}
use Rattle.numbers.proofs.hypot.lowered.Given as goal

abbrev pub invariant-loop-r : goal.invariant-loop-r
invariant-loop-r l = l.r < 2 ^ 28

abbrev pub decreases-loop-r : goal.decreases-loop-r
decreases-loop-r l = l.r
