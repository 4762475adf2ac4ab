-- What the loops of `audit::overlaps::count_pairs` keep.
use mathlib.Core.Path.{◌≡◌}
use Prim.Native.Nat.{◌+◌, ◌*◌, ◌≤◌}
use lib.ListN.{drop}
use Rattle.network.specs.Views.{boxes_in}
use Rattle.audit.specs.Stages.Sweep.{pairs}
use Rattle.audit.proofs.overlaps.count_pairs.Given as goal

abbrev pub invariant-loop-c : goal.invariant-loop-c
invariant-loop-c l = (l.found ≤ l.c * 4096) × (l.found + pairs (boxes_in l.placed.k l.placed.frames.now) (drop l.c l.order) ≡ pairs (boxes_in l.placed.k l.placed.frames.now) l.order)
