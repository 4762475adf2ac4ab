-- What the loops of `stations::sizes::sides` keep.
use mathlib.Core.Path.{◌≡◌}
use Prim.Native.Nat.{◌≤◌, ◌-◌}
use lib.ListN.{length, take}
use Rattle.stations.specs.Size.{sides}
use Rattle.stations.specs.Stages.Views.{sizes_in}
use Rattle.network.proofs.Occupied.{passed}
use Rattle.stations.proofs.sizes.sides.Given as goal

abbrev pub invariant-loop-s : goal.invariant-loop-s
invariant-loop-s l = (l.s ≤ l.measured.k) × (length l.frames ≡ length l.initial.frames) × (l.r ≤ l.s) × (take l.r l.frames ≡ sides (sizes_in l.measured.k l.blocks) (passed l.measured.k l.measured.counts.now l.s))
