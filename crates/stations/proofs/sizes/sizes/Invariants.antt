-- What the loops of `stations::sizes::sizes` keep.
use mathlib.Core.Path.{◌≡◌}
use Prim.Native.Nat.{◌≤◌, ◌-◌}
use lib.ListN.{length}
use Rattle.stations.specs.Stages.Views.{sizes_in}
use Rattle.stations.proofs.sizes.Blocks.{sized}
use Rattle.stations.proofs.sizes.sizes.Given as goal

abbrev pub invariant-loop-s : goal.invariant-loop-s
invariant-loop-s l = (l.s ≤ l.stations.k) × (length l.blocks ≡ length l.initial.blocks) × (sizes_in l.s l.blocks ≡ sized l.block_options l.stations.k l.stations.counts.now l.s)
