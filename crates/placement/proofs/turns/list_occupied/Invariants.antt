-- What the loops of `turns::turns::list_occupied` keep.
use Prim.Native.Nat.{◌≤◌, ◌-◌}
use mathlib.Core.Path.{◌≡◌}
use lib.ListN.{length}
use Rattle.network.specs.Views.{counts_in}
use Rattle.placement.specs.Stages.Listed.{Listed}
use Rattle.placement.proofs.turns.list_occupied.Given as goal

abbrev pub invariant-loop-s : goal.invariant-loop-s
invariant-loop-s l = (l.s ≤ l.stations.k) × (l.r ≤ l.s) × (length l.keys ≡ length l.initial.keys) × (length l.sorted ≡ length l.initial.sorted) × Listed (counts_in l.stations.k l.stations.counts.now) l.s l.keys l.sorted l.r
