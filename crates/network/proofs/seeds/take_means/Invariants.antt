-- What the loops of `network::seeds::take_means` keep.
use Prim.Native.Nat.{◌-◌, ◌≤◌}
use mathlib.Core.Path.{◌≡◌}
use lib.ListN.{length}
use Rattle.network.proofs.seeds.Seeding.{Divided}
use Rattle.network.proofs.seeds.take_means.Given as goal

abbrev pub invariant-loop-s : goal.invariant-loop-s
invariant-loop-s l = (l.s ≤ l.stations.k) × (length l.places ≡ length l.initial.places) × Divided l.stations.counts.now l.initial.places l.s l.places
