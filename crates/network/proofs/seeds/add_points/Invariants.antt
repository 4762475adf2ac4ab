-- What the loops of `network::seeds::add_points` keep.
use Prim.Native.Nat.{◌-◌, ◌≤◌}
use mathlib.Core.Path.{◌≡◌}
use lib.ListN.{length}
use Rattle.network.proofs.seeds.Seeding.{Summed}
use Rattle.network.proofs.seeds.add_points.Given as goal

abbrev pub invariant-loop-i : goal.invariant-loop-i
invariant-loop-i l = (l.i ≤ length l.sub) × (length l.places ≡ length l.initial.places) × Summed l.sub l.xy l.station_total l.i l.places
