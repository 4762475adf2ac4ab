-- What the loops of `stations::units::coordinates` keep.
use mathlib.Core.Path.{◌≡◌}
use Prim.Native.Nat.{◌*◌, ◌≤◌, ◌-◌}
use lib.ListN.{length, take}
use Rattle.network.specs.Views.{points_in}
use Rattle.stations.specs.Unit.{coordinates}
use Rattle.network.proofs.Occupied.{passed, passed_count}
use Rattle.stations.proofs.units.coordinates.Given as goal

abbrev pub invariant-loop-s : goal.invariant-loop-s
invariant-loop-s l = (l.s ≤ l.stations.k) × (length l.path ≡ length l.initial.path) × (l.r ≤ l.s) × (l.r ≡ passed_count l.stations.k l.stations.counts.now l.s) × (take (2 * l.r) l.path ≡ coordinates (points_in l.stations.k l.places) (passed l.stations.k l.stations.counts.now l.s))
