-- What the loops of `audit::overlaps::list_occupied` keep.
use mathlib.Core.Path.{◌≡◌}
use Prim.Native.Nat.{◌≤◌}
use lib.ListN.{take}
use Rattle.network.proofs.Occupied.{passed, passed_count}
use Rattle.audit.proofs.overlaps.list_occupied.Given as goal

abbrev pub invariant-loop-s : goal.invariant-loop-s
invariant-loop-s l = (l.c ≤ l.s) × (l.c ≡ passed_count l.placed.k l.placed.stations.now l.s) × (take l.c l.order ≡ passed l.placed.k l.placed.stations.now l.s)
