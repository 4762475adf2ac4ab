-- What the loops of `placement::search::place_all` keep.
use Prim.Native.Nat.{◌≤◌}
use mathlib.Core.Path.{◌≡◌}
use lib.ListN.{length}
use Rattle.network.specs.Views.{order_in, points_in}
use Rattle.placement.specs.Stages.Views.{half_sides_listed}
use Rattle.offset_table.specs.Table.{skipped}
use Rattle.placement.proofs.Placing.{Placed}
use Rattle.placement.proofs.search.place_all.Given as goal

abbrev pub invariant-loop-p : goal.invariant-loop-p
invariant-loop-p l = (l.p ≤ l.occupied) × (length l.places ≡ length l.initial.places) × (length l.boxes ≡ length l.initial.boxes) × (length l.keys ≡ length l.initial.keys) × (length l.sorted ≡ length l.initial.sorted) × Placed l.measures.unit (half_sides_listed l.measures l.measured.k l.blocks) (skipped l.tried.search l.tried.pairs.now) (points_in l.measured.k l.initial.places) (order_in l.occupied l.measured.counts.now) l.measured.k l.p l.most l.all_free l.places l.boxes l.keys l.sorted
