-- What the loops of `turns::turns::put_order` keep.
use Prim.Native.Nat.{ℕ, ◌≤◌, ◌-◌}
use mathlib.Core.Path.{◌≡◌}
use lib.ListN.{length, take}
use Rattle.network.specs.Views.{counts_in, order_in}
use Rattle.placement.proofs.turns.put_order.Given as goal

abbrev pub invariant-loop-p : goal.invariant-loop-p
invariant-loop-p l = (l.p ≤ length l.sorted) × (length l.stations ≡ length l.initial.stations) × (order_in l.p l.stations ≡ take l.p l.sorted) × ((k : ℕ) → counts_in k l.stations ≡ counts_in k l.initial.stations)
