-- What the loops of `stations::columns::put_columns` keep.
use Prim.Native.Nat.{◌-◌, ◌≤◌}
use mathlib.Core.Path.{◌≡◌}
use lib.ListN.{length}
use Rattle.numbers.specs.Order.{key_at}
use Rattle.numbers.specs.Table.{table, strided}
use Rattle.stations.proofs.columns.put_columns.Given as goal

abbrev pub invariant-loop-i : goal.invariant-loop-i
invariant-loop-i l = (l.i ≤ length l.places) × (length l.buses ≡ length l.initial.buses) × (strided 3 0 0 l.i l.buses ≡ table (key_at l.places) l.i)
