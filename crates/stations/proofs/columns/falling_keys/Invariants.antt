-- What the loops of `stations::columns::falling_keys` keep.
use Prim.Native.Nat.{◌-◌, ◌≤◌}
use mathlib.Core.Path.{◌≡◌}
use lib.ListN.{length, take}
use Rattle.numbers.specs.Table.{table}
use Rattle.stations.specs.Column.{voltage, falling}
use Rattle.stations.proofs.columns.falling_keys.Given as goal

abbrev pub invariant-loop-i : goal.invariant-loop-i
invariant-loop-i l = (l.i ≤ length l.kv) × (length l.keys ≡ length l.initial.keys) × (take l.i l.keys ≡ table (λ i. falling (voltage l.kv i)) l.i)
