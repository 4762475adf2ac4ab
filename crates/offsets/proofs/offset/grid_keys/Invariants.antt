-- What the loops of `offsets::offset::grid_keys` keep.
use Prim.Native.Nat.{◌≤◌, ◌-◌}
use mathlib.Core.Path.{◌≡◌}
use mathlib.Core.List.{◌++◌}
use lib.ListN.{length, drop}
use Rattle.numbers.specs.Table.{table}
use Rattle.offsets.specs.Offset.{grid_number}
use Rattle.offsets.proofs.offset.grid_keys.Given as goal

abbrev pub invariant-loop-i : goal.invariant-loop-i
invariant-loop-i l = (l.i ≤ l.count) × (length l.keys ≡ length l.initial.keys) × (l.keys ≡ table (grid_number l.search) l.i ++ drop l.i l.initial.keys)
