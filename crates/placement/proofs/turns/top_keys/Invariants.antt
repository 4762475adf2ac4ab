-- What the loops of `turns::turns::top_keys` keep.
use Prim.Native.Nat.{◌≤◌, ◌-◌}
use mathlib.Core.Path.{◌≡◌}
use lib.ListN.{length}
use Rattle.placement.proofs.turns.Queue.{Lowered}
use Rattle.placement.proofs.turns.top_keys.Given as goal

abbrev pub invariant-loop-i : goal.invariant-loop-i
invariant-loop-i l = (l.i ≤ length l.lent.sub.now) × (length l.keys ≡ length l.initial.keys) × Lowered l.lent.sub.now l.lent.kv.now l.station_total l.keys l.i
