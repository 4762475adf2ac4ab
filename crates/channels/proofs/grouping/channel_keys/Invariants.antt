-- What the loops of `channels::grouping::channel_keys` keep.
use Prim.Native.Nat.{◌≤◌, ◌*◌, ◌+◌, ◌-◌}
use lib.ListN.{length, get_or}
use Rattle.channels.proofs.grouping.Tabling.{Tabled}
use Rattle.channels.proofs.grouping.channel_keys.Given as goal

abbrev pub invariant-loop-x : goal.invariant-loop-x
invariant-loop-x l = (l.x ≤ length l.initial.keys) × Tabled (λ i. get_or l.numbers (3 * i + 0) 0) l.initial.keys l.keys l.x
