-- What the loops of `channels::grouping::copy_order` keep.
use Prim.Native.Nat.{◌-◌}
use lib.ListN.{length}
use Rattle.channels.proofs.grouping.Grouping.{Copying}
use Rattle.channels.proofs.grouping.copy_order.Given as goal

abbrev pub invariant-loop-j : goal.invariant-loop-j
invariant-loop-j l = Copying l.order l.initial.numbers l.numbers l.j
