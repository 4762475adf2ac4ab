-- What the loops of `channels::spacing::spread` keep.
use Rattle.channels.proofs.spacing.Filling.{Filled}
use Prim.Native.Nat.{◌+◌, ◌-◌}
use Rattle.numbers.specs.Order.{up_from}
use Rattle.channels.specs.Space.{even_at}
use Rattle.channels.proofs.spacing.spread.Given as goal

abbrev pub invariant-loop-i : goal.invariant-loop-i
invariant-loop-i l = Filled (even_at l.channel l.last) (up_from 0 (l.last + 1)) l.initial.list l.list l.i

abbrev pub decreases-loop-i : goal.decreases-loop-i
decreases-loop-i l = l.last + 1 - l.i
