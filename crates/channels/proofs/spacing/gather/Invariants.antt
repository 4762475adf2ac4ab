-- What the loops of `channels::spacing::gather` keep.
use Prim.Native.Nat.{◌-◌}
use lib.ListN.{length}
use Rattle.numbers.specs.Order.{key_at}
use Rattle.channels.specs.Space.{wish_of}
use Rattle.channels.proofs.spacing.Filling.{Filled}
use Rattle.channels.proofs.spacing.gather.Given as goal

abbrev pub invariant-loop-i : goal.invariant-loop-i
invariant-loop-i l = Filled (λ j. wish_of (key_at l.keys j)) l.order l.initial.wish l.wish l.i
