-- What the loops of `channels::spacing::wish_keys` keep.
use Rattle.channels.proofs.spacing.Filling.{Filled}
use Prim.Native.Nat.{◌-◌}
use lib.ListN.{length}
use Rattle.channels.specs.Space.{wish_key}
use Rattle.channels.proofs.spacing.wish_keys.Given as goal

abbrev pub invariant-loop-i : goal.invariant-loop-i
invariant-loop-i l = Filled wish_key l.wish l.initial.keys l.keys l.i
