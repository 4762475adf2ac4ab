-- What the loops of `placement::sized::largest` keep.
use mathlib.Core.Path.{◌≡◌}
use Rattle.numbers.specs.Ops.{f0}
use Rattle.network.specs.Words.{occupied}
use Rattle.network.specs.Views.{counts_in, boxes_in}
use Rattle.placement.specs.Sized as Sized
use Rattle.network.proofs.Rest.{onward}
use Rattle.placement.proofs.sized.largest.Given as goal

abbrev pub invariant-loop-s : goal.invariant-loop-s
invariant-loop-s l = Sized.largest (boxes_in l.placed.k l.placed.frames.now) l.l (onward l.placed.k l.placed.stations.now l.s) ≡ Sized.largest (boxes_in l.placed.k l.placed.frames.now) f0 (occupied (counts_in l.placed.k l.placed.stations.now))
