-- What the loops of `audit::figures::by_sides` keep.
use Rattle.audit.proofs.figures.Front.{Front}
use Rattle.network.proofs.Rest.{onward}
use Prim.Native.Nat.{◌≤◌}
use Rattle.network.specs.Words.{occupied}
use Rattle.network.specs.Views.{counts_in}
use Rattle.audit.proofs.figures.Stationwise.{sided}
use Rattle.audit.proofs.figures.by_sides.Given as goal

abbrev pub invariant-loop-s : goal.invariant-loop-s
invariant-loop-s l = (l.c ≤ l.s) × Front (sided l.placed.k l.placed.stations.now l.placed.frames.now l.initial.spacing 0 (occupied (counts_in l.placed.k l.placed.stations.now))) (sided l.placed.k l.placed.stations.now l.placed.frames.now l.initial.spacing l.c (onward l.placed.k l.placed.stations.now l.s)) l.initial.spacing l.spacing l.c
