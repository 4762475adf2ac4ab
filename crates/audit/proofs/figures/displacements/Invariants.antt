-- What the loops of `audit::figures::displacements` keep.
use Rattle.audit.proofs.figures.Front.{Front}
use Rattle.network.proofs.Rest.{onward}
use Prim.Native.Nat.{◌≤◌}
use Rattle.network.specs.Words.{occupied}
use Rattle.network.specs.Views.{counts_in}
use Rattle.audit.proofs.figures.Stationwise.{displaced}
use Rattle.audit.proofs.figures.displacements.Given as goal

abbrev pub invariant-loop-s : goal.invariant-loop-s
invariant-loop-s l = (l.c ≤ l.s) × Front (displaced l.placed.k l.placed.stations.now l.placed.frames.now l.seeds (occupied (counts_in l.placed.k l.placed.stations.now))) (displaced l.placed.k l.placed.stations.now l.placed.frames.now l.seeds (onward l.placed.k l.placed.stations.now l.s)) l.initial.displacement l.displacement l.c
