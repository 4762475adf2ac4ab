-- Answers for `audit::figures::displacements`.
use Rattle.network.proofs.Occupied.{has_buses, has_none}
use Rattle.audit.proofs.figures.Front.{front_start, front_same, front_put, front_end}
use Rattle.network.proofs.Rest.{onward_start, onward_no}
use mathlib.Core.Path.{ap}
use native.Mathlib.Omega.{arith}
use Rattle.audit.proofs.figures.Stationwise.{displaced, displaced_yes, displaced_end}
use Rattle.audit.proofs.figures.displacements.Goals as goal
use Rattle.audit.proofs.figures.displacements.Goals.{then-is_occupied, else-is_occupied}

pub loop-s-init : goal.loop-s-init
loop-s-init c = (omega arith, front_start _ _ _ (ap (displaced c.args.few.now.placed.k c.args.few.now.placed.stations.now c.args.few.now.placed.frames.now c.args.seeds.now) (onward_start _ _)))

pub loop-s-preserved : goal.loop-s-preserved
loop-s-preserved c =
    elim c.if-is_occupied.branch [
      | then-is_occupied w ↦ rw (w.displacement-is, w.c-is) (omega arith, front_put _ _ _ _ _ _ _ (displaced_yes _ _ _ _ _ _ _ _ _ c.loop-s-test.true (has_buses _ _ c.is_occupied.ensures w.if-is_occupied.true) w.point_at.ensures w.box_at.ensures w.middle.ensures w.distance.ensures) (omega arith) c.loop-s.invariant.1)
      | else-is_occupied w ↦ rw (w.displacement-is, w.c-is) (omega arith, front_same _ _ _ _ _ _ (ap (displaced c.args.few.now.placed.k c.args.few.now.placed.stations.now c.args.few.now.placed.frames.now c.args.seeds.now) (onward_no _ _ _ c.loop-s-test.true (has_none _ _ c.is_occupied.ensures w.if-is_occupied.false))) c.loop-s.invariant.1)
    ]

pub returns : goal.returns
returns c = front_end _ _ _ _ _ (displaced_end _ _ _ _ _ c.loop-s-test.false) c.loop-s.invariant.1
