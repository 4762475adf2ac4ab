-- Answers for `audit::figures::by_sides`.
use Rattle.network.proofs.Occupied.{has_buses, has_none}
use Rattle.audit.proofs.figures.Front.{front_start, front_same, front_put, front_end, front_next}
use Rattle.network.proofs.Rest.{onward_start, onward_no}
use mathlib.Core.Path.{ap}
use native.Mathlib.Omega.{arith}
use lib.Ieee.{nan}
use Rattle.audit.proofs.figures.Stationwise.{sided, sided_yes, sided_end}
use Rattle.audit.proofs.figures.by_sides.Goals as goal
use Rattle.audit.proofs.figures.by_sides.Goals.{then-is_occupied, else-is_occupied}

pub loop-s-init : goal.loop-s-init
loop-s-init c = (omega arith, front_start _ _ _ (ap (sided c.args.placed.now.k c.args.placed.now.stations.now c.args.placed.now.frames.now c.args.spacing.now 0) (onward_start _ _)))

pub loop-s-preserved : goal.loop-s-preserved
loop-s-preserved c =
    elim c.if-is_occupied.branch [
      | then-is_occupied w ↦ rw (w.spacing-is, w.c-is) (omega arith, front_put _ _ _ _ _ _ _ (sided_yes _ _ _ _ _ _ _ _ _ c.loop-s-test.true (has_buses _ _ c.is_occupied.ensures w.if-is_occupied.true) (front_next _ _ _ _ _ nan c.loop-s.invariant.1) w.box_at.ensures w.shorter.ensures) (omega arith) c.loop-s.invariant.1)
      | else-is_occupied w ↦ rw (w.spacing-is, w.c-is) (omega arith, front_same _ _ _ _ _ _ (ap (sided c.args.placed.now.k c.args.placed.now.stations.now c.args.placed.now.frames.now c.args.spacing.now c.loop-s.c) (onward_no _ _ _ c.loop-s-test.true (has_none _ _ c.is_occupied.ensures w.if-is_occupied.false))) c.loop-s.invariant.1)
    ]

pub returns : goal.returns
returns c = front_end _ _ _ _ _ (sided_end _ _ _ _ _ _ c.loop-s-test.false) c.loop-s.invariant.1
