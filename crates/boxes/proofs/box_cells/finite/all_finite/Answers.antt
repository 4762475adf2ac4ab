-- Answers for `boxes::box_cells::finite::all_finite`.
use mathlib.Core.Path.{sym, ap, ◌∙◌}
use native.Mathlib.Omega.{arith}
use Rattle.network.proofs.Occupied.{has_buses, has_none}
use Rattle.plane.specs.Stages.Window.{finite_box}
use Rattle.boxes.proofs.box_cells.Occupied.{left_start, left_yes, left_no, left_end}
use Rattle.boxes.proofs.box_cells.finite.all_finite.Goals as goal
use Rattle.boxes.proofs.box_cells.finite.all_finite.Goals.{then-is_occupied+else-not-finite_box, else-is_occupied}

pub loop-s-init : goal.loop-s-init
loop-s-init c = (omega arith, left_start _ _ _)

pub loop-s-preserved : goal.loop-s-preserved
loop-s-preserved c =
    elim c.if-is_occupied.branch [
      | then-is_occupied+else-not-finite_box w ↦
          (omega arith, left_yes _ _ _ _ c.loop-s-test.true (has_buses _ _ c.is_occupied.ensures w.if-is_occupied.true) (ap finite_box (sym w.box_in.ensures) ∙ sym w.finite_box.ensures ∙ w.if-not-finite_box.false) c.loop-s.invariant.1)
      | else-is_occupied w ↦ (omega arith, left_no _ _ _ _ c.loop-s-test.true (has_none _ _ c.is_occupied.ensures w.if-is_occupied.false) c.loop-s.invariant.1)
    ]

pub returns : goal.returns
returns c = λ h. left_end _ _ _ _ c.loop-s-test.false c.loop-s.invariant.1
