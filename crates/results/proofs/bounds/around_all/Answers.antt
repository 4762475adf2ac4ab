-- Answers for `results::bounds::around_all`.
use mathlib.Core.Path.{refl}
use lib.Ieee.{of_bits, of_fields, odd}
use Rattle.network.proofs.Occupied.{has_buses, has_none}
use Rattle.results.proofs.Bounding.{around_start, around_yes, around_no, around_end}
use Rattle.results.proofs.bounds.around_all.Goals as goal
use Rattle.results.proofs.bounds.around_all.Goals.{then-is_occupied, else-is_occupied}

pub loop-s-init : goal.loop-s-init
unfolding of_bits of_fields odd
loop-s-init c = around_start _ _ _ _ refl

pub loop-s-preserved : goal.loop-s-preserved
loop-s-preserved c =
    elim c.if-is_occupied.branch [
      | then-is_occupied w ↦ rw w.b-is (around_yes _ _ _ _ _ _ _ c.loop-s-test.true (has_buses _ _ c.is_occupied.ensures w.if-is_occupied.true) w.box_at.ensures w.around-b.ensures c.loop-s.invariant)
      | else-is_occupied w ↦ rw w.b-is (around_no _ _ _ _ _ c.loop-s-test.true (has_none _ _ c.is_occupied.ensures w.if-is_occupied.false) c.loop-s.invariant)
    ]

pub returns : goal.returns
returns c = around_end _ _ _ _ _ c.loop-s-test.false c.loop-s.invariant
