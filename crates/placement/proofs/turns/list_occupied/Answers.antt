-- Answers for `turns::turns::list_occupied`.
use Prim.Native.Nat.{ℕ, ◌*◌}
use mathlib.Core.Path.{◌≡◌, refl, subst}
use native.Mathlib.Omega.{arith}
use lib.ListN.{length-set}
use Rattle.network.specs.Views.{counts_in}
use Rattle.placement.specs.Stages.Listed.{Listed}
use Rattle.placement.proofs.turns.Queue.{listed_none, counted_yes, counted_no}
use Rattle.placement.proofs.turns.list_occupied.Goals as goal
use Rattle.placement.proofs.turns.list_occupied.Goals.{then-count-gt0, else-count-gt0}

pub loop-s-init : goal.loop-s-init
loop-s-init c = (omega arith, omega arith, refl, refl, listed_none _ _ _)

pub loop-s-preserved : goal.loop-s-preserved
loop-s-preserved c =
    elim c.if-count-gt0.branch [
      | then-count-gt0 w ↦ rw w.sorted-is (rw w.r-is ((
        omega arith,
        omega arith,
        simp length-set (omega arith),
        simp length-set (omega arith),
        counted_yes _ _ _ _ _ _ _ c.loop-s.invariant.4 c.loop-s-test.true c.falling.ensures (omega arith) (omega arith) w.if-count-gt0.true,
      )))
      | else-count-gt0 w ↦ rw w.sorted-is (rw w.r-is ((
        omega arith,
        omega arith,
        simp length-set (omega arith),
        omega arith,
        counted_no _ _ _ _ _ _ _ c.loop-s.invariant.4 c.loop-s-test.true c.falling.ensures (omega arith) w.if-count-gt0.false,
      )))
    ]
