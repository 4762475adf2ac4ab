-- Answers for `boxes::detour::detour`.
use native.Mathlib.Omega.{arith}
use Rattle.boxes.proofs.detour.Turning.{leading_start, leading_spent, leading_end, passed, put}
use Rattle.boxes.proofs.detour.detour.Goals as goal

pub loop-left-init : goal.loop-left-init
loop-left-init c = leading_start _ _ _ _ _ _ _ _

pub loop-left-preserved-in-None : goal.loop-left-preserved-in-None
loop-left-preserved-in-None c = passed _ _ _ _ _ _ _ _ _ _ _ _ c.loop-left.invariant c.loop-left-test.true c.if-i-n.true _ _ c.point_in-p.ensures c.point_in-q.ensures _ c.first_hit.ensures c.in-None.is

pub loop-left-preserved : goal.loop-left-preserved
loop-left-preserved c = put _ _ _ _ _ _ _ _ _ _ _ _ c.loop-left.invariant c.loop-left-test.true c.if-i-n.true _ _ c.point_in-p.ensures c.point_in-q.ensures _ c.first_hit.ensures _ _ _ _ c.in-Some.is c.box_in-f.ensures c.corner.ensures c.put_in.ensures c.put_in.auto.path

pub returns-else-i-n : goal.returns-else-i-n
returns-else-i-n c = leading_end _ _ _ _ _ _ _ _ _ _ _ _ c.loop-left.invariant c.if-i-n.false

pub returns-after-loop-left : goal.returns-after-loop-left
returns-after-loop-left c = leading_spent _ _ _ _ _ _ _ _ _ _ _ _ c.loop-left.invariant (omega (arith, c.loop-left-test.false))
