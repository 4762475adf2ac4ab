-- Answers for `plane::neighbours::sweep::nearest_left`.
use Rattle.std.proofs.Common.{arith}
use Rattle.plane.proofs.neighbours.Places.{back_length, back_rest, back_item}
use Rattle.plane.proofs.neighbours.Sweeps.{left_by, least_stop_left}
use Rattle.plane.proofs.neighbours.sweep.nearest_left.Goals as goal

pub returns-then-best-d : goal.returns-then-best-d
returns-then-best-d c = least_stop_left _ _ _ _ _ _ c.args.sweep.now.swept c.requires.finite_x _ _ _ _ (back_item _ _ _ c.in-Some.ensures.steps _ c.loop-i.invariant.1) (back_length _ _ _ c.in-Some.ensures.steps) (omega arith) c.loop-i.invariant.2 c.if-best-d.true

pub loop-i-preserved : goal.loop-i-preserved
loop-i-preserved c =
    let m = back_length _ _ _ c.in-Some.ensures.steps in (
      omega (arith, m),
      back_rest _ _ _ c.in-Some.ensures.steps _ c.loop-i.invariant.1,
      left_by c.args.sweep.now.points.xy.now c.args.sweep.now.points.n c.args.sweep.now.order.now c.args.from_x c.args.from_y c.args.position _ _ _ _ _ (back_item _ _ _ c.in-Some.ensures.steps _ c.loop-i.invariant.1) m c.closer-best.ensures (omega arith) c.requires.in_points c.loop-i.invariant.2,
    )
