-- Answers for `plane::neighbours::sweep::count_left`.
use Rattle.std.proofs.Common.{arith}
use Rattle.plane.specs.Stages.Sweep.{in_radius}
use Rattle.plane.proofs.neighbours.Places.{back_length, back_rest, back_item}
use Rattle.plane.proofs.neighbours.Sweeps.{radius_by, many_left, none_left, all_left, many_stop_left}
use Rattle.plane.proofs.neighbours.sweep.count_left.Goals as goal

pub returns-then-radius-d : goal.returns-then-radius-d
returns-then-radius-d c = all_left _ _ _ _ c.loop-i.invariant.2 (many_stop_left _ c.args.sweep.now.points.n _ _ _ _ c.args.sweep.now.swept c.requires.finite_x c.requires.positive _ _ _ (back_item _ _ _ c.in-Some.ensures.steps _ c.loop-i.invariant.1) (back_length _ _ _ c.in-Some.ensures.steps) (omega arith) c.if-radius-d.true)

pub loop-i-preserved-then-is_near : goal.loop-i-preserved-then-is_near
loop-i-preserved-then-is_near c =
    let m = back_length _ _ _ c.in-Some.ensures.steps in
    let near = radius_by c.args.sweep.now.points.xy.now c.args.sweep.now.order.now c.args.from_x c.args.from_y c.args.radius _ _ _ (back_item _ _ _ c.in-Some.ensures.steps _ c.loop-i.invariant.1) c.is_near.ensures in (
      omega (arith, m),
      back_rest _ _ _ c.in-Some.ensures.steps _ c.loop-i.invariant.1,
      many_left (in_radius c.args.sweep.now.points.xy.now c.args.sweep.now.order.now c.args.from_x c.args.from_y c.args.radius) _ _ _ _ _ m c.loop-i.invariant.2 near c.if-is_near.true,
    )

pub loop-i-preserved : goal.loop-i-preserved
loop-i-preserved c =
    let m = back_length _ _ _ c.in-Some.ensures.steps in
    let near = radius_by c.args.sweep.now.points.xy.now c.args.sweep.now.order.now c.args.from_x c.args.from_y c.args.radius _ _ _ (back_item _ _ _ c.in-Some.ensures.steps _ c.loop-i.invariant.1) c.is_near.ensures in (
      omega (arith, m),
      back_rest _ _ _ c.in-Some.ensures.steps _ c.loop-i.invariant.1,
      none_left (in_radius c.args.sweep.now.points.xy.now c.args.sweep.now.order.now c.args.from_x c.args.from_y c.args.radius) _ _ _ _ _ m c.loop-i.invariant.2 near c.if-is_near.false,
    )
