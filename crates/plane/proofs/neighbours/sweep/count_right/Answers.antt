-- Answers for `plane::neighbours::sweep::count_right`.
use Rattle.std.proofs.Common.{◌∙◌, ◌+◌, ◌<◌, get_or, arith}
use Rattle.plane.specs.Stages.Sweep.{in_radius}
use Rattle.plane.proofs.neighbours.Places.{in_part, place_below}
use Rattle.plane.proofs.neighbours.Sweeps.{radius_by, many_right, none_right, many_stop_right}
use Rattle.plane.proofs.neighbours.sweep.count_right.Goals as goal
use Rattle.plane.proofs.neighbours.sweep.count_right.Goals.{then-is_near, else-is_near}

pub bounds-xy-j : goal.bounds-xy-j
bounds-xy-j c = let e = in_part c.args.sweep.now.order.now (c.args.position + 1) c.args.sweep.now.points.n c.loop-i.i-index (omega arith) in let h : get_or c.args.sweep.now.order.now (c.args.position + 1 + c.loop-i.i-index) 0 < c.args.sweep.now.points.n = place_below _ _ _ c.args.sweep.now.swept _ (omega arith) in omega (arith, e)

pub bounds-xy-j-in-loop-i : goal.bounds-xy-j-in-loop-i
bounds-xy-j-in-loop-i c = let e = in_part c.args.sweep.now.order.now (c.args.position + 1) c.args.sweep.now.points.n c.loop-i.i-index (omega arith) in let h : get_or c.args.sweep.now.order.now (c.args.position + 1 + c.loop-i.i-index) 0 < c.args.sweep.now.points.n = place_below _ _ _ c.args.sweep.now.swept _ (omega arith) in omega (arith, e)

pub returns-then-radius-d : goal.returns-then-radius-d
returns-then-radius-d c = c.loop-i.invariant.1 ∙ many_stop_right _ c.args.sweep.now.points.n _ _ _ _ c.args.sweep.now.swept c.requires.finite_x c.requires.positive (c.args.position + 1 + c.loop-i.i-index) _ (in_part c.args.sweep.now.order.now (c.args.position + 1) c.args.sweep.now.points.n c.loop-i.i-index (omega arith)) (omega arith) c.if-radius-d.true

pub loop-i-preserved : goal.loop-i-preserved
loop-i-preserved c =
    let near = (radius_by c.args.sweep.now.points.xy.now c.args.sweep.now.order.now c.args.from_x c.args.from_y c.args.radius (c.args.position + 1 + c.loop-i.i-index) _ _ (in_part c.args.sweep.now.order.now (c.args.position + 1) c.args.sweep.now.points.n c.loop-i.i-index (omega arith)) c.is_near.ensures) in
    elim c.if-is_near.branch [
      | then-is_near w ↦ (omega arith, rw w.count-is (many_right (in_radius c.args.sweep.now.points.xy.now c.args.sweep.now.order.now c.args.from_x c.args.from_y c.args.radius) _ (c.args.position + 1 + c.loop-i.i-index) _ _ _ (omega arith) c.loop-i.invariant.1 near w.if-is_near.true))
      | else-is_near w ↦ (omega arith, rw w.count-is (none_right (in_radius c.args.sweep.now.points.xy.now c.args.sweep.now.order.now c.args.from_x c.args.from_y c.args.radius) _ (c.args.position + 1 + c.loop-i.i-index) _ _ _ (omega arith) c.loop-i.invariant.1 near w.if-is_near.false))
    ]
