-- Answers for `plane::neighbours::sweep::nearest_right`.
use Rattle.std.proofs.Common.{◌+◌, ◌<◌, get_or, arith}
use Rattle.numbers.proofs.float.Signs.{inf_bits}
use Rattle.plane.proofs.neighbours.Places.{in_part, place_below}
use Rattle.plane.proofs.neighbours.Sweeps.{least_start, right_by, least_stop_right}
use Rattle.plane.proofs.neighbours.sweep.nearest_right.Goals as goal

pub loop-i-init : goal.loop-i-init
loop-i-init c = rw inf_bits (least_start c.args.sweep.now.points.xy.now c.args.sweep.now.points.n c.args.sweep.now.order.now c.args.from_x c.args.from_y c.args.position _ (omega arith))

pub bounds-xy-j : goal.bounds-xy-j
bounds-xy-j c = let e = in_part c.args.sweep.now.order.now (c.args.position + 1) c.args.sweep.now.points.n c.loop-i.i-index (omega arith) in let h : get_or c.args.sweep.now.order.now (c.args.position + 1 + c.loop-i.i-index) 0 < c.args.sweep.now.points.n = place_below _ _ _ c.args.sweep.now.swept _ (omega arith) in omega (arith, e)

pub bounds-xy-j-in-loop-i : goal.bounds-xy-j-in-loop-i
bounds-xy-j-in-loop-i c = let e = in_part c.args.sweep.now.order.now (c.args.position + 1) c.args.sweep.now.points.n c.loop-i.i-index (omega arith) in let h : get_or c.args.sweep.now.order.now (c.args.position + 1 + c.loop-i.i-index) 0 < c.args.sweep.now.points.n = place_below _ _ _ c.args.sweep.now.swept _ (omega arith) in omega (arith, e)

pub returns-then-best-d : goal.returns-then-best-d
returns-then-best-d c = least_stop_right _ _ _ _ _ _ c.args.sweep.now.swept c.requires.finite_x (c.args.position + 1 + c.loop-i.i-index) _ _ (in_part c.args.sweep.now.order.now (c.args.position + 1) c.args.sweep.now.points.n c.loop-i.i-index (omega arith)) (omega arith) c.loop-i.invariant c.if-best-d.true

pub loop-i-preserved : goal.loop-i-preserved
loop-i-preserved c = right_by c.args.sweep.now.points.xy.now c.args.sweep.now.points.n c.args.sweep.now.order.now c.args.from_x c.args.from_y c.args.position (c.args.position + 1 + c.loop-i.i-index) _ _ _ _ (in_part c.args.sweep.now.order.now (c.args.position + 1) c.args.sweep.now.points.n c.loop-i.i-index (omega arith)) (omega arith) c.closer-best.ensures (omega arith) c.loop-i.invariant
