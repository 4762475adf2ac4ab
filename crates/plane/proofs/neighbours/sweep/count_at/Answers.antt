-- Answers for `plane::neighbours::sweep::count_at`.
use Rattle.std.proofs.Common.{◌≡◌, ◌+◌, get_or, arith}
use Rattle.plane.specs.Near.{within, neighbours}
use Rattle.plane.proofs.neighbours.Scans.{within_le}
use Rattle.plane.proofs.neighbours.Sweeps.{many_within}
use Rattle.plane.proofs.neighbours.sweep.count_at.Goals as goal

pub overflow_add-result : goal.overflow_add-result
overflow_add-result c =
    let e : c.count_right-right.result + c.count_left-left.result ≡ within c.args.sweep.now.points.xy.now c.args.sweep.now.points.n c.args.radius (get_or c.args.sweep.now.order.now c.args.position 0) = many_within _ c.args.sweep.now.points.n _ _ c.args.sweep.now.swept c.args.position c.requires _ _ c.count_right-right.ensures c.count_left-left.ensures in
    omega (arith, within_le c.args.sweep.now.points.xy.now c.args.sweep.now.points.n c.args.radius (get_or c.args.sweep.now.order.now c.args.position 0))

pub returns-then-radius : goal.returns-then-radius
unfolding neighbours
returns-then-radius c =
    rw c.if-radius.true (many_within _ c.args.sweep.now.points.n _ _ c.args.sweep.now.swept c.args.position c.requires _ _ c.count_right-right.ensures c.count_left-left.ensures)
