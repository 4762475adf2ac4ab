-- Answers for `plane::neighbours::sweep::counts_in_order`.
use Rattle.std.proofs.Common.{◌≡◌, get_or, subst, arith}
use Rattle.plane.specs.Near.{neighbours}
use Rattle.plane.proofs.neighbours.Fills.{Filled, filled_more, filled_end}
use Rattle.plane.proofs.neighbours.Places.{place_below, entry_of}
use Rattle.plane.proofs.neighbours.Scans.{neighbours_le}
use Rattle.plane.proofs.neighbours.sweep.counts_in_order.Goals as goal

pub overflow_cast-counts : goal.overflow_cast-counts
overflow_cast-counts c = omega (arith, neighbours_le c.args.sweep.now.points.xy.now c.args.sweep.now.points.n c.args.radius (get_or c.args.sweep.now.order.now c.loop-c.c 0))

pub loop-c-preserved : goal.loop-c-preserved
loop-c-preserved c = filled_more _ _ _ _ c.loop-c.counts c.loop-c.c _ c.loop-c.invariant (place_below _ _ _ c.args.sweep.now.swept _ c.loop-c-test.true) c.requires.room c.count_at.ensures

pub returns : goal.returns
returns c =
    let e : c.loop-c.c ≡ c.args.sweep.now.points.n = omega arith in
    let k = subst (Filled (neighbours c.args.sweep.now.points.xy.now c.args.sweep.now.points.n c.args.radius) c.args.sweep.now.order.now c.args.sweep.now.points.n c.args.counts.now c.loop-c.counts) e c.loop-c.invariant in
    filled_end _ _ _ _ _ k c.requires.room (entry_of _ _ _ c.args.sweep.now.swept)
