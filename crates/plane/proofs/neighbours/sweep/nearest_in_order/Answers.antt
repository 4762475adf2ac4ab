-- Answers for `plane::neighbours::sweep::nearest_in_order`.
use Rattle.std.proofs.Common.{◌≡◌, subst, arith}
use Rattle.plane.specs.Near.{nearest}
use Rattle.plane.proofs.neighbours.Fills.{Filled, filled_more, filled_end}
use Rattle.plane.proofs.neighbours.Places.{place_below, entry_of}
use Rattle.plane.proofs.neighbours.sweep.nearest_in_order.Goals as goal

pub loop-c-preserved : goal.loop-c-preserved
loop-c-preserved c = filled_more _ _ _ _ c.loop-c.out c.loop-c.c _ c.loop-c.invariant (place_below _ _ _ c.args.sweep.now.swept _ c.loop-c-test.true) c.requires c.nearest_at.ensures

pub returns : goal.returns
returns c =
    let e : c.loop-c.c ≡ c.args.sweep.now.points.n = omega arith in
    let k = subst (Filled (nearest c.args.sweep.now.points.xy.now c.args.sweep.now.points.n) c.args.sweep.now.order.now c.args.sweep.now.points.n c.args.out.now c.loop-c.out) e c.loop-c.invariant in
    filled_end _ _ _ _ _ k c.requires (entry_of _ _ _ c.args.sweep.now.swept)
