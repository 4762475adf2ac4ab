-- Answers for `network::seeds::add_points`.
use mathlib.Core.Path.{refl}
use native.Mathlib.Omega.{arith}
use Rattle.network.proofs.Stations.{station_below}
use Rattle.network.proofs.seeds.Seeding.{summed_none, summed_more}
use Rattle.network.proofs.seeds.add_points.Goals as goal

pub loop-i-init : goal.loop-i-init
loop-i-init c = (omega arith, refl, summed_none _ _ _ _ c.requires.all_zero)

pub put_point-requires : goal.put_point-requires
put_point-requires c = omega (arith, station_below c.args.sub.now c.loop-i.i c.loop-i-test.true)

pub loop-i-preserved : goal.loop-i-preserved
loop-i-preserved c = (omega arith, omega (arith, c.put_point.auto.list), summed_more _ _ _ _ _ _ _ _ _ (omega arith) refl (omega (arith, station_below c.args.sub.now c.loop-i.i c.loop-i-test.true)) c.point_at-p.ensures c.bus_point-q.ensures c.put_point.ensures c.loop-i.invariant.2)
