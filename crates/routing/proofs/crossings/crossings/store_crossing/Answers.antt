-- Answers for `crossings::crossings::store_crossing`.
use Rattle.routing.proofs.crossings.Growing.{grown_cross}
use native.Mathlib.Omega.{arith}
use Rattle.routing.proofs.crossings.crossings.store_crossing.Goals as goal

pub returns-clause-grown : goal.returns-clause-grown
returns-clause-grown c = grown_cross c.args.branch_count c.args.line.now.by_vertex.mesh.corners.now c.args.line.now.points.now c.args.line.now.start c.args.line.now.end c.args.branch c.args.half_edge c.args.number c.args.channels c.channel_for-c.result _ _ c.args.ends.now c.args.numbers.now _ _ c.args.places.now _ (omega arith) (omega arith) (omega arith) (omega arith) c.fraction_on-t.ensures c.channel_for-c.ensures.is_number c.channel_for-c.ensures.ends_after c.put_crossing.ensures.numbers_after c.put_crossing.ensures.places_after c.count_with.ensures.counted
