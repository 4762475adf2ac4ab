-- Answers for `routing::tracing::lines::store_all`.
use native.Mathlib.Omega.{arith}
use mathlib.Core.Path.{refl}
use Rattle.routing.proofs.tracing.Branching.{crossings_few}
use Rattle.routing.proofs.tracing.Filling.{fill_start, fill_more, fill_room}
use Rattle.routing.proofs.tracing.lines.store_all.Goals as goal

pub loop-e-init : goal.loop-e-init
loop-e-init c = (refl, refl, refl, refl, fill_start _ _ _ _ _ _ _ c.requires.unmarked)

pub store_branch-counts-requires-clause-few_crossings : goal.store_branch-counts-requires-clause-few_crossings
store_branch-counts-requires-clause-few_crossings c =
    let r = fill_room c.args.branch_count c.args.by_vertex.now.mesh.corners.now c.args.by_vertex.now.mesh.twins.now c.args.points.now c.args.ends.now c.loop-e.e _ (omega arith) c.loop-e.invariant.4 in
    let f = crossings_few c.args.by_vertex.now.mesh.corners.now c.args.by_vertex.now.mesh.twins.now c.args.points.now c.args.ends.now c.args.branch_count c.args.by_vertex.now.few in
    omega (arith, c.requires.few_branches, r, f)

pub store_branch-counts-requires-clause-numbers_fit : goal.store_branch-counts-requires-clause-numbers_fit
store_branch-counts-requires-clause-numbers_fit c =
    let r = fill_room c.args.branch_count c.args.by_vertex.now.mesh.corners.now c.args.by_vertex.now.mesh.twins.now c.args.points.now c.args.ends.now c.loop-e.e _ (omega arith) c.loop-e.invariant.4 in
    omega (arith, c.requires.numbers_fit, r, c.loop-e.invariant.2)

pub store_branch-counts-requires-clause-places_fit : goal.store_branch-counts-requires-clause-places_fit
store_branch-counts-requires-clause-places_fit c =
    let r = fill_room c.args.branch_count c.args.by_vertex.now.mesh.corners.now c.args.by_vertex.now.mesh.twins.now c.args.points.now c.args.ends.now c.loop-e.e _ (omega arith) c.loop-e.invariant.4 in
    omega (arith, c.requires.places_fit, r, c.loop-e.invariant.3)

pub loop-e-preserved : goal.loop-e-preserved
loop-e-preserved c = (omega (arith, c.loop-e.invariant.0), omega (arith, c.loop-e.invariant.1), omega (arith, c.loop-e.invariant.2), omega (arith, c.loop-e.invariant.3), fill_more c.args.branch_count c.args.by_vertex.now.mesh.corners.now c.args.by_vertex.now.mesh.twins.now c.args.points.now c.args.ends.now c.loop-e.e _ _ (omega arith) (omega (arith, c.requires.ends_fit, c.loop-e.invariant.1)) c.loop-e.invariant.4 c.store_branch-counts.ensures)
