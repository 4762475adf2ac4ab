-- Answers for `routing::tracing::lines::store_branch`.
use native.Mathlib.Omega.{arith}
use mathlib.Core.Path.{◌∙◌, refl, sym, ap}
use Prim.Native.Nat.{ℕ, ◌-◌}
use Rattle.routing.proofs.tracing.Branching.{branch_none, branch_stored, counted_by_vertices, walked_long, walked_inside}
use lib.Seq.{length-take-le}
use Rattle.routing.proofs.tracing.lines.store_branch.Goals as goal

pub returns-then-a-eq0 : goal.returns-then-a-eq0
returns-then-a-eq0 c = branch_none _ _ _ _ _ _ _ _ _ _ _ _ _ (omega (arith, c.requires.branch_in_bounds, c.requires.ends_fit)) (omega (arith, c.requires.known_crossed, c.requires.branch_in_bounds, c.requires.ends_fit)) (sym c.at-a.ensures ∙ c.if-a-eq0.true) c.put_path.ensures

pub store_walked-known-requires-clause-few_crossings : goal.store_walked-known-requires-clause-few_crossings
store_walked-known-requires-clause-few_crossings c =
    let w = counted_by_vertices c.args.by_vertex.now.mesh.corners.now c.args.by_vertex.now.mesh.twins.now c.args.points.now c.args.ends.now c.args.branch c.at-a.result (c.at-a.result - 1) c.at-b.result _ _ _ _ c.at-a.ensures c.if-a-eq0.false refl c.at-b.ensures c.trace-t.ensures in
    let z = length-take-le c.trace-t.result.count c.trace-t.new.walked (walked_long _ _ c.args.points.now _ _ _ _ _ _ c.trace-t.ensures) in
    omega (arith, w, z, c.requires.few_crossings)

pub store_walked-known-requires-clause-numbers_fit : goal.store_walked-known-requires-clause-numbers_fit
store_walked-known-requires-clause-numbers_fit c =
    let w = counted_by_vertices c.args.by_vertex.now.mesh.corners.now c.args.by_vertex.now.mesh.twins.now c.args.points.now c.args.ends.now c.args.branch c.at-a.result (c.at-a.result - 1) c.at-b.result _ _ _ _ c.at-a.ensures c.if-a-eq0.false refl c.at-b.ensures c.trace-t.ensures in
    let z = length-take-le c.trace-t.result.count c.trace-t.new.walked (walked_long _ _ c.args.points.now _ _ _ _ _ _ c.trace-t.ensures) in
    omega (arith, w, z, c.requires.numbers_fit)

pub store_walked-known-requires-clause-places_fit : goal.store_walked-known-requires-clause-places_fit
store_walked-known-requires-clause-places_fit c =
    let w = counted_by_vertices c.args.by_vertex.now.mesh.corners.now c.args.by_vertex.now.mesh.twins.now c.args.points.now c.args.ends.now c.args.branch c.at-a.result (c.at-a.result - 1) c.at-b.result _ _ _ _ c.at-a.ensures c.if-a-eq0.false refl c.at-b.ensures c.trace-t.ensures in
    let z = length-take-le c.trace-t.result.count c.trace-t.new.walked (walked_long _ _ c.args.points.now _ _ _ _ _ _ c.trace-t.ensures) in
    omega (arith, w, z, c.requires.places_fit)

pub store_walked-known-requires-clause-half_edges_in_bounds : goal.store_walked-known-requires-clause-half_edges_in_bounds
store_walked-known-requires-clause-half_edges_in_bounds c = walked_inside _ _ c.args.points.now _ _ _ _ _ _ c.requires.mesh_passes c.trace-t.ensures

pub overflow_cast-used : goal.overflow_cast-used
overflow_cast-used c = let w = counted_by_vertices c.args.by_vertex.now.mesh.corners.now c.args.by_vertex.now.mesh.twins.now c.args.points.now c.args.ends.now c.args.branch c.at-a.result (c.at-a.result - 1) c.at-b.result _ _ _ _ c.at-a.ensures c.if-a-eq0.false refl c.at-b.ensures c.trace-t.ensures in omega (arith, w, c.requires.few_crossings, c.kept_count-used.ensures.at_most_all)

pub returns : goal.returns
returns c =
    let z = length-take-le c.trace-t.result.count c.trace-t.new.walked (walked_long _ _ c.args.points.now _ _ _ _ _ _ c.trace-t.ensures) in
    branch_stored c.args.branch_count c.args.by_vertex.now.mesh.corners.now c.args.by_vertex.now.mesh.twins.now c.args.points.now c.args.branch _ c.args.was.channels c.args.was.crossings c.args.ends.now c.args.numbers.now c.args.places.now _ (c.at-a.result - 1) c.at-b.result _ _ _ _ _ _ _ _ _ _ (omega (arith, c.requires.branch_in_bounds, c.requires.ends_fit)) (λ z. c.if-a-eq0.false (c.at-a.ensures ∙ z)) (ap (λ (i : ℕ). i - 1) c.at-a.ensures) c.at-b.ensures c.trace-t.ensures (rw z at c.store_walked-known.ensures.grown) (omega (arith, z, c.store_walked-known.ensures.known_crossed)) c.kept_count-used.ensures.all_or_none c.put_path-2.ensures
