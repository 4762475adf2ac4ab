-- Answers for `boxes::box_cells::build::fill`.
use mathlib.Core.Path.{sym, ◌∙◌}
use native.Mathlib.Omega.{arith}
use Rattle.network.proofs.Views.{length_boxes}
use Rattle.boxes.proofs.box_cells.Entering.{grid_counts, same_room, indexed_all}
use borrow.Author.Tests.{not-false}
use Rattle.boxes.proofs.box_cells.build.fill.Goals as goal

pub clear_chains-requires : goal.clear_chains-requires
clear_chains-requires c =
    let q = grid_counts _ _ _ c.grid_of-g.ensures in
    let r = same_room _ _ _ _ _ q.0 q.1 c.requires.cells_in_bounds in
    record { has_room = omega (arith, c.requires.has_room, r); few_cells = omega (arith, c.args.few.now.few, r) }

pub link_occupied-requires-clause-some_columns : goal.link_occupied-requires-clause-some_columns
link_occupied-requires-clause-some_columns c = let q = grid_counts _ _ _ c.grid_of-g.ensures in omega (arith, q.0, c.requires.some_columns)

pub link_occupied-requires-clause-some_rows : goal.link_occupied-requires-clause-some_rows
link_occupied-requires-clause-some_rows c = let q = grid_counts _ _ _ c.grid_of-g.ensures in omega (arith, q.1, c.requires.some_rows)

pub link_occupied-requires-clause-cells_in_bounds : goal.link_occupied-requires-clause-cells_in_bounds
link_occupied-requires-clause-cells_in_bounds c = let q = grid_counts _ _ _ c.grid_of-g.ensures in same_room _ _ _ _ _ q.0 q.1 c.requires.cells_in_bounds

pub returns : goal.returns
returns c =
    let q = grid_counts _ _ _ c.grid_of-g.ensures in
    let r = same_room _ _ _ _ _ q.0 q.1 c.requires.cells_in_bounds in
    indexed_all _ _ _ _ _ _ _ (length_boxes _ _) c.grid_of-g.ensures c.clear_chains.ensures.same_grid c.link_occupied.ensures.same_grid
    (omega (arith, q.0, c.requires.some_columns)) (omega (arith, q.1, c.requires.some_rows)) r (sym c.is_finite.ensures ∙ not-false _ c.if-not-is_finite.false-raw) (sym c.is_finite-2.ensures ∙ not-false _ c.if-not-is_finite-2.false-raw) c.requires.finite_boxes c.link_occupied.ensures.chained
