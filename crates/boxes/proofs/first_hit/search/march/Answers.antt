-- Answers for `boxes::first_hit::search::march`.
use mathlib.Core.Path.{sym, ◌∙◌}
use native.Mathlib.Omega.{arith}
use Rattle.network.proofs.Views.{length_boxes}
use Rattle.boxes.specs.Stages.Looks.{near, Sure}
use Rattle.boxes.proofs.first_hit.Marching.{marched_start, marched_on, marched_done}
use Rattle.boxes.proofs.first_hit.search.march.Goals as goal

pub loop-init : goal.loop-init
unfolding near
loop-init c = (omega arith, marched_start _ _ _ _ _ _)

pub returns-then-is_done : goal.returns-then-is_done
returns-then-is_done c = marched_done _ _ _ _ _ _ _ _ _ c.requires.plain (sym c.holds.ensures ∙ c.if-holds.true) _ c.loop.invariant.1 _ _ _ c.requires.held_grid (length_boxes _ _) c.look_window-n.ensures (sym c.is_done.ensures ∙ c.if-is_done.true)

pub loop-preserved : goal.loop-preserved
loop-preserved c = (omega arith, marched_on _ _ _ _ _ _ _ _ _ c.requires.plain (sym c.holds.ensures ∙ c.if-holds.true) _ c.loop.invariant.1 _ _ _ c.requires.held_grid (length_boxes _ _) c.look_window-n.ensures)

pub returns-else-holds : goal.returns-else-holds
unfolding Sure
returns-else-holds c = tt

pub returns : goal.returns
unfolding Sure
returns c = tt
