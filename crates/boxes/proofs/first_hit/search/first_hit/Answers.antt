-- Answers for `boxes::first_hit::search::first_hit`.
use mathlib.Core.Path.{◌∙◌}
use Rattle.std.proofs.Common.{arith}
use Rattle.std.proofs.lemmas.Grind.{common_steps}
use Rattle.network.proofs.Views.{length_boxes}
use Rattle.boxes.specs.First.{first_hit}
use Rattle.boxes.proofs.first_hit.Ends.{grid_held, done_hit}
use Rattle.boxes.proofs.first_hit.search.first_hit.Goals as goal

pub march-requires-clause-has_cells : goal.march-requires-clause-has_cells
march-requires-clause-has_cells c = grid_held _ _ _ _ _ c.args.index.now.gridded (length_boxes _ _) c.args.index.now.few c.args.index.now.indexed (omega (arith, c.at.ensures, c.if-at-gt0.true))

pub returns-in-Some : goal.returns-in-Some
returns-in-Some c = c.hit_of.ensures ∙ done_hit _ _ _ _ _ _ _ _ _ c.in-Some.is c.march.ensures c.args.index.now.indexed (omega (arith, c.at.ensures, c.if-at-gt0.true))

pub returns : goal.returns
unfolding first_hit
returns c = grind (arith, common_steps)
