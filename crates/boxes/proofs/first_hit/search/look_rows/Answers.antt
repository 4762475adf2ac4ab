-- Answers for `boxes::first_hit::search::look_rows`.
use Rattle.boxes.proofs.first_hit.Turns.{rows_turn, rows_end}
use Rattle.boxes.proofs.first_hit.search.look_rows.Goals as goal

pub loop-r-preserved : goal.loop-r-preserved
loop-r-preserved c = rows_turn _ _ _ _ _ _ _ _ _ _ _ _ _ _ _ _ c.loop-r-test.true c.look_chains-n.ensures c.loop-r.invariant

pub returns : goal.returns
returns c = rows_end _ _ _ _ _ _ _ _ _ _ _ _ _ _ _ c.loop-r-test.false c.loop-r.invariant
