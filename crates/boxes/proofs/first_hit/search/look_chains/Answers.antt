-- Answers for `boxes::first_hit::search::look_chains`.
use Rattle.boxes.proofs.first_hit.Turns.{chains_turn, chains_end}
use Rattle.boxes.proofs.first_hit.search.look_chains.Goals as goal

pub loop-c-preserved : goal.loop-c-preserved
loop-c-preserved c = chains_turn _ _ _ _ _ _ _ _ _ _ _ _ _ c.loop-c-test.true c.look_chain-n.ensures c.loop-c.invariant

pub returns : goal.returns
returns c = chains_end _ _ _ _ _ _ _ _ _ _ _ _ c.loop-c-test.false c.loop-c.invariant
