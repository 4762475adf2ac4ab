-- Answers for `results::piece_list::lines::lead_lines`.
use native.Mathlib.Omega.{arith}
use Rattle.results.proofs.piece_list.Passes.{batches_more, batches_end}
use Rattle.results.proofs.piece_list.lines.lead_lines.Goals as goal

pub returns : goal.returns
returns c = batches_end _ _ _ _ _ _ _ _ _ _ _ _ _ _ c.loop-start.invariant (omega arith)

-- where no further block begins before the end
pub returns-2 : goal.returns-2
returns-2 c =
    batches_end _ _ _ _ _ _ _ _ _ _ _ _ _ _
    (batches_more _ _ _ _ _ _ _ _ _ _ _ _ _ _ c.loop-start.invariant _ _ _ _ c.lead_batch-next.ensures c.lead_batch-next.auto.path c.lead_batch-next.auto.numbers c.lead_batch-next.auto.branches)
    (omega arith)
