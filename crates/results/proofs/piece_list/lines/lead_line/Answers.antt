-- Answers for `results::piece_list::lines::lead_line`.
use Rattle.results.proofs.piece_list.Leading.{nothing_asked}
use Rattle.results.proofs.piece_list.lines.lead_line.Goals as goal

pub returns-then-request : goal.returns-then-request
returns-then-request c = nothing_asked _ _ _ _ _ _ _ _ c.if-request.true
