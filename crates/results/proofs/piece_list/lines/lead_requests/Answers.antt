-- Answers for `results::piece_list::lines::lead_requests`.
use native.Mathlib.Omega.{arith}
use Rattle.results.proofs.piece_list.Leading.{along_all}
use Rattle.results.proofs.piece_list.lines.lead_requests.Goals as goal

pub returns : goal.returns
returns c = along_all _ _ _ _ _ _ _ _ _ _ _ _ _ _ (omega arith) c.loop-i.invariant
