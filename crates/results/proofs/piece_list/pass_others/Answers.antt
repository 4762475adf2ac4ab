-- Answers for `results::piece_list::pass_others`.
use native.Mathlib.Omega.{arith}
use Rattle.results.proofs.piece_list.Passes.{others_all}
use Rattle.results.proofs.piece_list.pass_others.Goals as goal

pub returns : goal.returns
returns c = others_all _ _ _ _ _ _ _ _ _ _ _ _ _ _ _ _ _ _ _ (omega arith) c.loop-e.invariant
