-- Answers for `results::pieces::count_pieces`.
use native.Mathlib.Omega.{arith}
use Rattle.results.proofs.pieces.Laws.{count_none, count_yes, count_no, count_all}
use Rattle.results.proofs.pieces.count_pieces.Goals as goal
use Rattle.results.proofs.pieces.count_pieces.Goals.{then-apart, else-apart}

pub loop-j-init : goal.loop-j-init
loop-j-init c = count_none _ _

pub loop-j-preserved : goal.loop-j-preserved
loop-j-preserved c =
    elim c.if-apart.branch [
      | then-apart w ↦ rw w.n-is (count_yes _ _ _ _ (omega arith) c.loop-j.invariant (cc))
      | else-apart w ↦ rw w.n-is (count_no _ _ _ _ (omega arith) c.loop-j.invariant (cc))
    ]

pub returns : goal.returns
returns c = count_all _ _ _ _ (omega arith) c.loop-j.invariant
