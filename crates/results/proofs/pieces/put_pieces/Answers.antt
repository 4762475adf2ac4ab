-- Answers for `results::pieces::put_pieces`.
use native.Mathlib.Omega.{arith}
use Rattle.results.proofs.pieces.Puts.{points_none, points_room, points_yes, points_no, points_end}
use Rattle.results.proofs.pieces.put_pieces.Goals as goal
use Rattle.results.proofs.pieces.put_pieces.Goals.{then-apart, else-apart}

pub loop-j-init : goal.loop-j-init
loop-j-init c = points_none _ _ _ _ _ _ c.requires.numbers_fit c.requires.branches_fit

pub put_piece-requires : goal.put_piece-requires
put_piece-requires c =
    let room = points_room c.args.path.now _ _ _ c.loop-j.invariant (omega arith) (cc) in
    record { numbers_fit = room.0; branches_fit = room.1 }

pub loop-j-preserved : goal.loop-j-preserved
loop-j-preserved c =
    elim c.if-apart.branch [
      | then-apart w ↦ rw (w.k-is, w.numbers-is, w.branches-is) (points_yes c.args.path.now _ _ _ c.loop-j.invariant (omega arith) _ _ c.point_at-p.ensures c.point_at-q.ensures (cc) w.put_piece.ensures)
      | else-apart w ↦ rw (w.k-is, w.numbers-is, w.branches-is) (points_no c.args.path.now _ _ _ c.loop-j.invariant (omega arith) (cc))
    ]

pub returns : goal.returns
returns c = points_end _ _ _ _ c.loop-j.invariant (omega arith)
