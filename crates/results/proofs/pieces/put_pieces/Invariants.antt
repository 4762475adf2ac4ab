-- What the loops of `results::pieces::put_pieces` keep.
use Prim.Native.Nat.{◌-◌}
use Rattle.results.proofs.pieces.Laws.{piece_at}
use Rattle.results.proofs.pieces.Puts.{Filling}
use Rattle.results.proofs.pieces.put_pieces.Given as goal

abbrev pub invariant-loop-j : goal.invariant-loop-j
invariant-loop-j l = Filling (piece_at l.branch l.path) (l.count - 1) l.at l.initial.numbers l.numbers l.initial.branches l.branches l.k l.j
