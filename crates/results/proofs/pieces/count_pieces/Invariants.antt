-- What the loops of `results::pieces::count_pieces` keep.
use Rattle.results.proofs.pieces.Laws.{Counting}
use Rattle.results.proofs.pieces.count_pieces.Given as goal

abbrev pub invariant-loop-j : goal.invariant-loop-j
invariant-loop-j l = Counting l.path l.count l.n l.j
