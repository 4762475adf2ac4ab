-- What the loops of `placement::free_places::is_free` keep.
use Rattle.placement.proofs.free_places.Searching.{Free}
use Rattle.placement.proofs.free_places.is_free.Given as goal

abbrev pub invariant-loop-j : goal.invariant-loop-j
invariant-loop-j l = Free l.wanted l.boxes l.sorted l.initial.j l.end l.j
