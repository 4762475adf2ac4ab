-- What the loops of `boxes::first_hit::search::march` keep.
use Prim.Native.Nat.{◌≤◌, ◌-◌}
use Rattle.boxes.specs.Stages.Lent.{boxes_of}
use Rattle.boxes.specs.Stages.Looks.{Marched}
use Rattle.boxes.proofs.first_hit.search.march.Given as goal

abbrev pub invariant-loop : goal.invariant-loop
invariant-loop l = (l.counter ≤ 8192) × Marched (boxes_of l.index.placed) l.piece.p l.piece.q l.piece.from_station l.piece.to_station l.index.cells.now l.t l.n
