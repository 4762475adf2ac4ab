-- What the loops of `boxes::first_hit::search::look_rows` keep.
use mathlib.Core.Path.{◌≡◌}
use Prim.Native.Nat.{◌-◌}
use Rattle.boxes.specs.Stages.Lent.{boxes_of}
use Rattle.boxes.specs.Stages.Looks.{after_rows}
use Rattle.boxes.proofs.first_hit.search.look_rows.Given as goal

abbrev pub invariant-loop-r : goal.invariant-loop-r
invariant-loop-r l = after_rows (boxes_of l.index.placed) l.piece.p l.piece.q l.piece.from_station l.piece.to_station l.index.placed.k l.index.cells.now l.window l.grid l.first_column l.last_column l.r (l.end - l.r) l.n ≡ after_rows (boxes_of l.index.placed) l.piece.p l.piece.q l.piece.from_station l.piece.to_station l.index.placed.k l.index.cells.now l.window l.grid l.first_column l.last_column l.row (l.end - l.row) l.initial.n
