-- What the loops of `boxes::first_hit::search::look_chains` keep.
use mathlib.Core.Path.{◌≡◌}
use Prim.Native.Nat.{◌-◌}
use Rattle.boxes.specs.Stages.Lent.{boxes_of}
use Rattle.boxes.specs.Stages.Looks.{after_chains}
use Rattle.boxes.proofs.first_hit.search.look_chains.Given as goal

abbrev pub invariant-loop-c : goal.invariant-loop-c
invariant-loop-c l = after_chains (boxes_of l.index.placed) l.piece.p l.piece.q l.piece.from_station l.piece.to_station l.index.placed.k l.index.cells.now l.window l.c (l.end - l.c) l.n ≡ after_chains (boxes_of l.index.placed) l.piece.p l.piece.q l.piece.from_station l.piece.to_station l.index.placed.k l.index.cells.now l.window l.chain (l.end - l.chain) l.initial.n
