-- What the loops of `boxes::first_hit::search::look_chain` keep.
use mathlib.Core.Path.{◌≡◌}
use Prim.Native.Nat.{◌≤◌, ◌^◌}
use Rattle.boxes.specs.Stages.Lent.{boxes_of}
use Rattle.boxes.specs.Stages.Looks.{chain_to, after_chain}
use Rattle.boxes.proofs.first_hit.search.look_chain.Given as goal

abbrev pub invariant-loop-h : goal.invariant-loop-h
invariant-loop-h l = (l.h ≤ 2 ^ 32) × (chain_to (boxes_of l.index.placed) l.piece.p l.piece.q l.piece.from_station l.piece.to_station l.index.placed.k l.index.cells.now l.window l.h l.h l.n ≡ after_chain (boxes_of l.index.placed) l.piece.p l.piece.q l.piece.from_station l.piece.to_station l.index.placed.k l.index.cells.now l.window l.chain l.initial.n)

abbrev pub decreases-loop-h : goal.decreases-loop-h
decreases-loop-h l = l.h
