-- What a call that answers 'drawn' has passed, and what its lists then hold.
-- Assumes nothing.
use mathlib.Core.Path.{◌≡◌, refl, sym, ap}
use Prim.Native.Nat.{◌*◌, ◌≤◌}
use native.Mathlib.Omega.{arith}
use lib.ListN.{length}
use Rattle.std.specs.Prelude.{Option, Some, None, Ok}
use Rattle.network.specs.declared.options.Options.{Options}
use Rattle.network.specs.declared.refusals.Refusal.{Refusal}
use Rattle.network.proofs.refusals.Unless.{accepted}
use Rattle.drawing.specs.declared.answer.Plot.{Plot}
use Rattle.drawing.specs.Network.{Network, Lists, Work, Crossings}
use Rattle.drawing.specs.Drawing.{drawing}
use Rattle.drawing.specs.Answer.{room_of, early, late, plot_of, answer_for, call_late, call_early, layout_of}
use Rattle.drawing.proofs.Lates.{room_of_lem}

-- No refusal applies, and the answer has the drawing's unit, bounds and number of pieces.
pub record Passed (o : Options) (N : Network) (L : Lists) (W : Work) (X : Crossings) (p : Plot) : Type 0 where
  pub early : None ≡ early o N (room_of L W X)
  pub late : None ≡ late (drawing o N) (room_of L W X)
  pub plot : p ≡ plot_of (drawing o N)

module _ (o : Options) (N : Network) (L : Lists) (W : Work) (X : Crossings) where
  passed_by : (r : Option Refusal) (p : Plot) → (call_early r o N L W X).answer ≡ Ok p → (None ≡ r) × (None ≡ late (drawing o N) (room_of L W X)) × (p ≡ plot_of (drawing o N))
  unfolding call_early call_late answer_for
  passed_by None p e = let h = accepted (late (drawing o N) (room_of L W X)) p _ (sym e) in (refl, h.0, h.1)
  passed_by (Some r) p e = cc

  pub passed : (p : Plot) → (layout_of o N L W X).answer ≡ Ok p → Passed o N L W X p
  unfolding layout_of
  passed p e = let h = passed_by (early o N (room_of L W X)) p e in record { early = h.0; late = h.1; plot = h.2 }

  -- The lent piece lists hold its pieces.
  pub pieces_fit : (p : Plot) → (layout_of o N L W X).answer ≡ Ok p
      → (4 * p.pieces ≤ length L.pieces) × (p.pieces ≤ length L.branches)
  unfolding late
  pieces_fit p e =
      let P = passed p e in
      let q : p.pieces ≡ length (drawing o N).pieces = ap (λ (x : Plot). x.pieces) P.plot in
      let h = room_of_lem _ (length (drawing o N).pieces) (length L.pieces) (length L.branches) (sym P.late) in
      (omega (arith, q, h.0), omega (arith, q, h.1))
