-- The whole call from its parts: the answer and every lent list.
-- Assumes nothing.
use mathlib.Core.Path.{◌≡◌, sym, ◌∙◌}
use lib.ListN.{length}
use Rattle.network.specs.declared.options.Options.{Options}
use Rattle.std.specs.Prelude.{Some, None, Result, Err}
use Rattle.network.specs.declared.refusals.Refusal.{Refusal}
use Rattle.drawing.specs.declared.answer.Plot.{Plot}
use Rattle.drawing.specs.Network.{Network, Lists, Work, Crossings}
use Rattle.drawing.specs.Drawing.{drawing}
use Rattle.drawing.specs.Answer.{room_of, early, late, zeroed_work, zeroed_crossings, call, call_late, call_early, layout_of}
use Rattle.finish.specs.Stages.Draft.{Drew}
use Rattle.drawing.specs.Number.{Answered}
use Rattle.drawing.proofs.Number.{answered}

pub call_early_lem : (o : Options) (N : Network) (L : Lists) (W : Work) (X : Crossings) (r : Refusal)
    → Some r ≡ early o N (room_of L W X) → Answered o N L W X (call (Err r) L W X)
unfolding layout_of call_early
call_early_lem o N L W X r e = answered o N L W X (call (Err r) L W X) (rw (sym e))

-- Lists of one length are cleared to the same lists.
pub record Alike (U W : Work) : Type 0 where
  pub stations : length U.stations ≡ length W.stations
  pub buses : length U.buses ≡ length W.buses
  pub ends : length U.ends ≡ length W.ends
  pub sorted : length U.sorted ≡ length W.sorted
  pub spare : length U.spare ≡ length W.spare
  pub keys : length U.keys ≡ length W.keys
  pub places : length U.places ≡ length W.places
  pub blocks : length U.blocks ≡ length W.blocks
  pub frames : length U.frames ≡ length W.frames
  pub path : length U.path ≡ length W.path

pub cleared_alike : (U W : Work) → Alike U W → zeroed_work U ≡ zeroed_work W
unfolding zeroed_work
cleared_alike U W A =
    rw (A.stations, A.buses, A.ends, A.sorted, A.spare, A.keys, A.places, A.blocks, A.frames, A.path)

-- The crossing lists likewise.
pub record Level (U X : Crossings) : Type 0 where
  pub numbers : length U.numbers ≡ length X.numbers
  pub places : length U.places ≡ length X.places
  pub ways : length U.ways ≡ length X.ways

pub cleared_level : (U X : Crossings) → Level U X → zeroed_crossings U ≡ zeroed_crossings X
unfolding zeroed_crossings
cleared_level U X A = rw (A.numbers, A.places, A.ways)

pub call_late_lem : (o : Options) (N : Network) (L L' : Lists) (W U W' : Work) (X Y X' : Crossings) (a : Result Plot Refusal)
    → None ≡ early o N (room_of L W X) → Drew o N (late (drawing o N) (room_of L W X)) L a L'
    → W' ≡ zeroed_work U → Alike U W → X' ≡ zeroed_crossings Y → Level Y X
    → Answered o N L W X (call a L' W' X')
unfolding layout_of call_early call_late
call_late_lem o N L L' W U W' X Y X' a e D w A x B =
    let v : W' ≡ zeroed_work W = w ∙ cleared_alike U W A in
    let y : X' ≡ zeroed_crossings X = x ∙ cleared_level Y X B in
    let h : call a L' W' X' ≡ layout_of o N L W X = rw (sym e, D.answer_is, D.lists_are, v, y) in
    answered o N L W X (call a L' W' X') h
