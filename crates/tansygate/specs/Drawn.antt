-- A drawing on the heap. Definitions only.
use Rattle.std.specs.Prelude.{ℕ, ◌≡◌, ◌≢◌, min, length, Result, Ok, Err}
use Rattle.network.specs.declared.options.Options.{Options}
use Rattle.network.specs.Words.{station_count}
use Rattle.network.specs.declared.refusals.Refusal.{Refusal}
use Rattle.network.specs.declared.refusals.Refusal.TheVariants as Refusals
use Rattle.drawing.specs.Network.{Network}
use Rattle.drawing.specs.Drawing.{drawing}
use Rattle.drawing.specs.Answer.{Call, layout_of, lists_of, plot_of}
use Rattle.tansygate.specs.declared.drawings.AskedRoom.{AskedRoom}
use Rattle.tansygate.specs.declared.drawings.Drawing.{Drawing}
use Rattle.tansygate.specs.declared.errors.Error.{Error}
use Rattle.tansygate.specs.declared.errors.Error.TheVariants as Errors
use Rattle.tansygate.specs.Lists.{lent_lists, lists_in}
use Rattle.tansygate.specs.Work.{lent_work, lent_crossings, sorts}

-- the most pieces, and the most crossings, that there is room for
abbrev pub most : ℕ
most = 16777216

-- the call with lists of zeros, as long as the network asks and with room for so many pieces and crossings
abbrev pub called : Options → Network → AskedRoom → Call
called O N r =
    let n = min (length N.station) 4096 in
    let m = min (length N.from) 8192 in
    let k = min (station_count N.station) 4096 in
    let mesh = min (length N.corners) 24576 in
    let p = min r.pieces most in
    let c = min r.crossings most in
    layout_of O N (lent_lists n m k p) (lent_work n m mesh (sorts n m mesh c)) (lent_crossings c)

-- the drawing that the call gives, with no number more and none less
pub record IsDrawn (O : Options) (N : Network) (r : AskedRoom) (d : Drawing) : Type 0 where
  pub answer : (called O N r).answer ≡ Ok d.plot
  pub plot : d.plot ≡ plot_of (drawing O N)
  pub lists : lists_in d.lists ≡ lists_of (drawing O N)

-- the refusal that the call answers, which isn't that of lists too short
pub record IsRefused (O : Options) (N : Network) (r : AskedRoom) (e : Refusal) : Type 0 where
  pub answer : (called O N r).answer ≡ Err e
  pub long_enough : e ≢ Refusals.ListTooShort

-- What `draw` answers: the drawing, the call's refusal, or that memory ran out, of which nothing is said.
abbrev pub Drew : Options → Network → AskedRoom → Result Drawing Error → Type 0
Drew O N r (Ok d) = IsDrawn O N r d
Drew O N r (Err (Errors.Refused e)) = IsRefused O N r e
Drew O N r (Err Errors.OutOfMemory) = Unit {0}
